-- The state of a ledger.
use Rattle.std.specs.Prelude.{◌≡◌, ℕ, List, map, length}
use Rattle.std.specs.FinMap.{from_entries, keys, len}
use Rattle.fluid_types.specs.declared.entries.Raw.{Raw}
use Rattle.fluid_types.specs.declared.entries.Raw.TheVariants.{Join, Leave, Submit, Report}
use Rattle.fluid_types.specs.Ledger.{Ledger, order, seq}
use Rattle.fluid_rules.specs.Scribe as scribe
use Rattle.fluid_rules.specs.declared.answers.Answer.{Answer}
use Rattle.fluid_rules.specs.Rules.{last_number, reference, is_nacked, scopes, heard, joined, last_minimum}
use Rattle.fluid_clients.specs.declared.table.Row.{Row}
use Rattle.fluid_ticket.specs.State.{State}

-- what a ledger says of a joined client
abbrev pub row_of : Ledger → List ℕ → Row
row_of ledger id = record {
  last = last_number ledger id;
  reference = reference ledger id;
  nacked = is_nacked ledger id;
  scopes = scopes ledger id;
  heard = heard ledger id;
}

-- the last sequence number, the minimum of the last message, and one row for each joined client
unfoldable pub state_of : Ledger → State
state_of ledger = record {
  sequence = seq ledger;
  last_minimum = last_minimum ledger;
  rows = from_entries (map (λ id. (id, row_of ledger id)) (joined ledger));
}

-- a state stands for a ledger where it is what the ledger says
pub record StandsFor (s : State) (ledger : Ledger) : Type 0 where
  pub is : s ≡ state_of ledger

-- the rows of a state that stands for a ledger are those of the joined clients, in byte order of their ids, and as many
pub record HasJoinedRows (s : State) (ledger : Ledger) : Type 0 where
  pub ids : keys s.rows ≡ joined ledger
  pub as_many : len s.rows ≡ length (joined ledger)

abbrev pub RowsAreJoined : Type 0
RowsAreJoined = (s : State) (ledger : Ledger) → StandsFor s ledger → HasJoinedRows s ledger

-- the answer to an entry is the scribe's over the order of a ledger; only a report asks for one
abbrev pub IsAnswered : Ledger → Raw → Answer → Type 0
IsAnswered ledger (Join id scopes detail moment) answer = Unit {0}
IsAnswered ledger (Leave id moment) answer = Unit {0}
IsAnswered ledger (Submit id submission moment) answer = Unit {0}
IsAnswered ledger (Report summary found moment) answer = answer ≡ scribe.answer (order ledger) summary found
