-- A document between two lines.
use Rattle.std.specs.Prelude.{◌≡◌, ℕ, ◌+◌, ◌≤◌, ◌&&◌, nat_le, if◌then◌else◌, List, [], ◌∷◌, ◌++◌, Bool, true, false, Option, Some, None, Result, Ok, Err, is_none}
use Rattle.std.specs.FinMap.{get}
use Rattle.fluid_types.specs.Ledger.{Ledger}
use Rattle.fluid_types.specs.declared.entries.Raw.{Raw}
use Rattle.fluid_types.specs.declared.entries.Raw.TheVariants.{Join, Leave, Submit, Report}
use Rattle.fluid_rules.specs.Rules.{verdict, ledger}
use Rattle.fluid_rules.specs.Counted.{counted}
use Rattle.fluid_clients.specs.Table.{Rows}
use Rattle.fluid_core.specs.Entering.{StandsFor}
use Rattle.fluid_json.specs.declared.memory.NoMemory.{NoMemory}
use Rattle.fluid_pipe.specs.Meaning.{Meaning}
use Rattle.fluid_pipe.specs.declared.taker.Untaken.{Untaken}
use Rattle.fluid_pipe.specs.declared.taker.Untaken.TheVariants.{Refused, Failed}
use Rattle.fluidd.specs.declared.document.Document.{Document}
use Rattle.fluid_rules.specs.declared.limits.Limits.{Limits}
use Rattle.fluidd.specs.declared.refusal.Why.{Why}
use Rattle.fluidd.specs.declared.refusal.Why.TheVariants.{DocumentFull, TooManyClients}
use Rattle.fluidd.specs.Input.{records, entry_of, limit_refusal, text_refusal}
use Rattle.fluidd.specs.Output.{entry_line, meaning}

-- the ledger followed by this raw entry under its verdict
abbrev pub with_entry : Ledger → Raw → Ledger
with_entry l raw = l ++ (raw, verdict l raw) ∷ []

-- the ledger followed by the entry of a line
abbrev pub with_entry_of : Ledger → Option Raw → Ledger
with_entry_of l None = l
with_entry_of l (Some raw) = with_entry l raw

-- what is written for the entry of a line
abbrev pub line_of : Ledger → Option Raw → List ℕ
line_of l None = []
line_of l (Some raw) = entry_line (raw, verdict l raw)

-- a document within these limits stands for a ledger
pub record Stands (limits : Limits) (l : Ledger) (d : Document) : Type 0 where
  pub limited : d.limits ≡ limits
  pub core : StandsFor d.core.state l
  pub counted : d.counted ≡ counted l

-- a document took these lines, which mean what they mean to a document within its limits
pub record StandsBehind (m : Meaning Why) (before : List (List ℕ)) (d : Document) : Type 0 where
  pub limits : Limits
  pub is : m ≡ meaning limits
  pub stands : Stands limits (ledger (records before)) d

-- a document has at most so many messages and counted entries
pub record IsWithin (most : ℕ) (d : Document) : Type 0 where
  pub sequence : d.core.state.sequencer.sequence ≤ most
  pub counted : d.counted ≤ most

-- a join of an id that has no row
abbrev pub is_new_in : Rows → Raw → Bool
is_new_in rows (Join id scopes detail moment) = is_none (get rows id)
is_new_in rows (Leave id moment) = false
is_new_in rows (Submit id submission moment) = false
is_new_in rows (Report summary found moment) = false

-- why the limits don't let an entry in, by what a document keeps
abbrev pub limit_refusal_by : (counts : Bool) (entries counted : ℕ) (new : Bool) (clients joined : ℕ) → Option Why
limit_refusal_by counts entries counted new clients joined =
    if counts && nat_le entries counted then Some DocumentFull
    else (if new && nat_le clients joined then Some TooManyClients else None)

-- an entry was taken in, and its line waits
pub record AddsEntry (limits : Limits) (l : Ledger) (entry : Option Raw) (new : Document) (old-waiting new-waiting : List ℕ) : Type 0 where
  pub stands : Stands limits (with_entry_of l entry) new
  pub waits : new-waiting ≡ old-waiting ++ line_of l entry

-- what a document makes of a raw entry
abbrev pub Admits : Limits → Ledger → Raw → Document → (old-waiting new-waiting : List ℕ) → Result (Unit {0}) (Untaken Why NoMemory) → Type 0
Admits limits l raw new old-waiting new-waiting (Ok done) =
    (limit_refusal limits l raw ≡ None) × AddsEntry limits l (Some raw) new old-waiting new-waiting
Admits limits l raw new old-waiting new-waiting (Err (Refused why)) = (limit_refusal limits l raw ≡ Some why) × Stands limits l new
Admits limits l raw new old-waiting new-waiting (Err (Failed fault)) = Unit {0}

-- what a document makes of a text
abbrev pub Enters : Limits → Ledger → List ℕ → Document → (old-waiting new-waiting : List ℕ) → Result (Unit {0}) (Untaken Why NoMemory) → Type 0
Enters limits l text new old-waiting new-waiting (Ok done) =
    (text_refusal limits l text ≡ None) × AddsEntry limits l (entry_of text) new old-waiting new-waiting
Enters limits l text new old-waiting new-waiting (Err (Refused why)) = (text_refusal limits l text ≡ Some why) × Stands limits l new
Enters limits l text new old-waiting new-waiting (Err (Failed fault)) = Unit {0}
