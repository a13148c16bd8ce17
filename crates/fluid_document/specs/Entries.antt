-- What the raw entries of a document made of it, one by one and of a whole ledger, and what is kept in memory of it.
use Rattle.std.specs.Prelude.{◌≡◌, ℕ, ◌+◌, ◌-◌, ◌^◌, ◌<◌, ◌≤◌, List, ◌++◌, length, drop, Option, Some, None, All, cond, refl}
use Rattle.std.specs.Coded.{Coded, code_by, coded×, coded_ℕ}
use Rattle.fluid_types.specs.declared.entries.Raw.{Raw}
use Rattle.fluid_types.specs.declared.messages.Message.{Message}
use Rattle.fluid_types.specs.declared.verdicts.Verdict.{Verdict}
use Rattle.fluid_types.specs.declared.verdicts.Verdict.TheVariants.{Sequenced}
use Rattle.fluid_types.specs.Forms.{largest}
use Rattle.fluid_types.specs.Ledger.{Ledger, messages_of}
use Rattle.fluid_types.specs.Order.{AreNumberedFrom}
use Rattle.fluid_rules.specs.Counted.{is_counted, counted}
use Rattle.fluid_log.specs.Keeping.{Content}
use Rattle.fluid_deltas.specs.Pushed.{Pushed, pushed, pushed_code, IsKeepable, ArePartOf, StandFor}
use Rattle.fluid_quorum.specs.declared.state.ScribeState.{ScribeState}
use Rattle.fluid_quorum.specs.contracts.state.ScribeState as scribes
use Rattle.fluid_ticket.specs.State as ticket
use Rattle.fluid_ticket.specs.State.{IsSound}
use Rattle.fluid_core.specs.Entering.{State, start, verdict_in, after, state_of}
use Rattle.fluid_core.specs.Entering as entering
use Rattle.fluid_document.specs.declared.document.Prepared.{Prepared}

-- how much an entry adds to the count of joins and submissions
abbrev pub counts : Raw → ℕ
counts raw = cond (is_counted raw) 1 0

-- ---- what the entries made

pub record Entries : Type 0 where
  -- what sequencer and scribe keep
  pub state : State
  -- how many raw entries there are, and how many joins and submissions among them
  pub entered : ℕ
  pub counted : ℕ

-- no entries yet
abbrev pub nothing_entered : Entries
nothing_entered = record { state = start; entered = 0; counted = 0 }

-- one entry more, with the verdict that it gets
unfoldable pub taken_up : Entries → Raw → Entries
taken_up e raw = record { state = after e.state raw (verdict_in e.state raw); entered = e.entered + 1; counted = e.counted + counts raw }

-- what the entries of a ledger made
unfoldable pub entries_of : Ledger → Entries
entries_of l = record { state = state_of l; entered = length l; counted = counted l }

-- ---- what is in memory

-- what the entries made, and the messages of the order as far as they are in memory. The first is said by equations, the
-- second by the order for which it stands
pub record InMemory : Type 0 where
  pub entries : Entries
  pub messages : Pushed
  -- for how many more clients and messages the core has room already
  pub clients : ℕ
  pub notes : ℕ

abbrev pub core_of : InMemory → entering.Entering
core_of m = record { state = m.entries.state; clients = m.clients; notes = m.notes }

-- what holds of every document: as many messages were pushed as the sequencer has numbered, and the numbers are small
pub record IsLevelled (e : Entries) (d : Pushed) : Type 0 where
  pub level : e.state.sequencer.sequence ≡ pushed d
  pub sequenced : e.state.sequencer.sequence ≤ e.entered
  pub counts : e.counted ≤ e.entered + largest
  pub few : e.entered ≤ largest
  -- no reference is ahead of the order
  pub sound : IsSound e.state.sequencer

-- ---- an entry that is prepared

-- prepared as this raw entry, with the room that it may need
pub record IsReadyIn (m : InMemory) (raw : Raw) (p : Prepared) : Type 0 where
  pub committable : entering.IsPreparedIn (core_of m) p.ready
  pub ready : p.ready ≡ entering.prepared m.entries.state raw
  pub keepable : All IsKeepable (messages_of (verdict_in m.entries.state raw))
  pub next : AreNumberedFrom (pushed m.messages + 1) (messages_of (verdict_in m.entries.state raw))
  pub counts : p.counts ≡ counts raw
  pub few : m.entries.entered < largest
  pub room : 0 < m.messages.spare

pub record IsReady (m : InMemory) (p : Prepared) : Type 0 where
  pub raw : Raw
  pub is : IsReadyIn m raw p

-- the messages in memory go on with the message of a verdict: with it they stand for the order that ends with it, and they
-- are a part of any order that has it in its place
pub record GoOn (old new : Pushed) (verdict : Verdict) : Type 0 where
  pub before : new.before ≡ old.before
  pub count : pushed new ≡ pushed old + length (messages_of verdict)
  pub stands : (order : List Message) (content : Content) → StandFor old order content → StandFor new (order ++ messages_of verdict) content
  pub part : (order rest : List Message) → drop (pushed old) order ≡ messages_of verdict ++ rest → ArePartOf old order → ArePartOf new order

-- what is kept of a verdict: its message, of which a copy is made for who wants it back
abbrev pub copied : Verdict → Option Verdict
copied (Sequenced message) = Some (Sequenced message)
copied verdict = None

-- and what isn't
abbrev pub left_over : Verdict → Option Verdict
left_over (Sequenced message) = None
left_over verdict = Some verdict

-- the entry was entered, with the verdict that it gets
pub record Commits (old new : InMemory) (raw : Raw) (verdict : Verdict) : Type 0 where
  pub said : verdict ≡ verdict_in old.entries.state raw
  pub entries : new.entries ≡ taken_up old.entries raw
  pub messages : GoOn old.messages new.messages verdict

-- as tuples of their parts
abbrev pub entries_code : Coded Entries
entries_code =
    code_by (ticket.State × (ScribeState × (ℕ × ℕ))) (coded× ticket.state_code (coded× scribes.the_row.coded (coded× coded_ℕ coded_ℕ)))
    (λ e. (e.state.sequencer, (e.state.scribe, (e.entered, e.counted))))
    (λ p. record { state = record { sequencer = p.0; scribe = p.1.0 }; entered = p.1.1.0; counted = p.1.1.1 })
    (λ _. refl)

abbrev pub memory_code : Coded InMemory
memory_code =
    code_by (Entries × (Pushed × (ℕ × ℕ))) (coded× entries_code (coded× pushed_code (coded× coded_ℕ coded_ℕ))) (λ m. (m.entries, (m.messages, (m.clients, m.notes))))
    (λ p. record { entries = p.0; messages = p.1.0; clients = p.1.1.0; notes = p.1.1.1 }) (λ _. refl)
