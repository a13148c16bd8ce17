-- A scribe as contracts see it: what it keeps of the messages that it took, and for how many more there is room already. There is
-- none while what is in memory lags behind.
use Rattle.std.specs.Prelude.{◌≡◌, ℕ, ◌<◌, ◌==◌, min, Bool, not, ◌||◌, List, filter, Option, Some, None, if◌then◌else◌}
use Rattle.fluid_types.specs.declared.messages.Kind.{Kind}
use Rattle.fluid_types.specs.declared.messages.Message.{Message}
use Rattle.fluid_quorum.specs.declared.state.ScribeState.{ScribeState}
use Rattle.fluid_rules.specs.Scribe.{is_summarize, answered_by}
use Rattle.fluid_scribe.specs.State.{is_heard, ack_in}
use Rattle.fluid_scribe.specs.declared.ready.ScribeReady.{ScribeReady}

pub record Scribing : Type 0 where
  pub state : ScribeState
  pub spare : ℕ

-- ---- a message that is prepared

-- all of a message is kept where it is a summarize or a quorum hears it
abbrev pub is_kept : Kind → Bool
is_kept kind = is_heard kind || is_summarize kind

abbrev pub kept_of : Message → Option Message
kept_of m = if is_kept m.kind then Some m else None

-- what a scribe takes of a message
unfoldable pub prepared : ScribeState → Message → ScribeReady
prepared s m = record {
  number = m.number;
  minimum = m.minimum;
  answered = answered_by m;
  kept = kept_of m;
  ack = ack_in s.pending m;
}

-- the ready is that of a message behind those that were taken, and there is room for it
pub record IsPreparedIn (s : Scribing) (ready : ScribeReady) : Type 0 where
  pub message : Message
  pub is : ready ≡ prepared s.state message
  pub room : 0 < s.spare

-- ---- for private clauses

-- the least of the rooms that a message may need
abbrev pub least_room : ℕ → ℕ → ℕ → ℕ → ℕ
least_room behind minima pending acks = min behind (min minima (min pending acks))

-- there is none while the base is still to be brought to a number
abbrev pub spare_at : Option ℕ → ℕ → ℕ
spare_at None room = room
spare_at (Some number) room = 0

-- the summarize messages that are left behind an answer
abbrev pub unanswered_at : Option ℕ → List Message → List Message
unanswered_at None waiting = waiting
unanswered_at (Some number) waiting = filter (λ s. not (number == s.number)) waiting

-- of what was kept of a message, what a quorum hears, and the summarize
abbrev pub heard_in : Option Message → Option Message
heard_in None = None
heard_in (Some m) = if is_summarize m.kind then None else Some m

abbrev pub summarize_in : Option Message → Option Message
summarize_in None = None
summarize_in (Some m) = if is_summarize m.kind then Some m else None
