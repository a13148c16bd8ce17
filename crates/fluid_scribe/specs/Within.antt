-- What of a scribe's parts lies within an order of so many messages. What doesn't counts for nothing.
use Rattle.std.specs.Prelude.{ℕ, nat_le, nat_lt, ◌&&◌, Bool, if◌then◌else◌, [], filter}
use Rattle.fluid_types.specs.declared.messages.Message.{Message}
use Rattle.fluid_types.specs.Quorum.{Quorum, quorum_of}
use Rattle.fluid_tree.specs.declared.id.SummaryRef.{SummaryRef}
use Rattle.fluid_quorum.specs.declared.state.ScribeState.{ScribeState}
use Rattle.fluid_rules.specs.Scribe.{reference_of}

-- the number of one of the messages
abbrev pub is_up_to : (last number : ℕ) → Bool
is_up_to last number = nat_le 1 number && nat_le number last

-- a message of the order, whose minimum isn't ahead of it
abbrev pub is_of_order : ℕ → Message → Bool
is_of_order last m = is_up_to last m.number && nat_le m.minimum m.number

-- one that waits: it doesn't refer ahead of itself either
abbrev pub is_waiting : ℕ → Message → Bool
is_waiting last m = is_of_order last m && nat_le (reference_of m) m.number

-- a change of the minimum by one of the messages behind the base, which isn't ahead of it
abbrev pub is_change : (base last : ℕ) → ℕ × ℕ → Bool
is_change base last change = nat_lt base change.0 && nat_le change.0 last && nat_le change.1 change.0

abbrev pub is_acknowledged : ℕ → SummaryRef → Bool
is_acknowledged last ack = nat_le ack.number last

-- the quorum of one of the messages, whose minimum isn't ahead of it; else that of none
abbrev pub base_within : ℕ → Quorum → Quorum
base_within last q = if nat_le q.number last && nat_le q.minimum q.number then q else quorum_of []

unfoldable pub within : ℕ → ScribeState → ScribeState
within last s = record {
  base = base_within last s.base;
  behind = filter (is_of_order last) s.behind;
  minima = filter (is_change (base_within last s.base).number last) s.minima;
  pending = filter (is_waiting last) s.pending;
  acks = filter (is_acknowledged last) s.acks;
}
