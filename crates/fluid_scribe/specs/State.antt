-- What a scribe keeps of the messages of an order. The base is the last of them to which no summarize can refer any more: the
-- least of the minimum and of the references of those that wait. Of the messages up to it the quorum is kept, and of those
-- behind it what a quorum can still need.
use Rattle.std.specs.Prelude.{ℕ, ◌+◌, ◌-◌, ◌==◌, nat_le, min, Bool, true, false, if◌then◌else◌, List, [], ◌∷◌, ◌++◌, drop, find, filter, fold, Option, Some, None, option_to_list, option_map, unwrap_or}
use Rattle.std.specs.List.{last_or}
use Rattle.fluid_tree.specs.declared.id.SummaryRef.{SummaryRef}
use Rattle.fluid_types.specs.declared.messages.Kind.{Kind}
use Rattle.fluid_types.specs.declared.messages.Kind.TheVariants.{Op, Noop, Propose, Reject, Summarize, Join, Leave, SummaryAck, SummaryNack}
use Rattle.fluid_types.specs.declared.messages.Message.{Message}
use Rattle.fluid_types.specs.Quorum.{Quorum, quorum, quorum_of, at_last}
use Rattle.fluid_quorum.specs.After as quorums
use Rattle.fluid_quorum.specs.Noops.{advanced}
use Rattle.fluid_quorum.specs.declared.state.ScribeState.{ScribeState}
use Rattle.fluid_rules.specs.Scribe.{is_ack, handling, answered_by, reference_of, unanswered, acks}
use Rattle.fluid_rules.specs.ScribeLaws.{waiting_behind}

-- ---- of the messages of an order

-- a quorum hears joins, leaves and proposes
abbrev pub is_heard : Kind → Bool
is_heard Op = false
is_heard Noop = false
is_heard Propose = true
is_heard Reject = false
is_heard Summarize = false
is_heard Join = true
is_heard Leave = true
is_heard SummaryAck = false
is_heard SummaryNack = false

abbrev pub heard : List Message → List Message
heard ms = filter (λ m. is_heard m.kind) ms

-- messages with another minimum than the one before, which at the first is this one: of each its number and its minimum
abbrev pub Minima : Type 0
Minima = List (ℕ × ℕ)

abbrev pub changes : ℕ → List Message → Minima
changes minimum [] = []
changes minimum (m ∷ ms) = (if m.minimum == minimum then [] else (m.number, m.minimum) ∷ []) ++ changes m.minimum ms

-- the least of a minimum and of the references of some messages
abbrev pub least_with : ℕ → List Message → ℕ
least_with minimum waiting = fold (λ least m. min least (reference_of m)) minimum waiting

-- the number of the base
abbrev pub base_of : List Message → ℕ
base_of ms = least_with (at_last (λ m. m.minimum) ms) (unanswered ms)

-- what is kept with this base
unfoldable pub state_at : ℕ → List Message → ScribeState
state_at base ms = record {
  base = quorum ms base;
  behind = heard (drop base ms);
  minima = changes (quorum ms base).minimum (drop base ms);
  pending = unanswered ms;
  acks = acks ms;
}

unfoldable pub state_of : List Message → ScribeState
state_of ms = state_at (base_of ms) ms

-- ---- the quorum behind the base

-- a quorum, and the changes of the minimum behind it
pub record Reached : Type 0 where
  pub quorum : Quorum
  pub minima : Minima

-- with the changes of the minimum up to a number
abbrev pub risen : ℕ → Quorum → Minima → Reached
risen number q [] = record { quorum = q; minima = [] }
risen number q (change ∷ changes) =
    if nat_le change.0 number then risen number (advanced q change.0 change.1) changes else record { quorum = q; minima = change ∷ changes }

-- and with the messages up to this number that changed nothing
abbrev pub reached : ℕ → Quorum → Minima → Reached
reached number q changes =
    let r = risen number q changes in
    record { quorum = advanced r.quorum number r.quorum.minimum; minima = r.minima }

-- the next message; one with another number is outside the order, and counts for nothing
unfoldable pub with_next : Quorum → Message → Quorum
with_next q m = if m.number == q.number + 1 then quorums.after q m else q

-- a quorum, and what is kept behind it
pub record Brought : Type 0 where
  pub quorum : Quorum
  pub behind : List Message
  pub minima : Minima

-- with what is kept up to a number: before each message the changes of the minimum before it
abbrev pub brought : ℕ → Quorum → List Message → Minima → Brought
brought number q [] changes = let r = reached number q changes in record { quorum = r.quorum; behind = []; minima = r.minima }
brought number q (m ∷ ms) changes =
    if nat_le m.number number
    then (let r = reached (m.number - 1) q changes in brought number (with_next r.quorum m) ms r.minima)
    else (let r = reached number q changes in record { quorum = r.quorum; behind = m ∷ ms; minima = r.minima })

-- the quorum of the first messages, so many of them, which are no fewer than those up to the base
unfoldable pub quorum_in : ScribeState → ℕ → Quorum
quorum_in s number = (brought number s.base s.behind s.minima).quorum

-- with the base at this number
unfoldable pub with_base : ℕ → ScribeState → ScribeState
with_base number s =
    let b = brought number s.base s.behind s.minima in
    record s { base = b.quorum; behind = b.behind; minima = b.minima }

-- ---- behind one more message

-- the minimum of the last message
abbrev pub minimum_in : ScribeState → ℕ
minimum_in s = unwrap_or (option_map (λ change. change.1) (last_or None s.minima)) s.base.minimum

-- the number at which the base is to be
abbrev pub base_in : ScribeState → ℕ
base_in s = least_with (minimum_in s) s.pending

-- the acknowledgement that a message makes, where these wait
abbrev pub acknowledged_in : List Message → Message → Option SummaryRef
acknowledged_in waiting m =
    option_and (handling m.contents) (λ handle.
    option_and (answered_by m) (λ number.
    option_and (find (λ s. s.number == number) waiting) (λ summarize.
    Some (record { handle = handle; number = reference_of summarize }))))
  where
    option_and : {A B : Type 0} → Option A → (A → Option B) → Option B
    option_and None f = None
    option_and (Some a) f = f a

abbrev pub ack_in : List Message → Message → Option SummaryRef
ack_in waiting m = if is_ack m.kind then acknowledged_in waiting m else None

-- with the base where it was
unfoldable pub with_message : ScribeState → Message → ScribeState
with_message s m = record {
  base = s.base;
  behind = s.behind ++ heard (m ∷ []);
  minima = s.minima ++ changes (minimum_in s) (m ∷ []);
  pending = waiting_behind s.pending m;
  acks = s.acks ++ option_to_list (ack_in s.pending m);
}

-- the state behind a message
unfoldable pub after : ScribeState → Message → ScribeState
after s m = let t = with_message s m in with_base (base_in t) t

-- no messages
abbrev pub start : ScribeState
start = record { base = quorum_of []; behind = []; minima = []; pending = []; acks = [] }
