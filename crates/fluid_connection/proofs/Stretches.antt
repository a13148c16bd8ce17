-- Stretches of an order that goes on, and the messages of op events.
use Rattle.std.proofs.Common.{◌≡◌, ℕ, ◌+◌, ◌-◌, ◌<◌, ◌≤◌, min, List, [], ◌∷◌, ◌++◌, length, take, drop, All, refl, sym, ap, ◌∙◌, arith, append_assoc, append-nil}
use Rattle.std.proofs.lemmas.List.{drop-drop, take-append-le, drop-append-le, length-drop, length-take-le}
use Rattle.std.proofs.lemmas.List.Elements.{All-nil, All-cons}
use Rattle.std.proofs.Math.Seq.{take-add}
use Rattle.fluid_turn.specs.declared.view.Numbered.{Numbered}
use Rattle.fluid_turn.specs.Entries.{IsPrefix, entries}
use Rattle.fluid_turn.proofs.Lists.{entries-append}
use Rattle.fluid_types.specs.Ledger.{order}
use Rattle.fluid_types.specs.declared.messages.Message.{Message}
use Rattle.fluid_types.proofs.Ledgers.{order-append}
use Rattle.fluid_deltas.specs.Pushed.{slice}
use Rattle.fluid_lane.specs.declared.steps.Step.{Step}
use Rattle.fluid_lane.specs.declared.steps.Step.TheVariants.{Entered, Aside}
use Rattle.fluid_lane.specs.Steps.{ledger}
use Rattle.fluid_codec.specs.declared.replies.Reply.{Reply}
use Rattle.fluid_codec.specs.declared.replies.Reply.TheVariants.{Ops}
use Rattle.fluid_voice.specs.Feed.{brought, fed, IsEventOf, most_in_event}
use Rattle.fluid_doors.specs.Collecting.{batch}
use Rattle.fluid_talk.specs.Talking.{order_of}
use Rattle.fluid_connection.specs.Slices.{event_of}

-- ---- orders

ledger-more : (a b : List Step) → ledger (a ++ b) ≡ ledger a ++ ledger b
ledger-more [] b = refl
ledger-more (Entered raw verdict ∷ a) b = ap (λ l. (raw, verdict) ∷ l) (ledger-more a b)
ledger-more (Aside side ∷ a) b = ledger-more a b

-- the order of more steps begins with that of fewer
pub order-prefix : (a b : List (Numbered Step)) → IsPrefix a b → IsPrefix (order_of a) (order_of b)
order-prefix a b (rest, is) =
    (order_of rest, ap order_of is ∙ ap (λ l. order (ledger l)) (entries-append a rest) ∙ ap order (ledger-more (entries a) (entries rest)) ∙ order-append (ledger (entries a)) (ledger (entries rest)))

-- ---- stretches of an order

pub slice-none : (o : List Message) (n : ℕ) → slice o n n ≡ []
slice-none o n = let none : n - n ≡ 0 = omega arith in ap (λ k. take k (drop (n - 1) o)) none

pub slice-grows : (o more : List Message) (from to : ℕ) → 0 < from → from ≤ to → to ≤ length o + 1 → slice (o ++ more) from to ≡ slice o from to
slice-grows o more from to first ordered last =
    let reached : from - 1 ≤ length o = omega arith in
    let long : length (drop (from - 1) o) ≡ length o - (from - 1) = length-drop (from - 1) o in
    let short : to - from ≤ length (drop (from - 1) o) = omega arith in
    ap (λ l. take (to - from) l) (drop-append-le (from - 1) o more reached) ∙ take-append-le (to - from) (drop (from - 1) o) more short

pub slice-joins : (o : List Message) (a b c : ℕ) → 0 < a → a ≤ b → b ≤ c → slice o a b ++ slice o b c ≡ slice o a c
slice-joins o a b c first ab bc =
    let where_b : (a - 1) + (b - a) ≡ b - 1 = omega arith in
    let whole : (b - a) + (c - b) ≡ c - a = omega arith in
    ap (λ l. take (b - a) (drop (a - 1) o) ++ take (c - b) l) (ap (λ n. drop n o) (sym where_b) ∙ sym (drop-drop (b - a) (a - 1) o))
    ∙ sym (take-add (b - a) (c - b) (drop (a - 1) o)) ∙ ap (λ n. take n (drop (a - 1) o)) whole

-- as many messages as there are numbers, where the order has them
slice-length : (o : List Message) (from to : ℕ) → 0 < from → from ≤ to → to ≤ length o + 1 → length (slice o from to) ≡ to - from
slice-length o from to first ordered last =
    let long : length (drop (from - 1) o) ≡ length o - (from - 1) = length-drop (from - 1) o in
    let short : to - from ≤ length (drop (from - 1) o) = omega arith in
    length-take-le (to - from) (drop (from - 1) o) short

-- a batch is the stretch of as many messages as it has
pub record IsBatch (o ms : List Message) (next : ℕ) : Type 0 where
  pub stretch : ms ≡ slice o next (next + length ms)
  pub within : next + length ms ≤ length o + 1
  pub whole : length ms < most_in_event → next + length ms ≡ length o + 1

pub batch-is : (o ms : List Message) (next : ℕ) → 0 < next → next ≤ length o + 1 → ms ≡ batch next most_in_event o → IsBatch o ms next
batch-is o ms next first within is =
    let k = min 64 (length o + 1 - next) in
    let some : length (slice o next (next + k)) ≡ (next + k) - next = slice-length o next (next + k) first (omega arith) (omega arith) in
    let count : length ms ≡ k = ap length is ∙ some ∙ omega arith in
    record {
      stretch = is ∙ ap (λ n. slice o next (next + n)) (sym count);
      within = omega arith;
      whole = λ few. omega arith;
    }

-- ---- op events

pub fed-append : (a b : List Reply) → fed (a ++ b) ≡ fed a ++ fed b
fed-append [] b = refl
fed-append (reply ∷ a) b = ap (λ ms. brought reply ++ ms) (fed-append a b) ∙ sym (append_assoc (brought reply) (fed a) (fed b))

pub fed-event : (name : List ℕ) (ms : List Message) → fed (event_of name ms) ≡ ms
fed-event name [] = refl
fed-event name (m ∷ ms) = append-nil (m ∷ ms)

pub event-whole : (name : List ℕ) (ms : List Message) → length ms ≤ most_in_event → All (IsEventOf name) (event_of name ms)
event-whole name [] few = All-nil (IsEventOf name)
event-whole name (m ∷ ms) few = All-cons (IsEventOf name) (Ops name (m ∷ ms)) [] (refl, (omega arith, few)) (All-nil (IsEventOf name))
