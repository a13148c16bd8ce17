-- What a connection collects, slice by slice.
use Rattle.std.proofs.Common.{◌≡◌, ◌∙◌, ℕ, ◌+◌, ◌<◌, ◌≤◌, Bool, true, false, List, [], ◌++◌, length, All, Result, Ok, Err, append-nil, refl, sym, ap, subst, arith, length-append}
use Rattle.fluid_types.specs.Forms.{largest}
use Rattle.std.proofs.lemmas.List.Elements.{All-nil, All-append}
use Rattle.fluid_types.specs.declared.messages.Message.{Message}
use Rattle.fluid_types.specs.Order.{AreNumberedFrom}
use Rattle.fluid_types.proofs.Numbers.{numbered_same, numbered_append}
use Rattle.fluid_deltas.specs.Pushed.{slice}
use Rattle.fluid_deltas.specs.declared.fault.DeltaFault.{DeltaFault}
use Rattle.fluid_deltas.specs.declared.fault.DeltaFault.TheVariants.{DeltaFailed, NoMemory, BadDelta, Worn}
use Rattle.fluid_lane.specs.declared.steps.Step.{Step}
use Rattle.fluid_lane.specs.Steps.{range_steps}
use Rattle.fluid_doors.specs.Terms.{Doorway}
use Rattle.fluid_doors.specs.Passing.{APass, Grows}
use Rattle.fluid_doors.specs.Collecting.{batch, Collects}
use Rattle.fluid_codec.specs.declared.replies.Reply.{Reply}
use Rattle.fluid_voice.specs.Feed.{fed, IsEventOf, most_in_event}
use Rattle.fluid_ends.specs.declared.fault.TalkFault.{TalkFault}
use Rattle.fluid_ends.specs.Faults.{of_delta}
use Rattle.fluid_talk.specs.Talking.{Knowing, order_of, number_behind_last}
use Rattle.fluid_service.specs.Visiting.{Visiting}
use Rattle.fluid_connection.specs.Knowing.{knowing}
use Rattle.fluid_connection.specs.Talked.{visited}
use Rattle.fluid_connection.specs.declared.collecting.Slice.{Slice}
use Rattle.fluid_connection.specs.declared.collecting.Collected.{Collected}
use Rattle.fluid_connection.specs.Slices.{event_of, PutsAnswer, TakesSlice, FailsToCollect, TakesNext, IsStretch, Brings, CollectsAll, ComesBack}
use Rattle.fluid_connection.proofs.Passes.{goes_with, long_seen}
use Rattle.fluid_connection.proofs.Passings.{goes_on, goes_nowhere}
use Rattle.fluid_connection.proofs.Stretches.{order-prefix, slice-none, slice-grows, slice-joins, IsBatch, batch-is, fed-append, fed-event, event-whole}

-- ---- one slice

-- where the keeper told its content, this couldn't be
not_told : (b : Bool) → (b ≡ true → ⊥) → b ≡ false
not_told true never = absurd (never refl)
not_told false never = refl

module _ {V : Type 0} (messages : V → List Message) (name : List ℕ) (p q : APass) (next : ℕ) where
  abbrev Given : Result V DeltaFault → Type 0
  Given answer = Grows p q (range_steps answer) (Collects messages p.turn.fixed next most_in_event answer)

  abbrev Says : Result V DeltaFault → List Step → Type 0
  Says answer = Collects messages p.turn.fixed next most_in_event answer

  fails : (fault : DeltaFault) → Given (Err fault) → FailsToCollect (knowing name p) (knowing name q) (of_delta fault)
  fails (DeltaFailed note) grows = record { goes = goes_with name p q _ (Says (Err (DeltaFailed note))) grows; cause = grows.says.faults }
  fails NoMemory grows = record { goes = goes_with name p q _ (Says (Err NoMemory)) grows; cause = tt }
  fails (BadDelta number) grows = record {
    goes = goes_with name p q _ (Says (Err (BadDelta number))) grows;
    cause = ap (λ t. t.fixed.told) grows.turn ∙ not_told p.turn.fixed.told (λ told. (grows.says.told told).faults);
  }
  fails Worn grows = record {
    goes = goes_with name p q _ (Says (Err Worn)) grows;
    cause = long_seen p q (Says (Err Worn)) grows (grows.says.worn tt);
  }

  pub takes : (old new : List Reply) (answer : Result V DeltaFault) (result : Result Slice TalkFault) → Given answer → PutsAnswer messages name next old new answer result
      → TakesNext name (knowing name p) (knowing name q) next old new result
  takes old new (Ok v) (Ok s) grows puts = record {
    goes = goes_with name p q [] (Says (Ok v)) grows;
    messages = messages v;
    puts = puts;
    numbered = grows.says.given.numbered;
    few = grows.says.given.few;
    told = λ told. (grows.says.told told).given ∙ ap (λ l. batch next most_in_event (order_of l)) (sym (grows.seen ∙ append-nil grows.before));
  }
  takes old new (Ok v) (Err fault) grows puts =
      subst (λ f. FailsToCollect (knowing name p) (knowing name q) f) (sym puts) (record { goes = goes_with name p q [] (Says (Ok v)) grows; cause = tt })
  takes old new (Err fault) (Ok s) grows puts = absurd puts
  takes old new (Err fault) (Err given) grows puts = subst (λ f. FailsToCollect (knowing name p) (knowing name q) f) (sym puts) (fails fault grows)

-- ---- one slice more

pub brings_none : (name : List ℕ) (p : Knowing) (next : ℕ) → (p.told ≡ true → next ≤ number_behind_last p.seen) → Brings name p p next next []
brings_none name p next within = record {
  goes = goes_nowhere p;
  events = All-nil (IsEventOf name);
  numbers = record { numbered = tt; count = omega arith };
  told = λ told. record { is = sym (slice-none (order_of p.seen) next); within = within told };
}

module _ (name : List ℕ) (p m q : Knowing) (from next : ℕ) (old new : List Reply) (s : Slice) (first : 0 < from)
    (brings : Brings name p m from next old) (takes : TakesSlice name m q next old new s) where
  fed_is : fed new ≡ fed old ++ takes.messages
  fed_is = ap fed takes.puts.put ∙ fed-append old (event_of name takes.messages) ∙ ap (λ ms. fed old ++ ms) (fed-event name takes.messages)

  ordered : from ≤ next
  ordered = let n = brings.numbers.count in omega arith

  batched : p.told ≡ true → IsBatch (order_of q.seen) takes.messages next
  batched told =
      let grown = order-prefix m.seen q.seen takes.goes.seen in
      let long : length (order_of q.seen) ≡ length (order_of m.seen) + length grown.0 = ap length grown.1 ∙ length-append (order_of m.seen) grown.0 in
      let was = (brings.told told).within in
      batch-is (order_of q.seen) takes.messages next (omega (arith, ordered, first)) (omega arith) (takes.told (brings.goes.same.told ∙ told))

  stretch : p.told ≡ true → IsStretch q from s.next (fed new)
  stretch told =
      let grown = order-prefix m.seen q.seen takes.goes.seen in
      let was = brings.told told in
      let now = batched told in
      let prefix : fed old ≡ slice (order_of q.seen) from next =
      was.is ∙ sym (slice-grows (order_of m.seen) grown.0 from next first ordered was.within) ∙ ap (λ o. slice o from next) (sym grown.1) in
      let to : s.next ≡ next + length takes.messages = takes.puts.next in
      record {
        is = fed_is ∙ ap (λ ms. ms ++ takes.messages) prefix ∙ ap (λ ms. slice (order_of q.seen) from next ++ ms) now.stretch
            ∙ slice-joins (order_of q.seen) from next (next + length takes.messages) first ordered (omega arith) ∙ ap (λ n. slice (order_of q.seen) from n) (sym to);
        within = subst (λ n. n ≤ number_behind_last q.seen) (sym to) now.within;
      }

  pub brings_more : Brings name p q from s.next new
  brings_more = record {
    goes = goes_on p m q [] [] brings.goes takes.goes;
    events = subst (λ rs. All (IsEventOf name) rs) (sym takes.puts.put) (All-append (IsEventOf name) old (event_of name takes.messages) brings.events (event-whole name takes.messages takes.few));
    numbers = record {
      numbered = subst (λ ms. AreNumberedFrom from ms) (sym fed_is)
          (numbered_append (fed old) takes.messages from brings.numbers.numbered (numbered_same takes.messages next (from + length (fed old)) (sym brings.numbers.count) takes.numbered));
      count = let to = takes.puts.next in let n = brings.numbers.count in let sum = ap length fed_is ∙ length-append (fed old) takes.messages in omega arith;
    };
    told = stretch;
  }

  pub last_number : s.is_last ≡ true → p.told ≡ true → s.next ≡ number_behind_last q.seen
  last_number last told = takes.puts.next ∙ (batched told).whole (takes.puts.last last)

  pub ahead : 0 < s.next
  ahead = let to = takes.puts.next in omega (arith, ordered, first)

pub fails_then : (name : List ℕ) (p m q : Knowing) (from next : ℕ) (old : List Reply) (fault : TalkFault) → Brings name p m from next old → FailsToCollect m q fault → FailsToCollect p q fault
fails_then name p m q from next old fault brings fails = record { goes = goes_on p m q [] _ brings.goes fails.goes; cause = fails.cause }

-- ---- a visit by its parts

pub collects_back : (visit back : Visiting) (lent door : Doorway) (pass behind : APass) (next : ℕ) (answer : Result Collected TalkFault) → lent ≡ door → door ≡ visit.door → pass ≡ visit.pass → back ≡ record { door = door; pass = behind }
    → CollectsAll lent.name (knowing lent.name pass) (knowing lent.name behind) next answer → CollectsAll visit.door.name (visited visit) (visited back) next answer
collects_back visit back lent door pass behind next answer same_lent same_door same_pass is does =
    subst (λ v. CollectsAll visit.door.name (visited visit) (visited v) next answer) (sym is)
    (subst (λ p. CollectsAll visit.door.name (knowing visit.door.name p) (knowing door.name behind) next answer) same_pass
    (subst (λ (d : Doorway). CollectsAll d.name (knowing d.name pass) (knowing door.name behind) next answer) same_door
    (subst (λ (d : Doorway). CollectsAll d.name (knowing d.name pass) (knowing d.name behind) next answer) same_lent does)))

pub comes_back : (visit back : Visiting) (door : Doorway) (behind : APass) → door ≡ visit.door → back ≡ record { door = door; pass = behind } → length behind.seen ≤ largest → ComesBack visit back
comes_back visit back door behind same_door is few = subst (λ v. ComesBack visit v) (sym is) (record { door = same_door; few = few })
