-- How the messages of a slice become an event.
use Rattle.std.proofs.Common.{◌≡◌, ◌∙◌, ℕ, zero, suc, ◌+◌, ◌^◌, ◌<◌, ◌≤◌, nat_lt, true, List, [], ◌∷◌, ◌++◌, length, Option, Some, Result, Ok, Err, IfOk, append-nil, refl, sym, ap, subst, arith}
use Rattle.std.proofs.lemmas.Bool.Decides.{nat_tests}
use Rattle.fluid_types.specs.declared.messages.Message.{Message}
use Rattle.fluid_types.specs.Forms.{largest}
use Rattle.fluid_deltas.specs.declared.fault.DeltaFault.{DeltaFault}
use Rattle.fluid_doors.specs.Collecting.{AreNext, IsEventUnder, gathered}
use Rattle.fluid_codec.specs.declared.replies.Reply.{Reply}
use Rattle.fluid_codec.specs.declared.replies.Reply.TheVariants.{Connected, ConnectError, Ops, Nacked, Deltas, Summary, Object, Stored}
use Rattle.fluid_voice.specs.Feed.{brought}
use Rattle.fluid_ends.specs.declared.fault.TalkFault.{TalkFault}
use Rattle.fluid_ends.specs.declared.fault.TalkFault.TheVariants as talk
use Rattle.fluid_ends.specs.Faults.{of_delta}
use Rattle.fluid_connection.specs.declared.collecting.Slice.{Slice}
use Rattle.fluid_connection.specs.Slices.{event_of, PutsEvent, PutsAnswer}

nil_of : (ms : List Message) → length ms ≡ 0 → ms ≡ []
nil_of [] none = refl
nil_of (m ∷ ms) none = absurd (omega arith)

pub put_none : (name : List ℕ) (next : ℕ) (ms : List Message) (old : List Reply) → length ms ≡ 0 → PutsEvent name next ms old old (record { next = next; is_last = true })
put_none name next ms old none = record {
  put = sym (ap (λ l. old ++ event_of name l) (nil_of ms none) ∙ append-nil old);
  next = omega arith;
  last = λ _. omega arith;
}

-- what an event of the document is
event_is : (name : List ℕ) (event : Reply) → IsEventUnder name (Some event) → (event ≡ Ops name (brought event)) × (0 < length (brought event))
event_is name (Ops of_name ms) is = (ap (λ (n : List ℕ). Ops n ms) is.0, is.1)
event_is name (Connected checkpoint id write) is = absurd is
event_is name (ConnectError code reason) is = absurd is
event_is name (Nacked of_name nack) is = absurd is
event_is name (Deltas from ms) is = absurd is
event_is name (Summary found) is = absurd is
event_is name (Object id bytes) is = absurd is
event_is name (Stored id) is = absurd is

-- ---- what is given fits

fits_by : (next count : ℕ) → next < 2 ^ 64 → (0 < count → next + count ≤ largest + 1) → next + count < 2 ^ 64
fits_by next zero fits last = omega arith
fits_by next (suc n) fits last = let h = last (omega arith) in omega arith

pub fits_given : {V : Type 0} (messages : V → List Message) (next atmost : ℕ) (answer : Result V DeltaFault) → next < 2 ^ 64 → IfOk answer (λ v. AreNext next atmost (messages v)) → IfOk answer (λ v. next + length (messages v) < 2 ^ 64)
fits_given messages next atmost (Ok v) fits given = fits_by next (length (messages v)) fits given.last
fits_given messages next atmost (Err fault) fits given = tt
