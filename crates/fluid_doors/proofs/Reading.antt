-- Messages that a cursor gets.
use Rattle.std.proofs.Common.{◌≡◌, ℕ, ◌+◌, ◌-◌, ◌≤◌, true, false, Bool, List, [], length, take, drop, min, Result, Ok, Err, refl, sym, ap, subst, ◌∙◌, arith}
use Rattle.std.specs.Prelude.{IfOk, IfErr}
use Rattle.fluid_types.specs.Ledger.{Ledger, order, seq}
use Rattle.fluid_types.specs.declared.messages.Message.{Message}
use Rattle.fluid_deltas.specs.Pushed.{slice}
use Rattle.fluid_deltas.specs.Ranges.{IsSlice, IsBadIn, IsFaultOf}
use Rattle.fluid_deltas.specs.declared.fault.DeltaFault.{DeltaFault}
use Rattle.fluid_deltas.specs.declared.fault.DeltaFault.TheVariants.{DeltaFailed, NoMemory, BadDelta, Worn}
use Rattle.fluid_lane.specs.declared.steps.Step.{Step}
use Rattle.fluid_lane.specs.Steps.{ledger}
use Rattle.fluid_lane.specs.Standing.{Standing, LaneStands, is_worn}
use Rattle.fluid_lane.specs.Ranges.{Ranges}
use Rattle.fluid_lane.specs.Laws.{LaneSays, SaysOf}
use Rattle.fluid_doors.specs.Terms.{terms_of}
use Rattle.fluid_doors.specs.Answers.{is_worn_behind}
use Rattle.fluid_doors.specs.Collecting.{IsReadFault, IsWornDelta, AreNext, IsFaultIn, Collects}
use Rattle.fluid_doors.proofs.Answering.{worn_same, told_is}

pub seq_is : (l : Ledger) → seq l ≡ length (order l)
unfolding seq order
seq_is l = refl

-- the range is empty
pub range_end : (next atmost sequence len start end : ℕ) → len ≡ sequence → start ≡ next → end ≡ next + min atmost (len + 1 - next) → end ≤ start → next + min atmost (sequence + 1 - next) ≤ next
range_end next atmost sequence len start end is at ends low = subst (λ n. next + min atmost (n + 1 - next) ≤ next) is (subst (λ n. n ≤ next) ends (subst (λ n. end ≤ n) at low))

pub fault_in : (first end before a b : ℕ) (f : DeltaFault) → IsBadIn first end before f → IsFaultOf a b f → IsFaultIn first end f
fault_in first end before a b (DeltaFailed note) bad cause = cause.rose
fault_in first end before a b NoMemory bad cause = tt
fault_in first end before a b (BadDelta number) bad cause = (bad.0, bad.1.0)
fault_in first end before a b Worn bad cause = absurd bad

module _ {V : Type 0} (messages : V → List Message) where
  -- nothing is left for the cursor
  pub collects_none : (s : Standing) (l : List Step) (next atmost : ℕ) (v : V) → LaneSays → LaneStands s l → messages v ≡ [] → next + min atmost (s.entries.state.sequencer.sequence + 1 - next) ≤ next → Collects messages (terms_of s) next atmost (Ok v) l
  collects_none s l next atmost v law stands empty none = record {
    worn = tt;
    given = subst (AreNext next atmost) (sym empty) (record { numbered = tt; few = omega arith; last = λ some. absurd (omega (arith, some)) });
    faults = tt;
    told = λ is.
        let says = told_is s.keeping.content (SaysOf s (ledger l)) is (law s l stands) in
        let few : next + min atmost (length (order (ledger l)) + 1 - next) ≤ next = subst (λ n. next + min atmost (n + 1 - next) ≤ next) (says.seq ∙ seq_is (ledger l)) none in
        let zero : next + min atmost (length (order (ledger l)) + 1 - next) - next ≡ 0 = omega (arith, few) in record {
          legal = says.legal;
          given = empty ∙ sym (ap (λ n. take n (drop (next - 1) (order (ledger l)))) zero);
          faults = tt;
        };
  }

  -- a range of the lane
  pub fault_worn : (s t : Standing) (from to : ℕ) (l : List Step) (result : Result V DeltaFault) → LaneStands s l → (is_worn s ≡ false → Ranges messages from to s t result) → IfErr result (λ fault. IsWornDelta fault → is_worn_behind l ≡ true)
  fault_worn s t from to l (Ok v) stands ranges = tt
  fault_worn s t from to l (Err (DeltaFailed note)) stands ranges = λ w. absurd w
  fault_worn s t from to l (Err NoMemory) stands ranges = λ w. absurd w
  fault_worn s t from to l (Err (BadDelta n)) stands ranges = λ w. absurd w
  fault_worn s t from to l (Err Worn) stands ranges = λ w. by (is_worn_behind l) refl
    where
      by : (b : Bool) → is_worn_behind l ≡ b → is_worn_behind l ≡ true
      by true is = is
      by false is = absurd ((ranges (worn_same s l stands ∙ is)).reads.cause)

  pub sliced_right : (slice : List Message) (result : Result V DeltaFault) → IsSlice messages slice result → IfOk result (λ v. messages v ≡ slice)
  sliced_right slice (Ok v) is = is
  sliced_right slice (Err fault) is = tt

  pub sliced_faults : (slice : List Message) (result : Result V DeltaFault) → IsSlice messages slice result → IfErr result IsReadFault
  sliced_faults slice (Ok v) is = tt
  sliced_faults slice (Err (DeltaFailed note)) is = tt
  sliced_faults slice (Err NoMemory) is = tt
  sliced_faults slice (Err (BadDelta n)) is = is
  sliced_faults slice (Err Worn) is = tt
