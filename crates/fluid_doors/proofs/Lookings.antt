-- Acts that enter nothing.
use Rattle.std.proofs.Common.{◌≡◌, ℕ, ℤ, pos, negsuc, ◌+◌, ◌<◌, ◌≤◌, Bool, true, false, ◌&&◌, List, Result, Ok, Err, refl, sym, ap, subst, ◌∙◌, arith}
use Rattle.std.specs.Prelude.{if◌then◌else◌, nat_le}
use Rattle.std.proofs.lemmas.Bool.{false≢true, leb-true}
use Rattle.fluid_types.specs.Ledger.{order}
use Rattle.fluid_types.specs.declared.fault.Field.{Field}
use Rattle.fluid_types.specs.declared.fault.Field.TheVariants as field
use Rattle.fluid_deltas.specs.declared.fault.DeltaFault.{DeltaFault}
use Rattle.fluid_lane.specs.declared.steps.Step.{Step}
use Rattle.fluid_lane.specs.Steps.{ledger}
use Rattle.fluid_lane.specs.Standing.{Standing, LaneStands}
use Rattle.fluid_lane.specs.Laws.{LaneSays, SaysOf}
use Rattle.fluid_voice.specs.declared.actions.Act.{Act}
use Rattle.fluid_voice.specs.declared.actions.Act.TheVariants as act
use Rattle.fluid_voice.specs.declared.ends.ActEnd.{ActEnd}
use Rattle.fluid_voice.specs.declared.ends.ActEnd.TheVariants.{Given}
use Rattle.fluid_voice.specs.Ends.{range_asked, range_from, bounded, placed, most_deltas, deltas_in, out_of_range}
use Rattle.fluid_voice.specs.Ends.Outcome.{ends}
use Rattle.fluid_doors.specs.declared.bench.Terms.{Terms}
use Rattle.fluid_doors.specs.Terms.{terms_of}
use Rattle.fluid_doors.specs.Looking.{Looks}
use Rattle.fluid_doors.proofs.Answering.{told_is}

-- ---- the range that is asked for

pub record IsRange (last first end : ℕ) : Type 0 where
  pub above : 0 < first
  pub ordered : first ≤ end
  pub within : end ≤ last + 1

both_of : (a b : Bool) → (a && b) ≡ true → (a ≡ true) × (b ≡ true)
both_of true b is = (refl, is)
both_of false b is = absurd (false≢true is)

err_ok : {A E : Type 0} (e : E) (a : A) → ◌≡◌ {A = Result A E} (Err e) (Ok a) → ⊥
err_ok e a same = cc

ok_same : {A E : Type 0} (a b : A) → ◌≡◌ {A = Result A E} (Ok a) (Ok b) → a ≡ b
ok_same a b same = cc

placed_at : (f : Field) (last : ℕ) (n : ℤ) (number : ℕ) → placed f last n ≡ Ok number → (1 ≤ number) × (number ≤ last + 1)
placed_at f last (pos n) number is = by (nat_le 1 n && nat_le n (last + 1)) refl is
  where
    by : (b : Bool) → (nat_le 1 n && nat_le n (last + 1)) ≡ b → (if b then Ok n else Err f) ≡ Ok number → (1 ≤ number) × (number ≤ last + 1)
    by true within same =
        let here = ok_same n number same in
        let both = both_of (nat_le 1 n) (nat_le n (last + 1)) within in
        (subst (λ m. 1 ≤ m) here (leb-true 1 n both.0), subst (λ m. m ≤ last + 1) here (leb-true n (last + 1) both.1))
    by false within same = absurd (err_ok f number same)
placed_at f last (negsuc n) number is = absurd (err_ok f number is)

bounded_at : (f : Field) (at : ℕ) (r : Result ℕ Field) (first end : ℕ) → bounded at r ≡ Ok (first, end) → (at ≡ first) × ((r ≡ Ok end) × (first ≤ end))
bounded_at f at (Ok n) first end is = by (nat_le at n && nat_le n (at + most_deltas)) refl is
  where
    by : (b : Bool) → (nat_le at n && nat_le n (at + most_deltas)) ≡ b → if◌then◌else◌ {A = Result (ℕ × ℕ) Field} b (Ok (at, n)) (Err field.To) ≡ Ok (first, end) → (at ≡ first) × (◌≡◌ {A = Result ℕ Field} (Ok n) (Ok end) × (first ≤ end))
    by true within same =
        let here = ok_same (at, n) (first, end) same in
        let low : at ≡ first = ap (λ p. p.0) here in
        let high : n ≡ end = ap (λ p. p.1) here in
        (low, (ap Ok high, subst (λ m. m ≤ end) low (subst (λ m. at ≤ m) high (leb-true at n (both_of (nat_le at n) (nat_le n (at + most_deltas)) within).0))))
    by false within same = absurd (err_ok field.To (first, end) same)
bounded_at f at (Err g) first end is = absurd (err_ok g (first, end) is)

pub asked_range : (last : ℕ) (from to : ℤ) (first end : ℕ) → range_asked last from to ≡ Ok (first, end) → IsRange last first end
unfolding range_asked
asked_range last from to first end is = by (placed field.From last from) refl is
  where
    by : (r : Result ℕ Field) → placed field.From last from ≡ r → range_from last to r ≡ Ok (first, end) → IsRange last first end
    by (Ok at) placed_is same =
        let low = placed_at field.From last from at placed_is in
        let both = bounded_at field.To at (placed field.To last to) first end same in
        let high = placed_at field.To last to end both.1.0 in
        record { above = subst (λ m. 0 < m) both.0 (omega (arith, low.0)); ordered = both.1.1; within = high.1 }
    by (Err f) placed_is same = absurd (err_ok f (first, end) same)

-- ---- what is read of a lane

pub looks_same : (t : Terms) (a b : Act) (result : Result ActEnd DeltaFault) (l : List Step) → a ≡ b → Looks t b result l → Looks t a result l
looks_same t a b result l same looks = subst (λ x. Looks t x result l) (sym same) looks

-- which number is out of range
pub looks_out : LaneSays → (s : Standing) (l : List Step) → LaneStands s l → (from to : ℤ) (f : Field) → range_asked s.entries.state.sequencer.sequence from to ≡ Err f → Looks (terms_of s) (act.Deltas from to) (Ok (Given (out_of_range f))) l
looks_out law s l stands from to f is = record {
  worn = tt;
  suits = (s.entries.state.sequencer.sequence, (f, (is, refl)));
  faults = tt;
  told = λ told.
      let says = told_is s.keeping.content (SaysOf s (ledger l)) told (law s l stands) in record {
        legal = says.legal;
        read = λ held. ap (λ r. ends (Given (deltas_in (order (ledger l)) r))) (ap (λ n. range_asked n from to) (sym says.seq) ∙ is);
        faults = tt;
      };
}
