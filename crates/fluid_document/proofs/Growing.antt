-- Messages in memory that go on with a verdict.
use Rattle.std.proofs.Common.{◌≡◌, ℕ, zero, suc, List, [], ◌∷◌, ◌++◌, length, drop, slice_get, Some, append-nil, refl, sym, ap, subst, ◌∙◌, arith}
use Rattle.fluid_types.specs.declared.verdicts.Verdict.{Verdict}
use Rattle.fluid_types.specs.Ledger.{messages_of}
use Rattle.fluid_deltas.specs.Pushed.{Pushed, StandFor}
use Rattle.fluid_deltas.proofs.Standing.{same_part, same_stand}
use Rattle.fluid_document.specs.Entries.{GoOn}

pub first_behind : {X : Type 0} (n : ℕ) (xs : List X) (x : X) (rest : List X) → drop n xs ≡ x ∷ rest → slice_get xs n ≡ Some x
first_behind zero xs x rest is = ap (λ ys. slice_get ys 0) is
first_behind (suc n) [] x rest is = absurd (cc)
first_behind (suc n) (y ∷ xs) x rest is = first_behind n xs x rest is

-- no message more
pub goes_nowhere : (old new : Pushed) (v : Verdict) → messages_of v ≡ [] → new.before ≡ old.before → new.held ≡ old.held → GoOn old new v
goes_nowhere old new v none before held = record {
  before = before;
  count = omega (arith, before, ap length held, ap length none);
  stands = λ order content stand. subst (λ ms. StandFor new ms content) (sym (ap (λ ms. order ++ ms) none ∙ append-nil order)) (same_stand old new order content content before held refl stand);
  part = λ order rest at part. same_part old new order before held part;
}
