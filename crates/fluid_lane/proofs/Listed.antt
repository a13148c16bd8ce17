-- What a list of steps says with more steps at its end.
use Rattle.std.proofs.Common.{◌≡◌, ℕ, ◌+◌, ◌≤◌, arith, List, [], ◌∷◌, ◌++◌, length, Option, Some, None, refl, ap, ◌∙◌}
use Rattle.std.specs.Option.{option_or}
use Rattle.fluid_lane.specs.declared.steps.Side.{Side}
use Rattle.fluid_lane.specs.declared.steps.Side.TheVariants.{Failed}
use Rattle.fluid_lane.specs.declared.steps.Step.{Step}
use Rattle.fluid_lane.specs.declared.steps.Step.TheVariants.{Entered, Aside}
use Rattle.fluid_lane.specs.Steps.{ledger, last_side, stored, asides, AreNoted}

pub ledger-append : (l more : List Step) → ledger (l ++ more) ≡ ledger l ++ ledger more
ledger-append [] more = refl
ledger-append (Entered raw verdict ∷ l) more = ap (λ es. (raw, verdict) ∷ es) (ledger-append l more)
ledger-append (Aside side ∷ l) more = ledger-append l more

pub stored-append : (l more : List Step) → stored (l ++ more) ≡ stored l + stored more
stored-append [] more = omega arith
stored-append (Entered raw verdict ∷ l) more = stored-append l more
stored-append (Aside side ∷ l) more = omega (arith, stored-append l more)

pub asides-append : (l more : List Step) → asides (l ++ more) ≡ asides l + asides more
asides-append [] more = omega arith
asides-append (Entered raw verdict ∷ l) more = asides-append l more
asides-append (Aside side ∷ l) more = omega (arith, asides-append l more)

-- a step is an entry or a side step
pub length-parts : (l : List Step) → length l ≡ length (ledger l) + asides l
length-parts [] = refl
length-parts (Entered raw verdict ∷ l) = omega (arith, length-parts l)
length-parts (Aside side ∷ l) = omega (arith, length-parts l)

pub noted_more : (n m : ℕ) (l : List Step) → n ≤ m → AreNoted n l → AreNoted m l
noted_more n m [] le noted = tt
noted_more n m (Entered raw verdict ∷ l) le noted = noted_more n m l le noted
noted_more n m (Aside (Failed note) ∷ l) le noted = (omega (arith, le, noted.0), noted_more n m l le noted.1)
noted_more n m (Aside other ∷ l) le noted = (tt, noted_more n m l le noted.1)

pub noted-append : (n : ℕ) (l more : List Step) → AreNoted n l → AreNoted n more → AreNoted n (l ++ more)
noted-append n [] more a b = b
noted-append n (Entered raw verdict ∷ l) more a b = noted-append n l more a b
noted-append n (Aside side ∷ l) more a b = (a.0, noted-append n l more a.1 b)

pub last-append : (l more : List Step) → last_side (l ++ more) ≡ option_or (last_side more) (last_side l)
last-append [] more = none_or (last_side more)
  where
    none_or : (o : Option Side) → o ≡ option_or o None
    none_or None = refl
    none_or (Some x) = refl
last-append (Entered r v ∷ l) more = last-append l more
last-append (Aside side ∷ l) more = ap (λ o. option_or o (Some side)) (last-append l more) ∙ or_or (last_side more) (last_side l) side
  where
    or_or : (a b : Option Side) (x : Side) → option_or (option_or a b) (Some x) ≡ option_or a (option_or b (Some x))
    or_or None b x = refl
    or_or (Some y) b x = refl
