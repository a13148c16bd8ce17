use Rattle.std.proofs.Common.{◌≡◌, ◌<◌, ◌≤◌, List, [], ◌∷◌, length, None, refl, arith}
use Rattle.fluid_json.specs.Tree.{Tree, trees}
use Rattle.fluid_checkpoint.specs.Reading.{pair}
use Rattle.fluid_checkpoint.proofs.items.pair.Goals as goal

too_few : (ts : List Tree) → length ts < 2 → None ≡ pair (trees ts)
too_few [] lt = refl
too_few (t ∷ []) lt = refl
too_few (t ∷ u ∷ ts) lt = absurd (omega (arith, lt))

too_many : (ts : List Tree) → 3 ≤ length ts → None ≡ pair (trees ts)
too_many [] le = absurd (omega (arith, le))
too_many (t ∷ []) le = absurd (omega (arith, le))
too_many (t ∷ u ∷ []) le = absurd (omega (arith, le))
too_many (t ∷ u ∷ v ∷ ts) le = refl

pub returns-in_default : goal.returns-in_default
returns-in_default c = too_few c.args.items.now c.in_default.len_below

pub returns-in_default-2 : goal.returns-in_default-2
returns-in_default-2 c = too_many c.args.items.now c.in_default.len_at_least
