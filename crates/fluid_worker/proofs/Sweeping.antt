-- Leaves one after another.
use Rattle.std.proofs.Common.{◌≡◌, ℕ, Bool, true, false, not, List, [], ◌∷◌, refl, sym, ◌∙◌, Option, Some, None, Result, Ok, Err}
use Rattle.std.proofs.lemmas.Bool.{false≢true}
use Rattle.fluid_lane.specs.declared.fault.LaneFault.{LaneFault}
use Rattle.fluid_doors.specs.declared.bench.Terms.{Terms}
use Rattle.fluid_doors.specs.Passing.{APass}
use Rattle.fluid_worker.specs.Tending.{SweepsOne, SweepsBy, Sweeps, is_swept}

-- one client before others
one_before : (t : Terms) (p mid q : APass) (moment : ℕ) (answer : Result (Option (List ℕ)) LaneFault) → SweepsOne t p mid moment answer → is_swept answer ≡ true → Sweeps t mid q moment → Sweeps t p q moment
one_before t p mid q moment (Ok (Some id)) one is h = record { ids = id ∷ h.ids; mid = h.mid; these = (mid, (one, h.these)); last = h.last }
one_before t p mid q moment (Ok None) one is h = absurd (false≢true is)
one_before t p mid q moment (Err fault) one is h = absurd (false≢true is)

pub sweeps_then : (t : Terms) (p mid q : APass) (moment : ℕ) (swept : Bool) → SweepsBy t p mid moment swept → swept ≡ true → Sweeps t mid q moment → Sweeps t p q moment
sweeps_then t p mid q moment swept by is h = one_before t p mid q moment by.answer by.one (sym by.swept_is ∙ is) h

pub not_false : (b : Bool) → not b ≡ false → b ≡ true
not_false true is = refl
not_false false is = absurd (false≢true (sym is))
