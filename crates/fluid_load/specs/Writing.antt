-- The lines of a summary, by what was counted.
use Rattle.std.specs.Prelude.{ℕ, ◌+◌, ◌-◌, List, [], ◌∷◌, ◌++◌, codes}
use Rattle.hex.specs.Hex.{encode_lower}
use Rattle.fluid_workload.specs.Summary.{counted, sameness}
use Rattle.fluid_turns.specs.declared.figures.Figures.{Figures}
use Rattle.fluid_turns.specs.declared.tally.Tally.{Tally}

-- what has no message and was neither absorbed nor nacked was dropped
abbrev pub dropped_by : Figures → Tally → ℕ
dropped_by f t = f.entries - f.sequence - (t.absorbed + t.nacked)

abbrev pub lines_of : Figures → Tally → (one other : List ℕ) → List (List ℕ)
lines_of f t one other =
    counted (codes "messages") f.sequence
    ∷ counted (codes "dropped") (dropped_by f t)
    ∷ counted (codes "absorbed") t.absorbed
    ∷ counted (codes "nacked") t.nacked
    ∷ counted (codes "summaries") f.summaries
    ∷ (codes "state " ++ encode_lower one)
    ∷ (codes "loaded " ++ sameness one other)
    ∷ []
