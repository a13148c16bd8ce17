-- Tables of cases.
use Rattle.std.specs.Prelude.{Bool, if◌then◌else◌, List, [], ◌∷◌}

-- the first case that fits
abbrev pub first_case : {X : Type 0} → List (Bool × X) → X → X
first_case [] otherwise = otherwise
first_case (row ∷ rows) otherwise = if row.0 then row.1 else first_case rows otherwise
