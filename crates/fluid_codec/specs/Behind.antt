-- A list that grows by what is read, for private clauses.
use Rattle.std.specs.Prelude.{List, ◌++◌, Ok}
use Rattle.fluid_types.specs.Forms.{Read, ◌>>=◌}

-- these, and behind them what was read
abbrev pub behind : {A : Type 0} → List A → Read (List A) → Read (List A)
behind xs r = r >>= λ ys. Ok (xs ++ ys)
