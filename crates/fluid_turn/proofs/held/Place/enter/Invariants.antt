use Rattle.std.proofs.Common.{[], ◌∷◌}
use Rattle.fluid_turn.proofs.held.Place.enter.Given as goal

abbrev pub ghosts-enter : goal.ghosts-enter
ghosts-enter g a = record { number = a.token.now.id; entry = a.entry.now ∷ []; began = []; tells = λ _ _. Unit {0} }
