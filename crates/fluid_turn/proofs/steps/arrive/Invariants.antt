use Rattle.std.proofs.Common.{[]}
use Rattle.fluid_turn.proofs.steps.arrive.Given as goal

abbrev pub ghosts-recall : goal.ghosts-recall
ghosts-recall g a = record { number = a.token.now.id; entry = []; began = []; tells = λ _ _. Unit {0} }
