use Rattle.std.proofs.Common.{[]}
use Rattle.fluid_turn.proofs.turn.begin.Given as goal

abbrev pub ghosts-begin : goal.ghosts-begin
ghosts-begin g a = record { number = 0; entry = []; began = a.words.now.key.began; tells = λ _ _. Unit {0} }
