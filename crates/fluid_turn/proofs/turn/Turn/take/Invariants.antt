use Rattle.std.proofs.Common.{[]}
use Rattle.fluid_turn.specs.Seats.{StandsFixed}
use Rattle.fluid_turn.proofs.turn.Turn.take.Given as goal

abbrev pub ghosts-wait : goal.ghosts-wait
ghosts-wait g a = record {
  number = 0;
  entry = [];
  began = [];
  tells = StandsFixed g.T.Chronicle.stands g.T.Chronicle.fixed a.words.now.key.fixed;
}
