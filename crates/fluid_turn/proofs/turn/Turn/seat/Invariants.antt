use Rattle.std.proofs.Common.{[]}
use Rattle.fluid_turn.specs.Seats.{StandsFixed}
use Rattle.fluid_turn.proofs.turn.Turn.seat.Given as goal

abbrev pub ghosts-arrive : goal.ghosts-arrive
ghosts-arrive g a = record {
  number = 0;
  entry = [];
  began = a.words.now.key.began;
  tells = StandsFixed g.T.Chronicle.stands g.T.Chronicle.fixed a.words.now.key.fixed;
}
