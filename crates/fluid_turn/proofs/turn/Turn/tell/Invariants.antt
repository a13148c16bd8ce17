use Rattle.std.proofs.Common.{[]}
use Rattle.fluid_turn.specs.Seats.{StandsFixed}
use Rattle.fluid_turn.proofs.turn.Turn.tell.Given as goal

abbrev pub ghosts-note : goal.ghosts-note
ghosts-note g a = record {
  number = a.token.now.id;
  entry = [];
  began = a.words.now.key.began;
  tells = StandsFixed g.T.Chronicle.stands g.T.Chronicle.fixed a.words.now.key.fixed;
}
