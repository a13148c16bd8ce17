use Rattle.fluid_turn.specs.Seats.{StandsFixed}
use Rattle.fluid_turn.proofs.Seating.{begun_stands, begun_seated}
use Rattle.fluid_turn.proofs.turn.begin.Goals as goal

pub pass_on-requires-clause-stands : goal.pass_on-requires-clause-stands
pass_on-requires-clause-stands g c =
    begun_stands (StandsFixed g.T.Chronicle.stands g.T.Chronicle.fixed c.args.words.now.key.fixed) _ _ _ _ c.begin.ensures.began c.exchange-empty.ensures.3 c.requires.first

pub returns-clause-seated : goal.returns-clause-seated
returns-clause-seated g c =
    begun_seated (StandsFixed g.T.Chronicle.stands g.T.Chronicle.fixed c.args.words.now.key.fixed) _ _ _ _ _ _ c.begin.ensures.began c.exchange-empty.ensures.3 c.pass_on.ensures.passed c.requires.first
