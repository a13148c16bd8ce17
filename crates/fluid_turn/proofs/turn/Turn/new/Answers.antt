use Rattle.std.proofs.Common.{sym}
use Rattle.fluid_turn.specs.Seats.{StandsFixed}
use Rattle.fluid_turn.proofs.Keeps.{opens}
use Rattle.fluid_turn.proofs.turn.Turn.new.Goals as goal

pub vacant-requires : goal.vacant-requires
vacant-requires g c =
    let origin = c.origin_of-origin.result in
    let stood = c.origin_of-origin.ensures in
    opens (StandsFixed g.T.Chronicle.stands g.T.Chronicle.fixed origin.fixed) origin.began c.entered.result _ c.args.value (stood.0, sym stood.1) (c.entered.ensures origin.began stood.0)
