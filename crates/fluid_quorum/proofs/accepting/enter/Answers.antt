use Rattle.fluid_quorum.proofs.Filled.{still_seated}
use Rattle.fluid_quorum.proofs.accepting.enter.Goals as goal

pub admit-requires-clause-seat : goal.admit-requires-clause-seat
admit-requires-clause-seat c =
    still_seated c.args.members.now c.dismiss.new.members c.args.said.member c.args.said.leaver c.requires.alone c.dismiss.ensures.idle c.requires.seat
