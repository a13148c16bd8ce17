use Rattle.fluid_service.proofs.Endings.{at_first, one_gone, at_last}
use Rattle.fluid_service.proofs.ending.close_all.Goals as goal

pub loop-init : goal.loop-init
loop-init g c = at_first _ _ c.requires.out c.requires.only

pub loop-preserved : goal.loop-preserved
loop-preserved g c = one_gone _ _ _ _ _ _ c.loop.invariant c.close_last.ensures

pub close_last-requires : goal.close_last-requires
close_last-requires g c = c.loop.invariant.out

pub returns : goal.returns
returns g c = at_last _ _ _ _ c.loop.invariant
