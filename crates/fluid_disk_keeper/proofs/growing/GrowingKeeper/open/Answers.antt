use Rattle.fluid_disk_keeper.proofs.growing.GrowingKeeper.open.Goals as goal

pub invariant_of-result : goal.invariant_of-result
invariant_of-result g c = let l = c.in-Ok.ensures.opened.log_is in (_, l.stands, tt)
