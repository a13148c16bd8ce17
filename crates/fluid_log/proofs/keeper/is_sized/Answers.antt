use Rattle.fluid_log.proofs.keeper.is_sized.Goals as goal

pub returns : goal.returns
returns g c = g.K.Keeper.sized c.args.keeper.now
