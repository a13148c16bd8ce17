use Rattle.std.proofs.Common.{sym, subst}
use Rattle.fluid_document.specs.Loading.{IsLoadFault}
use Rattle.fluid_document.proofs.Early.{unread_cause}
use Rattle.fluid_document.proofs.loading.take_up.Goals as goal

pub returns-in-Err-clause-cause : goal.returns-in-Err-clause-cause
returns-in-Err-clause-cause g c =
    subst (IsLoadFault (g.K.Keeper.seen c.args.keeper.now).records (g.K.Keeper.seen c.args.keeper.now).faults _) (sym c.unread.ensures) (unread_cause _ _ _ _ c.in-Err.fault c.in-Err.ensures.cause c.in-Err.ensures.needed c.requires.there)
