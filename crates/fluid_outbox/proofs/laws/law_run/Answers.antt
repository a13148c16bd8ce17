use Rattle.std.proofs.Common.{sym, subst}
use Rattle.fluid_types.specs.Ledger.{order}
use Rattle.fluid_outbox.specs.Kept.{past_of}
use Rattle.fluid_outbox.specs.Runs.{IsExactlyOnce}
use Rattle.fluid_outbox.proofs.laws.law_run.Goals as goal

pub returns : goal.returns
returns c = λ calls l stands run. subst (IsExactlyOnce (past_of calls) (order l)) (sym stands.counted) (c.each_once.ensures calls l run)
