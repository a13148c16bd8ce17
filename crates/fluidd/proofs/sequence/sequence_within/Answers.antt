use Rattle.fluid_rules.specs.declared.limits.Limits.{Limits}
use Rattle.fluid_world.specs.Ending.{full}
use Rattle.fluidd.specs.Output.{meaning}
use Rattle.fluidd.proofs.Grown.{stands-none}
use Rattle.fluidd.proofs.Statuses.{sequences}
use Rattle.fluidd.proofs.sequence.sequence_within.Goals as goal

pub returns : goal.returns
returns g c =
    let limits : Limits = record full { entries = c.args.entries; clients = c.args.clients } in
    rw (c.code.ensures, c.status_of.ensures)
    (sequences limits _ _ _ _ _ _ c.pipe-ended.ensures.cause (c.pipe-ended.ensures.finished (meaning limits) (stands-none limits _ c.new-document.ensures.stands)))
