use Rattle.std.proofs.Common.{refl}
use Rattle.fluid_voice.specs.declared.actions.Act.TheVariants.{Enter}
use Rattle.fluid_roamers.proofs.Entered.{enters, ends_entering, entered_reads, unentered_honest, unentered_reads}
use Rattle.fluid_roamers.proofs.entering.enter.Goals as goal

pub do_act-requires : goal.do_act-requires
do_act-requires g c = (c.requires.kind, c.requires.fits)

pub refused-requires : goal.refused-requires
refused-requires g c = ends_entering c.args.lane.now c.args.raw c.in-Ok.end c.in-Ok.ensures.lane.ends

pub returns-in-Ok-clause-does : goal.returns-in-Ok-clause-does
returns-in-Ok-clause-does g c = λ limits d of.
    let e = c.in-Ok.ensures in
    enters limits c.args.lane.now c.do_act.new.lane d of c.args.raw c.in-Ok.end c.refused.result c.args.objects.now e.lane e.end c.refused.ensures

pub returns-in-Ok-clause-store : goal.returns-in-Ok-clause-store
returns-in-Ok-clause-store g c = c.in-Ok.ensures.store.untouched refl

pub returns-in-Ok-clause-runs : goal.returns-in-Ok-clause-runs
returns-in-Ok-clause-runs g c = entered_reads (Enter c.args.raw) c.args.lane.now c.do_act.new.lane c.args.objects.now c.do_act.new.objects c.in-Ok.end c.refused.result c.in-Ok.ensures.lane

pub returns-clause-does : goal.returns-clause-does
returns-clause-does g c = λ limits d of.
    rw c.unentered.ensures (unentered_honest (Enter c.args.raw) c.args.lane.now c.do_act.new.lane c.args.objects.now c.do_act.new.objects limits d c.in-Err.fault of c.in-Err.ensures.lane c.in-Err.ensures.cause)

pub returns-clause-store : goal.returns-clause-store
returns-clause-store g c = c.in-Err.ensures.store.untouched refl

pub returns-clause-runs : goal.returns-clause-runs
returns-clause-runs g c =
    rw c.unentered.ensures (unentered_reads (Enter c.args.raw) c.args.lane.now c.do_act.new.lane c.args.objects.now c.do_act.new.objects c.in-Err.fault c.in-Err.ensures.lane c.in-Err.ensures.cause)
