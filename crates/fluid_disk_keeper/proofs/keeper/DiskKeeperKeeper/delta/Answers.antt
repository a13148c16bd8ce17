use Rattle.std.proofs.Common.{◌∙◌, sym, refl, ◌-◌, arith}
use Rattle.fluid_disk_keeper.proofs.Contents.{stayed, deltas_same, gives_deltas}
use Rattle.fluid_disk_keeper.proofs.keeper.DiskKeeperKeeper.delta.Goals as goal

pub read-requires : goal.read-requires
read-requires g c = omega (arith, rw (← c.self.view_is) at c.requires.last, c.requires.first)

pub returns-in-Ok-clause-same : goal.returns-in-Ok-clause-same
returns-in-Ok-clause-same g c =
    let w = c.known.ensures.stands in
    let old = c.self.inside.deltas in
    let new = c.read.new.self in
    let told = g.met.D.Disk.told new.disk ∙ sym (g.met.D.Disk.told old.disk) in
    let is = stayed g.D.Disk.seen g.D.Disk.may_leave w.0 w.0 old new w.1 (c.read.ensures.same w.0 w.1) (g.met.D.Disk.leaves_read old.disk) (g.met.D.Disk.leaves_read new.disk) told refl in
    rw (← c.self.view_is) (deltas_same g.D.Disk.seen g.D.Disk.may_leave (record { log = c.self.inside.log; deltas = c.self.inside.deltas; checkpoints = c.self.inside.checkpoints; faults = c.self.inside.faults; reads = c.self.inside.reads }) new _ _ is)

pub returns-in-Ok-clause-gives : goal.returns-in-Ok-clause-gives
returns-in-Ok-clause-gives g c =
    let w = c.known.ensures.stands in
    rw (← c.self.view_is) (gives_deltas g.D.Disk.seen g.D.Disk.may_leave (record { log = c.self.inside.log; deltas = c.self.inside.deltas; checkpoints = c.self.inside.checkpoints; faults = c.self.inside.faults; reads = c.self.inside.reads }) w.0 (c.args.number - 1) c.in-Ok.bytes w.1 (g.met.D.Disk.leaves_read c.self.inside.deltas.disk) (c.in-Ok.ensures.gives w.0 w.1))

pub returns-in-Err-clause-same : goal.returns-in-Err-clause-same
returns-in-Err-clause-same g c =
    let w = c.known.ensures.stands in
    let old = c.self.inside.deltas in
    let new = c.read.new.self in
    let told = g.met.D.Disk.told new.disk ∙ sym (g.met.D.Disk.told old.disk) in
    let is = stayed g.D.Disk.seen g.D.Disk.may_leave w.0 w.0 old new w.1 (c.read.ensures.same w.0 w.1) (g.met.D.Disk.leaves_read old.disk) (g.met.D.Disk.leaves_read new.disk) told refl in
    rw (← c.self.view_is) (deltas_same g.D.Disk.seen g.D.Disk.may_leave (record { log = c.self.inside.log; deltas = c.self.inside.deltas; checkpoints = c.self.inside.checkpoints; faults = c.self.inside.faults; reads = c.self.inside.reads }) new _ _ is)

pub returns-in-Ok-clause-file : goal.returns-in-Ok-clause-file
returns-in-Ok-clause-file g c = rw (← c.self.view_is) (record { cause = c.in-Ok.ensures.cause; same = c.read.ensures.same; crash = c.read.ensures.crash })

pub returns-in-Ok-clause-others : goal.returns-in-Ok-clause-others
returns-in-Ok-clause-others g c = rw (← c.self.view_is) (refl, refl)

pub returns-in-Err-clause-file : goal.returns-in-Err-clause-file
returns-in-Err-clause-file g c = rw (← c.self.view_is) (record { cause = c.in-Err.ensures.cause; same = c.read.ensures.same; crash = c.read.ensures.crash })

pub returns-in-Err-clause-others : goal.returns-in-Err-clause-others
returns-in-Err-clause-others g c = rw (← c.self.view_is) (refl, refl)
