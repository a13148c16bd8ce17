use Rattle.std.proofs.Common.{refl, ◌∙◌, sym}
use Rattle.fluid_disk_keeper.proofs.Contents.{grew, not_grown, deltas_grew, deltas_same}
use Rattle.fluid_disk_keeper.proofs.keeper.DiskKeeperKeeper.put_delta.Goals as goal

pub returns-in-Ok-clause-does : goal.returns-in-Ok-clause-does
returns-in-Ok-clause-does g c =
    let w = c.known.ensures.stands in
    let old = c.self.inside.deltas in
    let new = c.append.new.self in
    let told = g.met.D.Disk.told new.disk ∙ sym (g.met.D.Disk.told old.disk) in
    let is = grew g.D.Disk.seen g.D.Disk.may_leave w.0 c.args.bytes.now old new w.1 (c.in-Ok.ensures.does w.0 w.1) (g.met.D.Disk.leaves_read old.disk) (g.met.D.Disk.leaves_read new.disk) told in
    rw (← c.self.view_is) (deltas_grew g.D.Disk.seen g.D.Disk.may_leave (record { log = c.self.inside.log; deltas = c.self.inside.deltas; checkpoints = c.self.inside.checkpoints; faults = c.self.inside.faults; reads = c.self.inside.reads }) new _ _ c.args.bytes.now is)

pub returns-in-Err-clause-does : goal.returns-in-Err-clause-does
returns-in-Err-clause-does g c =
    let w = c.known.ensures.stands in
    let old = c.self.inside.deltas in
    let new = c.append.new.self in
    let told = g.met.D.Disk.told new.disk ∙ sym (g.met.D.Disk.told old.disk) in
    let is = not_grown g.D.Disk.seen g.D.Disk.may_leave w.0 c.args.bytes.now old new c.in-Err.fault w.1 (c.in-Err.ensures.does w.0 w.1) (g.met.D.Disk.leaves_read old.disk) (g.met.D.Disk.leaves_read new.disk) told in
    rw (← c.self.view_is) (deltas_same g.D.Disk.seen g.D.Disk.may_leave (record { log = c.self.inside.log; deltas = c.self.inside.deltas; checkpoints = c.self.inside.checkpoints; faults = c.self.inside.faults; reads = c.self.inside.reads }) new _ _ is)

pub returns-in-Ok-clause-file : goal.returns-in-Ok-clause-file
returns-in-Ok-clause-file g c = rw (← c.self.view_is) (record { cause = c.in-Ok.ensures.cause; does = c.in-Ok.ensures.does; crash = c.append.ensures.crash })

pub returns-in-Ok-clause-others : goal.returns-in-Ok-clause-others
returns-in-Ok-clause-others g c = rw (← c.self.view_is) (refl, refl)

pub returns-in-Err-clause-file : goal.returns-in-Err-clause-file
returns-in-Err-clause-file g c = rw (← c.self.view_is) (record { cause = c.in-Err.ensures.cause; does = c.in-Err.ensures.does; crash = c.append.ensures.crash })

pub returns-in-Err-clause-others : goal.returns-in-Err-clause-others
returns-in-Err-clause-others g c = rw (← c.self.view_is) (refl, refl)
