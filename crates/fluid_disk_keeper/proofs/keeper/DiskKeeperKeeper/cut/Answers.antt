use Rattle.std.proofs.Common.{refl, ◌∙◌, ap, sym, length, arith}
use Rattle.fluid_disk_keeper.proofs.Contents.{shrank, not_shrunk, log_cut, log_same}
use Rattle.fluid_disk.proofs.Rows.{length_gates}
use Rattle.fluid_disk_keeper.proofs.keeper.DiskKeeperKeeper.cut.Goals as goal

pub cut-requires : goal.cut-requires
cut-requires g c =
    let w = c.known.ensures.stands in
    omega (arith, rw (← c.self.view_is) at c.requires, ap length w.1.gates_are, length_gates 0 w.0.records)

pub returns-in-Ok-clause-does : goal.returns-in-Ok-clause-does
returns-in-Ok-clause-does g c =
    let w = c.known.ensures.stands in
    let old = c.self.inside.log in
    let new = c.cut.new.self in
    let told = g.met.D.Disk.told new.disk ∙ sym (g.met.D.Disk.told old.disk) in
    let is = shrank g.D.Disk.seen g.D.Disk.may_leave w.0 c.args.count old new w.1 (c.in-Ok.ensures.does w.0 w.1) (g.met.D.Disk.leaves_read old.disk) (g.met.D.Disk.leaves_read new.disk) told (rw (← c.self.view_is) at c.requires) in
    rw (← c.self.view_is) (log_cut g.D.Disk.seen g.D.Disk.may_leave (record { log = c.self.inside.log; deltas = c.self.inside.deltas; checkpoints = c.self.inside.checkpoints; faults = c.self.inside.faults; reads = c.self.inside.reads }) new _ _ c.args.count is)

pub returns-in-Err-clause-does : goal.returns-in-Err-clause-does
returns-in-Err-clause-does g c =
    let w = c.known.ensures.stands in
    let old = c.self.inside.log in
    let new = c.cut.new.self in
    let told = g.met.D.Disk.told new.disk ∙ sym (g.met.D.Disk.told old.disk) in
    let is = not_shrunk g.D.Disk.seen g.D.Disk.may_leave w.0 c.args.count old new c.in-Err.failed w.1 (c.in-Err.ensures.does w.0 w.1) (g.met.D.Disk.leaves_read old.disk) (g.met.D.Disk.leaves_read new.disk) told in
    rw (← c.self.view_is) (log_same g.D.Disk.seen g.D.Disk.may_leave (record { log = c.self.inside.log; deltas = c.self.inside.deltas; checkpoints = c.self.inside.checkpoints; faults = c.self.inside.faults; reads = c.self.inside.reads }) new _ _ is)

pub returns-in-Ok-clause-file : goal.returns-in-Ok-clause-file
returns-in-Ok-clause-file g c = rw (← c.self.view_is) (record { cause = c.in-Ok.ensures.cause; does = c.in-Ok.ensures.does; crash = c.cut.ensures.crash })

pub returns-in-Ok-clause-others : goal.returns-in-Ok-clause-others
returns-in-Ok-clause-others g c = rw (← c.self.view_is) (refl, refl)

pub returns-in-Err-clause-file : goal.returns-in-Err-clause-file
returns-in-Err-clause-file g c = rw (← c.self.view_is) (record { cause = c.in-Err.ensures.cause; does = c.in-Err.ensures.does; crash = c.cut.ensures.crash })

pub returns-in-Err-clause-others : goal.returns-in-Err-clause-others
returns-in-Err-clause-others g c = rw (← c.self.view_is) (refl, refl)
