use Rattle.fluid_disk_shelves.proofs.Covering.{covers, not_out, gives, takes_below, stays, refused_below}
use Rattle.fluid_disk_shelves.proofs.shelves.DiskShelvesShelves.keeper.Goals as goal

pub take-requires : goal.take-requires
take-requires g c = rw c.as_str.ensures.bytes (not_out c.self.inside.seats.values c.args.name.now (rw (← c.self.view_is) at c.requires))

pub invariant_of-self : goal.invariant_of-self
invariant_of-self g c =
    let kept = rw c.as_str.ensures.bytes at c.in-Ok.ensures.kept in
    takes_below g.D.Disk.seen g.D.Disk.tells g.D.Disk.may_leave g.met.D.Disk.told g.met.D.Disk.leaves_read c.self.inside.seats.values c.take.new.seats.values c.self.inside.faults c.args.name.now c.in-Ok.keeper c.self.invariant kept

pub returns-in-Ok-clause-does : goal.returns-in-Ok-clause-does
returns-in-Ok-clause-does g c =
    let kept = rw c.as_str.ensures.bytes at c.in-Ok.ensures.kept in
    rw (← c.self.view_is)
    (gives g.D.Disk.seen g.D.Disk.tells g.D.Disk.may_leave g.met.D.Disk.told g.met.D.Disk.leaves_read c.self.inside.seats.values c.take.new.seats.values c.self.inside.faults c.args.name.now c.in-Ok.keeper c.self.invariant kept)

pub returns-in-Ok-clause-covered : goal.returns-in-Ok-clause-covered
returns-in-Ok-clause-covered g c =
    let kept = rw c.as_str.ensures.bytes at c.in-Ok.ensures.kept in
    covers g.D.Disk.seen g.D.Disk.tells c.take.new.seats.values c.self.inside.faults
    (takes_below g.D.Disk.seen g.D.Disk.tells g.D.Disk.may_leave g.met.D.Disk.told g.met.D.Disk.leaves_read c.self.inside.seats.values c.take.new.seats.values c.self.inside.faults c.args.name.now c.in-Ok.keeper c.self.invariant kept)

pub returns-in-Ok-clause-kept : goal.returns-in-Ok-clause-kept
returns-in-Ok-clause-kept g c = rw (← c.self.view_is) (rw c.as_str.ensures.bytes at c.in-Ok.ensures.kept)

pub invariant_of-self-in-Err : goal.invariant_of-self-in-Err
invariant_of-self-in-Err g c =
    let refused = rw c.as_str.ensures.bytes at c.in-Err.ensures.refused in
    refused_below g.D.Disk.seen g.D.Disk.tells g.D.Disk.may_leave g.met.D.Disk.told g.met.D.Disk.leaves_read c.self.inside.seats.values c.take.new.seats.values c.self.inside.faults c.counted-self-inside.result c.args.name.now
    c.in-Err.fault c.counted-self-inside.ensures.later c.self.invariant refused

pub returns-in-Err-clause-does : goal.returns-in-Err-clause-does
returns-in-Err-clause-does g c =
    let refused = rw c.as_str.ensures.bytes at c.in-Err.ensures.refused in
    rw (← c.self.view_is)
    (stays g.D.Disk.seen g.D.Disk.tells g.D.Disk.may_leave g.met.D.Disk.told g.met.D.Disk.leaves_read c.self.inside.seats.values c.take.new.seats.values c.self.inside.faults c.counted-self-inside.result c.args.name.now c.in-Err.fault refused)

pub returns-in-Err-clause-covered : goal.returns-in-Err-clause-covered
returns-in-Err-clause-covered g c =
    let refused = rw c.as_str.ensures.bytes at c.in-Err.ensures.refused in
    covers g.D.Disk.seen g.D.Disk.tells c.take.new.seats.values c.counted-self-inside.result
    (refused_below g.D.Disk.seen g.D.Disk.tells g.D.Disk.may_leave g.met.D.Disk.told g.met.D.Disk.leaves_read c.self.inside.seats.values c.take.new.seats.values c.self.inside.faults c.counted-self-inside.result c.args.name.now
    c.in-Err.fault c.counted-self-inside.ensures.later c.self.invariant refused)

pub returns-in-Err-clause-refused : goal.returns-in-Err-clause-refused
returns-in-Err-clause-refused g c = rw (← c.self.view_is) (rw c.as_str.ensures.bytes at c.in-Err.ensures.refused)
