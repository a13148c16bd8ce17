use Rattle.std.proofs.Common.{◌≡◌, Some, ap, sym, ◌∙◌}
use Rattle.std.specs.FinMap.{get}
use Rattle.fluid_disk_shelves.specs.declared.seat.Seat.TheVariants.{Shut, In, Out}
use Rattle.fluid_disk_shelves.proofs.Taking.{seat_taken, takes_in, takes_shut, refused_none, refused_shut, never_out}
use Rattle.fluid_disk_shelves.proofs.shelves.take.Goals as goal

pub returns-in-None-clause-refused : goal.returns-in-None-clause-refused
returns-in-None-clause-refused g c =
    let there = sym c.replace.ensures.former ∙ c.in-None.is in
    refused_none g.D.Disk.seen g.D.Disk.may_leave c.args.seats.now.values c.args.name.now c.replace.new.self.values there (c.replace.ensures.absent there)

pub returns-in-Some-In-clause-kept : goal.returns-in-Some-In-clause-kept
returns-in-Some-In-clause-kept g c =
    let old = c.args.seats.now.values in
    let there : get old c.args.name.now ≡ Some (In c.in-Some-In.keeper) = sym c.replace.ensures.former ∙ c.in-Some-In.is ∙ ap Some c.in-Some-In.field-0-is in
    let mid = c.replace.ensures.replaced (In c.in-Some-In.keeper) there in
    let own = seat_taken g.D.Disk.seen g.D.Disk.may_leave old c.args.name.now c.replace.new.self.values mid in
    takes_in g.D.Disk.seen g.D.Disk.may_leave old c.args.name.now c.replace.new.self.values c.replace-in-Some-In.new.self.values c.in-Some-In.keeper c.faults.result there mid
    (c.replace-in-Some-In.ensures.replaced (Out 0) own) c.faults.ensures

pub returns-in-Ok-clause-kept : goal.returns-in-Ok-clause-kept
returns-in-Ok-clause-kept g c =
    let old = c.args.seats.now.values in
    let there : get old c.args.name.now ≡ Some (Shut c.in-Some-Shut.disks) = sym c.replace.ensures.former ∙ c.in-Some-Shut.is ∙ ap Some c.in-Some-Shut.field-0-is in
    takes_shut g.D.Disk.seen g.D.Disk.may_leave old c.args.name.now c.replace.new.self.values c.in-Some-Shut.disks c.in-Ok.keeper there (c.replace.ensures.replaced (Shut c.in-Some-Shut.disks) there) c.in-Ok.ensures.opened

pub returns-in-Err-clause-refused : goal.returns-in-Err-clause-refused
returns-in-Err-clause-refused g c =
    let old = c.args.seats.now.values in
    let there : get old c.args.name.now ≡ Some (Shut c.in-Some-Shut.disks) = sym c.replace.ensures.former ∙ c.in-Some-Shut.is ∙ ap Some c.in-Some-Shut.field-0-is in
    let mid = c.replace.ensures.replaced (Shut c.in-Some-Shut.disks) there in
    let own = seat_taken g.D.Disk.seen g.D.Disk.may_leave old c.args.name.now c.replace.new.self.values mid in
    refused_shut g.D.Disk.seen g.D.Disk.may_leave old c.args.name.now c.replace.new.self.values c.replace-in-Err.new.self.values c.in-Some-Shut.disks c.in-Err.disks c.in-Err.fault there mid
    (c.replace-in-Err.ensures.replaced (Out 0) own) c.in-Err.ensures.back

pub unreachable-requires : goal.unreachable-requires
unreachable-requires g c =
    let there : get c.args.seats.now.values c.args.name.now ≡ Some (Out c.in-Some-Out._given) = sym c.replace.ensures.former ∙ c.in-Some-Out.is ∙ ap Some c.in-Some-Out.field-0-is in
    never_out g.D.Disk.seen g.D.Disk.may_leave c.args.seats.now.values c.args.name.now c.in-Some-Out._given there c.requires
