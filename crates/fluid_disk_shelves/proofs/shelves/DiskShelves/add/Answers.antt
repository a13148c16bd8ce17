use Rattle.std.proofs.Common.{◌≡◌, ap, ◌∙◌, arith}
use Rattle.std.specs.FinMap.{empty, insert}
use Rattle.fluid_log.specs.Places.{values_where}
use Rattle.fluid_disk_shelves.specs.declared.seat.Seat.TheVariants.{Shut}
use Rattle.fluid_disk_shelves.specs.Shelves.{given_with}
use Rattle.fluid_disk_shelves.proofs.Covering.{below_insert, whole_added}
use Rattle.fluid_disk_shelves.proofs.shelves.DiskShelves.add.Goals as goal

pub invariant_of-self : goal.invariant_of-self
invariant_of-self g c =
    rw (c.insert.ensures.values, c.reserve.ensures.same)
    (below_insert c.self.inside.seats.values c.args.name (Shut c.args.disks) c.self.inside.faults c.self.inside.faults (omega arith) c.self.invariant tt)

pub invariant_of-self-in-Err-1 : goal.invariant_of-self-in-Err-1
invariant_of-self-in-Err-1 g c = rw c.reserve.ensures.same c.self.invariant

pub returns-in-Ok-clause-whole : goal.returns-in-Ok-clause-whole
returns-in-Ok-clause-whole g c = λ whole.
    let before : values_where given_with c.self.inside.seats.values ≡ empty = rw (← c.self.view_is) at whole in
    ap (values_where given_with) (c.insert.ensures.values ∙ ap (λ m. insert m c.args.name (Shut c.args.disks)) c.reserve.ensures.same) ∙ whole_added c.self.inside.seats.values c.args.name c.args.disks before
