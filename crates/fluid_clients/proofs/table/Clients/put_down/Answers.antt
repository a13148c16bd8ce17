use Rattle.std.proofs.Common.{◌∙◌, arith, sym}
use Rattle.std.specs.Vec.{vec_capacity}
use Rattle.fluid_clients.specs.Seats.{AreSeated}
use Rattle.fluid_clients.proofs.Down.{in_order_down, rows_down}
use Rattle.fluid_clients.proofs.table.Clients.put_down.Goals as goal

pub invariant_of-self : goal.invariant_of-self
invariant_of-self c = record {
  order = rw c.put_each_down.ensures.down (in_order_down c.args.most c.self.inside.seats.items c.self.invariant.order);
  indexed = rw c.deref.ensures.value at c.put_each_down.ensures.indexed;
  seated = omega (arith, c.self.invariant.seated, c.put_each_down.ensures.slots, c.put_each_down.ensures.room);
  freed = omega (arith, c.self.invariant.freed, c.put_each_down.ensures.slots);
}

pub returns-clause-down : goal.returns-clause-down
returns-clause-down c =
    rw (c.put_each_down.ensures.down, ← c.self.view_is) (rows_down c.args.most c.self.inside.seats.items c.self.invariant.order)
