use Rattle.std.proofs.Common.{arith, ◌^◌, ◌<◌, length}
use Rattle.fluid_door_link.specs.Hushing.{hushed}
use Rattle.fluid_door_link.proofs.Hushed.{puts_hushed, short_puts}
use Rattle.fluid_door_link.proofs.told_objects.ToldObjectsObjects.put.Goals as goal

pub invariant_of-self : goal.invariant_of-self
invariant_of-self g c =
    let may = c.self.inside.may.value in
    let seen = g.O.Objects.seen in
    let few : length c.args.bytes.now < 2 ^ 53 = omega (arith, c.if-bytes-ge-TOO_LONG.false) in
    short_puts c.args.id.now c.args.bytes.now (hushed may (seen c.self.inside.objects)) (hushed may (seen c.put.new.self)) c.put.result few
    (puts_hushed may c.args.id.now c.args.bytes.now (seen c.self.inside.objects) (seen c.put.new.self) c.put.result c.put.ensures) c.self.invariant
