use Rattle.std.proofs.Common.{◌-◌, length, ap, arith, length-drop}
use Rattle.fluid_disk.proofs.opening.Ahead.reach.Goals as goal

pub returns-then-wanted-ahead-clause-place : goal.returns-then-wanted-ahead-clause-place
returns-then-wanted-ahead-clause-place g c = (
  c.requires.behind,
  omega (arith, c.if-wanted-ahead.true, c.min-wanted.ensures, c.len-size.ensures, ap length c.rest.ensures, length-drop (c.args.place - c.args.self.now.start) c.args.self.now.bytes.items),
)
