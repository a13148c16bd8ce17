use Rattle.std.proofs.Common.{inr}
use Rattle.fluid_lanes.proofs.closing.close_last.Goals as goal

pub returns-in-Some : goal.returns-in-Some
returns-in-Some g c = inr (record {
  name = c.in-Some.name;
  lane = c.in-Some.lane;
  there = c.in-Some.ensures.0;
  rest_is = c.in-Some.ensures.1;
  back = rw c.close.ensures.keeper at c.put_back.ensures.does;
  left = rw c.close.ensures.keeper at c.close.ensures.left;
})
