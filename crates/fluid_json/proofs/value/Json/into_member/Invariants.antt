use Rattle.std.proofs.Common.{◌≡◌, length}
use Rattle.fluid_json.specs.Tree.{members, find, find_member}
use Rattle.fluid_json.proofs.value.Json.into_member.Given as goal

-- the members not yet looked at answer for all
abbrev pub invariant-loop-held : goal.invariant-loop-held
invariant-loop-held l = record {
  can_next : (goal.iterator-loop-held).can_next l.held-iterator;
  is_finite : (goal.iterator-loop-held).is_finite l.held-iterator;
  len : l.held-iterator.rest.len ≡ length l.held-iterator.rest.items;
  left : find l.key l.fn.self ≡ find_member l.key (members l.held-iterator.rest.items);
}
