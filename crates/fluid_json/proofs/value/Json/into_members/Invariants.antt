use Rattle.std.proofs.Common.{◌≡◌, length}
use Rattle.fluid_json.specs.Tree.{members, find, find_member}
use Rattle.std.specs.Option.{option_or}
use Rattle.fluid_json.proofs.value.Json.into_members.Given as goal

-- what was found, and otherwise the members not yet looked at, answer for all
abbrev pub invariant-loop-name : goal.invariant-loop-name
invariant-loop-name l = record {
  can_next : (goal.iterator-loop-name).can_next l.name-iterator;
  is_finite : (goal.iterator-loop-name).is_finite l.name-iterator;
  len : l.name-iterator.rest.len ≡ length l.name-iterator.rest.items;
  one : find l.first l.fn.self ≡ option_or l.one (find_member l.first (members l.name-iterator.rest.items));
  other : find l.second l.fn.self ≡ option_or l.other (find_member l.second (members l.name-iterator.rest.items));
}
