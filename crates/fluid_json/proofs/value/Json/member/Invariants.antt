use Rattle.std.proofs.Common.{◌≡◌, drop}
use Rattle.fluid_json.specs.Tree.{members, find_member}
use Rattle.fluid_json.proofs.value.Json.member.Given as goal

-- the members not yet looked at answer for all
abbrev pub invariant-loop-name : goal.invariant-loop-name
invariant-loop-name l = find_member l.key (members (drop l.name-index l.name-items)) ≡ find_member l.key (members l.name-items)
