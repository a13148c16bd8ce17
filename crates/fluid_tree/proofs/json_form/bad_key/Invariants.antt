use Rattle.std.proofs.Common.{◌≡◌, drop}
use Rattle.fluid_json.specs.Tree.{members}
use Rattle.fluid_tree.specs.FromJson.{bad_key}
use Rattle.fluid_tree.proofs.json_form.bad_key.Given as goal

abbrev pub invariant-loop-key : goal.invariant-loop-key
invariant-loop-key l = bad_key (members (drop l.key-index l.entries)) ≡ bad_key (members l.entries)
