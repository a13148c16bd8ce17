use Rattle.std.proofs.Common.{◌≡◌, ◌++◌, ◌==◌, false, length}
use denote.Shadow.{shadow}
use denote.Text.{Utf8}
use Rattle.std.specs.List.{list_any, slice_split}
use Rattle.fluid_tree.specs.Names.{is_bad}
use Rattle.fluid_tree.proofs.json_form.names_of.Given as goal

-- the names so far are good, and with those of the rest they are all
abbrev pub invariant-loop-name : goal.invariant-loop-name
invariant-loop-name l = record {
  all : l.names.items ++ slice_split (λ x. x == 47) l.rest ≡ slice_split (λ x. x == 47) l.text;
  good : list_any is_bad l.names.items ≡ false;
  utf8 : shadow (Utf8 l.rest);
}

abbrev pub decreases-loop-name : goal.decreases-loop-name
decreases-loop-name l = length l.rest
