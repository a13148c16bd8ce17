use Rattle.std.proofs.Common.{refl, ap}
use Rattle.std.specs.Prelude.{Some}
use Rattle.fluidd.proofs.Nothing.{none_held, new_documents, none_short, none_own}
use Rattle.fluidd.proofs.laws.new_desks_tell.Goals as goal

pub returns : goal.returns
returns c = record {
  told = record { held = _; told = refl; documents = new_documents c.new_keepers_are_kept.ensures _ (none_held _ c.requires.shelves) };
  held = ap Some c.requires.objects;
  short = none_short;
  owned = none_own;
  first = refl;
}
