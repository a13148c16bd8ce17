-- Which submissions of a container fit a record.
use Rattle.std.specs.Prelude.{ℕ, ◌≤◌, List, length, ◌≡◌}
use Rattle.fluid_json.specs.Printed.{printed}
use Rattle.fluid_types.specs.Names.{IsName}
use Rattle.fluid_codec.specs.Laws.{IsNested}
use Rattle.fluid_edits.specs.declared.edit.Edit.{Edit}
use Rattle.fluid_edits.specs.Forms.{contents_of}
use Rattle.fluid_loader.specs.Calls.{op_of, noop_of, summarize_of}
use Rattle.fluid_loader.specs.Container.{AContainer}
use Rattle.fluid_loader.specs.Link.{Fits}

-- the most bytes of an op's contents for which this is said: half of those that a record may have
abbrev pub most_contents : ℕ
most_contents = 2097152

-- the next submission of the container fits: a noop, a summarize, and an op whose contents aren't nested too deep and aren't too long
pub record NextFits (client : List ℕ) (c : AContainer) : Type 0 where
  pub noop : Fits client (noop_of c)
  pub summarize : (id : List ℕ) → length id ≡ 20 → Fits client (summarize_of c id)
  pub op : (edit : Edit) → IsNested 98 (contents_of edit) → length (printed (contents_of edit)) ≤ most_contents → Fits client (op_of c edit)

-- whatever name the client has
abbrev pub MaySubmit : AContainer → Type 0
MaySubmit c = (client : List ℕ) → IsName client → NextFits client c
