use Rattle.std.proofs.Common.{◌≡◌, drop}
use Rattle.fluid_runtime.specs.Kinds.{first_attached}
use Rattle.fluid_runtime.proofs.app.first_attached.Given as goal

-- the edits not yet looked at answer for all
abbrev pub invariant-loop-edit : goal.invariant-loop-edit
invariant-loop-edit l = first_attached l.address (drop l.edit-index l.edits) ≡ first_attached l.address l.edits
