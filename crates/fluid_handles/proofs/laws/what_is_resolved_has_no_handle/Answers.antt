use Rattle.fluid_handles.proofs.Whole.{no_handle}
use Rattle.fluid_handles.proofs.laws.what_is_resolved_has_no_handle.Goals as goal

pub returns : goal.returns
returns c = no_handle
