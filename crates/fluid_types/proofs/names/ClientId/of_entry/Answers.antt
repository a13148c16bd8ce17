use Rattle.fluid_types.proofs.EntryNames.{entry_name-is_name}
use Rattle.fluid_types.proofs.names.ClientId.of_entry.Goals as goal

pub invariant_of-result : goal.invariant_of-result
invariant_of-result c = rw c.in_ok-text.ensures.ok (entry_name-is_name c.args.number c.ranges.number.fits)
