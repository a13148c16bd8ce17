use Rattle.std.proofs.Common.{ap, sym, ◌∙◌}
use Rattle.std.specs.FinMap.{entries-from_sorted}
use Rattle.fluid_table.specs.Table.{byte_order}
use Rattle.fluid_table.specs.Keyed.{pairs_of}
use Rattle.fluid_table.proofs.Places.{holds}
use Rattle.fluid_lanes.specs.Rows.{name_of, value_of}
use Rattle.fluid_lanes.proofs.rows.Rows.as_slice.Goals as goal

pub returns : goal.returns
returns g c = rw (← c.self.view_is) (ap (pairs_of name_of value_of) c.as_slice.ensures.value ∙ sym (entries-from_sorted byte_order _ (holds _ c.self.invariant)))
