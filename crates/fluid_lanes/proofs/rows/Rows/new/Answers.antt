use Rattle.std.proofs.Common.{ap, ◌∙◌}
use Rattle.fluid_table.specs.Table.{byte_order}
use Rattle.fluid_table.specs.Keyed.{table_of}
use Rattle.fluid_table.proofs.Maps.{from_sorted_nothing}
use Rattle.fluid_lanes.specs.Rows.{name_of, value_of}
use Rattle.fluid_lanes.proofs.rows.Rows.new.Goals as goal

pub returns : goal.returns
returns g c = ap (table_of name_of value_of) c.new.ensures.items ∙ from_sorted_nothing byte_order
