use Rattle.std.proofs.Common.{ap, ◌∙◌}
use Rattle.fluid_table.specs.Table.{byte_order}
use Rattle.fluid_table.proofs.Maps.{from_sorted_nothing}
use Rattle.fluid_clients.proofs.Indexed.{nobody}
use Rattle.fluid_clients.proofs.Seating.{rows_in}
use Rattle.fluid_clients.proofs.table.Clients.new.Goals as goal

pub returns : goal.returns
returns c = ap rows_in c.new.ensures.items ∙ from_sorted_nothing byte_order
