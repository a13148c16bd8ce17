use Rattle.std.proofs.Common.{ap, ◌∙◌}
use Rattle.fluid_table.specs.Table.{byte_order}
use Rattle.fluid_table.specs.Keyed.{table_of}
use Rattle.fluid_table.proofs.Maps.{from_sorted_nothing}
use Rattle.fluid_table.proofs.map.SortedMap.clear.Goals as goal

pub returns-clause-values : goal.returns-clause-values
returns-clause-values g c = ap (table_of (λ pair. g.K.Key.text_of pair.0) (λ pair. pair.1)) c.clear.ensures.items ∙ from_sorted_nothing byte_order
