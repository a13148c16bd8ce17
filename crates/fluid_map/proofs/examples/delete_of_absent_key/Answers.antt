use Rattle.std.specs.FinMap.{empty, get-empty}
use Rattle.fluid_map.specs.Examples.{a, b}
use Rattle.std.proofs.Common.{◌∙◌}
use Rattle.fluid_table.specs.Table.{byte_order}
use Rattle.fluid_table.proofs.Places.{get_inserted}
use Rattle.fluid_map.proofs.Replays.{delete_of_absent}
use Rattle.fluid_json.specs.Tree.{null}
use Rattle.fluid_map.proofs.examples.delete_of_absent_key.Goals as goal

pub returns : goal.returns
returns c key = delete_of_absent _ a key (get_inserted empty b null a ∙ get-empty byte_order a)
