use Rattle.std.proofs.Common.{ap, ◌∙◌, true}
use Rattle.std.specs.FinMap.{empty, insert, entries-insert}
use Rattle.std.specs.FinMap.Entries.{put}
use Rattle.json.specs.Print.{escape_byte}
use Rattle.fluid_json.specs.Tree.{null, boolean, object, members}
use Rattle.fluid_json.specs.Printed.{printed}
use Rattle.fluid_table.specs.Table.{byte_order}
use Rattle.fluid_table.proofs.Places.{byte_order_total}
use Rattle.fluid_map.specs.Examples.{a, b}
use Rattle.fluid_map.proofs.Contents.{no_entries}
use Rattle.fluid_map.proofs.examples.content_in_order.Goals as goal

pub returns : goal.returns
unfolding escape_byte
returns c =
    ap (λ es. printed (object (members es)))
    (entries-insert byte_order_total (insert empty b (boolean true)) a null
    ∙ ap (put byte_order a null) (entries-insert byte_order_total empty b (boolean true) ∙ ap (put byte_order b (boolean true)) no_entries))
