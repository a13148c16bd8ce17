use Rattle.std.proofs.Common.{ap, sym, length, ◌∙◌}
use Rattle.std.proofs.lemmas.List.{length-map}
use Rattle.std.specs.FinMap.{len-entries, entries-from_sorted}
use Rattle.fluid_table.specs.Table.{byte_order}
use Rattle.fluid_table.proofs.Places.{holds}
use Rattle.fluid_lanes.proofs.rows.Rows.len.Goals as goal

pub returns : goal.returns
returns g c =
    rw (← c.self.view_is)
    (c.len.ensures ∙ c.self.inside.rows.ok.0 ∙ sym (len-entries _ ∙ ap length (entries-from_sorted byte_order _ (holds _ c.self.invariant)) ∙ length-map c.self.inside.rows.items _))
