use Rattle.std.proofs.Common.{sym, ap, ◌∙◌}
use Rattle.std.specs.List.{position}
use Rattle.fluid_steps.specs.Grammar.{is_blank}
use Rattle.fluid_steps.proofs.Cutting.{begins_at, ends_at}
use Rattle.fluid_steps.proofs.reading.cut.Goals as goal

pub range-requires-clause-end_boundary : goal.range-requires-clause-end_boundary
range-requires-clause-end_boundary c = begins_at c.args.text.now c.in-Some.place (ap (position is_blank) (sym c.as_bytes.ensures.value) ∙ sym c.blank_place.ensures ∙ c.in-Some.is)

pub range_from-requires : goal.range_from-requires
range_from-requires c =
    let found = ap (position is_blank) (sym c.as_bytes.ensures.value) ∙ sym c.blank_place.ensures ∙ c.in-Some.is in
    λ _. ends_at c.args.text.now c.in-Some.place c.utf8.text found
