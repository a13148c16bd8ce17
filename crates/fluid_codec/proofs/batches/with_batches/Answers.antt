use Rattle.std.proofs.Common.{inr, sym, ap, ◌∙◌}
use Rattle.std.proofs.lemmas.List.{nil_from_length}
use Rattle.fluid_json.specs.Tree.{trees}
use Rattle.fluid_codec.specs.Behind.{behind}
use Rattle.fluid_codec.specs.Events.{each, batch}
use Rattle.fluid_codec.proofs.Each.{item_refused, no_item, refused}
use Rattle.fluid_codec.proofs.batches.with_batches.Goals as goal

pub returns-in_err-read : goal.returns-in_err-read
returns-in_err-read c =
    let read = batch c.args.field in
    refused c.from_residual.result c.in_err-read.field-0.0 (behind c.loop-item.read (read c.in-Some.item)) (behind c.args.read (each read (trees c.args.items)))
    c.from_residual.ensures c.in_err-read.ensures (λ h.
    sym c.loop-item.invariant.done
    ∙ ap (λ vs. behind c.loop-item.read (each read (trees vs))) c.in-Some.ensures.steps.0
    ∙ item_refused read c.loop-item.read c.in_err-read.field-0.0 c.in-Some.item (trees c.next.new.self.rest.items) h)

pub returns : goal.returns
returns c =
    let none = nil_from_length _ (sym c.loop-item.invariant.len ∙ c.in-None.ensures.steps.0) in
    inr (
    sym (no_item (batch c.args.field) c.loop-item.read)
    ∙ ap (λ vs. behind c.loop-item.read (each (batch c.args.field) (trees vs))) (sym none)
    ∙ c.loop-item.invariant.done)
