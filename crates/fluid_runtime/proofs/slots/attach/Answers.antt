use Rattle.std.proofs.Common.{is_some, sym, ap, ap₂, ◌∙◌}
use Rattle.std.specs.FinMap.{get, insert}
use Rattle.fluid_runtime.proofs.Told.{some_mapped, attached_again, attached_first}
use Rattle.fluid_runtime.proofs.slots.attach.Goals as goal

pub returns-then-is_some-clause-told : goal.returns-then-is_some-clause-told
returns-then-is_some-clause-told c =
    attached_again c.args.number c.args.address.now c.args.slots.now.values c.args.kind
    (ap (λ k. is_some (get c.args.slots.now.values k)) (sym c.as_str.ensures.bytes)
    ∙ ap is_some (sym c.get.ensures) ∙ some_mapped _ c.get.result ∙ sym c.is_some.ensures ∙ c.if-is_some.true)

pub returns-clause-told : goal.returns-clause-told
returns-clause-told c =
    attached_first c.args.number c.args.address.now c.args.slots.now.values c.insert.new.self.values c.args.kind c.fresh-object.result c.as_str.ensures.name
    (ap (λ k. is_some (get c.args.slots.now.values k)) (sym c.as_str.ensures.bytes)
    ∙ ap is_some (sym c.get.ensures) ∙ some_mapped _ c.get.result ∙ sym c.is_some.ensures ∙ c.if-is_some.false)
    (c.insert.ensures.values
    ∙ ap₂ (λ m k. insert m k (record { object = c.fresh-object.result; last = c.args.number })) c.in_ok-reserve.ensures.same (c.in_ok-name.ensures ∙ c.as_str-2.ensures.bytes))
    c.fresh-object.ensures.fresh c.fresh-object.ensures.quiet
