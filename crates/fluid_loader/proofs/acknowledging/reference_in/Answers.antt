use Rattle.std.proofs.Common.{rules, ◌≡◌, ◌⊎◌, ◌+◌, ◌-◌, ◌<◌, cond, Some, None, length, sym, ap, ◌∙◌}
use Rattle.fluid_rules.specs.Scribe.{reference_of}
use Rattle.fluid_loader.proofs.Acks.{not_in, is_at}
use Rattle.fluid_loader.proofs.acknowledging.reference_in.Goals as goal

pub returns-then-number-eq0 : goal.returns-then-number-eq0
returns-then-number-eq0 c =
    let out : (c.args.number ≡ 0) ⊎ (length c.args.order.now < c.args.number) = search rules in
    sym (not_in c.args.number c.args.order.now c.requires out)

pub returns-then-waits : goal.returns-then-waits
returns-then-waits c =
    let number = c.args.number in
    let order = c.args.order.now in
    let m = c.index-order-place.result in
    let sum : (number - 1) + 1 ≡ number = search rules in
    let within : number - 1 < length order = search rules in
    ap Some c.reference_of.ensures
    ∙ sym (is_at number (number - 1) order m c.requires sum within c.index-order-place.is ∙ ap (λ b. cond b (Some (reference_of m)) None) (sym c.waits.ensures ∙ c.if-waits.true))

pub returns-else-waits : goal.returns-else-waits
returns-else-waits c =
    let number = c.args.number in
    let order = c.args.order.now in
    let m = c.index-order-place.result in
    let sum : (number - 1) + 1 ≡ number = search rules in
    let within : number - 1 < length order = search rules in
    sym (is_at number (number - 1) order m c.requires sum within c.index-order-place.is ∙ ap (λ b. cond b (Some (reference_of m)) None) (sym c.waits.ensures ∙ c.if-waits.false))
