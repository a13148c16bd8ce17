use Rattle.std.proofs.Common.{◌≡◌, ◌∙◌, ◌+◌, ◌-◌, length, drop, refl, ap, subst, length-drop, arith}
use Rattle.fluid_feed.specs.Tails.{ATail, IsTrimmed}
use Rattle.fluid_feed.proofs.tail.Tail.trim.Goals as goal

pub returns-then-count : goal.returns-then-count
returns-then-count c =
    let n = c.len-count.ensures in let few = c.if-count.true in
    subst (λ (t : ATail). IsTrimmed t t) c.self.view_is (record { short = omega (arith, n, few); count = 0; few = omega arith; from = omega arith; messages = refl })

pub invariant_of-self : goal.invariant_of-self
invariant_of-self c =
    let extra = c.len-count.result - 2048 in
    let cut : c.drop-drain.new.self.0.items ≡ drop extra c.self.inside.texts.items = c.drop-drain.ensures.items ∙ c.drain.ensures.kept in
    let left : length c.drop-drain.new.self.0.items ≡ length c.self.inside.texts.items - extra = ap length cut ∙ length-drop extra c.self.inside.texts.items in
    let is = c.self.invariant in let n = c.len-count.ensures in let some = c.self.inside.texts.ok.0 in
    (omega (arith, is.0), omega (arith, is.1, left, n, some))

pub returns : goal.returns
returns c =
    let extra = c.len-count.result - 2048 in
    let cut : c.drop-drain.new.self.0.items ≡ drop extra c.self.inside.texts.items = c.drop-drain.ensures.items ∙ c.drain.ensures.kept in
    let left : length c.drop-drain.new.self.0.items ≡ length c.self.inside.texts.items - extra = ap length cut ∙ length-drop extra c.self.inside.texts.items in
    let n = c.len-count.ensures in let many = c.if-count.false in let some = c.self.inside.texts.ok.0 in
    subst (λ (t : ATail). IsTrimmed t (record { from = c.self.inside.from + extra; messages = c.drop-drain.new.self.0.items })) c.self.view_is
    (record { short = omega (arith, left, n, some); count = extra; few = omega (arith, n, many, some); from = refl; messages = cut })
