use Rattle.std.proofs.Common.{rules, ◌≡◌, ◌≤◌, ◌++◌, ◌∷◌, [], max, ap, ◌∙◌, subst, arith}
use Rattle.fluid_deltas.proofs.Slices.{copies_nothing, copies_more, copies_all}
use Rattle.fluid_deltas.proofs.deltas.Deltas.copy_between.Goals as goal

pub loop-place-init : goal.loop-place-init
loop-place-init c = copies_nothing _ _ _ _

pub loop-place-preserved : goal.loop-place-preserved
loop-place-preserved c =
    let d = c.args.self.now in
    let first : c.max-first.result ≡ max c.args.start d.before = c.max-first.ensures ∙ ap (λ e. max c.args.start e.before) c.self.view_is in
    let reached : d.before ≤ c.max-first.result = omega (arith, first) in
    let items : c.push.new.self.items ≡ c.loop-place.messages.items ++ c.message.result.now ∷ [] = search rules in
    copies_more d c.max-first.result c.args.end c.loop-place.place c.args.messages.now.items c.loop-place.messages.items c.push.new.self.items c.message.result.now
    c.loop-place.invariant reached c.loop-place.auto.place c.loop-place-test.true c.requires c.message.ensures.is items

pub returns : goal.returns
returns c =
    let d = c.args.self.now in
    let first : c.max-first.result ≡ max c.args.start d.before = c.max-first.ensures ∙ ap (λ e. max c.args.start e.before) c.self.view_is in
    copies_all d c.args.start c.max-first.result c.args.end c.loop-place.place c.args.messages.now.items c.loop-place.messages.items c.loop-place.invariant first c.loop-place.auto.place c.loop-place-test.false
