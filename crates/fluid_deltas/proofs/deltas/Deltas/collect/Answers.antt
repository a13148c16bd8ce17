use Rattle.std.proofs.Common.{◌≡◌, ◌+◌, ◌-◌, ◌++◌, min, subst, rules, ◌∙◌, ap}
use Rattle.fluid_types.specs.Order.{AreNumberedFrom}
use Rattle.fluid_deltas.specs.Ranges.{held_between}
use Rattle.fluid_deltas.proofs.Slices.{collected_numbers}
use Rattle.fluid_deltas.proofs.deltas.Deltas.collect.Goals as goal

pub returns-clause-numbers : goal.returns-clause-numbers
returns-clause-numbers g c =
    let d = c.args.self.now in
    let held : AreNumberedFrom (d.before + 1) d.held = subst (λ e. AreNumberedFrom (e.before + 1) e.held) c.self.view_is c.self.invariant.numbered in
    let items : c.copy_between.new.messages.items ≡ c.in_ok-messages.messages.items ++ held_between d (c.args.from - 1) (c.args.to - 1) = search rules in
    let end : c.min.result ≡ min (c.args.to - 1) d.before = c.min.ensures ∙ ap (λ e. min (c.args.to - 1) e.before) c.self.view_is in
    let first = rw end at c.in_ok-messages.ensures.numbers in
    rw items (collected_numbers d c.args.from c.args.to c.in_ok-messages.messages.items held c.requires.first c.requires.ordered c.requires.last first)
