use Rattle.std.proofs.Common.{rules, ◌≡◌, ◌+◌, ◌-◌, ◌<◌, length, get_or, ap, ◌∙◌, subst, sym, arith}
use Rattle.fluid_types.specs.Order.{AreNumberedFrom}
use Rattle.fluid_types.proofs.Numbers.{numbered_at}
use Rattle.fluid_deltas.proofs.deltas.Deltas.message.Goals as goal

pub returns-clause-number : goal.returns-clause-number
returns-clause-number c =
    let d = c.args.self.now in
    let place = c.args.place - d.before in
    let m = c.at.result.now in
    let held : AreNumberedFrom (d.before + 1) d.held = subst (λ e. AreNumberedFrom (e.before + 1) e.held) c.self.view_is c.self.invariant.numbered in
    let is : m ≡ get_or d.held place m = search rules in
    let number = numbered_at d.held (d.before + 1) place m (omega (arith, c.requires.behind, c.requires.pushed)) held in
    ap (λ x. x.number) is ∙ number ∙ omega (arith, c.requires.behind)
