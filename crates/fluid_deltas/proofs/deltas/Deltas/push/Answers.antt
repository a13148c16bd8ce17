use Rattle.std.proofs.Common.{◌≡◌, ◌+◌, ◌∷◌, [], ◌++◌, length, rules, sym, subst}
use Rattle.fluid_deltas.proofs.Slices.{push_in_order, push_part, push_stands}
use Rattle.fluid_deltas.proofs.deltas.Deltas.push.Goals as goal

pub invariant_of-self : goal.invariant_of-self
invariant_of-self c =
    let held = c.self.inside.pages.messages in
    let items : c.push.new.self.messages ≡ held ++ c.args.message ∷ [] = search rules in
    let next : c.args.message.number ≡ c.self.inside.before + length held + 1 = subst (λ d. c.args.message.number ≡ d.before + length d.held + 1) (sym c.self.view_is) c.requires.next in
    rw items (push_in_order c.self.inside.before c.self.inside.last held c.args.message c.self.invariant next c.requires.keepable)

pub returns-clause-part : goal.returns-clause-part
returns-clause-part c = λ order at part. push_part c.args.self.now _ order c.args.message (search rules) (search rules) at part

pub returns-clause-stands : goal.returns-clause-stands
returns-clause-stands c = λ order content stands.
    push_stands c.args.self.now _ order content c.args.message (search rules) (search rules) c.requires.next c.requires.keepable stands
