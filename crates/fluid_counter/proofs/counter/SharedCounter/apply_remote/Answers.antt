use Rattle.std.proofs.Common.{rules, sym, ap, subst, ◌∙◌, FitsSigned, w64}
use Rattle.std.proofs.lemmas.Int.{to_z-of_z}
use Rattle.fluid_counter.specs.Counter.{HasRoom}
use Rattle.fluid_counter.proofs.Sums.{amount-fits, total-fits, remote-fits, stands_after}
use Rattle.fluid_counter.proofs.counter.SharedCounter.apply_remote.Goals as goal

pub returns-clause-stands : goal.returns-clause-stands
returns-clause-stands c = λ total amounts is.
    let narrow : FitsSigned w64 c.args.op.now.amount = search rules in
    let amount = c.from.ensures ∙ to_z-of_z _ _ narrow in
    let room = subst (λ v. HasRoom v c.args.op.now.amount) (sym c.self.view_is) c.requires in
    rw (amount, to_z-of_z _ _ (amount-fits narrow), to_z-of_z _ _ (total-fits c.self.invariant), to_z-of_z _ _ (remote-fits c.self.invariant c.args.op.now.amount room))
    (stands_after total amounts c.args.op.now.amount c.self.inside.acknowledged (ap (λ s. s.acknowledged) c.self.view_is ∙ is))
