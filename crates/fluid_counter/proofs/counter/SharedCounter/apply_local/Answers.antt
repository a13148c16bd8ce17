use Rattle.std.proofs.Common.{rules, sym, ap, subst, ◌∙◌, FitsSigned, w64, unsigned_abs}
use Rattle.std.proofs.lemmas.Int.{to_z-of_z}
use Rattle.fluid_counter.specs.Counter.{HasRoom}
use Rattle.fluid_counter.proofs.Sums.{amount-fits, sum_kept-fits, local-fits, kept-local}
use Rattle.fluid_counter.proofs.counter.SharedCounter.apply_local.Goals as goal

pub overflow_add-self : goal.overflow_add-self
overflow_add-self c =
    let narrow : FitsSigned w64 c.args.op.now.amount = search rules in
    let amount = c.from.ensures ∙ to_z-of_z _ _ narrow in
    let room = subst (λ v. HasRoom v c.args.op.now.amount) (sym c.self.view_is) c.requires in
    rw (amount, to_z-of_z _ _ (sum_kept-fits c.self.invariant), to_z-of_z _ _ (amount-fits narrow)) (local-fits c.self.invariant c.args.op.now.amount room)

pub invariant_of-self-2 : goal.invariant_of-self-2
invariant_of-self-2 c =
    let narrow : FitsSigned w64 c.args.op.now.amount = search rules in
    let same = to_z-of_z _ _ narrow in
    let amount = c.from.ensures ∙ same in
    let size = c.from-2.ensures ∙ c.unsigned_abs.ensures.value ∙ ap unsigned_abs same in
    let room = subst (λ v. HasRoom v c.args.op.now.amount) (sym c.self.view_is) c.requires in
    rw (amount, size, c.in_ok-push_back.ensures.items, same, to_z-of_z _ _ (amount-fits narrow), to_z-of_z _ _ (sum_kept-fits c.self.invariant), to_z-of_z _ _ (local-fits c.self.invariant c.args.op.now.amount room))
    (kept-local c.self.invariant c.args.op.now.amount room)
