use Rattle.std.proofs.Common.{ap, arith, length, sym, subst, ◌∙◌}
use Rattle.std.proofs.lemmas.Result.{err_from_is_err_and}
use Rattle.fluid_document.specs.Kept.{IsPrinted}
use Rattle.fluid_lane.proofs.Composed.{flushed_on, stores_memory, stores_on}
use Rattle.fluid_lane.proofs.lane.Lane.checkpoint.Goals as goal

pub returns-in_err-text-clause-stores : goal.returns-in_err-text-clause-stores
returns-in_err-text-clause-stores g c =
    let e = err_from_is_err_and c.from_residual.result c.from_residual.ensures.1 in
    let s = c.in-Ok.ensures in
    let f = c.in-Ok-flush.ensures in
    rw (e.1, e.2) (stores_memory c.args.self.now c.flush.new.self (flushed_on c.args.self.now c.settle.new.self c.flush.new.self s.kept s.same.1 f.puts) (f.same.0 ∙ s.same.0, f.same.1 ∙ s.same.1) f.level (f.reads ∙ s.reads))

pub returns-clause-stores : goal.returns-clause-stores
returns-clause-stores g c =
    let s = c.in-Ok.ensures in
    let f = c.in-Ok-flush.ensures in
    let st = c.store.ensures in
    stores_on c.args.self.now c.flush.new.self c.store.new.self c.as_slice-2.result.now c.store.result
    (subst (λ e. IsPrinted e c.as_slice-2.result.now) (ap (λ s. s.entries) c.self-2.view_is ∙ f.same.0 ∙ s.same.0) (subst (IsPrinted _) (sym c.as_slice-2.ensures) c.in_ok-text.ensures))
    (omega (arith, c.if-length-self.false, ap length c.as_slice.ensures, ap length c.as_slice-2.ensures, ap (λ s. s.limits.bytes) c.self-2.view_is, ap (λ l. l.bytes) (f.goes.limits ∙ s.goes.limits)))
    (flushed_on c.args.self.now c.settle.new.self c.flush.new.self s.kept s.same.1 f.puts) st.kept st.number st.stored st.fails st.cause (omega (arith, s.goes.later, f.goes.later))
    (st.same.0 ∙ f.same.0 ∙ s.same.0, st.same.1 ∙ f.same.1 ∙ s.same.1) st.level (st.reads ∙ f.reads ∙ s.reads)
