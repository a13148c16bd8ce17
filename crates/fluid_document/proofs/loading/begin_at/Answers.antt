use Rattle.std.proofs.Common.{ap, arith}
use Rattle.std.proofs.lemmas.Result.{IfOk-weaker}
use Rattle.fluid_deltas.proofs.Telling.{tells_from, tells_both}
use Rattle.fluid_document.specs.Loading.{entered_in}
use Rattle.fluid_document.specs.Entries.{Entries}
use Rattle.fluid_document.specs.Taking.{IsResumed}
use Rattle.fluid_document.proofs.Reloading.{begun_one}
use Rattle.fluid_document.proofs.Beginnings.{begun_refused, begun_long, begun_with, begins_with, begins_kept, entered-entries_in}
use Rattle.fluid_document.proofs.Handed.{handed_on}
use Rattle.fluid_document.proofs.loading.begin_at.Goals as goal

pub returns-in_err-form-clause-begun : goal.returns-in_err-form-clause-begun
returns-in_err-form-clause-begun g c =
    rw (handed_on c.from_residual.result _ c.from_residual.ensures.1) (tells_from _ _ _ (λ content said. begun_refused content c.args.number c.in_err-form.field-0.0 said) c.in_err-form.ensures.said)

pub returns-then-entered_in-records-clause-begun : goal.returns-then-entered_in-records-clause-begun
returns-then-entered_in-records-clause-begun g c =
    tells_both _ _ _ _ (λ content said lengths. begun_long content c.args.number c.in_ok-form.form _ said
    (omega (arith, c.if-entered_in-records.true, c.entered_in.ensures, c.len-records.ensures, c.in_ok-form.ensures.same.records, lengths.records)) c.bad_field.ensures)
    c.in_ok-form.ensures.said (g.K.Keeper.sized c.args.keeper.now)

pub returns-in-Two-clause-within : goal.returns-in-Two-clause-within
returns-in-Two-clause-within g c =
    let few = c.in_ok-form.ensures.same.records in
    IfOk-weaker c.begin_with.result (IsResumed c.in-Two.state) _
    (λ d is. omega (arith, ap (λ (e : Entries). e.entered) is.entries, entered-entries_in c.in-Two.state, c.if-entered_in-records.false, c.entered_in.ensures, ap entered_in c.in-Two.is, c.len-records.ensures, few)) c.begin_with.ensures.resumed

pub returns-in-Two-clause-begun : goal.returns-in-Two-clause-begun
returns-in-Two-clause-begun g c =
    tells_both _ _ _ _ (λ content said lengths. begun_with (λ d. d.entries) c.begin_with.result content c.args.number c.deltas-deltas.result c.in-Two.state said
    (omega (arith, c.if-entered_in-records.false, c.entered_in.ensures, ap entered_in c.in-Two.is, c.len-records.ensures, c.in_ok-form.ensures.same.records, lengths.records))
    (omega (arith, c.deltas-deltas.ensures, c.in_ok-form.ensures.same.deltas, lengths.deltas)) c.begin_with.ensures.begun)
    (rw c.in-Two.is at c.in_ok-form.ensures.said) (g.K.Keeper.sized c.args.keeper.now)

pub returns-in-Two-clause-kept : goal.returns-in-Two-clause-kept
returns-in-Two-clause-kept g c = λ l kept.
    IfOk-weaker c.begin_with.result (IsResumed c.in-Two.state) _ (λ d is.
    tells_both _ _ _ _ (λ content said one. begins_with c.blobs_of_messages_are_read_back.ensures l content c.args.number c.in-Two.state d said is one) (rw c.in-Two.is at c.in_ok-form.ensures.said) kept) c.begin_with.ensures.resumed

pub returns-in-One-clause-begun : goal.returns-in-One-clause-begun
returns-in-One-clause-begun g c =
    tells_both _ _ _ _ (λ content said lengths. begun_one content c.args.number c.in-One.field-0 _ said
    (omega (arith, c.if-entered_in-records.false, c.entered_in.ensures, ap entered_in c.in-One.is, c.len-records.ensures, c.in_ok-form.ensures.same.records, lengths.records)) c.new.ensures.entries)
    (rw c.in-One.is at c.in_ok-form.ensures.said) (g.K.Keeper.sized c.args.keeper.now)

pub returns-in-One-clause-kept : goal.returns-in-One-clause-kept
returns-in-One-clause-kept g c = λ l kept.
    tells_from _ _ _ (λ content is. begins_kept l _ content c.new.ensures.entries c.new.ensures.messages.0 c.new.ensures.messages.1 c.new.ensures.part is) kept
