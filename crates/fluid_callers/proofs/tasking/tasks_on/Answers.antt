use Rattle.std.proofs.Common.{subst, sym}
use Rattle.std.proofs.lemmas.Result.{err_from_is_err_and}
use Rattle.fluid_types.specs.Order.{AreFirst}
use Rattle.fluid_desk.specs.Acting.{IsLine}
use Rattle.fluid_callers.specs.Tasking.{line_behind}
use Rattle.fluid_callers.proofs.Tasked.{tells, untold, line_reads}
use Rattle.fluid_callers.proofs.tasking.tasks_on.Goals as goal

pub tasks_line-requires : goal.tasks_line-requires
tasks_line-requires g c = subst AreFirst (sym c.as_slice.ensures.value) c.in_ok-messages.ensures.numbered

pub returns-in_err-messages-clause-does : goal.returns-in_err-messages-clause-does
returns-in_err-messages-clause-does g c = λ limits w d of.
    let e = err_from_is_err_and c.from_residual.result c.from_residual.ensures.1 in
    rw (e.1, e.2) (untold limits w d c.args.name.now c.messages_from.new.lane c.in_err-messages.field-0.0 (c.in_err-messages.ensures.does limits d of))

pub returns-in_err-messages-clause-runs : goal.returns-in_err-messages-clause-runs
returns-in_err-messages-clause-runs g c =
    let e = err_from_is_err_and c.from_residual.result c.from_residual.ensures.1 in
    rw (e.1, e.2) (record { later = c.in_err-messages.ensures.runs.later; sides = c.in_err-messages.ensures.runs.sides; ends = c.in_err-messages.ensures.runs.ends })

pub returns-clause-does : goal.returns-clause-does
returns-clause-does g c = λ limits w d of.
    tells limits w d c.args.name.now c.messages_from.new.lane c.in_ok-messages.messages.items c.line_or_stop.result (c.in_ok-messages.ensures.does limits d of)
    (subst (λ ms. IsLine (line_behind c.args.name.now ms) c.line_or_stop.result) c.as_slice.ensures.value (c.line_or_stop.ensures _ c.tasks_line.ensures))

pub returns-clause-runs : goal.returns-clause-runs
returns-clause-runs g c =
    line_reads c.args.lane.now c.messages_from.new.lane _ c.line_or_stop.result c.in_ok-messages.ensures.runs.later c.in_ok-messages.ensures.runs.sides (c.line_or_stop.ensures _ c.tasks_line.ensures)
