use Rattle.std.proofs.Common.{◌+◌, sym, subst}
use Rattle.fluid_desk.specs.Stopping.{RunsOn}
use Rattle.fluid_desk.proofs.Doing.{left_same}
use Rattle.fluid_desk.proofs.Reopening.{reopens, reopens_away, reopens_honest, reopened_there, reopen_run, unreopened_runs}
use Rattle.fluid_desk.proofs.Running.{line_runs, run_more, stops_more, told_runs}
use Rattle.fluid_desk.proofs.documents.reopen.Goals as goal

pub lent-requires : goal.lent-requires
lent-requires g c = reopened_there c.args.lanes.now c.reopen.new.self c.args.name.now c.args.moment c.in-Ok.field-0 c.in-Ok.ensures.does

pub returns-in-Ok-clause-does : goal.returns-in-Ok-clause-does
returns-in-Ok-clause-does g c = λ w desk at.
    reopens c.args.lanes.now c.reopen.new.self w c.args.name.now c.args.moment c.lent.result.now c.line_or_stop.result desk at c.lent.ensures.value
    (λ d of. c.line_or_stop.ensures _ (c.reopened_line.ensures _ (c.numbers_of.ensures c.args.lanes.now.limits d of))) c.in-Ok.field-0 c.in-Ok.ensures.does

pub returns-in-Ok-clause-runs : goal.returns-in-Ok-clause-runs
returns-in-Ok-clause-runs g c = λ before steps run.
    subst (λ o. RunsOn before (steps + 1) o c.line_or_stop.result) (sym (left_same c.reopen.new.self c.args.name.now c.lent.result.now c.lent.ensures.value))
    (told_runs before (steps + 1) c.reopen.new.self _ c.line_or_stop.result
    (run_more before steps c.reopen.new.self (reopen_run before steps c.args.lanes.now c.reopen.new.self c.args.name.now c.args.moment run c.in-Ok.field-0 c.in-Ok.ensures.does)) c.line_or_stop.ensures)

pub returns-in-Ok-turned_away-clause-does : goal.returns-in-Ok-turned_away-clause-does
returns-in-Ok-turned_away-clause-does g c = λ w desk at.
    reopens_away c.args.lanes.now c.reopen.new.self w c.args.name.now c.args.moment desk c.in-Err.fault c.line_or_stop-in-Ok-turned_away.result c.in-Err.ensures.does c.in-Ok-turned_away.field-0 c.in-Ok-turned_away.ensures
    (c.line_or_stop-in-Ok-turned_away.ensures _ c.turned_away_line.ensures)

pub returns-in-Ok-turned_away-clause-runs : goal.returns-in-Ok-turned_away-clause-runs
returns-in-Ok-turned_away-clause-runs g c = λ before steps run.
    line_runs before (steps + 1) c.reopen.new.self _ c.line_or_stop-in-Ok-turned_away.result
    (run_more before steps c.reopen.new.self
    (subst (RunsOn before steps c.reopen.new.self) (sym c.in-Ok-turned_away.ensures)
    (unreopened_runs before steps c.args.lanes.now c.reopen.new.self c.args.name.now c.args.moment run c.in-Err.fault c.in-Err.ensures.does)))
    (c.line_or_stop-in-Ok-turned_away.ensures _ c.turned_away_line.ensures)

pub returns-in-Err-turned_away-clause-does : goal.returns-in-Err-turned_away-clause-does
returns-in-Err-turned_away-clause-does g c = λ w desk at.
    let law = c.kept_is_loaded.ensures in
    reopens_honest c.args.lanes.now c.reopen.new.self w c.args.name.now c.args.moment desk law.first law.checkpoints c.in-Err.fault c.in-Err-turned_away.stop c.in-Err.ensures.does c.in-Err-turned_away.ensures

pub returns-in-Err-turned_away-clause-runs : goal.returns-in-Err-turned_away-clause-runs
returns-in-Err-turned_away-clause-runs g c = λ before steps run.
    stops_more before steps c.reopen.new.self c.in-Err-turned_away.stop
    (subst (RunsOn before steps c.reopen.new.self) (sym c.in-Err-turned_away.ensures)
    (unreopened_runs before steps c.args.lanes.now c.reopen.new.self c.args.name.now c.args.moment run c.in-Err.fault c.in-Err.ensures.does))
