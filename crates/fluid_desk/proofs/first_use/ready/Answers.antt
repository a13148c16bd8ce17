use Rattle.fluid_desk.proofs.Opening.{ready_honest}
use Rattle.fluid_desk.proofs.Running.{use_run, ready_runs}
use Rattle.fluid_desk.proofs.first_use.ready.Goals as goal

pub returns-in-Ok-clause-runs : goal.returns-in-Ok-clause-runs
returns-in-Ok-clause-runs g c = λ before steps run. use_run before steps c.args.lanes.now c.open.new.self c.args.name.now c.args.moment run c.in-Ok.ensures.does

pub returns-in-Err-turned_away-clause-honest : goal.returns-in-Err-turned_away-clause-honest
returns-in-Err-turned_away-clause-honest g c = λ w desk.
    ready_honest c.kept_is_loaded.ensures.first c.kept_is_loaded.ensures.checkpoints c.args.lanes.now c.open.new.self w c.args.name.now c.args.moment c.in-Err.fault c.in-Err-turned_away.stop c.in-Err.ensures.does desk c.in-Err-turned_away.ensures

pub returns-in-Err-turned_away-clause-runs : goal.returns-in-Err-turned_away-clause-runs
returns-in-Err-turned_away-clause-runs g c = λ before steps run.
    ready_runs before steps c.args.lanes.now c.open.new.self c.args.name.now c.args.moment c.in-Err.fault c.in-Err-turned_away.stop c.in-Err.ensures.does run c.in-Err-turned_away.ensures
