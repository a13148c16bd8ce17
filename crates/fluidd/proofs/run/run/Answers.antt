use Rattle.std.proofs.Common.{rules, ◌≡◌, refl, subst, List, ℕ, Option, Some, None}
use Rattle.std.specs.Prelude.{IfSome}
use Rattle.fluid_log.specs.Shelving.{AreWhole}
use Rattle.fluid_load.specs.Ending.{IsNewDeskOf, outside}
use Rattle.fluidd.specs.Workloads.{IsBetween, Summarizes}
use Rattle.fluidd.proofs.Worked.{unworked}
use Rattle.fluidd.proofs.Bounded.{work_bounds}
use Rattle.std.proofs.lemmas.Bool.{false≢true}
use Rattle.fluid_world.specs.Ending.{Outside, full}
use Rattle.fluidd.specs.Scripts.{Scripts}
use Rattle.fluidd.specs.Tasks.{task_of, IsScripting, IsWorking}
use Rattle.fluidd.specs.declared.task.Task.TheVariants as taken
use Rattle.fluidd.proofs.Statuses.{wanting}
use Rattle.fluidd.proofs.Scripted.{wanting as unscripted}
use Rattle.fluidd.proofs.Served.{served, as_many, scripted, scripted_then, as_loaded, is_scripting, is_reading, uses_desk, working, is_working, works_on_desk, as_worked}
use Rattle.fluidd.proofs.run.run.Goals as goal

pub returns-in-Err-clause-sequence : goal.returns-in-Err-clause-sequence
returns-in-Err-clause-sequence g c = λ is. rw c.code-in-Err.ensures (wanting full _ _)

pub returns-in-Ok-Serve-clause-serve : goal.returns-in-Ok-Serve-clause-serve
returns-in-Ok-Serve-clause-serve g c = λ port connections lines is.
    let asked = rw c.in-Ok-Serve.field-0-is at c.in-Ok-Serve.ensures in
    let many : c.in-Ok-Serve.connections ≡ connections = as_many _ c.in-Ok-Serve.port c.in-Ok-Serve.connections c.in-Ok-Serve.lines port connections lines asked is in
    let code = rw c.served_status.ensures at c.code.ensures in
    let ends = served c.in-Ok-Serve.connections (g.F.Front.seen c.args.front) (g.P.Spawner.refusals c.args.spawner) (g.F.Front.seen c.serve-end.result.2)
    (g.P.Spawner.refusals c.serve-end.result.3) c.serve-end.result.0 c.serve-end.ensures.front c.serve-end.ensures.refusals in
    (rw (← many, code) ends, (c.serve-end.ensures.shelves, refl))

-- scripts

pub returns-in-Ok-Script-clause-script : goal.returns-in-Ok-Script-clause-script
returns-in-Ok-Script-clause-script g c = λ load is.
    let asked = rw c.in-Ok-Script.field-0-is at c.in-Ok-Script.ensures in
    let before : Outside = record { source = g.S.Source.seen c.args.input.now; sink = g.K.Sink.seen c.args.output.now; shelves = g.B.Shelves.seen c.args.desk.shelves; store = g.O.Objects.seen c.args.desk.objects } in
    let now : Outside = record { source = g.S.Source.seen c.run_script-status.new.input; sink = g.K.Sink.seen c.run_script-status.new.output; shelves = g.B.Shelves.seen c.run_script-status.result.1.shelves; store = g.O.Objects.seen c.run_script-status.result.1.objects } in
    let same : ◌≡◌ {A = Option (List ℕ)} None load = as_loaded (task_of c.args.words.now) None load asked is in
    subst (λ (l : Option (List ℕ)). Scripts g.told l before now c.run_script-status.result.0) same c.run_script-status.ensures

pub returns-in-Ok-Load-clause-script : goal.returns-in-Ok-Load-clause-script
returns-in-Ok-Load-clause-script g c = λ load is.
    let asked = rw c.in-Ok-Load.field-0-is at c.in-Ok-Load.ensures in
    let before : Outside = record { source = g.S.Source.seen c.args.input.now; sink = g.K.Sink.seen c.args.output.now; shelves = g.B.Shelves.seen c.args.desk.shelves; store = g.O.Objects.seen c.args.desk.objects } in
    let now : Outside = record { source = g.S.Source.seen c.run_script-status-in-Ok-Load.new.input; sink = g.K.Sink.seen c.run_script-status-in-Ok-Load.new.output; shelves = g.B.Shelves.seen c.run_script-status-in-Ok-Load.result.1.shelves; store = g.O.Objects.seen c.run_script-status-in-Ok-Load.result.1.objects } in
    let same : ◌≡◌ {A = Option (List ℕ)} (Some c.in-Ok-Load.document) load = as_loaded (task_of c.args.words.now) (Some c.in-Ok-Load.document) load asked is in
    subst (λ (l : Option (List ℕ)). Scripts g.told l before now c.run_script-status-in-Ok-Load.result.0) same c.run_script-status-in-Ok-Load.ensures

pub returns-in-Err-clause-script : goal.returns-in-Err-clause-script
returns-in-Err-clause-script g c = λ load is.
    let before : Outside = record { source = g.S.Source.seen c.args.input.now; sink = g.K.Sink.seen c.args.output.now; shelves = g.B.Shelves.seen c.args.desk.shelves; store = g.O.Objects.seen c.args.desk.objects } in
    let whole : IsScripting (task_of c.args.words.now) → AreWhole (g.B.Shelves.seen c.args.desk.shelves) = search (c.requires.1.1.1.1.1.1.1.1.1.1.1.1.1.1.1.1.1.1) depth 20 in
    rw c.code-in-Err.ensures (unscripted g.told load before (whole (is_scripting (task_of c.args.words.now) load is)))

pub returns-in-Ok-Sequence-clause-script : goal.returns-in-Ok-Sequence-clause-script
returns-in-Ok-Sequence-clause-script g c = λ load is.
    let asked = rw c.in-Ok-Sequence.field-0-is at c.in-Ok-Sequence.ensures in
    absurd (false≢true (scripted_then (task_of c.args.words.now) load taken.Sequence asked is))

pub returns-in-Ok-Serve-clause-script : goal.returns-in-Ok-Serve-clause-script
returns-in-Ok-Serve-clause-script g c = λ load is.
    let asked = rw c.in-Ok-Serve.field-0-is at c.in-Ok-Serve.ensures in
    absurd (false≢true (scripted_then (task_of c.args.words.now) load (taken.Serve c.in-Ok-Serve.port c.in-Ok-Serve.connections c.in-Ok-Serve.lines) asked is))

pub returns-in-Ok-Show-clause-script : goal.returns-in-Ok-Show-clause-script
returns-in-Ok-Show-clause-script g c = λ load is.
    let asked = rw c.in-Ok-Show.field-0-is at c.in-Ok-Show.ensures in
    absurd (false≢true (scripted_then (task_of c.args.words.now) load (taken.Show c.in-Ok-Show.status c.in-Ok-Show.text) asked is))

-- what a script needs, and what it touches

pub returns-in-Ok-Script-clause-untouched : goal.returns-in-Ok-Script-clause-untouched
returns-in-Ok-Script-clause-untouched g c = λ none.
    let asked = rw c.in-Ok-Script.field-0-is at c.in-Ok-Script.ensures in
    absurd (none (is_reading (task_of c.args.words.now) None (scripted (task_of c.args.words.now) None asked)))

pub returns-in-Ok-Load-clause-untouched : goal.returns-in-Ok-Load-clause-untouched
returns-in-Ok-Load-clause-untouched g c = λ none.
    let asked = rw c.in-Ok-Load.field-0-is at c.in-Ok-Load.ensures in
    absurd (none (is_reading (task_of c.args.words.now) (Some c.in-Ok-Load.document) (scripted (task_of c.args.words.now) (Some c.in-Ok-Load.document) asked)))

pub returns-in-Ok-Script-clause-desk : goal.returns-in-Ok-Script-clause-desk
returns-in-Ok-Script-clause-desk g c = λ none.
    let asked = rw c.in-Ok-Script.field-0-is at c.in-Ok-Script.ensures in
    absurd (none (uses_desk (task_of c.args.words.now) None (scripted (task_of c.args.words.now) None asked)))

pub returns-in-Ok-Load-clause-desk : goal.returns-in-Ok-Load-clause-desk
returns-in-Ok-Load-clause-desk g c = λ none.
    let asked = rw c.in-Ok-Load.field-0-is at c.in-Ok-Load.ensures in
    absurd (none (uses_desk (task_of c.args.words.now) (Some c.in-Ok-Load.document) (scripted (task_of c.args.words.now) (Some c.in-Ok-Load.document) asked)))

-- workloads

pub returns-in-Ok-Workload-clause-workload : goal.returns-in-Ok-Workload-clause-workload
returns-in-Ok-Workload-clause-workload g c = λ number clients ops is.
    let asked = rw c.in-Ok-Workload.field-0-is at c.in-Ok-Workload.ensures in
    let before : Outside = outside (g.K.Sink.seen c.args.output.now) (g.B.Shelves.seen c.args.desk.shelves) (g.O.Objects.seen c.args.desk.objects) in
    let now : Outside = outside (g.K.Sink.seen c.run_workload-status.new.output) (g.B.Shelves.seen c.run_workload-status.result.1.shelves) (g.O.Objects.seen c.run_workload-status.result.1.objects) in
    let same = as_worked (task_of c.args.words.now) c.in-Ok-Workload.number c.in-Ok-Workload.clients c.in-Ok-Workload.ops number clients ops asked is in
    subst (λ (x : ℕ × (ℕ × ℕ)). Summarizes g.told x.0 x.1.0 x.1.1 before now c.run_workload-status.result.0) same c.run_workload-status.ensures

pub returns-in-Ok-Workload-clause-script : goal.returns-in-Ok-Workload-clause-script
returns-in-Ok-Workload-clause-script g c = λ load is.
    let asked = rw c.in-Ok-Workload.field-0-is at c.in-Ok-Workload.ensures in
    absurd (false≢true (scripted_then (task_of c.args.words.now) load (taken.Workload c.in-Ok-Workload.number c.in-Ok-Workload.clients c.in-Ok-Workload.ops) asked is))

pub returns-in-Ok-Workload-clause-desk : goal.returns-in-Ok-Workload-clause-desk
returns-in-Ok-Workload-clause-desk g c = λ none.
    let asked = rw c.in-Ok-Workload.field-0-is at c.in-Ok-Workload.ensures in
    let is = working (task_of c.args.words.now) c.in-Ok-Workload.number c.in-Ok-Workload.clients c.in-Ok-Workload.ops asked in
    absurd (none (works_on_desk (task_of c.args.words.now) c.in-Ok-Workload.number c.in-Ok-Workload.clients c.in-Ok-Workload.ops is))

pub run_workload-status-requires : goal.run_workload-status-requires
run_workload-status-requires g c =
    let asked = rw c.in-Ok-Workload.field-0-is at c.in-Ok-Workload.ensures in
    let is = working (task_of c.args.words.now) c.in-Ok-Workload.number c.in-Ok-Workload.clients c.in-Ok-Workload.ops asked in
    let bounds = work_bounds c.args.words.now c.in-Ok-Workload.number c.in-Ok-Workload.clients c.in-Ok-Workload.ops is in
    let clients : IsBetween 1 1000 c.in-Ok-Workload.clients = bounds.0 in
    let ops : IsBetween 1 100000 c.in-Ok-Workload.ops = bounds.1 in
    let stands : IsWorking (task_of c.args.words.now) → AreWhole (g.B.Shelves.seen c.args.desk.shelves) × IfSome g.told (IsNewDeskOf (g.B.Shelves.seen c.args.desk.shelves) (g.O.Objects.seen c.args.desk.objects)) = search (c.requires.1.1.1.1.1.1.1.1.1.1.1.1.1.1.1.1.1.1) depth 20 in
    let new = stands (is_working (task_of c.args.words.now) c.in-Ok-Workload.number c.in-Ok-Workload.clients c.in-Ok-Workload.ops is) in
    let whole : AreWhole (g.B.Shelves.seen c.args.desk.shelves) = new.0 in
    let told : IfSome g.told (IsNewDeskOf (g.B.Shelves.seen c.args.desk.shelves) (g.O.Objects.seen c.args.desk.objects)) = new.1 in
    search rules

pub returns-in-Err-clause-workload : goal.returns-in-Err-clause-workload
returns-in-Err-clause-workload g c = λ number clients ops is.
    let before : Outside = outside (g.K.Sink.seen c.args.output.now) (g.B.Shelves.seen c.args.desk.shelves) (g.O.Objects.seen c.args.desk.objects) in
    let stands : IsWorking (task_of c.args.words.now) → AreWhole (g.B.Shelves.seen c.args.desk.shelves) × IfSome g.told (IsNewDeskOf (g.B.Shelves.seen c.args.desk.shelves) (g.O.Objects.seen c.args.desk.objects)) = search (c.requires.1.1.1.1.1.1.1.1.1.1.1.1.1.1.1.1.1.1) depth 20 in
    rw c.code-in-Err.ensures (unworked g.told number clients ops before (stands (is_working (task_of c.args.words.now) number clients ops is)).0)
