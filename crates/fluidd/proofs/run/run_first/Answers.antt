use Rattle.std.proofs.Common.{rules}
use Rattle.std.specs.FinMap.{empty}
use Rattle.fluid_log.specs.Shelving.{AreWhole}
use Rattle.fluid_transcript.specs.World.{first_world}
use Rattle.fluid_workload.specs.Working.{work}
use Rattle.fluid_load.specs.Ending.{IsNewDeskOf}
use Rattle.fluidd.specs.Tasks.{task_of}
use Rattle.fluidd.proofs.Nothing.{no_entry}
use Rattle.fluidd.proofs.Bounded.{work_bounds}
use Rattle.fluidd.proofs.Unworn.{never_worn, never_full, never_served, never_stored}
use Rattle.fluidd.proofs.run.run_first.Goals as goal

pub run-requires : goal.run-requires
run-requires g c =
    let ready = c.requires.ready in
    let first = c.requires.first in
    let whole : AreWhole (g.B.Shelves.seen c.args.desk.shelves) = c.requires.ready.whole in
    let new : IsNewDeskOf (g.B.Shelves.seen c.args.desk.shelves) (g.O.Objects.seen c.args.desk.objects) (first_world empty empty) = record { desk = first; no_entry = no_entry work } in
    search rules

pub returns-clause-stored : goal.returns-clause-stored
returns-clause-stored g c = λ uses is.
    never_stored (task_of c.args.words.now) _ (λ load at. never_worn load _ _ _ (c.run.ensures.script load at))
    (λ number clients ops at.
    let bounds = work_bounds c.args.words.now number clients ops at in
    never_full number clients ops _ _ _ bounds.0 bounds.1 (c.run.ensures.workload number clients ops at))
    (λ port connections lines at. never_served _ (c.run.ensures.serve port connections lines at).0.known) uses is
