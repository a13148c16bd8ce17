use Rattle.std.proofs.Common.{rules, ◌≤◌, ◌+◌, ap}
use Rattle.fluid_io.specs.declared.lines.TheConstants.{MOST_LINES}
use Rattle.fluid_containers.specs.Stepping.{MayStand}
use Rattle.fluid_transcript.specs.Transcript.{at_line}
use Rattle.fluid_world.proofs.Ended.{shows_at}
use Rattle.fluid_world.proofs.running.load_behind.Goals as goal

pub load_last-requires : goal.load_last-requires
load_last-requires g c =
    let few : c.script.inside.lines ≤ MOST_LINES + 1 = rw (← c.script.view_is) at c.requires.1.1.1.1.0 in
    let may : MayStand g.good c.script.inside.lanes = rw (← c.script.view_is) at c.requires.1.1.1.1.1 in
    search rules

pub returns-clause-does : goal.returns-clause-does
returns-clause-does g c = rw (← c.script.view_is) (λ w good stands.
    let at = shows_at _ w stands in
    c.load_last.ensures.does (at_line w) good at.desk at.held at.sound (ap (λ n. n + 1) stands.moment))

pub returns-clause-runs : goal.returns-clause-runs
returns-clause-runs g c = rw (← c.script.view_is) (λ first run. c.load_last.ensures.runs first c.script.inside.lines run)
