use Rattle.std.proofs.Common.{rules, arith, ◌≤◌, ◌+◌, ◌∙◌, ap}
use Rattle.fluid_io.specs.declared.lines.TheConstants.{MOST_LINES}
use Rattle.fluid_containers.specs.Stepping.{MayStand}
use Rattle.fluid_transcript.specs.Transcript.{loaded_last}
use Rattle.fluid_world.proofs.Ended.{last_ends, shown_last, unshown_last, unshown_ends}
use Rattle.fluid_world.proofs.Left.{last_store, last_moment}
use Rattle.fluid_world.proofs.running.show_last.Goals as goal

pub returns-in-Ok-clause-ends : goal.returns-in-Ok-clause-ends
returns-in-Ok-clause-ends g c = λ first before input start source le run quiet.
    last_ends first before input start source (g.K.Sink.seen c.args.output.now) (g.K.Sink.seen c.write_last.new.output) c.load_behind.new.script c.in-Ok.line c.write_last.result quiet (rw c.as_str.ensures at c.write_last.ensures)

pub returns-in-Ok-clause-writes : goal.returns-in-Ok-clause-writes
returns-in-Ok-clause-writes g c = λ w good stands.
    shown_last (loaded_last c.args.script.now.lanes.limits w c.args.document.now) (g.K.Sink.seen c.args.output.now) (g.K.Sink.seen c.write_last.new.output) c.load_behind.new.script c.in-Ok.line c.write_last.result
    (last_store c.args.script.now.lanes.limits w c.args.document.now stands.owned) (c.in-Ok.ensures.does w good stands) (rw c.as_str.ensures at c.write_last.ensures)

pub returns-in-Err-clause-ends : goal.returns-in-Err-clause-ends
returns-in-Err-clause-ends g c = λ first before input start source le run quiet.
    unshown_ends first (c.args.script.now.lines + 1) before input start source (g.K.Sink.seen c.args.output.now) c.args.script.now.store c.load_behind.new.script c.in-Err.stop c.end_for.result c.end_for.ensures le quiet (c.in-Err.ensures.runs first run)

pub returns-in-Err-clause-writes : goal.returns-in-Err-clause-writes
returns-in-Err-clause-writes g c = λ w good stands.
    let few : c.args.script.now.lines ≤ MOST_LINES + 1 = c.requires.1.1.1.1.1.0 in
    unshown_last (loaded_last c.args.script.now.lanes.limits w c.args.document.now) (g.K.Sink.seen c.args.output.now) c.load_behind.new.script (c.args.script.now.lines + 1) c.in-Err.stop c.end_for.result c.end_for.ensures
    (omega (arith, few)) (c.in-Err.ensures.runs 0 stands.run).few (last_moment c.args.script.now.lanes.limits w c.args.document.now ∙ ap (λ n. n + 1) stands.moment) (c.in-Err.ensures.does w good stands)

pub load_behind-requires : goal.load_behind-requires
load_behind-requires g c =
    let few : c.args.script.now.lines ≤ MOST_LINES + 1 = c.requires.1.1.1.1.1.0 in
    let may : MayStand g.good c.args.script.now.lanes = c.requires.1.1.1.1.1.1 in
    search rules
