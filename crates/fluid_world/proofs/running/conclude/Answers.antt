use Rattle.std.proofs.Common.{rules, ◌≡◌, ◌≤◌, ◌+◌, ◌∙◌, sym, ap, subst, Some, option_map}
use Rattle.fluid_io.specs.declared.lines.TheConstants.{MOST_LINES}
use Rattle.fluid_rules.specs.declared.limits.Limits.{Limits}
use Rattle.fluid_transcript.specs.Transcript.{loaded_last}
use Rattle.fluid_containers.specs.Stepping.{MayStand as MayShow}
use Rattle.fluid_world.specs.Ending.{end_for, ShowsBy}
use Rattle.fluid_world.specs.Taking.{Scripting}
use Rattle.fluid_world.proofs.Ended.{halted_ends, stopped_concludes, nothing_concludes, last_concludes, stands_unstopped, runs_unstopped, may_show, parts_of}
use Rattle.fluid_world.proofs.running.conclude.Goals as goal

pub returns-in-Some-clause-ends : goal.returns-in-Some-clause-ends
returns-in-Some-clause-ends g c = λ first before input start source le ran quiet.
    halted_ends first before input start source (g.K.Sink.seen c.args.output.now) c.args.script.now c.take_stop.new.self c.args.script.now.stop c.end_for.result
    (ap (option_map end_for) (sym c.take_stop.ensures.stop ∙ c.in-Some.is) ∙ ap Some (sym c.end_for.ensures))
    (ap (λ (s : Scripting). s.lanes) c.take_stop.ensures.rest) (ap (λ (s : Scripting). s.store) c.take_stop.ensures.rest) ran quiet

pub returns-in-Some-clause-writes : goal.returns-in-Some-clause-writes
returns-in-Some-clause-writes g c = λ w stands.
    stopped_concludes c.args.script.now.lanes.limits w _ (g.K.Sink.seen c.args.output.now) (g.K.Sink.seen c.args.output.now) c.take_stop.new.self c.args.script.now.stop c.in-Some.stop c.end_for.result
    (sym c.take_stop.ensures.stop ∙ c.in-Some.is) stands.going

pub returns-in-None-load-clause-ends : goal.returns-in-None-load-clause-ends
returns-in-None-load-clause-ends g c = λ first before input start source le ran quiet. quiet

pub returns-in-None-load-clause-writes : goal.returns-in-None-load-clause-writes
returns-in-None-load-clause-writes g c = λ w stands.
    nothing_concludes c.args.script.now.lanes.limits w (g.K.Sink.seen c.args.output.now) c.take_stop.new.self _ (ap (option_map (λ name. name.now)) c.in-None-load.is)
    (parts_of c.args.script.now c.take_stop.new.self w (ap (λ (s : Scripting). s.lanes) c.take_stop.ensures.rest) (ap (λ (s : Scripting). s.store) c.take_stop.ensures.rest) stands)

pub returns-in-Some-load-clause-ends : goal.returns-in-Some-load-clause-ends
returns-in-Some-load-clause-ends g c = λ first before input start source le ran quiet.
    c.show_last.ensures.ends first before input start source (subst (λ (s : Scripting). before.faults ≤ s.store.faults) (sym c.take_stop.ensures.rest) le)
    (runs_unstopped first before c.args.script.now c.take_stop.new.self c.args.script.now.stop c.take_stop.ensures.rest (sym c.take_stop.ensures.stop ∙ c.in-None.is) ran) quiet

pub returns-in-Some-load-clause-writes : goal.returns-in-Some-load-clause-writes
returns-in-Some-load-clause-writes g c = λ w stands.
    let limits : c.take_stop.new.self.lanes.limits ≡ c.args.script.now.lanes.limits = ap (λ (s : Scripting). s.lanes.limits) c.take_stop.ensures.rest in
    last_concludes c.args.script.now.lanes.limits w (g.K.Sink.seen c.args.output.now) (g.K.Sink.seen c.show_last.new.output) c.show_last.new.script c.show_last.result c.in-Some-load.document.now _
    (ap (option_map (λ name. name.now)) c.in-Some-load.is)
    (subst (λ (l : Limits). ShowsBy (loaded_last l w c.in-Some-load.document.now) (g.K.Sink.seen c.args.output.now) (g.K.Sink.seen c.show_last.new.output) c.show_last.new.script c.show_last.result) limits
    (c.show_last.ensures.writes w (ap (λ (s : Scripting). s.good) c.take_stop.ensures.rest ∙ stands.good) (stands_unstopped c.args.script.now c.take_stop.new.self w c.take_stop.ensures.rest stands)))

pub show_last-requires : goal.show_last-requires
show_last-requires g c =
    let few : c.take_stop.new.self.lines ≤ MOST_LINES + 1 = subst (λ (s : Scripting). s.lines ≤ MOST_LINES + 1) (sym c.take_stop.ensures.rest) c.requires.lines in
    let may : MayShow c.take_stop.new.self.good c.take_stop.new.self.lanes =
    may_show c.args.script.now c.take_stop.new.self c.args.script.now.stop c.take_stop.ensures.rest (sym c.take_stop.ensures.stop ∙ c.in-None.is) c.requires.stood in
    search rules
