use Rattle.std.proofs.Common.{rules, true, ◌≡◌, ◌∙◌, sym, subst, is_some, option_map}
use Rattle.fluid_rules.specs.declared.limits.Limits.{Limits}
use Rattle.fluid_log.specs.Shelving.{Shelving}
use Rattle.fluid_store.specs.Storing.{Storing}
use Rattle.fluid_door_link.specs.Hushing.{hushed, IsShortAsTold}
use Rattle.fluid_world.specs.Ending.{Outside, Writes, WritesSo}
use Rattle.fluid_world.specs.Taking.{IsWithin}
use Rattle.fluid_world.proofs.Ended.{short_at_first, closes_cause, closes_writes}
use Rattle.fluid_world.proofs.FromStart.{within_at_first, few_lines, stood_then, counted_then, ran_then, good_then, limits_then, speaks_then, finished_then, failed_then, if_told, none_is}
use Rattle.fluid_world.proofs.running.run_within.Goals as goal

pub begin-script-requires : goal.begin-script-requires
begin-script-requires g c =
    let short : is_some g.W.Origin.told ≡ true → IsShortAsTold (g.O.Objects.seen c.args.objects) = short_at_first (g.O.Objects.seen c.args.objects) g.W.Origin.told (g.B.Shelves.seen c.args.shelves) c.requires.stands in
    search rules

pub pipe-ended-requires : goal.pipe-ended-requires
pipe-ended-requires g c =
    subst (IsWithin 0) (sym c.begin-script.ensures)
    (within_at_first (g.B.Shelves.seen c.args.shelves) c.args.limits (g.O.Objects.seen c.args.objects) c.is_none.result c.worlds.ensures.first g.W.Origin.told c.requires.stands)

pub finish-end-requires-clause-lines : goal.finish-end-requires-clause-lines
finish-end-requires-clause-lines g c =
    few_lines (g.B.Shelves.seen c.args.shelves) c.args.limits (g.O.Objects.seen c.args.objects) c.is_none.result c.worlds.ensures.first g.W.Origin.told c.requires.stands c.begin-script.result c.pipe-ended.new.taker c.begin-script.ensures c.pipe-ended.ensures.follows

pub finish-end-requires-clause-stood : goal.finish-end-requires-clause-stood
finish-end-requires-clause-stood g c =
    stood_then (g.B.Shelves.seen c.args.shelves) c.args.limits (g.O.Objects.seen c.args.objects) c.is_none.result c.worlds.ensures.first g.W.Origin.told c.requires.stands c.begin-script.result c.pipe-ended.new.taker c.begin-script.ensures c.pipe-ended.ensures.follows

pub returns-clause-cause : goal.returns-clause-cause
returns-clause-cause g c =
    let told = g.W.Origin.told in
    let shelves : Shelving = g.B.Shelves.seen c.args.shelves in
    let objects : Storing = g.O.Objects.seen c.args.objects in
    let before : Outside = record { source = g.S.Source.seen c.args.input.now; sink = g.K.Sink.seen c.args.output.now; shelves = shelves; store = objects } in
    let now : Outside = record { source = g.S.Source.seen c.pipe-ended.new.input; sink = g.K.Sink.seen c.finish-end.new.output; shelves = g.B.Shelves.seen c.close-shelves.result.0; store = g.O.Objects.seen c.close-shelves.result.1 } in
    closes_cause c.faults_are_counted.ensures before now (is_some told) c.finish-end.new.script c.finish-end.result c.close-shelves.ensures.shelves c.close-shelves.ensures.store
    (c.finish-end.ensures.ends shelves.faults (hushed (is_some told) objects) before.source before.sink now.source
    (counted_then shelves c.args.limits objects c.is_none.result c.worlds.ensures.first told c.requires.stands c.begin-script.result c.pipe-ended.new.taker c.begin-script.ensures c.pipe-ended.ensures.follows)
    (ran_then shelves c.args.limits objects c.is_none.result c.worlds.ensures.first told c.requires.stands c.begin-script.result c.pipe-ended.new.taker c.begin-script.ensures c.pipe-ended.ensures.follows)
    c.pipe-ended.ensures.cause)

pub returns-clause-whole : goal.returns-clause-whole
returns-clause-whole g c = c.close-shelves.ensures.shelves.whole

pub returns-clause-writes : goal.returns-clause-writes
returns-clause-writes g c =
    let told = g.W.Origin.told in
    let shelves : Shelving = g.B.Shelves.seen c.args.shelves in
    let objects : Storing = g.O.Objects.seen c.args.objects in
    let before : Outside = record { source = g.S.Source.seen c.args.input.now; sink = g.K.Sink.seen c.args.output.now; shelves = shelves; store = objects } in
    let now : Outside = record { source = g.S.Source.seen c.pipe-ended.new.input; sink = g.K.Sink.seen c.finish-end.new.output; shelves = g.B.Shelves.seen c.close-shelves.result.0; store = g.O.Objects.seen c.close-shelves.result.1 } in
    if_told told (λ w. Writes c.args.limits w (option_map (λ name. name.now) c.args.load) before now c.finish-end.result) (λ w some.
    closes_writes c.desks_come_back.ensures c.args.limits w (option_map (λ name. name.now) c.args.load) before now c.finish-end.new.script c.finish-end.result c.close-shelves.ensures.shelves c.close-shelves.ensures.store c.close-shelves.ensures.short
    (subst (λ (l : Limits). WritesSo l w (option_map (λ name. name.now) c.args.load) before.source before.sink now.source now.sink c.finish-end.new.script c.finish-end.result)
    (limits_then shelves c.args.limits objects c.is_none.result c.worlds.ensures.first told c.requires.stands c.begin-script.result c.pipe-ended.new.taker c.begin-script.ensures c.pipe-ended.ensures.follows)
    (c.finish-end.ensures.writes w before.source before.sink now.source
    (good_then shelves c.args.limits objects c.is_none.result c.worlds.ensures.first told c.requires.stands c.begin-script.result c.pipe-ended.new.taker c.begin-script.ensures c.pipe-ended.ensures.follows w some)
    (none_is _ c.is_none.result c.is_none.ensures ∙ sym (speaks_then shelves c.args.limits objects c.is_none.result c.worlds.ensures.first told c.requires.stands c.begin-script.result c.pipe-ended.new.taker c.begin-script.ensures c.pipe-ended.ensures.follows))
    (finished_then shelves c.args.limits objects c.is_none.result c.worlds.ensures.first told c.requires.stands c.begin-script.result c.pipe-ended.new.taker c.begin-script.ensures c.pipe-ended.ensures.follows w some before.source before.sink now.source
    (g.K.Sink.seen c.pipe-ended.new.output) c.pipe-ended.result c.pipe-ended.ensures.finished)
    (failed_then shelves c.args.limits objects c.is_none.result c.worlds.ensures.first told c.requires.stands c.begin-script.result c.pipe-ended.new.taker c.begin-script.ensures c.pipe-ended.ensures.follows w some before.source.left
    c.pipe-ended.result c.pipe-ended.ensures.failed_at))))
