use Rattle.std.proofs.Common.{◌≡◌, ◌++◌, map}
use Rattle.fluid_voice.specs.Replies.{replies_to, state_after}
use Rattle.fluid_transcript.specs.Lines.{reply_line}
use Rattle.fluid_transcript.specs.Transcript.{written}
use Rattle.fluid_callers.proofs.Acts.{replied, unheard}
use Rattle.fluid_callers.proofs.Ends.{line_or_memory, heard_aside, unheard_runs}
use Rattle.fluid_callers.proofs.hearing.hear.Goals as goal

pub returns-in-Ok-clause-does : goal.returns-in-Ok-clause-does
returns-in-Ok-clause-does g c = λ limits opened d h within heard.
    let e = c.in-Ok.ensures in
    replied limits opened c.args.name.now d h c.args.lane.now (g.O.Objects.seen c.args.objects.now) c.args.voice.now c.args.lines.now heard c.args.act within c.do_act.new.lane (g.O.Objects.seen c.do_act.new.objects) c.in-Ok.end
    e.lane e.store e.end c.reply.new.voice c.reply.new.lines c.reply.result c.reply.ensures

pub returns-in-Ok-clause-runs : goal.returns-in-Ok-clause-runs
returns-in-Ok-clause-runs g c =
    let e = c.in-Ok.ensures in
    record {
      later = e.lane.goes.later;
      sides = heard_aside c.args.act c.args.lane.now c.do_act.new.lane (g.O.Objects.seen c.args.objects.now) (g.O.Objects.seen c.do_act.new.objects) c.in-Ok.end c.reply.result e.lane;
      counts = e.store.later;
      ends = line_or_memory c.args.act c.args.lane.now c.do_act.new.lane (g.O.Objects.seen c.args.objects.now) (g.O.Objects.seen c.do_act.new.objects)
          ((c.reply.new.voice ≡ state_after c.args.voice.now c.args.act c.in-Ok.end)
          × (c.reply.new.lines ≡ c.args.lines.now ++ written (map (reply_line c.args.name.now) (replies_to c.args.voice.now c.args.act c.in-Ok.end)))) c.reply.result c.reply.ensures;
    }

pub returns-in-Err-clause-does : goal.returns-in-Err-clause-does
returns-in-Err-clause-does g c = λ limits opened d h within heard.
    let e = c.in-Err.ensures in
    unheard limits opened c.args.name.now d h c.args.lane.now (g.O.Objects.seen c.args.objects.now) c.args.voice.now c.args.lines.now heard c.args.act within c.do_act.new.lane (g.O.Objects.seen c.do_act.new.objects) c.in-Err.fault
    e.lane e.store e.cause e.end c.unheard.new.lines c.unheard.result c.unheard.ensures

pub returns-in-Err-clause-runs : goal.returns-in-Err-clause-runs
returns-in-Err-clause-runs g c =
    let e = c.in-Err.ensures in
    unheard_runs c.args.act c.args.lane.now c.do_act.new.lane (g.O.Objects.seen c.args.objects.now) (g.O.Objects.seen c.do_act.new.objects) c.args.name.now c.in-Err.fault c.args.lines.now c.unheard.new.lines c.unheard.result
    e.lane e.store e.cause c.unheard.ensures
