use Rattle.std.proofs.Common.{◌+◌, refl, sym, ap, subst}
use Rattle.std.specs.Prelude.{IfSome}
use Rattle.fluid_transcript.specs.Steps.{refusal}
use Rattle.fluid_transcript.specs.Transcript.{at_line, done}
use Rattle.fluid_world.specs.Taking.{Scripting, MayEnd, IsWithin, Follows, HasStopped, TookLine}
use Rattle.fluid_world.proofs.Tooked.{goes_ok, goes_err, within_ok, takes_ok, takes_err, follows_by}
use Rattle.fluid_world.proofs.taking.Script.step.Goals as goal

pub write_step-requires-clause-moment : goal.write_step-requires-clause-moment
write_step-requires-clause-moment g c = ap (λ (s : Scripting). s.lines + 1) c.self.view_is

pub returns-in-Ok-clause-within : goal.returns-in-Ok-clause-within
returns-in-Ok-clause-within g c = λ n h.
    subst (λ (m : Scripting). IsWithin (n + 1) (record m { lines = c.self.inside.lines + 1 })) (sym c.self-in-Ok.view_is)
    (within_ok c.args.step c.args.self.now c.write_step.new.self c.args.waiting.now.items c.write_step.new.waiting.items c.requires.accepted c.requires.owned c.write_step.ensures.moves (c.self.inside.lines + 1) n
    (ap (λ (s : Scripting). s.lines + 1) c.self.view_is) h (c.in-Ok.ensures.numbers n h.numbers) c.in-Ok.ensures.writes c.in-Ok.ensures.runs)

pub returns-in-Ok-clause-follows : goal.returns-in-Ok-clause-follows
returns-in-Ok-clause-follows g c =
    subst (λ (m : Scripting). Follows c.args.self.now (record m { lines = c.self.inside.lines + 1 })) (sym c.self-in-Ok.view_is)
    (follows_by c.args.self.now _ c.requires.within.going (goes_ok c.args.step c.args.self.now c.write_step.new.self c.args.waiting.now.items c.write_step.new.waiting.items c.requires.accepted c.requires.owned c.write_step.ensures.moves
    (c.self.inside.lines + 1) (ap (λ (s : Scripting). s.lines + 1) c.self.view_is) c.requires.within c.in-Ok.ensures.writes c.in-Ok.ensures.runs))

pub returns-in-Ok-clause-takes : goal.returns-in-Ok-clause-takes
returns-in-Ok-clause-takes g c = λ w h.
    subst (λ (m : Scripting). TookLine (refusal w c.args.step) (done c.args.self.now.lanes.limits (at_line w) c.args.step) c.args.self.now.speaks (record m { lines = c.self.inside.lines + 1 }) c.args.waiting.now.items c.write_step.new.waiting.items)
    (sym c.self-in-Ok.view_is)
    (takes_ok c.args.step c.args.self.now c.write_step.new.self c.args.waiting.now.items c.write_step.new.waiting.items c.requires.accepted c.requires.owned c.write_step.ensures.moves (c.self.inside.lines + 1)
    (ap (λ (s : Scripting). s.lines + 1) c.self.view_is) c.in-Ok.ensures.writes c.in-Ok.ensures.runs w h)

pub returns-in-Err-clause-follows : goal.returns-in-Err-clause-follows
returns-in-Err-clause-follows g c =
    subst (Follows c.args.self.now) (sym c.halt.ensures)
    (follows_by c.args.self.now _ c.requires.within.going (goes_err c.args.step c.args.self.now c.write_step.new.self c.args.waiting.now.items c.write_step.new.waiting.items c.requires.accepted c.requires.owned c.write_step.ensures.moves
    c.in-Err.stop c.in-Err.ensures.writes c.in-Err.ensures.runs))

pub returns-in-Err-clause-halts : goal.returns-in-Err-clause-halts
returns-in-Err-clause-halts g c = subst HasStopped (sym c.halt.ensures) refl

pub returns-in-Err-clause-takes : goal.returns-in-Err-clause-takes
returns-in-Err-clause-takes g c = λ w h.
    subst (λ (s : Scripting). IfSome s.stop (MayEnd (done c.args.self.now.lanes.limits (at_line w) c.args.step).world)) (sym c.halt.ensures)
    (takes_err c.args.step c.args.self.now c.write_step.new.self c.args.waiting.now.items c.write_step.new.waiting.items c.requires.accepted c.requires.owned c.write_step.ensures.moves
    c.in-Err.stop c.requires.within c.in-Err.ensures.writes c.in-Err.ensures.runs w h)
