use Rattle.std.proofs.Common.{◌≡◌, ◌∙◌, refl, sym, subst, arith, Result, Ok, Err}
use Rattle.std.specs.Prelude.{IfSome}
use Rattle.fluid_io.specs.declared.lines.TheConstants.{MOST_LINES}
use Rattle.fluid_steps.specs.Grammar.{step_spelled}
use Rattle.fluid_steps.specs.declared.steps.Step.{Step}
use Rattle.fluid_steps.specs.declared.refusal.LineWhy.{LineWhy}
use Rattle.fluid_transcript.specs.Transcript.{taken}
use Rattle.fluid_world.specs.Taking.{Scripting, MayEnd, IsWithin, Follows, HasStopped}
use Rattle.fluid_world.specs.Going.{follows_itself}
use Rattle.fluid_world.proofs.Spelled.{spelled_short}
use Rattle.fluid_world.proofs.Tooked.{passes, goes_passed, within_passed, goes_wanting, follows_by, takes_spelled, refuses_spelled, leaves_own}
use Rattle.fluid_world.proofs.taking.Script.take_text.Goals as goal

pub returns-then-is_empty-clause-within : goal.returns-then-is_empty-clause-within
returns-then-is_empty-clause-within g c = rw (← c.self.view_is) (λ n h. within_passed _ n h)

pub returns-then-is_empty-clause-follows : goal.returns-then-is_empty-clause-follows
returns-then-is_empty-clause-follows g c =
    let within = subst (IsWithin MOST_LINES) (sym c.self.view_is) c.requires in
    rw (← c.self.view_is) (follows_by _ _ within.going (goes_passed _ within))

pub returns-then-is_empty-clause-takes : goal.returns-then-is_empty-clause-takes
returns-then-is_empty-clause-takes g c = rw (← c.self.view_is) (λ w h. passes _ w c.args.text.now c.args.waiting.now.items (sym c.is_empty.ensures ∙ c.if-is_empty.true) h)

pub returns-then-text-gt-LONGEST_TEXT-clause-follows : goal.returns-then-text-gt-LONGEST_TEXT-clause-follows
returns-then-text-gt-LONGEST_TEXT-clause-follows g c =
    subst (Follows c.args.self.now) (sym c.halt.ensures) (follows_by c.args.self.now _ c.requires.going (goes_wanting c.args.self.now c.requires.going))

pub returns-in-Err-clause-follows : goal.returns-in-Err-clause-follows
returns-in-Err-clause-follows g c =
    subst (Follows c.args.self.now) (sym c.halt-in-Err.ensures) (follows_by c.args.self.now _ c.requires.going (goes_wanting c.args.self.now c.requires.going))

pub returns-in-Ok-Err-clause-follows : goal.returns-in-Ok-Err-clause-follows
returns-in-Ok-Err-clause-follows g c = follows_itself c.args.self.now

pub returns-in-Ok-Err-clause-takes : goal.returns-in-Ok-Err-clause-takes
returns-in-Ok-Err-clause-takes g c = λ w h.
    let is : ◌≡◌ {A = Result Step LineWhy} (Err c.in-Ok-Err.why) (step_spelled c.args.text.now) = rw c.in-Ok-Err.field-0-is at c.in-Ok-Err.ensures in
    (refuses_spelled c.args.text.now c.in-Ok-Err.why w (sym c.is_empty.ensures ∙ c.if-is_empty.false) (sym is), h)

pub returns-in-Ok-Ok-clause-takes : goal.returns-in-Ok-Ok-clause-takes
returns-in-Ok-Ok-clause-takes g c =
    let is : ◌≡◌ {A = Result Step LineWhy} (Ok c.in-Ok-Ok.step) (step_spelled c.args.text.now) = rw c.in-Ok-Ok.field-0-is at c.in-Ok-Ok.ensures in
    takes_spelled c.args.text.now c.in-Ok-Ok.step c.args.self.now c.admit.new.self c.args.waiting.now.items c.admit.new.waiting.items c.admit.result (sym c.is_empty.ensures ∙ c.if-is_empty.false) (sym is) c.admit.ensures.takes

pub admit-requires-clause-short : goal.admit-requires-clause-short
admit-requires-clause-short g c =
    let is : ◌≡◌ {A = Result Step LineWhy} (Ok c.in-Ok-Ok.step) (step_spelled c.args.text.now) = rw c.in-Ok-Ok.field-0-is at c.in-Ok-Ok.ensures in
    spelled_short c.ops_are_short.ensures c.args.text.now c.in-Ok-Ok.step (omega (arith, c.if-text-gt-LONGEST_TEXT.false)) (sym is)

pub admit-requires-clause-owned : goal.admit-requires-clause-owned
admit-requires-clause-owned g c =
    let is : ◌≡◌ {A = Result Step LineWhy} (Ok c.in-Ok-Ok.step) (step_spelled c.args.text.now) = rw c.in-Ok-Ok.field-0-is at c.in-Ok-Ok.ensures in
    leaves_own c.owned_stays_owned.ensures c.args.text.now c.in-Ok-Ok.step (sym c.is_empty.ensures ∙ c.if-is_empty.false) (sym is)

pub returns-then-text-gt-LONGEST_TEXT-clause-halts : goal.returns-then-text-gt-LONGEST_TEXT-clause-halts
returns-then-text-gt-LONGEST_TEXT-clause-halts g c = subst HasStopped (sym c.halt.ensures) refl

pub returns-in-Err-clause-halts : goal.returns-in-Err-clause-halts
returns-in-Err-clause-halts g c = subst HasStopped (sym c.halt-in-Err.ensures) refl

pub returns-then-text-gt-LONGEST_TEXT-clause-takes : goal.returns-then-text-gt-LONGEST_TEXT-clause-takes
returns-then-text-gt-LONGEST_TEXT-clause-takes g c = λ w h.
    subst (λ (s : Scripting). IfSome s.stop (MayEnd (taken c.args.self.now.lanes.limits w c.args.text.now).world)) (sym c.halt.ensures) tt

pub returns-in-Err-clause-takes : goal.returns-in-Err-clause-takes
returns-in-Err-clause-takes g c = λ w h.
    subst (λ (s : Scripting). IfSome s.stop (MayEnd (taken c.args.self.now.lanes.limits w c.args.text.now).world)) (sym c.halt-in-Err.ensures) tt
