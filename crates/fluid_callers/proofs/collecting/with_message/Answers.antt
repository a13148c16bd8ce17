use Rattle.std.proofs.Common.{◌≡◌, ◌∷◌, [], ◌++◌, length, arith, ap, ◌∙◌, length-append}
use Rattle.fluid_codec.specs.declared.replies.Reply.TheVariants.{Ops}
use Rattle.fluid_transcript.specs.Lines.{reply_line}
use Rattle.fluid_transcript.specs.Transcript.{written}
use Rattle.fluid_voice.specs.Feed.{most_in_event}
use Rattle.fluid_callers.proofs.Feeds.{event_full, event_more}
use Rattle.fluid_callers.proofs.collecting.with_message.Goals as goal

pub returns-then-len-lt-MOST_IN_EVENT-clause-lines : goal.returns-then-len-lt-MOST_IN_EVENT-clause-lines
returns-then-len-lt-MOST_IN_EVENT-clause-lines c = λ document ahead named.
    event_more c.args.name.now document c.args.lines.now c.args.event.items c.args.message c.push.new.self.items c.in_ok-push.ensures.items ahead

pub returns-clause-lines : goal.returns-clause-lines
returns-clause-lines c = λ document ahead named.
    let items = c.in_ok-push.ensures.items in
    let full : length (c.args.event.items ++ c.args.message ∷ []) ≡ most_in_event =
    omega (arith, c.requires, c.len.ensures, c.if-len-lt-MOST_IN_EVENT.false, ap length items, length-append c.args.event.items (c.args.message ∷ [])) in
    let lines = c.in_ok-push_event.ensures document named ∙ ap (λ ms. c.args.lines.now ++ written (reply_line c.args.name.now (Ops document ms) ∷ [])) items in
    rw c.new.ensures.items (event_full c.args.name.now document c.args.lines.now c.push_event.new.lines c.args.event.items c.args.message full lines ahead)
