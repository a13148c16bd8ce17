use Rattle.std.proofs.Common.{rules, ◌≡◌, ℕ, ◌<◌, List, [], ◌∷◌, ◌++◌, length, Some, ap, sym, arith, ◌∙◌}
use Rattle.std.proofs.lemmas.List.{nil_from_length}
use Rattle.fluid_codec.specs.declared.replies.Reply.TheVariants.{Ops}
use Rattle.fluid_transcript.specs.Lines.{reply_line}
use Rattle.fluid_transcript.specs.Transcript.{written}
use Rattle.fluid_voice.specs.States.{document_name}
use Rattle.fluid_callers.specs.Hearing.{event_lines}
use Rattle.fluid_callers.proofs.Feeds.{on_ok, event_last, event_none}
use Rattle.fluid_callers.proofs.collecting.push_events.Goals as goal

pub loop-message-preserved : goal.loop-message-preserved
loop-message-preserved c =
    let left = c.in-Some.ensures.steps.0 in
    record {
      len = search rules;
      short = c.in_ok-event.ensures.short;
      whole = λ document named. c.in_ok-event.ensures.lines document c.next.new.self.rest.items named
          ∙ ap (λ ms. c.loop-message.lines ++ event_lines c.args.name.now document (c.loop-message.event.items ++ ms)) (sym left) ∙ c.loop-message.invariant.whole document named;
    }

pub returns-then-is_empty : goal.returns-then-is_empty
returns-then-is_empty c = λ document named.
    let none = nil_from_length _ (sym c.loop-message.invariant.len ∙ c.in-None.ensures.steps.0) in
    let nothing : length c.loop-message.event.items ≡ 0 = search rules in
    event_none c.args.name.now document c.args.lines.now c.loop-message.lines c.loop-message.event.items c.args.messages.items ((rw none at c.loop-message.invariant.whole) document named) nothing

pub returns : goal.returns
returns c =
    let none = nil_from_length _ (sym c.loop-message.invariant.len ∙ c.in-None.ensures.steps.0) in
    let some : 0 < length c.loop-message.event.items = search rules in
    on_ok c.push_event.result
    ((document : List ℕ) → document_name c.args.voice.now ≡ Some document
    → c.push_event.new.lines ≡ c.loop-message.lines ++ written (reply_line c.args.name.now (Ops document c.loop-message.event.items) ∷ []))
    ((document : List ℕ) → document_name c.args.voice.now ≡ Some document → c.push_event.new.lines ≡ c.args.lines.now ++ event_lines c.args.name.now document c.args.messages.items)
    (λ lines document named.
    event_last c.args.name.now document c.args.lines.now c.loop-message.lines c.push_event.new.lines c.loop-message.event.items c.args.messages.items
    ((rw none at c.loop-message.invariant.whole) document named) some (omega (arith, c.loop-message.invariant.short)) (lines document named))
    c.push_event.ensures
