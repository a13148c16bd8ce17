use Rattle.std.proofs.Common.{◌≡◌, ◌<◌, ◌++◌, ℕ, List, length, Some}
use Rattle.fluid_voice.specs.Feed.{most_in_event}
use Rattle.fluid_voice.specs.States.{document_name}
use Rattle.fluid_callers.specs.Hearing.{event_lines}
use Rattle.fluid_callers.proofs.collecting.push_events.Given as goal

-- whatever the messages from here on write is what all of them write
abbrev pub invariant-loop-message : goal.invariant-loop-message
invariant-loop-message l = record {
  len : l.message-iterator.rest.len ≡ length l.message-iterator.rest.items;
  short : length l.event.items < most_in_event;
  whole : (document : List ℕ) → document_name l.voice ≡ Some document
      → l.lines ++ event_lines l.name document (l.event.items ++ l.message-iterator.rest.items) ≡ l.fn.lines ++ event_lines l.name document l.fn.messages.items;
}
