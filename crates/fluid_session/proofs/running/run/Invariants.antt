use Rattle.std.proofs.Common.{◌≡◌, ◌<◌, false, Ok}
use Rattle.fluid_voice.specs.States.{is_used}
use Rattle.fluid_session.specs.Ends.{most_unread}
use Rattle.fluid_session.specs.Running.{Runs}
use Rattle.fluid_session.proofs.running.run.Given as goal

-- all cycles so far went on
abbrev pub invariant-cycles : goal.invariant-cycles
invariant-cycles g l =
    (goal.iterator-cycles g).can_next l.iterator' × (goal.iterator-cycles g).is_finite l.iterator'
    × (is_used (g.T.Conversation.seen l.talk).voice ≡ false)
    × (g.T.Conversation.belongs l.talk l.service)
    × (l.tally.unread < most_unread)
    × Runs (record { talk = g.T.Conversation.seen l.fn.talk; store = g.O.Objects.seen l.fn.objects }) (record { talk = g.T.Conversation.seen l.talk; store = g.O.Objects.seen l.objects }) (g.W.Wire.seen l.fn.wire) (g.W.Wire.seen l.wire) l.fn.tally l.tally (Ok tt)
