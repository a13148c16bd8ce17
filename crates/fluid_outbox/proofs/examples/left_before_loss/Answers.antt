use Rattle.std.proofs.Common.{refl}
use Rattle.json.specs.Print.{escape_byte}
use Rattle.fluid_outbox.specs.Past.{edits, ids, messages, heard_to, current, leaves, op_of, given, was_given, sent, has_left, is_awaited, awaits, may_send, acknowledged, is_out, first_waiting}
use Rattle.fluid_outbox.proofs.examples.left_before_loss.Goals as goal

pub returns : goal.returns
unfolding edits ids messages heard_to current leaves op_of given was_given sent has_left is_awaited awaits may_send acknowledged is_out first_waiting escape_byte
returns c = record { waiting_are = refl; may_send_are = refl }
