use Rattle.std.proofs.Common.{refl}
use Rattle.json.specs.Print.{escape_byte}
use Rattle.fluid_outbox.specs.Past.{edits, ids, messages, heard_to, current, leaves, op_of, given, was_given, sent, has_left, is_awaited, awaits, may_send, acknowledged, is_out, first_waiting, next}
use Rattle.fluid_outbox.proofs.examples.losses.Goals as goal

pub returns : goal.returns
unfolding edits ids messages heard_to current leaves op_of given was_given sent has_left is_awaited awaits may_send acknowledged is_out first_waiting next escape_byte
returns c =
    record {
      never = record { acknowledged_are = refl; may_send_are = refl; next_are = refl };
      before_sending = record { told = record { acknowledged_are = refl; may_send_are = refl; next_are = refl }; stand = refl };
      behind_the_first = record { told = record { acknowledged_are = refl; may_send_are = refl; next_are = refl }; stand = refl };
      behind_the_second = record { told = record { acknowledged_are = refl; may_send_are = refl; next_are = refl }; stand = refl };
      behind_the_third = record { told = record { acknowledged_are = refl; may_send_are = refl; next_are = refl }; stand = refl };
      behind_hearing_one = record { told = record { acknowledged_are = refl; may_send_are = refl; next_are = refl }; stand = refl };
      behind_hearing_two = record { told = record { acknowledged_are = refl; may_send_are = refl; next_are = refl }; stand = refl };
      behind_hearing_three = record { told = record { acknowledged_are = refl; may_send_are = refl; next_are = refl }; stand = refl };
    }
