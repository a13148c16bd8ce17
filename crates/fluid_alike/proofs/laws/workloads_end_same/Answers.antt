use Rattle.fluid_alike.proofs.Ends.{workloads_end_same as proved}
use Rattle.fluid_alike.proofs.laws.workloads_end_same.Goals as goal

pub returns : goal.returns
returns c =
    proved c.what_stands_goes_on_standing.ensures c.acks_grow.ensures c.messages_are_replayed.ensures c.containers_stay_based.ensures c.ids_are_read_back.ensures c.orders_are_told.ensures c.answers_say_what_is_meant.ensures
    c.pending_is_least.ensures c.orders_are_answered_in_turn.ensures c.versions_of_uploads_are_honest.ensures c.submissions_leave_all.ensures c.containers_load.ensures c.honest_summaries_are_read.ensures
    c.honest_summaries_are_replayed.ensures
