use Rattle.fluid_loader.proofs.Replayed.{honest_read}
use Rattle.fluid_loader.proofs.laws.honest_summaries_are_read.Goals as goal

pub returns : goal.returns
returns c =
    honest_read c.objects_are_read_back.ensures c.content_is_read_back.ensures c.content_is_read_back-2.ensures c.only_blobs_are_read.ensures c.attributes_are_read.ensures c.quorum_goes_on.ensures
    c.blobs_of_messages_are_read_back.ensures c.unchanged_channels_stay.ensures.stays c.unmarked_apps_give_no_handle.ensures.stays c.unchanged_channels_stay.ensures.marked
    c.texts_are_read.ensures c.texts_are_printed.ensures.printed c.texts_are_printed.ensures.kept
