use Rattle.fluid_loader.proofs.Goes.{go_on}
use Rattle.fluid_loader.proofs.Replayed.{follows_honest}
use Rattle.fluid_loader.proofs.laws.containers_go_on_following.Goals as goal

pub returns : goal.returns
returns c =
    go_on
    (follows_honest c.objects_are_read_back.ensures c.content_is_read_back.ensures c.content_is_read_back-2.ensures c.only_blobs_are_read.ensures c.attributes_are_read.ensures c.quorum_goes_on.ensures
    c.blobs_of_messages_are_read_back.ensures c.unchanged_channels_stay.ensures.stays c.unmarked_apps_give_no_handle.ensures.stays c.unchanged_channels_stay.ensures.marked)
    c.quorum_goes_on.ensures
