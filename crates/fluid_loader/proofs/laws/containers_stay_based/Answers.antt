use Rattle.fluid_loader.proofs.Based.{stay_based}
use Rattle.fluid_loader.proofs.laws.containers_stay_based.Goals as goal

pub returns : goal.returns
returns c = stay_based c.objects_are_read_back.ensures c.unchanged_channels_stay.ensures.stays c.unmarked_apps_give_no_handle.ensures.stays c.unchanged_channels_stay.ensures.marked
