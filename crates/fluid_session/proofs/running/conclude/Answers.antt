use Rattle.std.proofs.Common.{refl}
use Rattle.fluid_session.proofs.running.conclude.Goals as goal

pub returns : goal.returns
returns g c = record {
  service = c.leave-end.ensures.service;
  does = record {
    moment = c.now-moment.result;
    timely = c.now-moment.ensures.bound;
    ends = c.leave-end.ensures.ends;
    numbers = record { sequenced = refl; dropped = refl; nacked = refl; absorbed = refl; unread = refl };
  };
}
