use Rattle.fluid_acts.proofs.Putting.{put_ok, put_err}
use Rattle.fluid_acts.proofs.asking.put_object.Goals as goal

pub returns-in-Ok : goal.returns-in-Ok
returns-in-Ok g c =
    rw c.bytes_of.ensures
    (put_ok c.args.bytes.now c.in-Ok.id _ _ c.in-Ok.ensures.id c.in-Ok.ensures.counts c.in-Ok.ensures.does)

pub returns-in-Err : goal.returns-in-Err
returns-in-Err g c = rw c.from.ensures (put_err c.args.bytes.now c.in-Err.fault _ _ c.in-Err.ensures.counts c.in-Err.ensures.does)
