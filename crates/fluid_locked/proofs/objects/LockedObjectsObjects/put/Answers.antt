use Rattle.fluid_locked.proofs.Locking.{puts_locked}
use Rattle.fluid_locked.proofs.objects.LockedObjectsObjects.put.Goals as goal

pub returns : goal.returns
returns g c =
    rw (← c.self.view_is, c.counted-self-inside.ensures.is)
    (puts_locked c.args.id.now c.self.inside.faults c.self.inside.gets c.args.bytes.now c.put-answer.result (rw c.counted-self-inside.ensures.is at c.counted-self-inside.ensures.later))
