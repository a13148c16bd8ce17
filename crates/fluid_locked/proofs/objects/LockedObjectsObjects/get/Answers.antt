use Rattle.fluid_locked.proofs.Locking.{gets_locked}
use Rattle.fluid_locked.proofs.objects.LockedObjectsObjects.get.Goals as goal

pub returns : goal.returns
returns g c =
    rw (← c.self.view_is, c.counted-self-inside.ensures.is)
    (gets_locked c.args.id.now c.self.inside.faults c.self.inside.gets c.one_more-self-inside.result c.get-answer.result (rw c.counted-self-inside.ensures.is at c.counted-self-inside.ensures.later) c.one_more-self-inside.ensures.counted)
