-- An opening that failed, and was counted or not.
use Rattle.std.proofs.Common.{◌≡◌, ℕ, ◌+◌, ◌<◌, List, [], length, Err, sym, subst}
use Rattle.fluid_types.specs.Forms.{largest}
use Rattle.fluid_opening.specs.Opening.{OpenDoes}
use Rattle.fluid_opening.specs.declared.fault.DoorFault.{DoorFault}
use Rattle.fluid_service.specs.Shelved.{Shelved, with_failure, Continues}
use Rattle.fluid_service.specs.Opening.{GoesOn, FailsToStart}
use Rattle.fluid_service.proofs.Standings.{rest_continues}

module _ (name : List ℕ) (moment : ℕ) (fault : DoorFault) (old mid new : Shelved) (fails : FailsToStart name moment old mid fault) where
  pub lost_continues : GoesOn old.shelving mid.shelving → new ≡ mid → Continues old new []
  lost_continues on is = subst (λ t. Continues old t []) (sym is) (rest_continues old mid on fails.rest)
