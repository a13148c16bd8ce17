-- What a client's submission leaves of the names of a world.
use Rattle.std.specs.Prelude.{◌≡◌, ℕ, List, Some}
use Rattle.fluid_types.specs.declared.entries.Raw.TheVariants.{Submit}
use Rattle.fluid_types.specs.declared.entries.Submission.{Submission}
use Rattle.fluid_rules.specs.declared.limits.Limits.{Limits}
use Rattle.fluid_beside.specs.Beside.{LeavesName}
use Rattle.fluid_transcript.specs.World.{World}
use Rattle.fluid_transcript.specs.Connections.{voice_of}
use Rattle.fluid_transcript.specs.Sound.{IsSound}
use Rattle.fluid_workload.specs.Working.{named, id_at, behind_entry}

-- it leaves a sound world, the store, and each name, its client's own too; to the document of a container it adds nothing that this
-- container's client made
pub record LeavesAll (old new : World) : Type 0 where
  pub sound : IsSound new
  pub store : new.store ≡ old.store
  pub moment : new.moment ≡ old.moment
  pub opened : new.opened ≡ old.opened
  pub names : (q : List ℕ) → LeavesName old new q

abbrev pub SubmissionsLeaveAll : Type 0
SubmissionsLeaveAll =
    (limits : Limits) (w : World) (client : ℕ) (id : List ℕ) (s : Submission) (moment : ℕ) → IsSound w → id_at (voice_of w (named client)) ≡ Some id
    → LeavesAll w (behind_entry limits w client (Submit id s moment))
