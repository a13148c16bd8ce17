-- Steps as they are taken apart, for private clauses.
use Rattle.std.specs.Prelude.{⊤, List, [], ◌∷◌, Option, Some, None}
use Rattle.fluid_io.specs.declared.faults.FaultNote.{FaultNote}
use Rattle.fluid_types.specs.declared.entries.Raw.{Raw}
use Rattle.fluid_types.specs.declared.entries.Raw.TheVariants.{Join, Leave}
use Rattle.fluid_types.specs.declared.verdicts.Verdict.TheVariants.{Sequenced}
use Rattle.fluid_lane.specs.declared.steps.Side.TheVariants.{Failed}
use Rattle.fluid_lane.specs.declared.steps.Step.{Step}
use Rattle.fluid_lane.specs.declared.steps.Step.TheVariants.{Entered, Aside}

-- the step of a note, where there is one
abbrev pub note_steps : Option FaultNote → List Step
note_steps None = []
note_steps (Some note) = Aside (Failed note) ∷ []

abbrev pub IsJoin : Raw → Type 0
IsJoin (Join id scopes detail moment) = ⊤
IsJoin other = ⊥

abbrev pub IsLeave : Raw → Type 0
IsLeave (Leave id moment) = ⊤
IsLeave other = ⊥

abbrev pub IsEntry : Step → Type 0
IsEntry (Entered raw verdict) = ⊤
IsEntry (Aside side) = ⊥

abbrev pub IsJoinEntered : Step → Type 0
IsJoinEntered (Entered (Join id scopes detail moment) (Sequenced message)) = ⊤
IsJoinEntered other = ⊥

abbrev pub IsLeaveEntered : Step → Type 0
IsLeaveEntered (Entered (Leave id moment) verdict) = ⊤
IsLeaveEntered other = ⊥
