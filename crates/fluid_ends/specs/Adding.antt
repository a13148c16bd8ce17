-- The steps that an act adds to its document, by its end.
use Rattle.std.specs.Prelude.{◌≡◌, ℕ, List, [], ◌∷◌, Result, Ok, Err}
use Rattle.fluid_json.specs.Tree.{Tree}
use Rattle.fluid_types.specs.declared.entries.Scopes.{Scopes}
use Rattle.fluid_types.specs.declared.entries.Raw.TheVariants.{Join}
use Rattle.fluid_types.specs.declared.messages.Message.{Message}
use Rattle.fluid_types.specs.declared.verdicts.Verdict.TheVariants.{Sequenced}
use Rattle.fluid_lane.specs.declared.steps.Step.{Step}
use Rattle.fluid_lane.specs.declared.steps.Step.TheVariants as step
use Rattle.fluid_voice.specs.declared.actions.Act.{Act}
use Rattle.fluid_voice.specs.declared.actions.Act.TheVariants as act
use Rattle.fluid_voice.specs.declared.ends.ActEnd.{ActEnd}
use Rattle.fluid_voice.specs.declared.ends.ActEnd.TheVariants.{Joined, Entered}
use Rattle.fluid_ends.specs.declared.fault.TalkFault.{TalkFault}
use Rattle.fluid_ends.specs.Faults.{talk_steps}

-- the join of a connect, under this id, with a message of this number
pub record IsJoinStep (id : List ℕ) (scopes : Scopes) (detail : Tree) (moment number : ℕ) (added : List Step) : Type 0 where
  pub message : Message
  pub is : added ≡ step.Entered (Join id scopes detail moment) (Sequenced message) ∷ []
  pub numbered : message.number ≡ number

-- the steps that an act with this end added: an entry with its verdict, a join with its message, or none
abbrev pub AddsBy : Act → ActEnd → List Step → Type 0
AddsBy (act.Enter raw) (Entered verdict) added = added ≡ step.Entered raw verdict ∷ []
AddsBy (act.Connect name write scopes detail moment) (Joined id number) added = IsJoinStep id scopes detail moment number added
AddsBy act end added = added ≡ []

-- by the answer: a fault of the keeper adds its note
abbrev pub Adds : Act → Result ActEnd TalkFault → List Step → Type 0
Adds act (Ok end) added = AddsBy act end added
Adds act (Err fault) added = added ≡ talk_steps fault
