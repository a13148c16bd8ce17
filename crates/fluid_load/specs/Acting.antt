-- What the parts of acts make of a workload.
use Rattle.std.specs.Prelude.{ℕ, Ok, zero, suc}
use Rattle.fluid_edits.specs.declared.edit.Edit.{Edit}
use Rattle.fluid_edits.specs.declared.edit.Edit.TheVariants as edit
use Rattle.fluid_edits.specs.declared.edit.ChannelKind.TheVariants.{Map, Counter}
use Rattle.fluid_gen.specs.declared.act.Act.{Act}
use Rattle.fluid_loader.specs.declared.link.Pick.{Pick}
use Rattle.fluid_loader.specs.declared.link.Pick.TheVariants.{Empty, Latest}
use Rattle.fluid_steps.specs.declared.steps.Step.{Step}
use Rattle.fluid_steps.specs.declared.steps.Step.TheVariants as step
use Rattle.fluid_transcript.specs.World.{document}
use Rattle.fluid_transcript.specs.Transcript.{last_pick}
use Rattle.fluid_workload.specs.Working.{work, m, n, p, q, named, connecting, newest, stepped, behind_act, behind_acts, behind_deed, behind_saying, submits}
use Rattle.fluid_turns.specs.Saying.{has_for}
use Rattle.fluid_turns.specs.declared.saying.Saying.{Saying}
use Rattle.fluid_types.specs.declared.entries.Submission.{Submission}
use Rattle.std.specs.Prelude.{List}
use Rattle.fluid_load.specs.Standing.{Next}

-- a step of a script
abbrev pub step_done : Step → Next
step_done s limits w = stepped limits w s

-- the first container is loaded from nothing
abbrev pub loaded_first : Next
loaded_first = step_done (step.Load p work Empty)

-- it edits
abbrev pub edited : Edit → Next
edited edit = step_done (step.Edit p (Ok edit))

-- it attaches the map, and the counter
abbrev pub with_map : Next
with_map = edited (edit.Attach m Map)

abbrev pub with_counter : Next
with_counter = edited (edit.Attach n Counter)

-- it takes in the messages up to the last
abbrev pub pumped : Next
pumped = step_done (step.Pump p)

-- it proposes a summary
abbrev pub summarized : Next
summarized = step_done (step.Summarize p)

-- a client joins
abbrev pub joined : (client : ℕ) → Next
joined client = step_done (step.Send (named client) connecting)

-- and collects
abbrev pub collected : (client : ℕ) → Next
collected client = step_done (step.Collect (named client))

-- the scribe takes a step, a checkpoint is stored, and the document begins again from the newest one
abbrev pub scribed : Next
scribed = step_done (step.Scribe work)

abbrev pub checkpointed : Next
checkpointed = step_done (step.Checkpoint work)

abbrev pub restarted : Next
restarted limits w = stepped limits w (step.Restart work (newest w.world))

-- the last of so many summaries, where there is one
abbrev pub pick_of : ℕ → Pick
pick_of zero = Empty
pick_of (suc n) = Latest

-- the last container is loaded from it
abbrev pub loaded_last : Next
loaded_last limits w = stepped limits w (step.Load q work (last_pick (document w.world work)))

-- a client submits what it is to say
abbrev pub said : (client : ℕ) → Saying → Next
said client saying limits w = behind_saying limits w client (has_for saying)

-- a submission of a client, under its id
abbrev pub entered : (client : ℕ) → (id : List ℕ) → Submission → Next
entered client id submission limits w = behind_deed limits w (submits client id submission)

-- an act, and acts one after another
abbrev pub acted : Act → Next
acted act limits w = behind_act limits w act

abbrev pub acted_all : List Act → Next
acted_all acts limits w = behind_acts limits w acts
