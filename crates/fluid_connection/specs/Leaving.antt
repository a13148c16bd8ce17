-- What a leave does that a client enters.
use Rattle.std.specs.Prelude.{◌≡◌, true, is_some, Result, Ok, Err}
use Rattle.fluid_types.specs.Fits.{Fits}
use Rattle.fluid_types.specs.declared.entries.Raw.{Raw}
use Rattle.fluid_types.specs.declared.entries.Raw.TheVariants.{Leave}
use Rattle.fluid_voice.specs.declared.actions.Act.{Act}
use Rattle.fluid_voice.specs.declared.actions.Act.TheVariants as act
use Rattle.fluid_voice.specs.declared.ends.ActEnd.{ActEnd}
use Rattle.fluid_voice.specs.Replies.{entered_verdict}
use Rattle.fluid_ends.specs.declared.fault.TalkFault.{TalkFault}
use Rattle.fluid_ends.specs.Faults.{talk_steps}
use Rattle.fluid_talk.specs.Talking.{Knowing, Goes}
use Rattle.fluid_talk.specs.Leaving.{Enters, IsLeaveCause}

abbrev pub IsLeave : Raw → Type 0
IsLeave (Leave id moment) = Fits (Leave id moment)
IsLeave raw = ⊥

abbrev pub IsLeaveAct : Act → Type 0
IsLeaveAct (act.Enter raw) = IsLeave raw
IsLeaveAct a = ⊥

-- it was entered, and whatever its verdict is it has one
pub record EntersLeaving (p q : Knowing) (raw : Raw) (end : ActEnd) : Type 0 where
  pub enters : Enters p q raw
  pub entered : is_some (entered_verdict end) ≡ true

-- it wasn't, and the pass has the note of a keeper that failed
pub record FailsToLeave (p q : Knowing) (fault : TalkFault) : Type 0 where
  pub goes : Goes p q (talk_steps fault)
  pub cause : IsLeaveCause q fault

abbrev pub EntersBy : Knowing → Knowing → Raw → Result ActEnd TalkFault → Type 0
EntersBy p q raw (Ok end) = EntersLeaving p q raw end
EntersBy p q raw (Err fault) = FailsToLeave p q fault
