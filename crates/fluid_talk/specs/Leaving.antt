-- What a leave does.
use Rattle.std.specs.Prelude.{◌≡◌, ⊤, ℕ, true, List, [], ◌∷◌, ◌++◌, map, Option, Some, None, Result, Ok, Err}
use Rattle.fluid_turn.specs.declared.view.Numbered.{Numbered}
use Rattle.fluid_turn.specs.Entries.{IsPrefix, by_seat}
use Rattle.fluid_types.specs.declared.entries.Raw.{Raw}
use Rattle.fluid_types.specs.declared.verdicts.Verdict.{Verdict}
use Rattle.fluid_lane.specs.declared.steps.Step.{Step}
use Rattle.fluid_lane.specs.declared.steps.Step.TheVariants.{Entered}
use Rattle.fluid_rules.specs.Rules.{verdict}
use Rattle.fluid_voice.specs.declared.states.VoiceState.TheVariants.{Used}
use Rattle.fluid_voice.specs.States.{leave_of}
use Rattle.fluid_ends.specs.declared.fault.TalkFault.{TalkFault}
use Rattle.fluid_ends.specs.declared.fault.TalkFault.TheVariants.{Lane, NoMemory}
use Rattle.fluid_talk.specs.Talking.{Knowing, Talking, Goes, ledger_of}
use Rattle.fluid_talk.specs.Collecting.{FailsAs}
use Rattle.fluid_talk.specs.Causes.{IsLaneCause}

-- the leave was entered, with the verdict of the rules where the keeper tells its content
pub record Enters (p q : Knowing) (raw : Raw) : Type 0 where
  pub found : List (Numbered Step)
  pub begins : IsPrefix p.seen found
  pub verdict_is : Verdict
  pub goes : Goes p q (Entered raw verdict_is ∷ [])
  pub seen : q.seen ≡ found ++ map (by_seat p.number) (Entered raw verdict_is ∷ [])
  pub told : p.told ≡ true → verdict_is ≡ verdict (ledger_of found) raw

-- who has a leave to enter enters it; another pass stays as it is
abbrev pub EntersLeave : Option Raw → Knowing → Knowing → Type 0
EntersLeave (Some raw) p q = Enters p q raw
EntersLeave None p q = q ≡ p

-- it has left
pub record HasLeft (s t : Talking) (moment : ℕ) : Type 0 where
  pub voice : t.voice ≡ Used
  pub pass : EntersLeave (leave_of moment s.voice) s.pass t.pass
  pub handed : t.handed ≡ s.handed
  pub key : t.key ≡ s.key

-- a leave is never refused by a limit
abbrev pub IsLeaveCause : Knowing → TalkFault → Type 0
IsLeaveCause q (Lane fault) = IsLaneCause q fault
IsLeaveCause q NoMemory = ⊤
IsLeaveCause q fault = ⊥

abbrev pub LeavesBy : Talking → Talking → ℕ → Result (Unit {0}) TalkFault → Type 0
LeavesBy s t moment (Ok done) = HasLeft s t moment
LeavesBy s t moment (Err fault) = FailsAs s t IsLeaveCause fault

-- only a client that writes has something to enter, and so something that may fail
pub record Leaves (s t : Talking) (moment : ℕ) (result : Result (Unit {0}) TalkFault) : Type 0 where
  pub does : LeavesBy s t moment result
  pub nothing : leave_of moment s.voice ≡ None → result ≡ Ok tt
