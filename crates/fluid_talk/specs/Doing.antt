-- The acts of a text, each with its end.
use Rattle.std.specs.Prelude.{◌≡◌, ⊤, ℕ, Bool, true, List, [], ◌∷◌, ◌++◌, map, Option, Some, None}
use Rattle.fluid_turn.specs.declared.view.Numbered.{Numbered}
use Rattle.fluid_turn.specs.Entries.{IsPrefix, by_seat}
use Rattle.fluid_store.specs.Held.{Held}
use Rattle.fluid_store.specs.Storing.{Storing}
use Rattle.fluid_lane.specs.declared.steps.Step.{Step}
use Rattle.fluid_voice.specs.declared.actions.Act.{Act}
use Rattle.fluid_voice.specs.declared.actions.Act.TheVariants as act
use Rattle.fluid_voice.specs.declared.ends.ActEnd.{ActEnd}
use Rattle.fluid_voice.specs.Ends.{outcome, held_behind}
use Rattle.fluid_voice.specs.Ends.Outcome.{ends}
use Rattle.fluid_voice.specs.Suits.{Suits}
use Rattle.fluid_ends.specs.declared.fault.TalkFault.{TalkFault}
use Rattle.fluid_ends.specs.Faults.{talk_steps}
use Rattle.fluid_ends.specs.Adding.{AddsBy}
use Rattle.fluid_ends.specs.Asking.{found_in}
use Rattle.fluid_talk.specs.Talking.{Knowing, ledger_of}

-- an act that was done: how it ended, the steps of its document that it found, and those that it added behind them
pub record Did : Type 0 where
  pub act : Act
  pub end : ActEnd
  pub found : List (Numbered Step)
  pub added : List Step

-- ---- acts one after another

abbrev pub acts_in : List Did → List Act
acts_in done = map (λ d. d.act) done

abbrev pub ends_in : List Did → List ActEnd
ends_in done = map (λ d. d.end) done

abbrev pub ended : List Did → List (Act × ActEnd)
ended done = map (λ d. (d.act, d.end)) done

abbrev pub steps_in : List Did → List Step
steps_in [] = []
steps_in (d ∷ done) = d.added ++ steps_in done

-- the steps of a fault: that of the document's keeper its note
abbrev pub may_steps : Option TalkFault → List Step
may_steps None = []
may_steps (Some fault) = talk_steps fault

-- what a store holds behind them
abbrev pub held_after : Held → List Act → Held
held_after held [] = held
held_after held (a ∷ acts) = held_after (held_behind held a) acts

-- ---- what each of them is

-- its end is one that the act may have, and it added what that end says
pub record IsDone (d : Did) : Type 0 where
  pub suits : Suits d.act d.end
  pub adds : AddsBy d.act d.end d.added

abbrev pub AreDone : List Did → Type 0
AreDone [] = ⊤
AreDone (d ∷ done) = IsDone d × AreDone done

-- the steps that the document has behind it, as the pass of this number sees them
abbrev pub seen_behind : ℕ → Did → List (Numbered Step)
seen_behind number d = d.found ++ map (by_seat number) d.added

-- that is all that was seen then; where something failed behind it, more may have been
abbrev pub IsSeenLast : Option TalkFault → (seen now : List (Numbered Step)) → Type 0
IsSeenLast None seen now = now ≡ seen
IsSeenLast (Some fault) seen now = IsPrefix seen now

-- each finds a list that begins with all that was seen before it
abbrev pub AreFound : ℕ → Option TalkFault → (seen now : List (Numbered Step)) → List Did → Type 0
AreFound number failed seen now [] = IsSeenLast failed seen now
AreFound number failed seen now (d ∷ done) = IsPrefix seen d.found × AreFound number failed (seen_behind number d) now done

-- who answers an act tells what it has: a document that tells its content, or a store that tells what it holds
abbrev pub IsTold : Act → Bool → Storing → Held → Type 0
IsTold (act.GetObject id) told store held = store.content ≡ Some held
IsTold (act.PutObject bytes) told store held = store.content ≡ Some held
IsTold a told store held = told ≡ true

-- its end is read out of the ledger of the steps that it found, or out of what the store held
abbrev pub IsAnswered : Knowing → Storing → Did → Type 0
IsAnswered p store d = (held : Held) → IsTold d.act p.told store held → outcome (found_in p.limits (ledger_of d.found) held) d.act ≡ ends d.end

abbrev pub AreAnswered : Knowing → Storing → List Did → Type 0
AreAnswered p store [] = ⊤
AreAnswered p store (d ∷ done) = IsAnswered p store d × AreAnswered p store done
