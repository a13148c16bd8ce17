-- What comes of the acts of a text.
use Rattle.std.specs.Prelude.{◌≡◌, ◌⊎◌, ◌≤◌, ⊤, ℕ, Bool, true, false, List, [], ◌∷◌, ◌++◌, Option, None, Some, IfSome, Result, Ok, Err}
use Rattle.fluid_turn.specs.declared.view.Numbered.{Numbered}
use Rattle.fluid_turn.specs.Entries.{IsPrefix}
use Rattle.fluid_types.specs.Forms.{largest}
use Rattle.fluid_types.specs.declared.entries.Raw.TheVariants.{Submit}
use Rattle.fluid_store.specs.Storing.{Storing}
use Rattle.fluid_lane.specs.declared.steps.Step.{Step}
use Rattle.fluid_codec.specs.declared.replies.Reply.{Reply}
use Rattle.fluid_voice.specs.declared.states.VoiceState.{VoiceState}
use Rattle.fluid_voice.specs.declared.actions.Act.{Act}
use Rattle.fluid_voice.specs.declared.actions.Act.TheVariants as act
use Rattle.fluid_voice.specs.declared.ends.ActEnd.{ActEnd}
use Rattle.fluid_voice.specs.States.{is_connected, is_used}
use Rattle.fluid_voice.specs.Heard.{acts_of}
use Rattle.fluid_voice.specs.Replies.{state_behind, replies_behind}
use Rattle.fluid_ends.specs.declared.fault.TalkFault.{TalkFault}
use Rattle.fluid_ends.specs.Faults.{talk_steps}
use Rattle.fluid_talk.specs.declared.heard.Heard.{Heard}
use Rattle.fluid_talk.specs.Talking.{Knowing, Talking, Goes}
use Rattle.fluid_voice.specs.Laws.{FullBehind}
use Rattle.fluid_talk.specs.Doing.{Did, acts_in, ends_in, ended, steps_in, may_steps, IsDone, AreDone, AreFound, IsAnswered, AreAnswered}
use Rattle.fluid_talk.specs.Causes.{IsCauseOf, IsCauseAt}
use Rattle.fluid_talk.specs.Hearing.{AreReplies, LeavesStore, HearsApart}
use Rattle.fluid_connection.specs.declared.telling.Answered.{Answered}
use Rattle.fluid_connection.specs.Entering.{did_of}
use Rattle.fluid_connection.specs.Telling.{no_counts, with_ends}

-- ---- what a text asks for

-- an act that stands alone and enters nothing
abbrev pub IsQuestion : Act → Type 0
IsQuestion (act.Say reply) = ⊤
IsQuestion (act.Deltas from to) = ⊤
IsQuestion (act.Summary asked) = ⊤
IsQuestion (act.GetObject id) = ⊤
IsQuestion (act.PutObject bytes) = ⊤
IsQuestion (act.Connect name write scopes detail moment) = ⊥
IsQuestion (act.Enter raw) = ⊥

abbrev pub IsSubmitAct : Act → Type 0
IsSubmitAct (act.Enter (Submit id submission moment)) = ⊤
IsSubmitAct a = ⊥

abbrev pub AreSubmitActs : List Act → Type 0
AreSubmitActs [] = ⊤
AreSubmitActs (a ∷ acts) = IsSubmitAct a × AreSubmitActs acts

-- submissions, or one act alone
abbrev pub AreAskedAtOnce : List Act → Type 0
AreAskedAtOnce acts = AreSubmitActs acts ⊎ ((a : Act) × ((acts ≡ a ∷ []) × IsQuestion a))

-- a text of one that is connected asks for no more
abbrev pub ConnectedAsk : Type 0
ConnectedAsk = (s : VoiceState) (text : List ℕ) (moment : ℕ) → is_connected s ≡ true → AreAskedAtOnce (acts_of s text moment)

-- one act alone, or none
abbrev pub AreSole : List Act → Type 0
AreSole [] = ⊤
AreSole (a ∷ []) = ⊤
AreSole acts = ⊥

abbrev pub listed : Option Act → List Act
listed None = []
listed (Some a) = a ∷ []

-- a reply, or a connect of a moment that a log may have, or nothing
abbrev pub AreAskedApart : List Act → Type 0
AreAskedApart [] = ⊤
AreAskedApart (act.Say reply ∷ []) = ⊤
AreAskedApart (act.Connect name write scopes detail moment ∷ []) = moment ≤ largest
AreAskedApart acts = ⊥

-- a text of one that isn't connected asks for no more
abbrev pub OthersAsk : Type 0
OthersAsk = (s : VoiceState) (text : List ℕ) (moment : ℕ) → is_connected s ≡ false → moment ≤ largest → AreAskedApart (acts_of s text moment)

-- the first act, if there is one, is an entry
abbrev pub begin_with_entry : List Act → Bool
begin_with_entry [] = true
begin_with_entry (act.Enter raw ∷ acts) = true
begin_with_entry (a ∷ acts) = false

-- ---- what comes of them, for one that is connected

-- an act alone that was done
pub record AsksOne (p q : Knowing) (before now : Storing) (act : Act) (end : ActEnd) : Type 0 where
  pub found : List (Numbered Step)
  pub begins : IsPrefix p.seen found
  pub seen : q.seen ≡ found
  pub goes : Goes p q []
  pub is_done : IsDone (did_of act end found [])
  pub answered : IsAnswered p before (did_of act end found [])
  pub store : LeavesStore before now (act ∷ []) (act ∷ []) [] None

-- one that failed
pub record AsksFail (p q : Knowing) (before now : Storing) (act : Act) (fault : TalkFault) : Type 0 where
  pub goes : Goes p q (talk_steps fault)
  pub cause : IsCauseOf q before now act fault
  pub store : LeavesStore before now (act ∷ []) [] (act ∷ []) (Some fault)

abbrev pub AsksAs : (p q : Knowing) → (before now : Storing) → Act → Result ActEnd TalkFault → Type 0
AsksAs p q before now act (Ok end) = AsksOne p q before now act end
AsksAs p q before now act (Err fault) = AsksFail p q before now act fault

-- the acts of a text that were done, up to one that failed, and what was said to them by one that stands so
pub record DoesActs (s : VoiceState) (p q : Knowing) (before now : Storing) (acts : List Act) (done : List Did) (replies : List Reply) (fault : Option TalkFault) : Type 0 where
  pub rest : List Act
  pub asked : acts ≡ acts_in done ++ rest
  pub whole : fault ≡ None → rest ≡ []
  pub cause : IfSome fault (IsCauseAt q before now rest)
  pub are_done : AreDone done
  pub full : FullBehind (ends_in done)
  pub goes : Goes p q (steps_in done ++ may_steps fault)
  pub found : AreFound p.number fault p.seen q.seen done
  pub answered : AreAnswered p before done
  pub said : AreReplies fault (replies_behind s (ended done)) replies
  pub store : LeavesStore before now acts (acts_in done) rest fault

-- and how often each verdict was given
pub record HearsActs (s : VoiceState) (p q : Knowing) (before now : Storing) (acts : List Act) (told : Answered) (fault : Option TalkFault) : Type 0 where
  pub done : List Did
  pub does : DoesActs s p q before now acts done told.replies.items fault
  pub counts : told.counts ≡ with_ends no_counts (ended done)

-- ---- for one that isn't

-- nothing of it is asked of a store
pub record HearsOther (s t : Talking) (acts : List Act) (told : Answered) (fault : Option TalkFault) : Type 0 where
  pub done : List Did
  pub rest : List Act
  pub asked : acts ≡ acts_in done ++ rest
  pub whole : fault ≡ None → rest ≡ []
  pub cause : (before now : Storing) → IfSome fault (IsCauseAt t.pass before now rest)
  pub are_done : AreDone done
  pub full : FullBehind (ends_in done)
  pub voice : t.voice ≡ state_behind s.voice (ended done)
  pub unused : is_used t.voice ≡ false
  pub said : AreReplies fault (replies_behind s.voice (ended done)) told.replies.items
  pub counts : told.counts ≡ with_ends no_counts (ended done)
  pub apart : (store : Storing) → HearsApart s t store acts done fault

-- ---- what is told of it

pub record IsHeardOf (told : Answered) (fault : Option TalkFault) (heard : Heard) : Type 0 where
  pub replies : heard.replies ≡ told.replies.items
  pub sequenced : heard.sequenced ≡ told.counts.sequenced
  pub dropped : heard.dropped ≡ told.counts.dropped
  pub nacked : heard.nacked ≡ told.counts.nacked
  pub absorbed : heard.absorbed ≡ told.counts.absorbed
  pub fault_is : heard.fault ≡ fault
