-- What entering the submissions of a text does, one after another.
use Rattle.std.specs.Prelude.{◌≡◌, ⊤, Bool, true, false, List, [], ◌∷◌, ◌++◌, All, Option, Some, None, IfSome, Result, Ok, Err}
use Rattle.fluid_types.specs.Fits.{Fits}
use Rattle.fluid_types.specs.declared.entries.Raw.{Raw}
use Rattle.fluid_types.specs.declared.entries.Raw.TheVariants.{Submit}
use Rattle.fluid_store.specs.Storing.{Storing}
use Rattle.fluid_codec.specs.declared.replies.Reply.{Reply}
use Rattle.fluid_voice.specs.declared.states.VoiceState.{VoiceState}
use Rattle.fluid_voice.specs.declared.actions.Act.{Act}
use Rattle.fluid_voice.specs.declared.actions.Act.TheVariants as act
use Rattle.fluid_voice.specs.declared.ends.ActEnd.{ActEnd}
use Rattle.fluid_voice.specs.declared.ends.ActEnd.TheVariants.{FullNow}
use Rattle.fluid_voice.specs.Replies.{replies_behind}
use Rattle.fluid_ends.specs.declared.fault.TalkFault.{TalkFault}
use Rattle.fluid_ends.specs.declared.fault.TalkFault.TheVariants as fault
use Rattle.fluid_json.specs.declared.memory.NoMemory.{NoMemory}
use Rattle.fluid_talk.specs.Talking.{Knowing, Goes}
use Rattle.fluid_voice.specs.Laws.{FullBehind}
use Rattle.fluid_talk.specs.Doing.{Did, acts_in, ends_in, ended, steps_in, may_steps, AreDone, AreFound, AreAnswered}
use Rattle.fluid_talk.specs.Causes.{IsCauseAt}
use Rattle.fluid_talk.specs.Hearing.{AreReplies}
use Rattle.fluid_connection.specs.declared.telling.Answered.{Answered}
use Rattle.fluid_connection.specs.Entering.{IsFullAt}
use Rattle.fluid_connection.specs.Telling.{no_counts, with_end, with_ends}

-- where the document was full before, all find it so
abbrev pub FullFrom : Bool → List ActEnd → Type 0
FullFrom true ends = All (λ end. end ≡ FullNow) ends
FullFrom false ends = FullBehind ends

-- the acts that were done, up to one that failed: what they found, how they ended, what they added, and what was said to them by a
-- connection that stands so
pub record EntersAll (s : VoiceState) (full : Bool) (p q : Knowing) (acts : List Act) (done : List Did) (replies : List Reply) (fault : Option TalkFault) : Type 0 where
  pub rest : List Act
  pub asked : acts ≡ acts_in done ++ rest
  pub whole : fault ≡ None → rest ≡ []
  pub cause : (before now : Storing) → IfSome fault (IsCauseAt q before now rest)
  pub are_done : AreDone done
  pub full_stays : FullFrom full (ends_in done)
  pub goes : Goes p q (steps_in done ++ may_steps fault)
  pub found : AreFound p.number fault p.seen q.seen done
  pub answered : (store : Storing) → AreAnswered p store done
  pub told : AreReplies fault (replies_behind s (ended done)) replies

-- ---- submissions

abbrev pub IsSubmit : Raw → Type 0
IsSubmit (Submit id submission moment) = Fits (Submit id submission moment)
IsSubmit raw = ⊥

abbrev pub IsSubmission : Act → Type 0
IsSubmission (act.Enter raw) = IsSubmit raw
IsSubmission a = ⊥

abbrev pub AreSubmissions : List Act → Type 0
AreSubmissions [] = ⊤
AreSubmissions (a ∷ acts) = IsSubmission a × AreSubmissions acts

-- all of them, and what came of it
pub record EntersText (s : VoiceState) (p q : Knowing) (acts : List Act) (told : Answered) (fault : Option TalkFault) : Type 0 where
  pub done : List Did
  pub does : EntersAll s false p q acts done told.replies.items fault
  pub counts : told.counts ≡ with_ends no_counts (ended done)

-- ---- one of them, for private clauses

-- whatever comes behind it
pub record NextEntered (s : VoiceState) (old new : Answered) (p m : Knowing) (a : Act) : Type 0 where
  pub did : Did
  pub more : List Reply
  pub leads : (q : Knowing) (acts : List Act) (done : List Did) (replies : List Reply) (fault : Option TalkFault) → EntersAll s new.full m q acts done replies fault
      → EntersAll s old.full p q (a ∷ acts) (did ∷ done) (more ++ replies) fault
  pub said : new.replies.items ≡ old.replies.items ++ more
  pub counts : new.counts ≡ with_end old.counts did.end
  pub full : new.full ≡ true → IsFullAt m

-- it failed, or what is said to it found no memory
pub record NextStops (s : VoiceState) (old new : Answered) (p m : Knowing) (a : Act) (fault : TalkFault) : Type 0 where
  pub done : List Did
  pub more : List Reply
  pub stops : (acts : List Act) → EntersAll s old.full p m (a ∷ acts) done more (Some fault)
  pub said : new.replies.items ≡ old.replies.items ++ more
  pub counts : new.counts ≡ with_ends old.counts (ended done)

abbrev pub NextDoes : VoiceState → (old new : Answered) → (p m : Knowing) → Act → Result (Unit {0}) TalkFault → Type 0
NextDoes s old new p m a (Ok done) = NextEntered s old new p m a
NextDoes s old new p m a (Err fault) = NextStops s old new p m a fault

-- want of memory for a reply
abbrev pub lost : Result (Unit {0}) NoMemory → Result (Unit {0}) TalkFault
lost (Ok done) = Ok tt
lost (Err refused) = Err fault.NoMemory
