-- What comes of a text that is heard.
use Rattle.std.specs.Prelude.{◌≡◌, ◌⊎◌, ⊤, ℕ, ◌≤◌, true, false, is_some, List, [], ◌∷◌, ◌++◌, All, Option, Some, None, IfSome, option_map}
use Rattle.std.specs.List.{list_any}
use Rattle.fluid_turn.specs.declared.view.Numbered.{Numbered}
use Rattle.fluid_turn.specs.Entries.{IsPrefix}
use Rattle.fluid_store.specs.Storing.{Storing}
use Rattle.fluid_store.specs.declared.fault.StoreFault.TheVariants as store
use Rattle.fluid_lane.specs.declared.steps.Step.{Step}
use Rattle.fluid_opening.specs.declared.opening.TheConstants.{MOST_DOCUMENTS}
use Rattle.fluid_opening.specs.declared.fault.DoorFault.TheVariants.{TooManyDocuments}
use Rattle.fluid_codec.specs.declared.replies.Reply.{Reply}
use Rattle.fluid_voice.specs.declared.actions.Act.{Act}
use Rattle.fluid_voice.specs.declared.actions.Act.TheVariants as act
use Rattle.fluid_voice.specs.declared.ends.ActEnd.{ActEnd}
use Rattle.fluid_voice.specs.declared.ends.ActEnd.TheVariants.{Given}
use Rattle.fluid_voice.specs.States.{is_connected, is_used}
use Rattle.fluid_voice.specs.Heard.{acts_of}
use Rattle.fluid_voice.specs.Replies.{state_behind, replies_behind, is_sequenced, is_dropped, is_nacked, count_of}
use Rattle.fluid_voice.specs.Laws.{FullBehind}
use Rattle.fluid_voice.specs.Feed.{is_event}
use Rattle.fluid_ends.specs.declared.fault.TalkFault.{TalkFault}
use Rattle.fluid_ends.specs.declared.fault.TalkFault.TheVariants.{Door, Store, NoMemory}
use Rattle.fluid_ends.specs.Asking.{is_asked_of_store}
use Rattle.fluid_talk.specs.declared.heard.Heard.{Heard}
use Rattle.fluid_talk.specs.Talking.{Keyed, Talking, Goes}
use Rattle.fluid_talk.specs.Shelves.{KeepsKey, IsRefusedDoor, IsReachedBy}
use Rattle.fluid_talk.specs.Counting.{is_absorbed}
use Rattle.fluid_talk.specs.Doing.{Did, acts_in, ends_in, ended, steps_in, may_steps, held_after, AreDone, AreFound, AreAnswered}
use Rattle.fluid_talk.specs.Causes.{IsCauseAt}

-- ---- by one that is connected

-- it stays where it stands, and its pass has the steps of the acts, and the note of a keeper that failed behind them. Its key isn't
-- asked
pub record HearsConnected (s t : Talking) (store : Storing) (done : List Did) (failed : Option TalkFault) : Type 0 where
  pub voice : t.voice ≡ s.voice
  pub goes : Goes s.pass t.pass (steps_in done ++ may_steps failed)
  pub found : AreFound s.pass.number failed s.pass.seen t.pass.seen done
  pub answered : AreAnswered s.pass store done
  pub key : t.key ≡ s.key

-- ---- by one that isn't

-- a connect to this document
abbrev pub IsConnectTo : List ℕ → List Act → Type 0
IsConnectTo name (act.Connect other write scopes detail moment ∷ []) = other ≡ name
IsConnectTo name acts = ⊥

-- it reached the document's door: with the pass that was handed to it, or with one of the service. The pass has no steps but those of
-- this text. Where it isn't connected behind that nothing was entered, and what was handed to it is still there
pub record Reaches (name : List ℕ) (s t : Talking) (store : Storing) (acts : List Act) (done : List Did) (failed : Option TalkFault) : Type 0 where
  pub asked : IsConnectTo name acts
  pub named : t.pass.name ≡ Some name
  pub first : List (Numbered Step)
  pub begins : s.handed.name ≡ Some name → IsPrefix s.handed.seen first
  pub found : AreFound t.pass.number failed first t.pass.seen done
  pub answered : AreAnswered t.pass store done
  pub mine : t.pass.mine ≡ steps_in done ++ may_steps failed
  pub nothing : is_connected t.voice ≡ false → steps_in done ≡ []
  pub handed : is_connected t.voice ≡ false → t.handed ≡ s.handed
  pub through : IsReachedBy name s.handed t.pass s.key t.key

-- the key behind a text that reached no door. A connect that was done was refused, since as many documents are open as may be; one that
-- failed at the service was refused by this fault. Where memory was wanting it has no step more, and so where nothing is connected to
abbrev pub KeyBehind : List Act → List Did → Option TalkFault → Keyed → Keyed → Type 0
KeyBehind (act.Connect name write scopes detail moment ∷ rest) (d ∷ done) failed k m = IsRefusedDoor name (TooManyDocuments MOST_DOCUMENTS) k m
KeyBehind (act.Connect name write scopes detail moment ∷ rest) [] (Some (Door fault)) k m = IsRefusedDoor name fault k m
KeyBehind acts done failed k m = KeepsKey k m

-- it reached no door, and stays as it was
pub record StaysAway (s t : Talking) (acts : List Act) (done : List Did) (failed : Option TalkFault) : Type 0 where
  pub apart : is_connected t.voice ≡ false
  pub pass : t.pass ≡ s.pass
  pub handed : t.handed ≡ s.handed
  pub nothing : steps_in done ≡ []
  pub key : KeyBehind acts done failed s.key t.key

abbrev pub ReachesBy : Option (List ℕ) → (s t : Talking) → Storing → List Act → List Did → Option TalkFault → Type 0
ReachesBy None s t store acts done failed = StaysAway s t acts done failed
ReachesBy (Some name) s t store acts done failed = Reaches name s t store acts done failed

-- a connect is told that too many documents are open where no door was reached, and where one was it isn't told so
abbrev pub IsConnectEnd : Option (List ℕ) → Act → ActEnd → Type 0
IsConnectEnd None (act.Connect name write scopes detail moment) (Given reply) = ⊤
IsConnectEnd None (act.Connect name write scopes detail moment) end = ⊥
IsConnectEnd (Some reached) (act.Connect name write scopes detail moment) (Given reply) = ⊥
IsConnectEnd reached a end = ⊤

abbrev pub AreConnectEnds : Option (List ℕ) → List Did → Type 0
AreConnectEnds reached [] = ⊤
AreConnectEnds reached (d ∷ done) = IsConnectEnd reached d.act d.end × AreConnectEnds reached done

-- a document fails at a text only where its door was reached, and a service where none was
abbrev pub IsFaultOf : Option (List ℕ) → Option TalkFault → Type 0
IsFaultOf reached None = ⊤
IsFaultOf reached (Some NoMemory) = ⊤
IsFaultOf None (Some (Door fault)) = ⊤
IsFaultOf None (Some fault) = ⊥
IsFaultOf (Some name) (Some (Door fault)) = ⊥
IsFaultOf (Some name) (Some fault) = ⊤

-- by the document whose door it reached
pub record HearsApart (s t : Talking) (store : Storing) (acts : List Act) (done : List Did) (failed : Option TalkFault) : Type 0 where
  pub reached : Option (List ℕ)
  pub does : ReachesBy reached s t store acts done failed
  pub ends : AreConnectEnds reached done
  pub cause : IsFaultOf reached failed

-- ---- the store

-- what it holds is what it held, with what these acts put
abbrev pub HoldsWith : List Act → (before now : Storing) → Type 0
HoldsWith acts before now = now.content ≡ option_map (λ held. held_after held acts) before.content

-- behind the acts that were done. A store that failed at the next one may have done that all the same
abbrev pub HoldsBehind : Option TalkFault → (before now : Storing) → (done rest : List Act) → Type 0
HoldsBehind (Some (Store (store.StoreFailed note))) before now done (a ∷ rest) = HoldsWith done before now ⊎ HoldsWith (done ++ a ∷ []) before now
HoldsBehind failed before now done rest = HoldsWith done before now

pub record LeavesStore (before now : Storing) (acts done rest : List Act) (failed : Option TalkFault) : Type 0 where
  pub later : before.faults ≤ now.faults
  pub told : is_some now.content ≡ is_some before.content
  pub holds : HoldsBehind failed before now done rest
  pub untouched : list_any is_asked_of_store acts ≡ false → now ≡ before

-- ---- all of it

-- the acts of a text in its order were done up to one that failed, or for want of memory up to any of them. Behind the first that finds
-- the document full all find it so. No text makes a connection leave
pub record Does (s t : Talking) (before now : Storing) (text : List ℕ) (moment : ℕ) (done : List Did) (failed : Option TalkFault) : Type 0 where
  pub rest : List Act
  pub asked : acts_of s.voice text moment ≡ acts_in done ++ rest
  pub whole : failed ≡ None → rest ≡ []
  pub cause : IfSome failed (IsCauseAt t.pass before now rest)
  pub are_done : AreDone done
  pub full : FullBehind (ends_in done)
  pub voice : t.voice ≡ state_behind s.voice (ended done)
  pub unused : is_used t.voice ≡ false
  pub no_events : All (λ reply. is_event reply ≡ false) (replies_behind s.voice (ended done))
  pub connected : is_connected s.voice ≡ true → HearsConnected s t before done failed
  pub apart : is_connected s.voice ≡ false → HearsApart s t before (acts_of s.voice text moment) done failed
  pub store : LeavesStore before now (acts_of s.voice text moment) (acts_in done) rest failed

-- the replies are those to what was done, and for want of memory a prefix of these
abbrev pub AreReplies : Option TalkFault → (all replies : List Reply) → Type 0
AreReplies (Some NoMemory) all replies = IsPrefix replies all
AreReplies failed all replies = replies ≡ all

-- what was done, what is answered, and how often each verdict was given
pub record HearsAs (s t : Talking) (before now : Storing) (text : List ℕ) (moment : ℕ) (done : List Did) (h : Heard) : Type 0 where
  pub does : Does s t before now text moment done h.fault
  pub replies : AreReplies h.fault (replies_behind s.voice (ended done)) h.replies
  pub sequenced : h.sequenced ≡ count_of is_sequenced (ended done)
  pub dropped : h.dropped ≡ count_of is_dropped (ended done)
  pub nacked : h.nacked ≡ count_of is_nacked (ended done)
  pub absorbed : h.absorbed ≡ count_of is_absorbed (ended done)

pub record Hears (s t : Talking) (before now : Storing) (text : List ℕ) (moment : ℕ) (h : Heard) : Type 0 where
  pub done : List Did
  pub heard : HearsAs s t before now text moment done h
