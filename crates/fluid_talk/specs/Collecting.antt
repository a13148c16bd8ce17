-- What a collection gives.
use Rattle.std.specs.Prelude.{◌≡◌, ⊤, ℕ, true, false, List, [], All, Some, Result, Ok, Err}
use Rattle.fluid_deltas.specs.Pushed.{slice}
use Rattle.fluid_deltas.specs.Ranges.{AreNumbersOf}
use Rattle.fluid_codec.specs.declared.replies.Reply.{Reply}
use Rattle.fluid_voice.specs.States.{document_name, is_connected, next_number, with_next}
use Rattle.fluid_voice.specs.Feed.{fed, IsEventOf}
use Rattle.fluid_ends.specs.declared.fault.TalkFault.{TalkFault}
use Rattle.fluid_ends.specs.declared.fault.TalkFault.TheVariants.{Delta, NoMemory}
use Rattle.fluid_ends.specs.Faults.{talk_steps}
use Rattle.fluid_talk.specs.Talking.{Knowing, Talking, Goes, order_of, number_behind_last}
use Rattle.fluid_talk.specs.Causes.{IsDeltaCause}

-- over a keeper that tells its content: up to the last message of all that is seen now
pub record FeedsTold (s t : Talking) (to : ℕ) (replies : List Reply) : Type 0 where
  pub to_last : to ≡ number_behind_last t.pass.seen
  pub slice : fed replies ≡ slice (order_of t.pass.seen) (next_number s.voice) to

-- op events of its document bring the messages from the next one to before another, which is next then. The pass enters nothing
pub record Feeds (s t : Talking) (replies : List Reply) : Type 0 where
  pub goes : Goes s.pass t.pass []
  pub key : t.key ≡ s.key
  pub events : (name : List ℕ) → document_name s.voice ≡ Some name → All (IsEventOf name) replies
  pub to : ℕ
  pub voice : t.voice ≡ with_next to s.voice
  pub numbers : AreNumbersOf (next_number s.voice) to (fed replies)
  pub told : s.pass.told ≡ true → FeedsTold s t to replies

-- a collection reads messages, and has the faults of that alone
abbrev pub IsCollectCause : Knowing → TalkFault → Type 0
IsCollectCause q (Delta fault) = IsDeltaCause q fault
IsCollectCause q NoMemory = ⊤
IsCollectCause q fault = ⊥

-- what a call did that failed: it stands where it stood, and the pass has the note of a keeper that failed
pub record FailsAs (s t : Talking) (cause : Knowing → TalkFault → Type 0) (fault : TalkFault) : Type 0 where
  pub voice : t.voice ≡ s.voice
  pub goes : Goes s.pass t.pass (talk_steps fault)
  pub handed : t.handed ≡ s.handed
  pub key : t.key ≡ s.key
  pub cause_is : cause t.pass fault

abbrev pub CollectsBy : Talking → Talking → Result (List Reply) TalkFault → Type 0
CollectsBy s t (Ok replies) = Feeds s t replies
CollectsBy s t (Err fault) = FailsAs s t IsCollectCause fault

-- one that isn't connected gets nothing
pub record Collects (s t : Talking) (result : Result (List Reply) TalkFault) : Type 0 where
  pub connected : is_connected s.voice ≡ true → CollectsBy s t result
  pub apart : is_connected s.voice ≡ false → (result ≡ Ok []) × (t ≡ s)
