-- A text leaves a connected one where it stands, and no reply to it is an op event.
use Rattle.std.proofs.Common.{◌≡◌, ◌∙◌, ℕ, ℤ, Bool, true, false, List, [], ◌∷◌, All, Option, refl, ap, subst, if◌then◌else◌}
use Rattle.std.proofs.lemmas.List.Elements.{All-nil, All-cons}
use Rattle.fluid_types.specs.declared.verdicts.Verdict.{Verdict}
use Rattle.fluid_types.specs.declared.verdicts.Verdict.TheVariants as verdict
use Rattle.fluid_codec.specs.declared.replies.Reply.{Reply}
use Rattle.fluid_codec.specs.declared.replies.Reply.TheVariants.{Connected, ConnectError, Ops, Nacked, Deltas, Summary, Object, Stored}
use Rattle.fluid_voice.specs.declared.ends.ActEnd.{ActEnd}
use Rattle.fluid_voice.specs.declared.ends.ActEnd.TheVariants.{Said, Joined, Told, Entered, FullNow, TooMany, Given}
use Rattle.fluid_voice.specs.declared.refusals.ConnectRefusal.TheVariants.{AlreadyConnected}
use Rattle.fluid_codec.specs.declared.events.Asked.{Asked}
use Rattle.fluid_voice.specs.States.{document_name, is_fresh}
use Rattle.fluid_voice.specs.Refusals.{refused}
use Rattle.fluid_voice.specs.Replies.{writer_replies, reader_replies, addressed, verdict_replies, entry_replies, given_replies, replies_to, state_after}
use Rattle.fluid_voice.specs.Suits.{SuitsConnect, SuitsDeltas, SuitsSummary, SuitsGet, SuitsPut, Suits}
use Rattle.fluid_voice.specs.Feed.{is_event}
use Rattle.fluid_voice.specs.Laws.{ConnectedStay, RepliesAreNoEvents}
use Rattle.fluid_voice.proofs.Each.{each}

two_at_once : {A : Type 0} (b : Bool) → b ≡ true → b ≡ false → A
two_at_once b h k = cc

pub connected_stay : ConnectedStay
connected_stay s text moment connected = each (λ a. (end : ActEnd) → state_after s a end ≡ s) s text moment (record {
  nack = λ rule end. refl;
  refusal = λ refusal end. refl;
  connect = λ name write scopes client spelled not_yet. two_at_once _ connected not_yet;
  submit = λ id submissions spelled k d lt end. refl;
  deltas = λ from to end. refl;
  summary = λ asked end. refl;
  get = λ id end. refl;
  put = λ bytes end. refl;
})

-- ---- replies

one : (reply : Reply) → is_event reply ≡ false → All (λ r. is_event r ≡ false) (reply ∷ [])
one reply h = All-cons (λ r. is_event r ≡ false) reply [] h (All-nil (λ r. is_event r ≡ false))

none : All (λ r. is_event r ≡ false) []
none = All-nil (λ r. is_event r ≡ false)

writers : (end : ActEnd) → SuitsConnect true end → All (λ r. is_event r ≡ false) (writer_replies end)
writers (Joined id number) h = one _ refl
writers FullNow h = one _ refl
writers TooMany h = one _ refl
writers (Given reply) h = one reply (ap is_event h)
writers (Told last) h = none
writers Said h = none
writers (Entered v) h = none

readers : (end : ActEnd) → SuitsConnect false end → All (λ r. is_event r ≡ false) (reader_replies end)
readers (Told last) h = one _ refl
readers (Given reply) h = one reply (ap is_event h)
readers (Joined id number) h = none
readers FullNow h = none
readers TooMany h = none
readers Said h = none
readers (Entered v) h = none

connects : (fresh write : Bool) (end : ActEnd) → SuitsConnect write end
    → All (λ r. is_event r ≡ false) (if fresh then (if write then writer_replies end else reader_replies end) else refused AlreadyConnected ∷ [])
connects true true end h = writers end h
connects true false end h = readers end h
connects false write end h = one _ refl

verdicts : (name : Option (List ℕ)) (v : Verdict) → All (λ r. is_event r ≡ false) (verdict_replies name v)
verdicts name (verdict.Sequenced message) = none
verdicts name (verdict.Nacked nack) = one _ refl
verdicts name verdict.Dropped = none
verdicts name verdict.Absorbed = none

enters : (name : Option (List ℕ)) (end : ActEnd) → All (λ r. is_event r ≡ false) (entry_replies name end)
enters name (Entered v) = verdicts name v
enters name FullNow = one _ refl
enters name Said = none
enters name (Joined id number) = none
enters name (Told last) = none
enters name TooMany = none
enters name (Given reply) = none

-- under a name it is one where it was one before
as_before : (name : Option (List ℕ)) (reply : Reply) → is_event (addressed name reply) ≡ is_event reply
as_before name (Nacked other nack) = refl
as_before name (Connected checkpoint id write) = refl
as_before name (ConnectError code text) = refl
as_before name (Ops other messages) = refl
as_before name (Deltas from messages) = refl
as_before name (Summary found) = refl
as_before name (Object id bytes) = refl
as_before name (Stored id) = refl

gives : (name : Option (List ℕ)) (end : ActEnd) → ((reply : Reply) → end ≡ Given reply → is_event reply ≡ false)
    → All (λ r. is_event r ≡ false) (given_replies name end)
gives name (Given reply) h = one _ (as_before name reply ∙ h reply refl)
gives name Said h = none
gives name (Joined id number) h = none
gives name (Told last) h = none
gives name (Entered v) h = none
gives name FullNow h = none
gives name TooMany h = none

-- what suits a question is no op event
deltas_quiet : (from to : ℤ) (reply : Reply) → SuitsDeltas from to (Given reply) → is_event reply ≡ false
deltas_quiet from to (Ops name messages) h = absurd h
deltas_quiet from to (Nacked name nack) h = refl
deltas_quiet from to (Connected checkpoint i write) h = refl
deltas_quiet from to (ConnectError code text) h = refl
deltas_quiet from to (Deltas first messages) h = refl
deltas_quiet from to (Summary found) h = refl
deltas_quiet from to (Object i b) h = refl
deltas_quiet from to (Stored i) h = refl

summary_quiet : (asked : Asked) (reply : Reply) → SuitsSummary asked (Given reply) → is_event reply ≡ false
summary_quiet asked (Ops name messages) h = absurd h
summary_quiet asked (Nacked name nack) h = refl
summary_quiet asked (Connected checkpoint i write) h = refl
summary_quiet asked (ConnectError code text) h = refl
summary_quiet asked (Deltas first messages) h = refl
summary_quiet asked (Summary found) h = refl
summary_quiet asked (Object i b) h = refl
summary_quiet asked (Stored i) h = refl

get_quiet : (id : List ℕ) (reply : Reply) → SuitsGet id (Given reply) → is_event reply ≡ false
get_quiet id (Ops name messages) h = absurd h
get_quiet id (Nacked name nack) h = refl
get_quiet id (Connected checkpoint i write) h = refl
get_quiet id (ConnectError code text) h = refl
get_quiet id (Deltas first messages) h = refl
get_quiet id (Summary found) h = refl
get_quiet id (Object i b) h = refl
get_quiet id (Stored i) h = refl

put_quiet : (bytes : List ℕ) (reply : Reply) → SuitsPut bytes (Given reply) → is_event reply ≡ false
put_quiet bytes (Ops name messages) h = absurd h
put_quiet bytes (Nacked name nack) h = refl
put_quiet bytes (Connected checkpoint i write) h = refl
put_quiet bytes (ConnectError code text) h = refl
put_quiet bytes (Deltas first messages) h = refl
put_quiet bytes (Summary found) h = refl
put_quiet bytes (Object i b) h = refl
put_quiet bytes (Stored i) h = refl

pub replies_are_no_events : RepliesAreNoEvents
replies_are_no_events s text moment =
    each (λ a. (end : ActEnd) → Suits a end → All (λ r. is_event r ≡ false) (replies_to s a end)) s text moment (record {
      nack = λ rule end suits. one _ refl;
      refusal = λ refusal end suits. one _ refl;
      connect = λ name write scopes client spelled not_yet end suits. connects (is_fresh s) _ end suits;
      submit = λ id submissions spelled k d lt end suits. enters (document_name s) end;
      deltas = λ from to end suits. gives (document_name s) end (λ reply is. deltas_quiet from to reply (subst (SuitsDeltas from to) is suits));
      summary = λ asked end suits. gives (document_name s) end (λ reply is. summary_quiet asked reply (subst (SuitsSummary asked) is suits));
      get = λ id end suits. gives (document_name s) end (λ reply is. get_quiet id reply (subst (SuitsGet id) is suits));
      put = λ bytes end suits. gives (document_name s) end (λ reply is. put_quiet bytes reply (subst (SuitsPut bytes) is suits));
    })
