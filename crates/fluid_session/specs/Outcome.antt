-- What a session amounts to, read off its events.
use Rattle.std.specs.Prelude.{◌≡◌, ◌⊎◌, ◌≤◌, ⊤, ℕ, ◌+◌, Bool, true, false, if◌then◌else◌, List, [], ◌∷◌, ◌++◌, length, Option, Some, None, is_some}
use Rattle.fluid_json.specs.Tree.{Tree}
use Rattle.fluid_turn.specs.declared.view.Numbered.{Numbered}
use Rattle.fluid_turn.specs.Entries.{IsPrefix}
use Rattle.fluid_types.specs.declared.entries.Raw.{Raw}
use Rattle.fluid_types.specs.declared.entries.Raw.TheVariants.{Join}
use Rattle.fluid_types.specs.declared.entries.Scopes.{Scopes}
use Rattle.fluid_types.specs.declared.messages.Message.{Message}
use Rattle.fluid_types.specs.declared.nacks.Nack.{Nack}
use Rattle.fluid_types.specs.declared.verdicts.Verdict.{Verdict}
use Rattle.fluid_types.specs.declared.verdicts.Verdict.TheVariants.{Sequenced}
use Rattle.fluid_types.specs.declared.verdicts.Verdict.TheVariants as verdict
use Rattle.fluid_rules.specs.Rules.{joined}
use Rattle.fluid_rules.specs.Counted.{counted}
use Rattle.fluid_types.specs.Forms.{largest}
use Rattle.fluid_deltas.specs.Pushed.{slice}
use Rattle.fluid_lane.specs.declared.steps.Side.TheVariants.{Failed}
use Rattle.fluid_lane.specs.declared.steps.Step.{Step}
use Rattle.fluid_lane.specs.declared.steps.Step.TheVariants.{Entered, Aside}
use Rattle.fluid_codec.specs.declared.replies.Reply.{Reply}
use Rattle.fluid_codec.specs.declared.replies.Reply.TheVariants.{Nacked}
use Rattle.fluid_voice.specs.declared.states.VoiceState.{VoiceState}
use Rattle.fluid_voice.specs.declared.states.VoiceState.TheVariants.{Reading, Writing}
use Rattle.fluid_voice.specs.declared.actions.Act.{Act}
use Rattle.fluid_voice.specs.declared.actions.Act.TheVariants.{Connect}
use Rattle.fluid_voice.specs.declared.ends.ActEnd.{ActEnd}
use Rattle.fluid_voice.specs.declared.ends.ActEnd.TheVariants.{Told, FullNow, TooMany, Given}
use Rattle.fluid_voice.specs.States.{client_id, document_name, is_connected, leave_of, next_number, number_behind}
use Rattle.fluid_voice.specs.Heard.{entries_in}
use Rattle.fluid_voice.specs.Laws.{entries_under}
use Rattle.fluid_voice.specs.Feed.{fed}
use Rattle.fluid_voice.specs.Replies.{has_front_nack, is_sequenced, is_dropped, is_nacked}
use Rattle.fluid_voice.specs.Ends.{is_beyond}
use Rattle.fluid_talk.specs.Talking.{Knowing, Keyed, Talking, IsSound, MayBeServed, Goes, ledger_of, order_of, opened_by}
use Rattle.fluid_talk.specs.Counting.{is_absorbed}
use Rattle.fluid_talk.specs.Doing.{Did, acts_in, ends_in, steps_in, may_steps, AreAnswered}
use Rattle.fluid_session.specs.declared.report.SessionEnd.{SessionEnd}
use Rattle.fluid_session.specs.declared.report.SessionEnd.TheVariants.{Closed, TooLong, NoMemory, Abused}
use Rattle.fluid_session.specs.declared.report.Report.{Report}
use Rattle.fluid_session.specs.Events.{Event, Round, Stand, IsReached, AreEvents, IsWhole, AreWhole}
use Rattle.fluid_session.specs.Events.Event.{brings, hears}

-- ---- read off the events

-- the steps that they entered, and the notes of a keeper that failed at a text
abbrev pub steps_of_round : Round → List Step
steps_of_round r = steps_in r.done ++ may_steps r.heard.fault

abbrev pub steps_of : List Event → List Step
steps_of [] = []
steps_of (brings c ∷ es) = steps_of es
steps_of (hears r ∷ es) = steps_of_round r ++ steps_of es

-- the messages that were collected, and those of them that were sent
abbrev pub collected_in : List Event → List Message
collected_in [] = []
collected_in (brings c ∷ es) = fed c.given ++ collected_in es
collected_in (hears r ∷ es) = collected_in es

abbrev pub fed_in : List Event → List Message
fed_in [] = []
fed_in (brings c ∷ es) = fed c.sent ++ fed_in es
fed_in (hears r ∷ es) = fed_in es

-- the replies to the texts, and those of them that were sent
abbrev pub owed_in : List Event → List Reply
owed_in [] = []
owed_in (brings c ∷ es) = owed_in es
owed_in (hears r ∷ es) = r.heard.replies ++ owed_in es

abbrev pub answered_in : List Event → List Reply
answered_in [] = []
answered_in (brings c ∷ es) = answered_in es
answered_in (hears r ∷ es) = r.sent ++ answered_in es

-- a nack that says which operation it is about: the rules' nacks do, and a front's don't
abbrev pub about : Nack → List Nack
about nack = if is_some nack.operation then nack ∷ [] else []

-- such nacks among replies, and among the verdicts of entries
abbrev pub nacks_said : Reply → List Nack
nacks_said (Nacked name nack) = about nack
nacks_said reply = []

abbrev pub nacks_in : List Reply → List Nack
nacks_in [] = []
nacks_in (reply ∷ replies) = nacks_said reply ++ nacks_in replies

abbrev pub nacks_given : Step → List Nack
nacks_given (Entered raw (verdict.Nacked nack)) = about nack
nacks_given step = []

abbrev pub nacks_of : List Step → List Nack
nacks_of [] = []
nacks_of (step ∷ steps) = nacks_given step ++ nacks_of steps

-- the entries for the submissions that the texts spell under the connection's own id, and those of them that were tried
abbrev pub subs_in : List Event → List Raw
subs_in [] = []
subs_in (brings c ∷ es) = subs_in es
subs_in (hears r ∷ es) = entries_under (client_id r.from.voice) r.text r.moment ++ subs_in es

abbrev pub tried_in : List Event → List Raw
tried_in [] = []
tried_in (brings c ∷ es) = tried_in es
tried_in (hears r ∷ es) = entries_in (acts_in r.done) ++ tried_in es

-- the raw entries of the steps that entered one
abbrev pub entered : List Step → List Raw
entered [] = []
entered (Entered raw v ∷ steps) = raw ∷ entered steps
entered (Aside side ∷ steps) = entered steps

abbrev pub entered_in : List Event → List Raw
entered_in [] = []
entered_in (brings c ∷ es) = entered_in es
entered_in (hears r ∷ es) = entered (steps_in r.done) ++ entered_in es

-- how many of the steps are entries with such a verdict
abbrev pub count_steps : (Verdict → Bool) → List Step → ℕ
count_steps kind [] = 0
count_steps kind (Entered raw v ∷ steps) = (if kind v then 1 else 0) + count_steps kind steps
count_steps kind (Aside side ∷ steps) = count_steps kind steps

-- how many texts were answered by a front's nack
abbrev pub unread_in : List Event → ℕ
unread_in [] = 0
unread_in (brings c ∷ es) = unread_in es
unread_in (hears r ∷ es) = (if has_front_nack r.heard.replies then 1 else 0) + unread_in es

-- ---- by one that is connected

-- it is still connected to the same document as the same client; its pass has the steps of the events
pub record GoesOn (s t : Talking) (events : List Event) : Type 0 where
  pub still : is_connected t.voice ≡ true
  pub document : document_name t.voice ≡ document_name s.voice
  pub client : client_id t.voice ≡ client_id s.voice
  pub goes : Goes s.pass t.pass (steps_of events)
  pub key : t.key ≡ s.key

-- what was collected is the stretch of the order from the number that was next to the one that is next now
pub record Stretches (s t : Talking) (events : List Event) : Type 0 where
  pub later : next_number s.voice ≤ next_number t.voice
  pub gapless : collected_in events ≡ slice (order_of t.pass.seen) (next_number s.voice) (next_number t.voice)

-- ---- what is entered

-- as many entries count in the ledger of the pass as the document takes, and as many clients are joined
abbrev pub IsFull : Knowing → Type 0
IsFull p = p.limits.entries ≤ counted (ledger_of p.seen)

abbrev pub HasManyClients : Knowing → Type 0
HasManyClients p = p.limits.clients ≤ length (joined (ledger_of p.seen))

-- of each text a prefix of what it asked to enter
abbrev pub ArePrefixes : List Event → Type 0
ArePrefixes [] = ⊤
ArePrefixes (brings c ∷ es) = ArePrefixes es
ArePrefixes (hears r ∷ es) = IsPrefix (entered (steps_in r.done)) (entries_in (acts_in r.done)) × ArePrefixes es

-- Over a keeper that tells its content: a prefix of what the texts spell. Where nothing failed it is all of it, and before each text all
-- that the texts before it spell, unless the document is full
pub record SubmitsTold (p : Knowing) (events : List Event) : Type 0 where
  pub prefix : IsPrefix (entered_in events) (subs_in events)
  pub all : AreWhole events → (entered_in events ≡ subs_in events) ⊎ IsFull p
  pub before : (prefix : List Event) (r : Round) (behind : List Event) → events ≡ prefix ++ hears r ∷ behind → (entered_in prefix ≡ subs_in prefix) ⊎ IsFull p

-- What a client's texts enter, in their order. What was tried is a prefix of the submissions that they spell under its id, and all of
-- them where nothing failed. Of each text a prefix of what was tried was entered
pub record Submits (p : Knowing) (events : List Event) : Type 0 where
  pub tried : IsPrefix (tried_in events) (subs_in events)
  pub all_tried : AreWhole events → tried_in events ≡ subs_in events
  pub prefixes : ArePrefixes events
  pub told : p.told ≡ true → SubmitsTold p events

-- who writes entered its join, as the client of its id, and gets the join's message first; who reads entered nothing, and gets first
-- what comes behind the number that it was told
pub record IsJoin (id : List ℕ) (next : ℕ) (steps : List Step) : Type 0 where
  pub scopes : Scopes
  pub detail : Tree
  pub moment : ℕ
  pub message : Message
  pub is : steps ≡ Entered (Join id scopes detail moment) (Sequenced message) ∷ []
  pub first : next ≡ message.number

pub record IsReader (next : ℕ) (ends : List ActEnd) (steps : List Step) : Type 0 where
  pub last : ℕ
  pub told : ends ≡ Told last ∷ []
  pub first : next ≡ number_behind last
  pub nothing : steps ≡ []

abbrev pub IsConnectedAs : VoiceState → List ActEnd → List Step → Type 0
IsConnectedAs (Writing name id next) ends steps = IsJoin id next steps
IsConnectedAs (Reading name next) ends steps = IsReader next ends steps
IsConnectedAs s ends steps = ⊥

-- ---- the leave

-- a keeper that failed is noted among the steps
abbrev pub HasNote : List Step → Type 0
HasNote [] = ⊥
HasNote (Aside (Failed note) ∷ steps) = ⊤
HasNote (step ∷ steps) = HasNote steps

-- why a leave isn't entered: a keeper failed, the document has as many steps as it may have, or memory was wanting
abbrev pub MissesLeave : Knowing → SessionEnd → Type 0
MissesLeave p end = HasNote p.mine ⊎ ((length p.seen ≡ largest) ⊎ (end ≡ NoMemory))

abbrev pub HasLeft : Option Raw → List Raw → Knowing → SessionEnd → Type 0
HasLeft None left p end = left ≡ []
HasLeft (Some raw) left p end = (left ≡ raw ∷ []) ⊎ ((left ≡ []) × MissesLeave p end)

-- ---- what replies are read from

-- each act found a list that begins with one and is a prefix of the other
abbrev pub AreReadBetween : (first last : List (Numbered Step)) → List Did → Type 0
AreReadBetween first last [] = ⊤
AreReadBetween first last (d ∷ done) = (IsPrefix first d.found × IsPrefix d.found last) × AreReadBetween first last done

-- Each act found a list that begins with all that was seen before its text and is a prefix of what is seen now, and its end is read out
-- of that list's ledger where its keeper tells its content, or out of what the store held where that tells it
abbrev pub AreRead : Knowing → List Event → Type 0
AreRead q [] = ⊤
AreRead q (brings c ∷ es) = AreRead q es
AreRead q (hears r ∷ es) = (AreReadBetween r.from.pass.seen q.seen r.done × AreAnswered q r.before r.done) × AreRead q es

-- before each text all that the pass had seen was delivered
abbrev pub AreReached : List Event → Type 0
AreReached [] = ⊤
AreReached (brings c ∷ es) = AreReached es
AreReached (hears r ∷ es) = IsReached r.from × AreReached es

-- ---- numbers

-- the report counts the verdicts of these steps, and the texts that were answered by a front's nack
pub record HasCounts (report : Report) (steps : List Step) (events : List Event) : Type 0 where
  pub sequenced : report.sequenced ≡ count_steps is_sequenced steps
  pub dropped : report.dropped ≡ count_steps is_dropped steps
  pub nacked : report.nacked ≡ count_steps is_nacked steps
  pub absorbed : report.absorbed ≡ count_steps is_absorbed steps
  pub unread : report.unread ≡ unread_in events

-- ---- connects that are refused

-- who is told that too many documents are open asked for one that isn't, while as many are open as may be
abbrev pub IsBeyond : Keyed → Act → ActEnd → Type 0
IsBeyond k (Connect name write scopes detail moment) (Given reply) = is_beyond (opened_by k) name ≡ true
IsBeyond k a end = ⊤

abbrev pub EachBeyond : Keyed → List Did → Type 0
EachBeyond k [] = ⊤
EachBeyond k (d ∷ done) = IsBeyond k d.act d.end × EachBeyond k done

abbrev pub AreBeyond : Keyed → List Event → Type 0
AreBeyond k [] = ⊤
AreBeyond k (brings c ∷ es) = AreBeyond k es
AreBeyond k (hears r ∷ es) = EachBeyond k r.done × AreBeyond k es

-- no text reached a door
abbrev pub NoneReached : List Event → Type 0
NoneReached [] = ⊤
NoneReached (brings c ∷ es) = NoneReached es
NoneReached (hears r ∷ es) = (r.reached ≡ None) × NoneReached es

-- it is the pass of this document, which has reached the limit that refused the connect
abbrev pub IsLimitOf : List ActEnd → Knowing → Type 0
IsLimitOf (FullNow ∷ ends) p = p.told ≡ true → IsFull p
IsLimitOf (TooMany ∷ ends) p = p.told ≡ true → HasManyClients p
IsLimitOf ends p = ⊤

abbrev pub IsLastDoor : Round → List Event → Knowing → Type 0
IsLastDoor r later p =
    (name : List ℕ) → r.reached ≡ Some name → NoneReached later → (p.name ≡ Some name) × (r.heard.fault ≡ None → IsLimitOf (ends_in r.done) p)

-- of each text that reached a door behind which no other one reached one
abbrev pub AreLastDoors : List Event → Knowing → Type 0
AreLastDoors [] p = ⊤
AreLastDoors (brings c ∷ es) p = AreLastDoors es p
AreLastDoors (hears r ∷ es) p = IsLastDoor r es p × AreLastDoors es p

-- ---- what is sent

-- what is sent is a prefix of what was collected and of the replies, in their order, and all of it where nothing failed
pub record SendsInOrder (events : List Event) : Type 0 where
  pub feed : IsPrefix (fed_in events) (collected_in events)
  pub answers : IsPrefix (answered_in events) (owed_in events)
  pub all_fed : AreWhole events → fed_in events ≡ collected_in events
  pub all_answered : AreWhole events → answered_in events ≡ owed_in events

-- the nacks of entries that are sent are those that the entries got, in their order; where something failed, a prefix of them
pub record NacksInOrder (events : List Event) : Type 0 where
  pub prefix : IsPrefix (nacks_in (answered_in events)) (nacks_of (steps_of events))
  pub all : AreWhole events → nacks_in (answered_in events) ≡ nacks_of (steps_of events)

-- the texts ended, one was too long, or too many were unread
abbrev pub IsQuietEnd : SessionEnd → Type 0
IsQuietEnd Closed = ⊤
IsQuietEnd (TooLong size) = ⊤
IsQuietEnd (Abused unread) = ⊤
IsQuietEnd end = ⊥

-- ---- from the first text on

-- One text connected it, behind others that didn't. `m` is the connection behind the events, `u` the one that has left, which was tried
-- at this moment
pub record Joins (s m u : Talking) (moment : ℕ) (report : Report) (events : List Event) : Type 0 where
  pub early : List Event
  pub connect : Round
  pub later : List Event
  pub are : events ≡ early ++ hears connect ∷ later
  pub name : List ℕ
  pub reached : connect.reached ≡ Some name
  pub connected : is_connected connect.to.voice ≡ true
  pub joined : IsConnectedAs connect.to.voice (ends_in connect.done) (steps_in connect.done)
  -- the pass that comes back is one of its document, and has seen all that the pass that was handed in had, where that is of it too
  pub named : u.pass.name ≡ Some name
  pub handed : s.handed.name ≡ Some name → IsPrefix s.handed.seen u.pass.seen
  -- its own entries are the join, what the texts entered, and the leave
  pub left : List Raw
  pub mine : entered u.pass.mine ≡ entered (steps_in connect.done) ++ (entered_in later ++ left)
  pub texts : Submits u.pass later
  pub leave : HasLeft (leave_of moment connect.to.voice) left u.pass report.end
  -- the feed is gapless from the number that was next behind the connect
  pub unfed : collected_in early ≡ []
  pub feed : u.pass.told ≡ true → collected_in later ≡ slice (order_of u.pass.seen) (next_number connect.to.voice) (next_number m.voice)
  pub nacks : NacksInOrder later
  -- before each text behind the connect, and before the end where the wire's texts are at theirs, it has reached all that was seen
  pub reach : AreReached later
  pub closed : report.end ≡ Closed → IsReached m
  -- what its texts were answered is read from what it had seen, or saw then; a connect's from what the pass had that was handed in
  pub first : List (Numbered Step)
  pub begins : s.handed.name ≡ Some name → IsPrefix s.handed.seen first
  pub connect_read : AreReadBetween first u.pass.seen connect.done × AreAnswered u.pass connect.before connect.done
  pub read : AreRead u.pass later
  pub counts : HasCounts report (steps_of later) events

-- no text connected it: nothing was entered, nothing collected, and what was handed to it is still there
pub record StaysApart (s m u : Talking) (report : Report) (events : List Event) : Type 0 where
  pub apart : is_connected m.voice ≡ false
  pub handed : u.handed ≡ s.handed
  pub pass : u.pass ≡ m.pass
  pub nothing : entered_in events ≡ []
  pub unfed : collected_in events ≡ []
  pub counts : HasCounts report [] events

-- What a session of a connection that isn't connected yet amounts to
pub record SessionOutcome (s m u : Talking) (moment : ℕ) (report : Report) (events : List Event) : Type 0 where
  pub joins : is_connected m.voice ≡ true → Joins s m u moment report events
  pub apart : is_connected m.voice ≡ false → StaysApart s m u report events
  -- the pass that comes back is one of the service's documents, where those are so that it had, and that was handed to it
  pub served : MayBeServed s.key s.pass → MayBeServed s.key s.handed → MayBeServed s.key u.pass
  -- its key knows what it knew; too many documents were open where that was told
  pub key : IsPrefix s.key.seen u.key.seen
  pub beyond : AreBeyond u.key events
  -- the pass that comes back is that of the last document whose door it reached, and tells why a connect to that was refused
  pub doors : AreLastDoors events u.pass
  -- the feed and the replies were sent in their order, all of them unless a fault or want of memory ended it
  pub sends : SendsInOrder events
  pub whole : IsQuietEnd report.end → AreWhole events

-- all events are whole but perhaps the last
abbrev pub MayBreakLast : List Event → Type 0
MayBreakLast [] = ⊤
MayBreakLast (e ∷ []) = ⊤
MayBreakLast (e ∷ other ∷ es) = IsWhole e × MayBreakLast (other ∷ es)

-- ---- laws

-- what is collected along events of one that is connected is one stretch of its order
abbrev pub FeedsHaveNoGap : Type 0
FeedsHaveNoGap =
    (events : List Event) (s t : Stand) → is_connected s.talk.voice ≡ true → IsSound s.talk → s.talk.pass.told ≡ true → AreEvents s events t → Stretches s.talk t.talk events

-- what is entered along such events, of which the last alone may be broken, is what the texts spell
abbrev pub TextsEnterInOrder : Type 0
TextsEnterInOrder = (events : List Event) (s t : Stand) → is_connected s.talk.voice ≡ true → MayBreakLast events → AreEvents s events t → Submits t.talk.pass events
