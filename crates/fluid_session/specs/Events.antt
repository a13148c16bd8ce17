-- What happens in a session: messages are collected and sent, and texts are heard and answered.
use Rattle.std.specs.Prelude.{◌≡◌, ⊤, ℕ, ◌≤◌, true, false, List, [], ◌∷◌, ◌++◌, Option, None, Result, Ok}
use Rattle.fluid_types.specs.Forms.{largest}
use Rattle.fluid_store.specs.Storing.{Storing}
use Rattle.fluid_codec.specs.declared.replies.Reply.{Reply}
use Rattle.fluid_lines.specs.declared.wire.WireText.{WireText}
use Rattle.fluid_lines.specs.declared.wire.WireText.TheVariants.{In}
use Rattle.fluid_lines.specs.declared.wire.WireFault.{WireFault}
use Rattle.fluid_voice.specs.States.{is_connected, is_used, next_number}
use Rattle.fluid_voice.specs.Heard.{acts_of}
use Rattle.fluid_talk.specs.declared.heard.Heard.{Heard}
use Rattle.fluid_talk.specs.Talking.{Talking, IsSound, number_behind_last}
use Rattle.fluid_talk.specs.Doing.{Did}
use Rattle.fluid_talk.specs.Hearing.{HearsAs, ReachesBy, AreConnectEnds, IsFaultOf}
use Rattle.fluid_talk.specs.Collecting.{Collects}
use Rattle.fluid_session.specs.declared.tally.Tally.{Tally}
use Rattle.fluid_session.specs.Counted.{plus, counts_of}
use Rattle.fluid_session.specs.Sending.{out_texts, IsSent}

-- a collection: the connection before and behind it, what it gave, and what of that was sent
pub record Collection : Type 0 where
  pub from : Talking
  pub to : Talking
  pub given : List Reply
  pub sent : List Reply
  pub sending : Result (Unit {0}) WireFault

-- a text that was heard: the connection and the store before and behind it, the document whose door it reached, if it did, what was
-- done, what came of it, and what was sent
pub record Round : Type 0 where
  pub from : Talking
  pub to : Talking
  pub before : Storing
  pub now : Storing
  pub text : List ℕ
  pub moment : ℕ
  pub reached : Option (List ℕ)
  pub done : List Did
  pub heard : Heard
  pub sent : List Reply
  pub sending : Result (Unit {0}) WireFault

pub data Event : Type 0 where
  brings : Collection → Event
  hears : Round → Event

-- ---- what each of them is

-- all that the pass has seen of a document whose keeper tells its content is delivered
abbrev pub IsReached : Talking → Type 0
IsReached t = is_connected t.voice ≡ true → t.pass.told ≡ true → next_number t.voice ≡ number_behind_last t.pass.seen

pub record IsCollection (c : Collection) : Type 0 where
  pub collects : Collects c.from c.to (Ok c.given)
  pub sound : IsSound c.to
  pub is_sent : IsSent c.sending c.sent c.given

-- one that is heard by a connection that isn't connected
pub record IsHeardApart (r : Round) : Type 0 where
  pub does : ReachesBy r.reached r.from r.to r.before (acts_of r.from.voice r.text r.moment) r.done r.heard.fault
  pub ends : AreConnectEnds r.reached r.done
  pub cause : IsFaultOf r.reached r.heard.fault

pub record IsRound (r : Round) : Type 0 where
  pub reached : IsReached r.from
  pub timely : r.moment ≤ largest
  pub unused : is_used r.from.voice ≡ false
  pub hears_it : HearsAs r.from r.to r.before r.now r.text r.moment r.done r.heard
  pub apart : is_connected r.from.voice ≡ false → IsHeardApart r
  pub joined : is_connected r.from.voice ≡ true → r.reached ≡ None
  pub sound : IsSound r.to
  pub is_sent : IsSent r.sending r.sent r.heard.replies

abbrev pub IsEvent : Event → Type 0
IsEvent (brings c) = IsCollection c
IsEvent (hears r) = IsRound r

-- nothing failed in it
abbrev pub IsWhole : Event → Type 0
IsWhole (brings c) = c.sending ≡ Ok tt
IsWhole (hears r) = (r.sending ≡ Ok tt) × (r.heard.fault ≡ None)

abbrev pub AreWhole : List Event → Type 0
AreWhole [] = ⊤
AreWhole (e ∷ es) = IsWhole e × AreWhole es

-- ---- one after another

-- where the connection and the store stand before and behind an event
pub record Stand : Type 0 where
  pub talk : Talking
  pub store : Storing

abbrev pub Begins : Event → Stand → Type 0
Begins (brings c) s = c.from ≡ s.talk
Begins (hears r) s = (r.from ≡ s.talk) × (r.before ≡ s.store)

abbrev pub behind : Event → Stand → Stand
behind (brings c) s = record { talk = c.to; store = s.store }
behind (hears r) s = record { talk = r.to; store = r.now }

-- each begins where the one before it ended
abbrev pub AreEvents : Stand → List Event → Stand → Type 0
AreEvents s [] t = t ≡ s
AreEvents s (e ∷ es) t = Begins e s × (IsEvent e × AreEvents (behind e s) es t)

-- ---- what they make

abbrev pub texts_of : Event → List WireText
texts_of (brings c) = out_texts c.sent
texts_of (hears r) = In r.text ∷ out_texts r.sent

-- the texts that came in and went out
abbrev pub history_of : List Event → List WireText
history_of [] = []
history_of (e ∷ es) = texts_of e ++ history_of es

abbrev pub counted_with : Tally → Event → Tally
counted_with tally (brings c) = tally
counted_with tally (hears r) = plus tally (counts_of r.heard)

abbrev pub counted_behind : Tally → List Event → Tally
counted_behind tally [] = tally
counted_behind tally (e ∷ es) = counted_behind (counted_with tally e) es
