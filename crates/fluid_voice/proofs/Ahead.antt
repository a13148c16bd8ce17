-- What isn't connected asks for no more than one answer, and the next number is never 0.
use Rattle.std.proofs.Common.{◌≡◌, ◌<◌, ◌≤◌, ℕ, Bool, true, false, not, List, [], ◌∷◌, Ok, Err, if◌then◌else◌, refl, arith}
use Rattle.std.specs.Prelude.{⊤}
use Rattle.fluid_types.specs.Forms.{Read}
use Rattle.fluid_codec.specs.Events.{event_spelled}
use Rattle.fluid_codec.specs.declared.events.Event.{Event}
use Rattle.fluid_codec.specs.declared.events.Event.TheVariants as event
use Rattle.fluid_voice.specs.declared.refusals.ConnectRefusal.TheVariants.{ReadMissing}
use Rattle.fluid_voice.specs.declared.states.VoiceState.{VoiceState}
use Rattle.fluid_voice.specs.declared.states.VoiceState.TheVariants.{Fresh, Reading, Writing, Used}
use Rattle.fluid_voice.specs.declared.actions.Act.{Act}
use Rattle.fluid_voice.specs.declared.actions.Act.TheVariants as act
use Rattle.fluid_voice.specs.declared.ends.ActEnd.{ActEnd}
use Rattle.fluid_voice.specs.declared.ends.ActEnd.TheVariants.{Said, Joined, Told, Entered, FullNow, TooMany, Given}
use Rattle.fluid_voice.specs.Heard.{refuses, event_acts, read_acts, acts_of}
use Rattle.fluid_voice.specs.Replies.{has_left, writer_state, reader_state, connect_state}
use Rattle.fluid_voice.specs.Suits.{SuitsConnect}
use Rattle.fluid_voice.specs.Laws.{IsOneAnswer, OthersConnect, IsAhead, NextStaysAhead, DeliveredStaysAhead}

true_is : {A : Type 0} → true ≡ false → A
true_is same = cc

false_is : {A : Type 0} → false ≡ true → A
false_is same = cc

-- ---- what isn't connected

either : (b : Bool) (xs ys : List Act) → IsOneAnswer xs → IsOneAnswer ys → IsOneAnswer (if b then xs else ys)
either true xs ys h k = h
either false xs ys h k = k

of_event : (moment : ℕ) (e : Event) → IsOneAnswer (event_acts Fresh moment e)
of_event moment (event.Connect name write scopes client) = either (not scopes.read) (refuses ReadMissing) _ tt tt
of_event moment (event.SubmitOp id submissions) = tt
of_event moment (event.GetDeltas from to) = tt
of_event moment (event.GetSummary asked) = tt
of_event moment (event.GetObject id) = tt
of_event moment (event.PutObject bytes) = tt

of_read : (moment : ℕ) (read : Read Event) → IsOneAnswer (read_acts Fresh moment read)
of_read moment (Ok e) = of_event moment e
of_read moment (Err fault) = tt

pub others_connect : OthersConnect
unfolding acts_of
others_connect Fresh text moment none = of_read moment (event_spelled text)
others_connect (Reading name next) text moment none = true_is none
others_connect (Writing name id next) text moment none = true_is none
others_connect Used text moment none = tt

-- ---- numbers

joins : (name : List ℕ) (end : ActEnd) → SuitsConnect true end → IsAhead (writer_state name Fresh end)
joins name (Joined id number) h = λ connected. omega (arith, h)
joins name (Told last) h = false_is
joins name Said h = false_is
joins name (Entered v) h = false_is
joins name FullNow h = false_is
joins name TooMany h = false_is
joins name (Given reply) h = false_is

reads : (name : List ℕ) (end : ActEnd) → IsAhead (reader_state name Fresh end)
reads name (Told last) = λ connected. omega arith
reads name (Joined id number) = false_is
reads name Said = false_is
reads name (Entered v) = false_is
reads name FullNow = false_is
reads name TooMany = false_is
reads name (Given reply) = false_is

connects : (name : List ℕ) (write : Bool) (s : VoiceState) (end : ActEnd) → SuitsConnect write end → IsAhead s → IsAhead (connect_state name write s end)
connects name true Fresh end h ahead = joins name end h
connects name false Fresh end h ahead = reads name end
connects name write (Reading document next) end h ahead = ahead
connects name write (Writing document id next) end h ahead = ahead
connects name write Used end h ahead = ahead

leaves : (left : Bool) (s : VoiceState) → IsAhead s → IsAhead (if left then Used else s)
leaves true s ahead = false_is
leaves false s ahead = ahead

pub next_stays_ahead : NextStaysAhead
next_stays_ahead s (act.Say reply) end suits ahead = ahead
next_stays_ahead s (act.Connect name write scopes detail moment) end suits ahead = connects name write s end suits ahead
next_stays_ahead s (act.Enter raw) end suits ahead = leaves (has_left raw end) s ahead
next_stays_ahead s (act.Deltas from to) end suits ahead = ahead
next_stays_ahead s (act.Summary asked) end suits ahead = ahead
next_stays_ahead s (act.GetObject id) end suits ahead = ahead
next_stays_ahead s (act.PutObject bytes) end suits ahead = ahead

pub delivered_stays_ahead : DeliveredStaysAhead
delivered_stays_ahead Fresh number ahead = ahead
delivered_stays_ahead (Reading name next) number ahead = λ connected. let le = ahead refl in omega (arith, le)
delivered_stays_ahead (Writing name id next) number ahead = λ connected. let le = ahead refl in omega (arith, le)
delivered_stays_ahead Used number ahead = ahead
