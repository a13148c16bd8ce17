-- How what is known of a connection goes on along the events of its session.
use Rattle.std.proofs.Common.{◌≡◌, ◌⊎◌, inl, inr, ℕ, ◌+◌, ◌-◌, ◌<◌, ◌≤◌, max, Bool, true, false, List, [], ◌∷◌, ◌++◌, length, take, drop, map, Option, Some, None, Result, Ok, refl, sym, ap, subst, ◌∙◌, arith, append_assoc, append-nil}
use Rattle.std.proofs.lemmas.Bool.{false≢true}
use Rattle.std.proofs.lemmas.List.{drop-drop, take-append-le, drop-append-le, length-drop}
use Rattle.std.proofs.Math.Seq.{take-add}
use Rattle.fluid_turn.specs.declared.view.Numbered.{Numbered}
use Rattle.fluid_turn.specs.Entries.{IsPrefix, entries, by_seat}
use Rattle.fluid_turn.proofs.Lists.{prefix_refl, prefix_trans, prefix-append, entries-append}
use Rattle.fluid_types.specs.Ledger.{order}
use Rattle.fluid_types.specs.declared.messages.Message.{Message}
use Rattle.fluid_types.proofs.Ledgers.{order-append}
use Rattle.fluid_deltas.specs.Pushed.{slice}
use Rattle.fluid_lane.specs.declared.steps.Step.{Step}
use Rattle.fluid_lane.specs.declared.steps.Step.TheVariants.{Entered, Aside}
use Rattle.fluid_lane.specs.Steps.{ledger}
use Rattle.fluid_voice.specs.declared.states.VoiceState.{VoiceState}
use Rattle.fluid_voice.specs.declared.states.VoiceState.TheVariants.{Fresh, Reading, Writing, Used}
use Rattle.fluid_voice.specs.States.{client_id, document_name, is_connected, next_number, with_next}
use Rattle.fluid_codec.specs.declared.replies.Reply.{Reply}
use Rattle.fluid_rules.specs.declared.limits.Limits.{Limits}
use Rattle.fluid_store.specs.Storing.{Storing}
use Rattle.fluid_voice.specs.Heard.{acts_of}
use Rattle.fluid_voice.specs.Feed.{fed}
use Rattle.fluid_voice.specs.Ends.{outcome}
use Rattle.fluid_voice.specs.Ends.Outcome.{ends}
use Rattle.fluid_ends.specs.Asking.{found_in}
use Rattle.fluid_ends.specs.declared.fault.TalkFault.{TalkFault}
use Rattle.fluid_talk.specs.Talking.{Knowing, Talking, IsSound, IsSamePass, Goes, ledger_of, order_of}
use Rattle.fluid_talk.specs.Doing.{Did, AreFound, AreAnswered, IsAnswered, IsTold, seen_behind, steps_in}
use Rattle.fluid_talk.specs.Hearing.{HearsConnected, Reaches, ReachesBy}
use Rattle.fluid_talk.specs.Collecting.{Feeds}
use Rattle.fluid_session.specs.Events.{Event, Stand, Collection, Round, IsCollection, IsRound, IsHeardApart, AreEvents, behind}
use Rattle.fluid_session.specs.Events.Event.{brings, hears}
use Rattle.fluid_session.specs.Outcome.{steps_of_round, steps_of, collected_in, entered, entered_in, AreReadBetween, AreRead, AreReached, GoesOn, Stretches}

-- ---- passes

pub same_refl : (p : Knowing) → IsSamePass p p
same_refl p = record { name = refl; limits = refl; told = refl; number = refl }

pub goes_refl : (p : Knowing) → Goes p p []
goes_refl p = record { same = same_refl p; seen = prefix_refl p.seen; mine = sym (append-nil p.mine) }

pub goes_then : (p q r : Knowing) (a b : List Step) → Goes p q a → Goes q r b → Goes p r (a ++ b)
goes_then p q r a b first second = record {
  same = record {
    name = second.same.name ∙ first.same.name;
    limits = second.same.limits ∙ first.same.limits;
    told = second.same.told ∙ first.same.told;
    number = second.same.number ∙ first.same.number;
  };
  seen = prefix_trans p.seen q.seen r.seen first.seen second.seen;
  mine = second.mine ∙ ap (λ l. l ++ b) first.mine ∙ append_assoc p.mine a b;
}

-- what was seen at first is a prefix of what is seen at last
pub found_prefix : (number : ℕ) (failed : Option TalkFault) (seen now : List (Numbered Step)) (done : List Did) → AreFound number failed seen now done → IsPrefix seen now
found_prefix number None seen now [] same = ([], same ∙ sym (append-nil seen))
found_prefix number (Some fault) seen now [] prefix = prefix
found_prefix number failed seen now (d ∷ done) (first, rest) =
    prefix_trans seen (seen_behind number d) now (prefix-append seen d.found (map (by_seat number) d.added) first)
    (found_prefix number failed (seen_behind number d) now done rest)

-- ---- voices

with_next-document : (to : ℕ) (s : VoiceState) → document_name (with_next to s) ≡ document_name s
with_next-document to Fresh = refl
with_next-document to (Reading name next) = refl
with_next-document to (Writing name id next) = refl
with_next-document to Used = refl

with_next-client : (to : ℕ) (s : VoiceState) → client_id (with_next to s) ≡ client_id s
with_next-client to Fresh = refl
with_next-client to (Reading name next) = refl
with_next-client to (Writing name id next) = refl
with_next-client to Used = refl

-- ---- one event of one that is connected

goes_on-refl : (t : Talking) → is_connected t.voice ≡ true → GoesOn t t []
goes_on-refl t joined = record { still = joined; document = refl; client = refl; goes = goes_refl t.pass; key = refl }

pub brings_on : (c : Collection) → is_connected c.from.voice ≡ true → IsCollection c → GoesOn c.from c.to (brings c ∷ [])
brings_on c joined is =
    let feeds : Feeds c.from c.to c.given = is.collects.connected joined in
    record {
      still = ap (λ n. is_connected n) feeds.voice ∙ (ap is_some_name (with_next-document feeds.to c.from.voice) ∙ joined);
      document = ap document_name feeds.voice ∙ with_next-document feeds.to c.from.voice;
      client = ap client_id feeds.voice ∙ with_next-client feeds.to c.from.voice;
      goes = feeds.goes;
      key = feeds.key;
    }
  where
    is_some_name : Option (List ℕ) → Bool
    is_some_name None = false
    is_some_name (Some name) = true

pub hears_on : (r : Round) → is_connected r.from.voice ≡ true → IsRound r → GoesOn r.from r.to (hears r ∷ [])
hears_on r joined is =
    let heard : HearsConnected r.from r.to r.before r.done r.heard.fault = is.hears_it.does.connected joined in
    record {
      still = ap is_connected heard.voice ∙ joined;
      document = ap document_name heard.voice;
      client = ap client_id heard.voice;
      goes = subst (λ l. Goes r.from.pass r.to.pass l) (sym (append-nil (steps_of_round r))) heard.goes;
      key = heard.key;
    }

steps-append : (a b : List Event) → steps_of (a ++ b) ≡ steps_of a ++ steps_of b
steps-append [] b = refl
steps-append (brings c ∷ es) b = steps-append es b
steps-append (hears r ∷ es) b = ap (λ l. steps_of_round r ++ l) (steps-append es b) ∙ sym (append_assoc (steps_of_round r) (steps_of es) (steps_of b))

goes_on-then : (a b : List Event) (s m t : Talking) → GoesOn s m a → GoesOn m t b → GoesOn s t (a ++ b)
goes_on-then a b s m t first second = record {
  still = second.still;
  document = second.document ∙ first.document;
  client = second.client ∙ first.client;
  goes = subst (λ l. Goes s.pass t.pass l) (sym (steps-append a b)) (goes_then s.pass m.pass t.pass (steps_of a) (steps_of b) first.goes second.goes);
  key = second.key ∙ first.key;
}

-- ---- all events of one that is connected

pub goes_on : (es : List Event) (s t : Stand) → is_connected s.talk.voice ≡ true → AreEvents s es t → GoesOn s.talk t.talk es
goes_on [] s t joined same = subst (λ (x : Stand). GoesOn s.talk x.talk []) (sym same) (goes_on-refl s.talk joined)
goes_on (brings c ∷ es) s t joined (begins, (is, more)) =
    let here : is_connected c.from.voice ≡ true = ap (λ (k : Talking). is_connected k.voice) begins ∙ joined in
    let one : GoesOn c.from c.to (brings c ∷ []) = brings_on c here is in
    goes_on-then (brings c ∷ []) es s.talk c.to t.talk (subst (λ (k : Talking). GoesOn k c.to (brings c ∷ [])) begins one)
    (goes_on es (behind (brings c) s) t one.still more)
goes_on (hears r ∷ es) s t joined (begins, (is, more)) =
    let here : is_connected r.from.voice ≡ true = ap (λ (k : Talking). is_connected k.voice) begins.0 ∙ joined in
    let one : GoesOn r.from r.to (hears r ∷ []) = hears_on r here is in
    goes_on-then (hears r ∷ []) es s.talk r.to t.talk (subst (λ (k : Talking). GoesOn k r.to (hears r ∷ [])) begins.0 one)
    (goes_on es (behind (hears r) s) t one.still more)

-- ---- stretches of an order

pub ledger-more : (a b : List Step) → ledger (a ++ b) ≡ ledger a ++ ledger b
ledger-more [] b = refl
ledger-more (Entered raw verdict ∷ a) b = ap (λ l. (raw, verdict) ∷ l) (ledger-more a b)
ledger-more (Aside side ∷ a) b = ledger-more a b

-- the order of more steps begins with that of fewer
pub order-prefix : (a b : List (Numbered Step)) → IsPrefix a b → IsPrefix (order_of a) (order_of b)
order-prefix a b (rest, is) =
    (order_of rest, ap order_of is ∙ ap (λ l. order (ledger l)) (entries-append a rest) ∙ ap order (ledger-more (entries a) (entries rest)) ∙ order-append (ledger (entries a)) (ledger (entries rest)))

slice-none : (o : List Message) (n : ℕ) → slice o n n ≡ []
slice-none o n = let none : n - n ≡ 0 = omega arith in ap (λ k. take k (drop (n - 1) o)) none

pub slice-grows : (o more : List Message) (from to : ℕ) → 0 < from → from ≤ to → to ≤ length o + 1 → slice (o ++ more) from to ≡ slice o from to
slice-grows o more from to first ordered last =
    let reached : from - 1 ≤ length o = omega arith in
    let long : length (drop (from - 1) o) ≡ length o - (from - 1) = length-drop (from - 1) o in
    let short : to - from ≤ length (drop (from - 1) o) = omega arith in
    ap (λ l. take (to - from) l) (drop-append-le (from - 1) o more reached) ∙ take-append-le (to - from) (drop (from - 1) o) more short

slice-joins : (o : List Message) (a b c : ℕ) → 0 < a → a ≤ b → b ≤ c → slice o a b ++ slice o b c ≡ slice o a c
slice-joins o a b c first ab bc =
    let where_b : (a - 1) + (b - a) ≡ b - 1 = omega arith in
    let whole : (b - a) + (c - b) ≡ c - a = omega arith in
    ap (λ l. take (b - a) (drop (a - 1) o) ++ take (c - b) l) (ap (λ n. drop n o) (sym where_b) ∙ sym (drop-drop (b - a) (a - 1) o))
    ∙ sym (take-add (b - a) (c - b) (drop (a - 1) o)) ∙ ap (λ n. take n (drop (a - 1) o)) whole

-- ---- the feed

max-later : (next to : ℕ) → next ≤ to → max next to ≡ to
max-later next to later = grind arith

with_next-number : (to : ℕ) (s : VoiceState) → is_connected s ≡ true → next_number s ≤ to → next_number (with_next to s) ≡ to
with_next-number to Fresh joined later = absurd (false≢true joined)
with_next-number to (Reading name next) joined later = max-later next to later
with_next-number to (Writing name id next) joined later = max-later next to later
with_next-number to Used joined later = absurd (false≢true joined)

pub stretches : (es : List Event) (s t : Stand) → is_connected s.talk.voice ≡ true → IsSound s.talk → s.talk.pass.told ≡ true → AreEvents s es t → Stretches s.talk t.talk es
stretches [] s t joined sound told same =
    subst (λ (x : Stand). Stretches s.talk x.talk []) (sym same)
    (record { later = omega arith; gapless = sym (slice-none (order_of s.talk.pass.seen) (next_number s.talk.voice)) })
stretches (brings c ∷ es) s t joined sound told (begins, (is, more)) =
    let here : is_connected c.from.voice ≡ true = ap (λ (k : Talking). is_connected k.voice) begins ∙ joined in
    let feeds : Feeds c.from c.to c.given = is.collects.connected here in
    let told_here : c.from.pass.told ≡ true = ap (λ (k : Talking). k.pass.told) begins ∙ told in
    let one : GoesOn c.from c.to (brings c ∷ []) = brings_on c here is in
    let told_then : c.to.pass.told ≡ true = one.goes.same.told ∙ told_here in
    let rest : Stretches c.to t.talk es = stretches es (behind (brings c) s) t one.still is.sound told_then more in
    let on : GoesOn c.to t.talk es = goes_on es (behind (brings c) s) t one.still more in
    let count : next_number c.from.voice ≤ feeds.to = (let n = feeds.numbers.count in omega arith) in
    let reached : next_number c.to.voice ≡ feeds.to = ap next_number feeds.voice ∙ with_next-number feeds.to c.from.voice here count in
    let from_is : next_number c.from.voice ≡ next_number s.talk.voice = ap (λ (k : Talking). next_number k.voice) begins in
    let before : 0 < next_number s.talk.voice = sound.first joined in
    let more_order : IsPrefix (order_of c.to.pass.seen) (order_of t.talk.pass.seen) = order-prefix c.to.pass.seen t.talk.pass.seen on.goes.seen in
    let fed_told = feeds.told told_here in
    let last : next_number c.to.voice ≤ length (order_of c.to.pass.seen) + 1 = is.sound.next one.still told_then in
    let to_c : next_number s.talk.voice ≤ next_number c.to.voice = omega arith in
    record {
      later = (let r = rest.later in omega arith);
      gapless =
          ap (λ l. l ++ collected_in es)
          (fed_told.slice ∙ ap (λ n. slice (order_of c.to.pass.seen) n feeds.to) from_is ∙ ap (λ n. slice (order_of c.to.pass.seen) (next_number s.talk.voice) n) (sym reached)
          ∙ sym (slice-grows (order_of c.to.pass.seen) more_order.0 (next_number s.talk.voice) (next_number c.to.voice) before to_c last)
          ∙ ap (λ o. slice o (next_number s.talk.voice) (next_number c.to.voice)) (sym more_order.1))
          ∙ ap (λ l. slice (order_of t.talk.pass.seen) (next_number s.talk.voice) (next_number c.to.voice) ++ l) rest.gapless
          ∙ slice-joins (order_of t.talk.pass.seen) (next_number s.talk.voice) (next_number c.to.voice) (next_number t.talk.voice) before to_c rest.later;
    }
stretches (hears r ∷ es) s t joined sound told (begins, (is, more)) =
    let here : is_connected r.from.voice ≡ true = ap (λ (k : Talking). is_connected k.voice) begins.0 ∙ joined in
    let heard : HearsConnected r.from r.to r.before r.done r.heard.fault = is.hears_it.does.connected here in
    let one : GoesOn r.from r.to (hears r ∷ []) = hears_on r here is in
    let told_then : r.to.pass.told ≡ true = one.goes.same.told ∙ (ap (λ (k : Talking). k.pass.told) begins.0 ∙ told) in
    let rest : Stretches r.to t.talk es = stretches es (behind (hears r) s) t one.still is.sound told_then more in
    let next_is : next_number r.to.voice ≡ next_number s.talk.voice = ap next_number heard.voice ∙ ap (λ (k : Talking). next_number k.voice) begins.0 in
    record {
      later = subst (λ n. n ≤ next_number t.talk.voice) next_is rest.later;
      gapless = rest.gapless ∙ ap (λ n. slice (order_of t.talk.pass.seen) n (next_number t.talk.voice)) next_is;
    }

-- ---- what replies are read from

pub read_between : (number : ℕ) (failed : Option TalkFault) (first last seen now : List (Numbered Step)) (done : List Did) → IsPrefix first seen → IsPrefix now last
    → AreFound number failed seen now done → AreReadBetween first last done
read_between number failed first last seen now [] before behind_it found = tt
read_between number failed first last seen now (d ∷ done) before behind_it (here, rest) =
    let at : IsPrefix first d.found = prefix_trans first seen d.found before here in
    let onward : IsPrefix d.found (seen_behind number d) = (map (by_seat number) d.added, refl) in (
      (at, prefix_trans d.found now last (prefix_trans d.found (seen_behind number d) now onward (found_prefix number failed (seen_behind number d) now done rest)) behind_it),
      read_between number failed first last (seen_behind number d) now done (prefix_trans first d.found (seen_behind number d) at onward) behind_it rest,
    )

answered_one : (p q : Knowing) (store : Storing) (d : Did) → q.told ≡ p.told → q.limits ≡ p.limits → IsAnswered p store d → IsAnswered q store d
answered_one p q store d told limits answer = λ held is.
    subst (λ (l : Limits). outcome (found_in l (ledger_of d.found) held) d.act ≡ ends d.end) (sym limits) (answer held (subst (λ (b : Bool). IsTold d.act b store held) told is))

-- the same of another pass of the same document
pub answered_later : (p q : Knowing) (store : Storing) (done : List Did) → q.told ≡ p.told → q.limits ≡ p.limits → AreAnswered p store done → AreAnswered q store done
answered_later p q store [] told limits answered = tt
answered_later p q store (d ∷ done) told limits (here, rest) = (answered_one p q store d told limits here, answered_later p q store done told limits rest)

pub are_read : (es : List Event) (s t : Stand) (q : Knowing) → q.told ≡ t.talk.pass.told → q.limits ≡ t.talk.pass.limits → IsPrefix t.talk.pass.seen q.seen → is_connected s.talk.voice ≡ true → AreEvents s es t → AreRead q es
are_read [] s t q told limits later joined same = tt
are_read (brings c ∷ es) s t q told limits later joined (begins, (is, more)) =
    let here : is_connected c.from.voice ≡ true = ap (λ (k : Talking). is_connected k.voice) begins ∙ joined in
    are_read es (behind (brings c) s) t q told limits later (brings_on c here is).still more
are_read (hears r ∷ es) s t q told limits later joined (begins, (is, more)) =
    let here : is_connected r.from.voice ≡ true = ap (λ (k : Talking). is_connected k.voice) begins.0 ∙ joined in
    let heard : HearsConnected r.from r.to r.before r.done r.heard.fault = is.hears_it.does.connected here in
    let one : GoesOn r.from r.to (hears r ∷ []) = hears_on r here is in
    let on : GoesOn r.to t.talk es = goes_on es (behind (hears r) s) t one.still more in
    let seen : IsPrefix r.to.pass.seen q.seen = prefix_trans r.to.pass.seen t.talk.pass.seen q.seen on.goes.seen later in (
      (
        read_between r.from.pass.number r.heard.fault r.from.pass.seen q.seen r.from.pass.seen r.to.pass.seen r.done (prefix_refl r.from.pass.seen) seen heard.found,
        answered_later r.from.pass q r.before r.done (told ∙ on.goes.same.told ∙ one.goes.same.told) (limits ∙ on.goes.same.limits ∙ one.goes.same.limits) heard.answered,
      ),
      are_read es (behind (hears r) s) t q told limits later one.still more,
    )

pub are_reached : (es : List Event) (s t : Stand) → AreEvents s es t → AreReached es
are_reached [] s t same = tt
are_reached (brings c ∷ es) s t (begins, (is, more)) = are_reached es (behind (brings c) s) t more
are_reached (hears r ∷ es) s t (begins, (is, more)) = (is.reached, are_reached es (behind (hears r) s) t more)

-- what holds of every connection holds behind the events
pub sound_behind : (es : List Event) (s t : Stand) → IsSound s.talk → AreEvents s es t → IsSound t.talk
sound_behind [] s t sound same = subst (λ (x : Stand). IsSound x.talk) (sym same) sound
sound_behind (brings c ∷ es) s t sound (begins, (is, more)) = sound_behind es (behind (brings c) s) t is.sound more
sound_behind (hears r ∷ es) s t sound (begins, (is, more)) = sound_behind es (behind (hears r) s) t is.sound more

-- ---- from the first text on

-- texts of one that isn't connected
abbrev pub AllApart : List Event → Type 0
AllApart [] = Unit {0}
AllApart (brings c ∷ es) = AllApart es
AllApart (hears r ∷ es) = ((is_connected r.from.voice ≡ false) × IsRound r) × AllApart es

-- none of them connected it
pub record Apart (s t : Talking) (events : List Event) : Type 0 where
  pub apart : is_connected t.voice ≡ false
  pub handed : t.handed ≡ s.handed
  pub nothing : entered_in events ≡ []
  pub unfed : collected_in events ≡ []
  pub all : AllApart events

-- one of them did, and it is still connected
pub record Connected (s : Talking) (t : Stand) (events : List Event) : Type 0 where
  pub early : List Event
  pub connect : Round
  pub later : List Event
  pub are : events ≡ early ++ hears connect ∷ later
  pub name : List ℕ
  pub still : is_connected connect.from.voice ≡ false
  pub is : IsRound connect
  pub reached : connect.reached ≡ Some name
  pub reaches : Reaches name connect.from connect.to connect.before (acts_of connect.from.voice connect.text connect.moment) connect.done connect.heard.fault
  pub connected : is_connected connect.to.voice ≡ true
  pub same : connect.from.handed ≡ s.handed
  pub unfed : collected_in early ≡ []
  pub all : AllApart early
  pub more : AreEvents (record { talk = connect.to; store = connect.now }) later t
  pub goes_on : GoesOn connect.to t.talk later

prepend : (e : Event) (s m : Talking) (t : Stand) (es : List Event) → m.handed ≡ s.handed → ((early : List Event) → collected_in early ≡ [] → collected_in (e ∷ early) ≡ []) → ((early : List Event) → AllApart early → AllApart (e ∷ early))
    → Connected m t es → Connected s t (e ∷ es)
prepend e s m t es handed unfed all c = record {
  early = e ∷ c.early;
  connect = c.connect;
  later = c.later;
  are = ap (λ l. e ∷ l) c.are;
  name = c.name;
  still = c.still;
  is = c.is;
  reached = c.reached;
  reaches = c.reaches;
  connected = c.connected;
  same = c.same ∙ handed;
  unfed = unfed c.early c.unfed;
  all = all c.early c.all;
  more = c.more;
  goes_on = c.goes_on;
}

abbrev pub Went : Talking → Stand → List Event → Type 0
Went s t es = Connected s t es ⊎ Apart s t.talk es

went_brings : (c : Collection) (s : Talking) (t : Stand) (es : List Event) → c.to.handed ≡ s.handed → c.given ≡ [] → Went c.to t es → Went s t (brings c ∷ es)
went_brings c s t es handed none (inl j) = inl (prepend (brings c) s c.to t es handed (λ early unfed. ap (λ l. fed l ++ collected_in early) none ∙ unfed) (λ early all. all) j)
went_brings c s t es handed none (inr a) =
    inr (record { apart = a.apart; handed = a.handed ∙ handed; nothing = a.nothing; unfed = ap (λ l. fed l ++ collected_in es) none ∙ a.unfed; all = a.all })

went_hears : (r : Round) (s : Talking) (t : Stand) (es : List Event) → r.to.handed ≡ s.handed → steps_in r.done ≡ [] → is_connected r.from.voice ≡ false → IsRound r → Went r.to t es → Went s t (hears r ∷ es)
went_hears r s t es handed nothing still is (inl j) = inl (prepend (hears r) s r.to t es handed (λ early unfed. unfed) (λ early all. ((still, is), all)) j)
went_hears r s t es handed nothing still is (inr a) =
    inr (record { apart = a.apart; handed = a.handed ∙ handed; nothing = ap (λ l. entered l ++ entered_in es) nothing ∙ a.nothing; unfed = a.unfed; all = ((still, is), a.all) })

-- a text that is heard apart: it connects, or what comes behind it is heard apart too
went_text : (r : Round) (s t : Stand) (es : List Event) → r.from ≡ s.talk → is_connected r.from.voice ≡ false → IsRound r → AreEvents (record { talk = r.to; store = r.now }) es t
    → (is_connected r.to.voice ≡ false → Went r.to t es) → Went s.talk t (hears r ∷ es)
went_text r s t es begins here is more next = by r.reached refl does.does
  where
    does : IsHeardApart r
    does = is.apart here

    handed_is : r.from.handed ≡ s.talk.handed
    handed_is = ap (λ (k : Talking). k.handed) begins

    split : (name : List ℕ) → r.reached ≡ Some name → Reaches name r.from r.to r.before (acts_of r.from.voice r.text r.moment) r.done r.heard.fault → (b : Bool) → is_connected r.to.voice ≡ b
        → Went s.talk t (hears r ∷ es)
    split name at reaches true connected = inl (record {
      early = [];
      connect = r;
      later = es;
      are = refl;
      name = name;
      still = here;
      is = is;
      reached = at;
      reaches = reaches;
      connected = connected;
      same = handed_is;
      unfed = refl;
      all = tt;
      more = more;
      goes_on = goes_on es (record { talk = r.to; store = r.now }) t connected more;
    })
    split name at reaches false still = went_hears r s.talk t es (reaches.handed still ∙ handed_is) (reaches.nothing still) here is (next still)

    by : (reached : Option (List ℕ)) → r.reached ≡ reached → ReachesBy reached r.from r.to r.before (acts_of r.from.voice r.text r.moment) r.done r.heard.fault → Went s.talk t (hears r ∷ es)
    by None at away = went_hears r s.talk t es (away.handed ∙ handed_is) away.nothing here is (next away.apart)
    by (Some name) at reaches = split name at reaches (is_connected r.to.voice) refl

ok_given : (a b : List Reply) → ◌≡◌ {A = Result (List Reply) TalkFault} (Ok a) (Ok b) → a ≡ b
ok_given a b same = cc

pub went : (es : List Event) (s t : Stand) → is_connected s.talk.voice ≡ false → AreEvents s es t → Went s.talk t es
went [] s t apart same =
    inr (subst (λ (x : Stand). Apart s.talk x.talk []) (sym same) (record { apart = apart; handed = refl; nothing = refl; unfed = refl; all = tt }))
went (brings c ∷ es) s t apart (begins, (is, more)) =
    let here : is_connected c.from.voice ≡ false = ap (λ (k : Talking). is_connected k.voice) begins ∙ apart in
    let same : c.to ≡ s.talk = (is.collects.apart here).1 ∙ begins in
    went_brings c s.talk t es (ap (λ (k : Talking). k.handed) same) (ok_given c.given [] (is.collects.apart here).0)
    (went es (behind (brings c) s) t (ap (λ (k : Talking). is_connected k.voice) same ∙ apart) more)
went (hears r ∷ es) s t apart (begins, (is, more)) =
    went_text r s t es begins.0 (ap (λ (k : Talking). is_connected k.voice) begins.0 ∙ apart) is more (λ still. went es (behind (hears r) s) t still more)
