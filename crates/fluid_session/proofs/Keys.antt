-- The key along a session, and what it tells of the documents that are open.
use Rattle.std.proofs.Common.{◌≡◌, inl, inr, ℕ, ◌+◌, ◌≤◌, Bool, true, false, not, ◌&&◌, List, [], ◌∷◌, ◌++◌, length, map, Option, Some, None, Result, Ok, Err, refl, sym, ap, subst, ◌∙◌, arith, append-nil, length-append}
use Rattle.std.proofs.lemmas.Bool.{false≢true, leb-true}
use Rattle.fluid_turn.specs.declared.view.Numbered.{Numbered}
use Rattle.fluid_turn.specs.Entries.{IsPrefix, by_seat, entries}
use Rattle.fluid_turn.proofs.Lists.{prefix_refl, prefix_trans, entries-append}
use Rattle.fluid_lane.specs.declared.fault.LaneFault.TheVariants as lane
use Rattle.fluid_opening.specs.declared.opening.TheConstants.{MOST_DOCUMENTS}
use Rattle.fluid_opening.specs.declared.fault.DoorFault.{DoorFault}
use Rattle.fluid_opening.specs.declared.fault.DoorFault.TheVariants as door
use Rattle.fluid_opening.specs.declared.shelf.ShelfStep.{ShelfStep}
use Rattle.fluid_opening.specs.declared.shelf.ShelfStep.TheVariants.{Opened, Failed}
use Rattle.fluid_opening.specs.Steps.{opened, is_opened, is_worn, is_full, refusal, refusal_by, visit_steps, visit_steps_by, IsAnswerBy}
use Rattle.fluid_voice.specs.declared.actions.Act.{Act}
use Rattle.fluid_voice.specs.declared.actions.Act.TheVariants as act
use Rattle.fluid_voice.specs.declared.ends.ActEnd.{ActEnd}
use Rattle.fluid_voice.specs.declared.ends.ActEnd.TheVariants.{Said, Joined, Told, Entered, FullNow, TooMany, Given}
use Rattle.fluid_voice.specs.States.{is_connected}
use Rattle.fluid_voice.specs.Heard.{acts_of}
use Rattle.fluid_voice.specs.Ends.{is_beyond}
use Rattle.fluid_ends.specs.declared.fault.TalkFault.{TalkFault}
use Rattle.fluid_ends.specs.declared.fault.TalkFault.TheVariants.{Door, Lane, Delta, Store, NoMemory}
use Rattle.fluid_talk.specs.Talking.{Talking, Keyed, opened_by}
use Rattle.fluid_talk.specs.Shelves.{AsksFor, IsRefusedDoor}
use Rattle.fluid_talk.specs.Doing.{Did, acts_in}
use Rattle.fluid_talk.specs.Hearing.{KeyBehind, ReachesBy, IsConnectEnd, AreConnectEnds}
use Rattle.fluid_session.specs.Events.{Event, Stand, Collection, Round, IsCollection, IsRound, AreEvents, behind}
use Rattle.fluid_session.specs.Events.Event.{brings, hears}
use Rattle.fluid_session.specs.Outcome.{EachBeyond, AreBeyond, IsBeyond}
use Rattle.fluid_voice.specs.Laws.{IsOneAnswer}
use Rattle.fluid_voice.proofs.Ahead.{others_connect}
use Rattle.fluid_session.proofs.Submitted.{IsNoConnect, NoConnects, round_none}
use Rattle.fluid_session.proofs.Counts.{more_none}

-- ---- it knows what it knew

keeps_on : (k m : Keyed) → m ≡ k → IsPrefix k.seen m.seen
keeps_on k m same = subst (λ (x : Keyed). IsPrefix k.seen x.seen) (sym same) (prefix_refl k.seen)

asks_on : (name : List ℕ) (answer : Result (Unit {0}) DoorFault) (k m : Keyed) → AsksFor name answer k m → IsPrefix k.seen m.seen
asks_on name answer k m asks =
    prefix_trans k.seen asks.before m.seen asks.begins (map (by_seat k.number) (visit_steps name answer (entries asks.before)), asks.seen)

key_behind : (acts : List Act) (done : List Did) (failed : Option TalkFault) (k m : Keyed) → KeyBehind acts done failed k m → IsPrefix k.seen m.seen
key_behind [] done failed k m h = h.seen
key_behind (act.Say reply ∷ acts) done failed k m h = h.seen
key_behind (act.Connect name write scopes detail moment ∷ acts) (d ∷ done) failed k m h = asks_on name (Err (door.TooManyDocuments MOST_DOCUMENTS)) k m h
key_behind (act.Connect name write scopes detail moment ∷ acts) [] None k m h = h.seen
key_behind (act.Connect name write scopes detail moment ∷ acts) [] (Some (Door fault)) k m h = asks_on name (Err fault) k m h
key_behind (act.Connect name write scopes detail moment ∷ acts) [] (Some (Lane fault)) k m h = h.seen
key_behind (act.Connect name write scopes detail moment ∷ acts) [] (Some (Delta fault)) k m h = h.seen
key_behind (act.Connect name write scopes detail moment ∷ acts) [] (Some (Store fault)) k m h = h.seen
key_behind (act.Connect name write scopes detail moment ∷ acts) [] (Some NoMemory) k m h = h.seen
key_behind (act.Enter raw ∷ acts) done failed k m h = h.seen
key_behind (act.Deltas from to ∷ acts) done failed k m h = h.seen
key_behind (act.Summary asked ∷ acts) done failed k m h = h.seen
key_behind (act.GetObject id ∷ acts) done failed k m h = h.seen
key_behind (act.PutObject bytes ∷ acts) done failed k m h = h.seen

brings_key : (c : Collection) → IsCollection c → IsPrefix c.from.key.seen c.to.key.seen
brings_key c is = by (is_connected c.from.voice) refl
  where
    by : (b : Bool) → is_connected c.from.voice ≡ b → IsPrefix c.from.key.seen c.to.key.seen
    by true joined = keeps_on c.from.key c.to.key (is.collects.connected joined).key
    by false apart = keeps_on c.from.key c.to.key (ap (λ (k : Talking). k.key) (is.collects.apart apart).1)

hears_key : (r : Round) → IsRound r → IsPrefix r.from.key.seen r.to.key.seen
hears_key r is = by (is_connected r.from.voice) refl
  where
    reach : (reached : Option (List ℕ)) → ReachesBy reached r.from r.to r.before (acts_of r.from.voice r.text r.moment) r.done r.heard.fault → IsPrefix r.from.key.seen r.to.key.seen
    reach None away = key_behind (acts_of r.from.voice r.text r.moment) r.done r.heard.fault r.from.key r.to.key away.key
    reach (Some name) reaches = elim reaches.through [
      | inl splits ↦ keeps_on r.from.key r.to.key splits.key
      | inr door ↦ asks_on name (Ok tt) r.from.key r.to.key door.opens
    ]

    by : (b : Bool) → is_connected r.from.voice ≡ b → IsPrefix r.from.key.seen r.to.key.seen
    by true joined = keeps_on r.from.key r.to.key (is.hears_it.does.connected joined).key
    by false apart = reach r.reached (is.apart apart).does

pub key_on : (es : List Event) (s t : Stand) → AreEvents s es t → IsPrefix s.talk.key.seen t.talk.key.seen
key_on [] s t same = subst (λ (x : Stand). IsPrefix s.talk.key.seen x.talk.key.seen) (sym same) (prefix_refl s.talk.key.seen)
key_on (brings c ∷ es) s t (begins, (is, more)) =
    prefix_trans s.talk.key.seen c.to.key.seen t.talk.key.seen (subst (λ (k : Talking). IsPrefix k.key.seen c.to.key.seen) begins (brings_key c is)) (key_on es (behind (brings c) s) t more)
key_on (hears r ∷ es) s t (begins, (is, more)) =
    prefix_trans s.talk.key.seen r.to.key.seen t.talk.key.seen (subst (λ (k : Talking). IsPrefix k.key.seen r.to.key.seen) begins.0 (hears_key r is)) (key_on es (behind (hears r) s) t more)

-- ---- too many documents

not_so : (fault : DoorFault) → ◌≡◌ {A = Result (Unit {0}) DoorFault} (Err fault) (Err door.NoMemory) → fault ≡ door.NoMemory
not_so fault same = cc

no_memory_many : (count : ℕ) → door.TooManyDocuments count ≡ door.NoMemory → ⊥
no_memory_many count same = cc

worn_many : (count : ℕ) → ◌≡◌ {A = Result (Unit {0}) DoorFault} (Err (door.TooManyDocuments count)) (Err (door.Lane lane.Worn)) → ⊥
worn_many count same = cc

-- who is told so finds as many documents open as may be, and not this one
beyond_by : (opened_is full worn told : Bool) (count : ℕ) → IsAnswerBy {A = Unit {0}} opened_is (refusal_by worn full) told (Err (door.TooManyDocuments count)) → (opened_is ≡ false) × (full ≡ true)
beyond_by true full worn told count answer = absurd answer
beyond_by false full true told count (inl memory) = absurd (no_memory_many count (not_so (door.TooManyDocuments count) memory))
beyond_by false full true told count (inr same) = absurd (worn_many count same)
beyond_by false true false told count answer = (refl, refl)
beyond_by false false false told count answer = absurd answer

and_true : (a b : Bool) → a ≡ false → b ≡ true → (not a && b) ≡ true
and_true a b h k = rw (h, k) refl

-- the answer that too many documents are open
abbrev refused_many : Result (Unit {0}) DoorFault
refused_many = Err (door.TooManyDocuments MOST_DOCUMENTS)

asked_beyond : (name : List ℕ) (k m : Keyed) → IsRefusedDoor name (door.TooManyDocuments MOST_DOCUMENTS) k m → is_beyond (opened_by m) name ≡ true
asked_beyond name k m asks =
    let l : List ShelfStep = entries asks.before in
    let both = beyond_by (is_opened name l) (is_full l) (is_worn l) k.told MOST_DOCUMENTS asks.is in
    let steps : visit_steps name refused_many l ≡ [] = none_by (is_opened name l) (refusal l) in
    let seen : m.seen ≡ asks.before = asks.seen ∙ ap (λ added. asks.before ++ map (by_seat k.number) added) steps ∙ append-nil asks.before in
    subst (λ (x : List (Numbered ShelfStep)). is_beyond (opened (entries x)) name ≡ true) (sym seen) (and_true (is_opened name l) (is_full l) both.0 both.1)
  where
    none_by : (b : Bool) (refused : Option DoorFault) → visit_steps_by b refused name refused_many ≡ []
    none_by true refused = refl
    none_by false (Some fault) = refl
    none_by false None = refl

opened-append : (a b : List ShelfStep) → opened (a ++ b) ≡ opened a ++ opened b
opened-append [] b = refl
opened-append (Opened name ∷ a) b = ap (λ l. name ∷ l) (opened-append a b)
opened-append (Failed name fault ∷ a) b = opened-append a b

second_true : (a b : Bool) → (a && b) ≡ true → b ≡ true
second_true true b is = is
second_true false b is = absurd (false≢true is)

none_of_length : (l : List (List ℕ)) → length l ≤ 0 → l ≡ []
none_of_length [] few = refl
none_of_length (x ∷ l) few = absurd (omega (arith, few))

-- no further document is opened then
beyond_later : (k m : Keyed) (name : List ℕ) → IsPrefix k.seen m.seen → length (opened_by m) ≤ MOST_DOCUMENTS → is_beyond (opened_by k) name ≡ true → is_beyond (opened_by m) name ≡ true
beyond_later k m name (rest, is) few beyond =
    let all : opened_by m ≡ opened_by k ++ opened (entries rest) = ap (λ (x : List (Numbered ShelfStep)). opened (entries x)) is ∙ ap opened (entries-append k.seen rest) ∙ opened-append (entries k.seen) (entries rest) in
    let many : MOST_DOCUMENTS ≤ length (opened_by k) = leb-true MOST_DOCUMENTS (length (opened_by k)) (second_true _ _ beyond) in
    let sum : length (opened_by m) ≡ length (opened_by k) + length (opened (entries rest)) = ap length all ∙ length-append (opened_by k) (opened (entries rest)) in
    let no_more : length (opened (entries rest)) ≤ 0 = omega (arith, many, sum, few) in
    let none : opened (entries rest) ≡ [] = none_of_length (opened (entries rest)) no_more in
    subst (λ l. is_beyond l name ≡ true) (sym (all ∙ ap (λ l. opened_by k ++ l) none ∙ append-nil (opened_by k))) beyond

-- of each text
connected_each : (k : Keyed) (done : List Did) → NoConnects (acts_in done) → EachBeyond k done
connected_each k [] none = tt
connected_each k (d ∷ done) (here, none) = (by d.act d.end here, connected_each k done none)
  where
    by : (a : Act) (end : ActEnd) → IsNoConnect a → IsBeyond k a end
    by (act.Say reply) end h = tt
    by (act.Connect name write scopes detail moment) end h = absurd h
    by (act.Enter raw) end h = tt
    by (act.Deltas from to) end h = tt
    by (act.Summary asked) end h = tt
    by (act.GetObject id) end h = tt
    by (act.PutObject bytes) end h = tt

reached_each : (k : Keyed) (name : List ℕ) (done : List Did) → AreConnectEnds (Some name) done → EachBeyond k done
reached_each k name [] ends = tt
reached_each k name (d ∷ done) (here, rest) = (by d.act d.end here, reached_each k name done rest)
  where
    by : (a : Act) (end : ActEnd) → IsConnectEnd (Some name) a end → IsBeyond k a end
    by (act.Say reply) end h = tt
    by (act.Connect of_name write scopes detail moment) (Given reply) h = absurd h
    by (act.Connect of_name write scopes detail moment) Said h = tt
    by (act.Connect of_name write scopes detail moment) (Joined id n) h = tt
    by (act.Connect of_name write scopes detail moment) (Told last) h = tt
    by (act.Connect of_name write scopes detail moment) (Entered v) h = tt
    by (act.Connect of_name write scopes detail moment) FullNow h = tt
    by (act.Connect of_name write scopes detail moment) TooMany h = tt
    by (act.Enter raw) end h = tt
    by (act.Deltas from to) end h = tt
    by (act.Summary asked) end h = tt
    by (act.GetObject id) end h = tt
    by (act.PutObject bytes) end h = tt

-- who reached no door: one act at most, and a connect is the first
away_each : (k m : Keyed) (acts rest : List Act) (done : List Did) (failed : Option TalkFault) → acts ≡ acts_in done ++ rest → IsOneAnswer acts → KeyBehind acts done failed k m → EachBeyond m done
away_each k m acts rest [] failed is one key = tt
away_each k m acts rest (d ∷ done) failed is one key =
    (at d.act d.end (subst (λ l. KeyBehind l (d ∷ done) failed k m) is key), subst (EachBeyond m) (sym (none_more d.act done (subst IsOneAnswer is one))) tt)
  where
    none_more : (a : Act) (done : List Did) → IsOneAnswer (a ∷ acts_in done ++ rest) → done ≡ []
    none_more a [] h = refl
    none_more a (e ∷ done) h = absurd (more_none a e.act (acts_in done ++ rest) h)

    at : (a : Act) (end : ActEnd) → KeyBehind (a ∷ acts_in done ++ rest) (d ∷ done) failed k m → IsBeyond m a end
    at (act.Say reply) end h = tt
    at (act.Connect name write scopes detail moment) (Given reply) h = asked_beyond name k m h
    at (act.Connect name write scopes detail moment) Said h = tt
    at (act.Connect name write scopes detail moment) (Joined id n) h = tt
    at (act.Connect name write scopes detail moment) (Told last) h = tt
    at (act.Connect name write scopes detail moment) (Entered v) h = tt
    at (act.Connect name write scopes detail moment) FullNow h = tt
    at (act.Connect name write scopes detail moment) TooMany h = tt
    at (act.Enter raw) end h = tt
    at (act.Deltas from to) end h = tt
    at (act.Summary asked) end h = tt
    at (act.GetObject id) end h = tt
    at (act.PutObject bytes) end h = tt

each_later : (k m : Keyed) (done : List Did) → IsPrefix k.seen m.seen → length (opened_by m) ≤ MOST_DOCUMENTS → EachBeyond k done → EachBeyond m done
each_later k m [] later few each = tt
each_later k m (d ∷ done) later few (here, rest) = (by d.act d.end here, each_later k m done later few rest)
  where
    by : (a : Act) (end : ActEnd) → IsBeyond k a end → IsBeyond m a end
    by (act.Say reply) end h = tt
    by (act.Connect name write scopes detail moment) (Given reply) h = beyond_later k m name later few h
    by (act.Connect name write scopes detail moment) Said h = tt
    by (act.Connect name write scopes detail moment) (Joined id n) h = tt
    by (act.Connect name write scopes detail moment) (Told last) h = tt
    by (act.Connect name write scopes detail moment) (Entered v) h = tt
    by (act.Connect name write scopes detail moment) FullNow h = tt
    by (act.Connect name write scopes detail moment) TooMany h = tt
    by (act.Enter raw) end h = tt
    by (act.Deltas from to) end h = tt
    by (act.Summary asked) end h = tt
    by (act.GetObject id) end h = tt
    by (act.PutObject bytes) end h = tt

round_beyond : (r : Round) → IsRound r → EachBeyond r.to.key r.done
round_beyond r is = by (is_connected r.from.voice) refl
  where
    reach : (reached : Option (List ℕ)) → is_connected r.from.voice ≡ false → ReachesBy reached r.from r.to r.before (acts_of r.from.voice r.text r.moment) r.done r.heard.fault → AreConnectEnds reached r.done
        → EachBeyond r.to.key r.done
    reach None apart away ends =
        away_each r.from.key r.to.key (acts_of r.from.voice r.text r.moment) is.hears_it.does.rest r.done r.heard.fault is.hears_it.does.asked (others_connect r.from.voice r.text r.moment apart) away.key
    reach (Some name) apart reaches ends = reached_each r.to.key name r.done ends

    by : (b : Bool) → is_connected r.from.voice ≡ b → EachBeyond r.to.key r.done
    by true joined = connected_each r.to.key r.done (round_none r joined is)
    by false apart = reach r.reached apart (is.apart apart).does (is.apart apart).ends

pub all_beyond : (es : List Event) (s t : Stand) (k : Keyed) → AreEvents s es t → IsPrefix t.talk.key.seen k.seen → length (opened_by k) ≤ MOST_DOCUMENTS → AreBeyond k es
all_beyond [] s t k same later few = tt
all_beyond (brings c ∷ es) s t k (begins, (is, more)) later few = all_beyond es (behind (brings c) s) t k more later few
all_beyond (hears r ∷ es) s t k (begins, (is, more)) later few = (
  each_later r.to.key k r.done (prefix_trans r.to.key.seen t.talk.key.seen k.seen (key_on es (behind (hears r) s) t more) later) few (round_beyond r is),
  all_beyond es (behind (hears r) s) t k more later few,
)
