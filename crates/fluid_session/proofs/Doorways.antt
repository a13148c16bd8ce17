-- Connects: who is connected by one, and why one is refused.
use Rattle.std.proofs.Common.{◌≡◌, ℕ, ◌≤◌, Bool, true, false, ◌&&◌, List, [], ◌∷◌, ◌++◌, length, map, Option, Some, None, refl, sym, ap, subst, ◌∙◌, append-nil, if◌then◌else◌}
use Rattle.std.proofs.lemmas.Bool.{false≢true, leb-true}
use Rattle.fluid_json.specs.Tree.{Tree}
use Rattle.fluid_turn.specs.declared.view.Numbered.{Numbered}
use Rattle.fluid_turn.specs.Entries.{by_seat}
use Rattle.fluid_types.specs.Ledger.{Ledger}
use Rattle.fluid_types.specs.declared.entries.Raw.{Raw}
use Rattle.fluid_types.specs.declared.entries.Scopes.{Scopes}
use Rattle.fluid_types.specs.declared.verdicts.Verdict.{Verdict}
use Rattle.fluid_types.specs.declared.verdicts.Verdict.TheVariants as verdict
use Rattle.fluid_rules.specs.Rules.{verdict as verdict_of, joined}
use Rattle.fluid_rules.specs.Counted.{counted, is_full, has_too_many_clients}
use Rattle.fluid_rules.specs.declared.limits.Limits.{Limits}
use Rattle.fluid_lane.specs.declared.steps.Step.{Step}
use Rattle.fluid_voice.specs.declared.states.VoiceState.{VoiceState}
use Rattle.fluid_voice.specs.declared.states.VoiceState.TheVariants.{Fresh, Reading, Writing, Used}
use Rattle.fluid_voice.specs.declared.actions.Act.{Act}
use Rattle.fluid_voice.specs.declared.actions.Act.TheVariants as act
use Rattle.fluid_voice.specs.declared.ends.ActEnd.{ActEnd}
use Rattle.fluid_voice.specs.declared.ends.ActEnd.TheVariants.{Said, Joined, Told, Entered, FullNow, TooMany, Given}
use Rattle.fluid_voice.specs.States.{is_connected, number_behind}
use Rattle.fluid_voice.specs.Heard.{acts_of}
use Rattle.fluid_voice.specs.Replies.{state_after, state_behind}
use Rattle.fluid_voice.specs.Ends.{outcome, join_of, joined_by}
use Rattle.fluid_voice.specs.Ends.Outcome.{ends}
use Rattle.fluid_ends.specs.Adding.{AddsBy, IsJoinStep}
use Rattle.fluid_ends.specs.Asking.{found_in}
use Rattle.fluid_talk.specs.Talking.{Knowing, Talking, ledger_of}
use Rattle.fluid_talk.specs.Causes.{IsConnect}
use Rattle.fluid_talk.specs.Doing.{Did, AreDone, AreFound, AreAnswered, IsAnswered, acts_in, ends_in, ended, steps_in}
use Rattle.fluid_talk.specs.Hearing.{IsConnectTo, Reaches, ReachesBy}
use Rattle.fluid_session.specs.Events.{Event, Stand, Round, IsRound, AreEvents, behind}
use Rattle.fluid_session.specs.Events.Event.{brings, hears}
use Rattle.fluid_session.specs.Outcome.{IsConnectedAs, IsLimitOf, NoneReached, IsLastDoor, AreLastDoors, GoesOn}
use Rattle.fluid_session.proofs.Passes.{goes_on}
use Rattle.fluid_session.proofs.Filling.{nothing_held}

-- ---- the one act of a connect

-- nothing was done, or the connect was
pub data ConnectDone (done : List Did) : Type 0 where
  undone : done ≡ [] → ConnectDone done
  one : (d : Did) → done ≡ d ∷ [] → IsConnect d.act → ConnectDone done

is_connect : (name : List ℕ) (a : Act) (rest : List Act) → IsConnectTo name (a ∷ rest) → IsConnect a
is_connect name (act.Connect other write scopes detail moment) rest h = tt
is_connect name (act.Say reply) [] h = absurd h
is_connect name (act.Say reply) (x ∷ rest) h = absurd h
is_connect name (act.Enter raw) [] h = absurd h
is_connect name (act.Enter raw) (x ∷ rest) h = absurd h
is_connect name (act.Deltas from to) [] h = absurd h
is_connect name (act.Deltas from to) (x ∷ rest) h = absurd h
is_connect name (act.Summary asked) [] h = absurd h
is_connect name (act.Summary asked) (x ∷ rest) h = absurd h
is_connect name (act.GetObject id) [] h = absurd h
is_connect name (act.GetObject id) (x ∷ rest) h = absurd h
is_connect name (act.PutObject bytes) [] h = absurd h
is_connect name (act.PutObject bytes) (x ∷ rest) h = absurd h

no_more : (name : List ℕ) (a b : Act) (rest : List Act) → IsConnectTo name (a ∷ b ∷ rest) → ⊥
no_more name (act.Connect other write scopes detail moment) b rest h = h
no_more name (act.Say reply) b rest h = h
no_more name (act.Enter raw) b rest h = h
no_more name (act.Deltas from to) b rest h = h
no_more name (act.Summary asked) b rest h = h
no_more name (act.GetObject id) b rest h = h
no_more name (act.PutObject bytes) b rest h = h

connect_done : (name : List ℕ) (acts rest : List Act) (done : List Did) → IsConnectTo name acts → acts ≡ acts_in done ++ rest → ConnectDone done
connect_done name acts rest [] h is = undone refl
connect_done name acts rest (d ∷ []) h is = one d refl (is_connect name d.act rest (subst (IsConnectTo name) is h))
connect_done name acts rest (d ∷ e ∷ done) h is = absurd (no_more name d.act e.act (acts_in done ++ rest) (subst (IsConnectTo name) is h))

pub round_connect : (r : Round) (name : List ℕ) → IsRound r → Reaches name r.from r.to r.before (acts_of r.from.voice r.text r.moment) r.done r.heard.fault → ConnectDone r.done
round_connect r name is reaches = connect_done name (acts_of r.from.voice r.text r.moment) is.hears_it.does.rest r.done reaches.asked is.hears_it.does.asked

-- ---- who is connected by it

still_apart : {A : Type 0} (s t : VoiceState) → is_connected s ≡ false → is_connected t ≡ true → t ≡ s → A
still_apart s t apart joined same = absurd (false≢true (sym apart ∙ ap is_connected (sym same) ∙ joined))

joined_as : (id : List ℕ) (scopes : Scopes) (detail : Tree) (moment number : ℕ) (name : List ℕ) (t : VoiceState) (added : List Step) → t ≡ Writing name id number → IsJoinStep id scopes detail moment number added
    → IsConnectedAs t (Joined id number ∷ []) (added ++ [])
joined_as id scopes detail moment number name t added is step =
    subst (λ v. IsConnectedAs v (Joined id number ∷ []) (added ++ [])) (sym is)
    (record { scopes = scopes; detail = detail; moment = moment; message = step.message; is = append-nil added ∙ step.is; first = sym step.numbered })

told_as : (last : ℕ) (name : List ℕ) (t : VoiceState) (added : List Step) → t ≡ Reading name (number_behind last) → added ≡ [] → IsConnectedAs t (Told last ∷ []) (added ++ [])
told_as last name t added is none =
    subst (λ v. IsConnectedAs v (Told last ∷ []) (added ++ [])) (sym is) (record { last = last; told = refl; first = refl; nothing = append-nil added ∙ none })

connected_by : (s t : VoiceState) (a : Act) (end : ActEnd) (added : List Step) → is_connected s ≡ false → is_connected t ≡ true → IsConnect a → AddsBy a end added → t ≡ state_after s a end → IsConnectedAs t (end ∷ []) (added ++ [])
connected_by (Reading name next) t a end added apart joined h adds is = still_apart (Reading name next) (Reading name next) apart refl refl
connected_by (Writing name id next) t a end added apart joined h adds is = still_apart (Writing name id next) (Writing name id next) apart refl refl
connected_by Used t (act.Connect name write scopes detail moment) end added apart joined h adds is = still_apart Used t apart joined is
connected_by Used t (act.Say reply) end added apart joined h adds is = absurd h
connected_by Used t (act.Enter raw) end added apart joined h adds is = absurd h
connected_by Used t (act.Deltas from to) end added apart joined h adds is = absurd h
connected_by Used t (act.Summary asked) end added apart joined h adds is = absurd h
connected_by Used t (act.GetObject id) end added apart joined h adds is = absurd h
connected_by Used t (act.PutObject bytes) end added apart joined h adds is = absurd h
connected_by Fresh t (act.Say reply) end added apart joined h adds is = absurd h
connected_by Fresh t (act.Enter raw) end added apart joined h adds is = absurd h
connected_by Fresh t (act.Deltas from to) end added apart joined h adds is = absurd h
connected_by Fresh t (act.Summary asked) end added apart joined h adds is = absurd h
connected_by Fresh t (act.GetObject id) end added apart joined h adds is = absurd h
connected_by Fresh t (act.PutObject bytes) end added apart joined h adds is = absurd h
connected_by Fresh t (act.Connect name true scopes detail moment) (Joined id number) added apart joined h adds is = joined_as id scopes detail moment number name t added is adds
connected_by Fresh t (act.Connect name true scopes detail moment) Said added apart joined h adds is = still_apart Fresh t apart joined is
connected_by Fresh t (act.Connect name true scopes detail moment) (Told last) added apart joined h adds is = still_apart Fresh t apart joined is
connected_by Fresh t (act.Connect name true scopes detail moment) (Entered v) added apart joined h adds is = still_apart Fresh t apart joined is
connected_by Fresh t (act.Connect name true scopes detail moment) FullNow added apart joined h adds is = still_apart Fresh t apart joined is
connected_by Fresh t (act.Connect name true scopes detail moment) TooMany added apart joined h adds is = still_apart Fresh t apart joined is
connected_by Fresh t (act.Connect name true scopes detail moment) (Given reply) added apart joined h adds is = still_apart Fresh t apart joined is
connected_by Fresh t (act.Connect name false scopes detail moment) (Told last) added apart joined h adds is = told_as last name t added is adds
connected_by Fresh t (act.Connect name false scopes detail moment) Said added apart joined h adds is = still_apart Fresh t apart joined is
connected_by Fresh t (act.Connect name false scopes detail moment) (Joined id number) added apart joined h adds is = still_apart Fresh t apart joined is
connected_by Fresh t (act.Connect name false scopes detail moment) (Entered v) added apart joined h adds is = still_apart Fresh t apart joined is
connected_by Fresh t (act.Connect name false scopes detail moment) FullNow added apart joined h adds is = still_apart Fresh t apart joined is
connected_by Fresh t (act.Connect name false scopes detail moment) TooMany added apart joined h adds is = still_apart Fresh t apart joined is
connected_by Fresh t (act.Connect name false scopes detail moment) (Given reply) added apart joined h adds is = still_apart Fresh t apart joined is

pub connected_as : (r : Round) (name : List ℕ) → IsRound r → is_connected r.from.voice ≡ false → is_connected r.to.voice ≡ true
    → Reaches name r.from r.to r.before (acts_of r.from.voice r.text r.moment) r.done r.heard.fault → IsConnectedAs r.to.voice (ends_in r.done) (steps_in r.done)
connected_as r name is apart joined reaches = by r.done (round_connect r name is reaches) is.hears_it.does.voice is.hears_it.does.are_done
  where
    by : (done : List Did) → ConnectDone done → r.to.voice ≡ state_behind r.from.voice (ended done) → AreDone done → IsConnectedAs r.to.voice (ends_in done) (steps_in done)
    by done (undone none) voice are = still_apart r.from.voice r.to.voice apart joined (voice ∙ ap (λ (l : List Did). state_behind r.from.voice (ended l)) none)
    by done (one d only connect) voice are =
        let at : r.to.voice ≡ state_after r.from.voice d.act d.end = voice ∙ ap (λ (l : List Did). state_behind r.from.voice (ended l)) only in
        let one_done : AreDone (d ∷ []) = subst AreDone only are in
        subst (λ (l : List Did). IsConnectedAs r.to.voice (ends_in l) (steps_in l)) (sym only) (connected_by r.from.voice r.to.voice d.act d.end d.added apart joined connect one_done.0.adds at)

-- ---- limits

ends_same : (a b : ActEnd) → ends a ≡ ends b → a ≡ b
ends_same a b same = cc

second_true : (a b : Bool) → (a && b) ≡ true → b ≡ true
second_true true b is = is
second_true false b is = absurd (false≢true is)

-- the end of a join is a limit only where the ledger has reached it
abbrev pub IsLimitAt : Limits → Ledger → ActEnd → Type 0
IsLimitAt limits l FullNow = limits.entries ≤ counted l
IsLimitAt limits l TooMany = limits.clients ≤ length (joined l)
IsLimitAt limits l end = Unit {0}

joined_limit : (limits : Limits) (l : Ledger) (id : List ℕ) (v : Verdict) → IsLimitAt limits l (joined_by id v)
joined_limit limits l id (verdict.Sequenced message) = tt
joined_limit limits l id (verdict.Nacked nack) = tt
joined_limit limits l id verdict.Dropped = tt
joined_limit limits l id verdict.Absorbed = tt

join_limit : (limits : Limits) (l : Ledger) (join : Raw) (id : List ℕ) (v : Verdict) (full many : Bool) → is_full limits.entries l join ≡ full → has_too_many_clients limits.clients l join ≡ many
    → IsLimitAt limits l (if full then FullNow else if many then TooMany else joined_by id v)
join_limit limits l join id v true many full_is many_is = leb-true limits.entries (counted l) (second_true _ _ full_is)
join_limit limits l join id v false true full_is many_is = leb-true limits.clients (length (joined l)) (second_true _ _ many_is)
join_limit limits l join id v false false full_is many_is = joined_limit limits l id v

connect_limit : (limits : Limits) (l : Ledger) (a : Act) (end : ActEnd) → IsConnect a → outcome (found_in limits l nothing_held) a ≡ ends end → IsLimitAt limits l end
connect_limit limits l (act.Connect name true scopes detail moment) end h is =
    subst (IsLimitAt limits l) (ends_same _ _ is)
    (join_limit limits l (join_of l scopes detail moment) _ (verdict_of l (join_of l scopes detail moment)) (is_full limits.entries l (join_of l scopes detail moment)) (has_too_many_clients limits.clients l (join_of l scopes detail moment)) refl refl)
connect_limit limits l (act.Connect name false scopes detail moment) end h is = subst (IsLimitAt limits l) (ends_same _ _ is) tt
connect_limit limits l (act.Say reply) end h is = absurd h
connect_limit limits l (act.Enter raw) end h is = absurd h
connect_limit limits l (act.Deltas from to) end h is = absurd h
connect_limit limits l (act.Summary asked) end h is = absurd h
connect_limit limits l (act.GetObject id) end h is = absurd h
connect_limit limits l (act.PutObject bytes) end h is = absurd h

-- a refused connect adds nothing
abbrev IsRefusal : ActEnd → Type 0
IsRefusal FullNow = Unit {0}
IsRefusal TooMany = Unit {0}
IsRefusal end = ⊥

adds_none : (a : Act) (end : ActEnd) (added : List Step) → IsConnect a → IsRefusal end → AddsBy a end added → added ≡ []
adds_none (act.Connect name write scopes detail moment) FullNow added h k adds = adds
adds_none (act.Connect name write scopes detail moment) TooMany added h k adds = adds
adds_none (act.Connect name write scopes detail moment) Said added h k adds = absurd k
adds_none (act.Connect name write scopes detail moment) (Joined id n) added h k adds = absurd k
adds_none (act.Connect name write scopes detail moment) (Told last) added h k adds = absurd k
adds_none (act.Connect name write scopes detail moment) (Entered v) added h k adds = absurd k
adds_none (act.Connect name write scopes detail moment) (Given reply) added h k adds = absurd k
adds_none (act.Say reply) end added h k adds = absurd h
adds_none (act.Enter raw) end added h k adds = absurd h
adds_none (act.Deltas from to) end added h k adds = absurd h
adds_none (act.Summary asked) end added h k adds = absurd h
adds_none (act.GetObject id) end added h k adds = absurd h
adds_none (act.PutObject bytes) end added h k adds = absurd h

limit_of : (p : Knowing) (end : ActEnd) → (p.told ≡ true → IsRefusal end → IsLimitAt p.limits (ledger_of p.seen) end) → IsLimitOf (end ∷ []) p
limit_of p FullNow h = λ told. h told tt
limit_of p TooMany h = λ told. h told tt
limit_of p Said h = tt
limit_of p (Joined id n) h = tt
limit_of p (Told last) h = tt
limit_of p (Entered v) h = tt
limit_of p (Given reply) h = tt

-- the pass behind a connect that didn't fail: its ledger is the one that the connect found, where it was refused
round_limit : (r : Round) (name : List ℕ) → IsRound r → Reaches name r.from r.to r.before (acts_of r.from.voice r.text r.moment) r.done r.heard.fault → r.heard.fault ≡ None → IsLimitOf (ends_in r.done) r.to.pass
round_limit r name is reaches well = by r.done (round_connect r name is reaches) is.hears_it.does.are_done (subst (λ f. AreFound r.to.pass.number f reaches.first r.to.pass.seen r.done) well reaches.found) reaches.answered
  where
    by : (done : List Did) → ConnectDone done → AreDone done → AreFound r.to.pass.number None reaches.first r.to.pass.seen done → AreAnswered r.to.pass r.before done → IsLimitOf (ends_in done) r.to.pass
    by done (undone none) are found answered = subst (λ (l : List Did). IsLimitOf (ends_in l) r.to.pass) (sym none) tt
    by done (one d only connect) are found answered =
        let one_done : AreDone (d ∷ []) = subst AreDone only are in
        let one_found : AreFound r.to.pass.number None reaches.first r.to.pass.seen (d ∷ []) = subst (AreFound r.to.pass.number None reaches.first r.to.pass.seen) only found in
        let one_answered : AreAnswered r.to.pass r.before (d ∷ []) = subst (AreAnswered r.to.pass r.before) only answered in
        subst (λ (l : List Did). IsLimitOf (ends_in l) r.to.pass) (sym only)
        (limit_of r.to.pass d.end (λ told refused.
        let none : d.added ≡ [] = adds_none d.act d.end d.added connect refused one_done.0.adds in
        let seen : r.to.pass.seen ≡ d.found = one_found.1 ∙ ap (λ added. d.found ++ map (by_seat r.to.pass.number) added) none ∙ append-nil d.found in
        subst (λ (x : List (Numbered Step)). IsLimitAt r.to.pass.limits (ledger_of x) d.end) (sym seen)
        (connect_limit r.to.pass.limits (ledger_of d.found) d.act d.end connect (told_answer d (d.act) refl connect told one_answered.0))))
      where
        told_answer : (d : Did) (a : Act) → d.act ≡ a → IsConnect a → r.to.pass.told ≡ true → IsAnswered r.to.pass r.before d → outcome (found_in r.to.pass.limits (ledger_of d.found) nothing_held) d.act ≡ ends d.end
        told_answer d (act.Connect name write scopes detail moment) is h told answer = answer nothing_held (rw is told)
        told_answer d (act.Say reply) is h told answer = absurd h
        told_answer d (act.Enter raw) is h told answer = absurd h
        told_answer d (act.Deltas from to) is h told answer = absurd h
        told_answer d (act.Summary asked) is h told answer = absurd h
        told_answer d (act.GetObject id) is h told answer = absurd h
        told_answer d (act.PutObject bytes) is h told answer = absurd h

-- ---- who connects is refused no more

limit_apart : (s t : VoiceState) (a : Act) (end : ActEnd) → is_connected s ≡ false → IsConnect a → IsRefusal end → t ≡ state_after s a end → is_connected t ≡ false
limit_apart (Reading name next) t a end apart h k is = absurd (false≢true (sym apart))
limit_apart (Writing name id next) t a end apart h k is = absurd (false≢true (sym apart))
limit_apart Used t (act.Connect name write scopes detail moment) end apart h k is = ap is_connected is
limit_apart Fresh t (act.Connect name true scopes detail moment) FullNow apart h k is = ap is_connected is
limit_apart Fresh t (act.Connect name true scopes detail moment) TooMany apart h k is = ap is_connected is
limit_apart Fresh t (act.Connect name false scopes detail moment) FullNow apart h k is = ap is_connected is
limit_apart Fresh t (act.Connect name false scopes detail moment) TooMany apart h k is = ap is_connected is
limit_apart Fresh t (act.Connect name write scopes detail moment) Said apart h k is = absurd k
limit_apart Fresh t (act.Connect name write scopes detail moment) (Joined id n) apart h k is = absurd k
limit_apart Fresh t (act.Connect name write scopes detail moment) (Told last) apart h k is = absurd k
limit_apart Fresh t (act.Connect name write scopes detail moment) (Entered v) apart h k is = absurd k
limit_apart Fresh t (act.Connect name write scopes detail moment) (Given reply) apart h k is = absurd k
limit_apart s t (act.Say reply) end apart h k is = absurd h
limit_apart s t (act.Enter raw) end apart h k is = absurd h
limit_apart s t (act.Deltas from to) end apart h k is = absurd h
limit_apart s t (act.Summary asked) end apart h k is = absurd h
limit_apart s t (act.GetObject id) end apart h k is = absurd h
limit_apart s t (act.PutObject bytes) end apart h k is = absurd h

none_limit : (r : Round) (name : List ℕ) (p : Knowing) → IsRound r → is_connected r.from.voice ≡ false → is_connected r.to.voice ≡ true
    → Reaches name r.from r.to r.before (acts_of r.from.voice r.text r.moment) r.done r.heard.fault → IsLimitOf (ends_in r.done) p
none_limit r name p is apart joined reaches = by r.done (round_connect r name is reaches) is.hears_it.does.voice
  where
    other : (d : Did) (end : ActEnd) → (IsRefusal end → ⊥) → IsLimitOf (end ∷ []) p
    other d FullNow h = absurd (h tt)
    other d TooMany h = absurd (h tt)
    other d Said h = tt
    other d (Joined id n) h = tt
    other d (Told last) h = tt
    other d (Entered v) h = tt
    other d (Given reply) h = tt

    by : (done : List Did) → ConnectDone done → r.to.voice ≡ state_behind r.from.voice (ended done) → IsLimitOf (ends_in done) p
    by done (undone none) voice = subst (λ (l : List Did). IsLimitOf (ends_in l) p) (sym none) tt
    by done (one d only connect) voice =
        let at : r.to.voice ≡ state_after r.from.voice d.act d.end = voice ∙ ap (λ (l : List Did). state_behind r.from.voice (ended l)) only in
        subst (λ (l : List Did). IsLimitOf (ends_in l) p) (sym only)
        (other d d.end (λ refused. false≢true (sym (limit_apart r.from.voice r.to.voice d.act d.end apart connect refused at) ∙ joined)))

-- ---- the pass that comes back

stays_apart : (es : List Event) (s t : Stand) → is_connected s.talk.voice ≡ false → NoneReached es → AreEvents s es t → (t.talk.pass ≡ s.talk.pass) × (is_connected t.talk.voice ≡ false)
stays_apart [] s t apart none same = (ap (λ (x : Stand). x.talk.pass) same, ap (λ (x : Stand). is_connected x.talk.voice) same ∙ apart)
stays_apart (brings c ∷ es) s t apart none (begins, (is, more)) =
    let here : is_connected c.from.voice ≡ false = ap (λ (k : Talking). is_connected k.voice) begins ∙ apart in
    let same : c.to ≡ s.talk = (is.collects.apart here).1 ∙ begins in
    let rest = stays_apart es (behind (brings c) s) t (ap (λ (k : Talking). is_connected k.voice) same ∙ apart) none more in
    (rest.0 ∙ ap (λ (k : Talking). k.pass) same, rest.1)
stays_apart (hears r ∷ es) s t apart (at, none) (begins, (is, more)) =
    let here : is_connected r.from.voice ≡ false = ap (λ (k : Talking). is_connected k.voice) begins.0 ∙ apart in
    let away = subst (λ o. ReachesBy o r.from r.to r.before (acts_of r.from.voice r.text r.moment) r.done r.heard.fault) at (is.apart here).does in
    let rest = stays_apart es (behind (hears r) s) t away.apart none more in
    (rest.0 ∙ away.pass ∙ ap (λ (k : Talking). k.pass) begins.0, rest.1)

some_none : {A : Type 0} (name : List ℕ) → ◌≡◌ {A = Option (List ℕ)} (Some name) None → A
some_none name same = cc

-- of the connection that comes back: its pass goes on, and is the same where it isn't connected
pub record Back (t u : Talking) : Type 0 where
  pub name : u.pass.name ≡ t.pass.name
  pub same : is_connected t.voice ≡ false → u.pass ≡ t.pass

last_door : (r : Round) (es : List Event) (t : Stand) (u : Talking) → IsRound r → AreEvents (record { talk = r.to; store = r.now }) es t → Back t.talk u → IsLastDoor r es u.pass
last_door r es t u is more back = λ name at none. by name at none (is_connected r.from.voice) refl
  where
    reach : (name : List ℕ) → NoneReached es → is_connected r.from.voice ≡ false → Reaches name r.from r.to r.before (acts_of r.from.voice r.text r.moment) r.done r.heard.fault → (b : Bool) → is_connected r.to.voice ≡ b
        → (u.pass.name ≡ Some name) × (r.heard.fault ≡ None → IsLimitOf (ends_in r.done) u.pass)
    reach name none apart reaches true joined =
        let on : GoesOn r.to t.talk es = goes_on es (record { talk = r.to; store = r.now }) t joined more in
        (back.name ∙ on.goes.same.name ∙ reaches.named, λ well. none_limit r name u.pass is apart joined reaches)
    reach name none apart reaches false still =
        let stays = stays_apart es (record { talk = r.to; store = r.now }) t still none more in
        let pass : u.pass ≡ r.to.pass = back.same stays.1 ∙ stays.0 in
        (ap (λ (p : Knowing). p.name) pass ∙ reaches.named, λ well. subst (λ (p : Knowing). IsLimitOf (ends_in r.done) p) (sym pass) (round_limit r name is reaches well))

    by : (name : List ℕ) → r.reached ≡ Some name → NoneReached es → (b : Bool) → is_connected r.from.voice ≡ b → (u.pass.name ≡ Some name) × (r.heard.fault ≡ None → IsLimitOf (ends_in r.done) u.pass)
    by name at none true joined = some_none name (sym at ∙ is.joined joined)
    by name at none false apart =
        reach name none apart (subst (λ o. ReachesBy o r.from r.to r.before (acts_of r.from.voice r.text r.moment) r.done r.heard.fault) at (is.apart apart).does) (is_connected r.to.voice) refl

pub last_doors : (es : List Event) (s t : Stand) (u : Talking) → AreEvents s es t → Back t.talk u → AreLastDoors es u.pass
last_doors [] s t u same back = tt
last_doors (brings c ∷ es) s t u (begins, (is, more)) back = last_doors es (behind (brings c) s) t u more back
last_doors (hears r ∷ es) s t u (begins, (is, more)) back = (last_door r es t u is more back, last_doors es (behind (hears r) s) t u more back)
