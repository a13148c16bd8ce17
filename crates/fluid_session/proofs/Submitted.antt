-- What the texts of a client enter.
use Rattle.std.proofs.Common.{◌≡◌, ℕ, Bool, true, false, List, [], ◌∷◌, ◌++◌, None, Ok, Err, refl, sym, ap, subst, ◌∙◌, append_assoc, append-nil, if◌then◌else◌, is_ok, bytes_eq}
use Rattle.std.proofs.lemmas.List.Elements.{All-head, All-tail}
use Rattle.std.specs.Prelude.{All}
use Rattle.std.proofs.lemmas.Bool.{false≢true}
use Rattle.fluid_turn.specs.Entries.{IsPrefix}
use Rattle.fluid_turn.proofs.Lists.{prefix_refl}
use Rattle.fluid_types.specs.Forms.{Read}
use Rattle.fluid_types.specs.declared.entries.Raw.{Raw}
use Rattle.fluid_types.specs.declared.entries.Submission.{Submission}
use Rattle.fluid_types.specs.declared.nacks.NackRule.TheVariants.{ForeignClient}
use Rattle.fluid_tree.specs.Reading.{object_read}
use Rattle.fluid_codec.specs.Events.{event_spelled}
use Rattle.fluid_codec.specs.declared.events.Event.{Event as Spelled}
use Rattle.fluid_codec.specs.declared.events.Event.TheVariants as event
use Rattle.fluid_lane.specs.declared.steps.Step.{Step}
use Rattle.fluid_voice.specs.declared.states.VoiceState.{VoiceState}
use Rattle.fluid_voice.specs.declared.states.VoiceState.TheVariants.{Fresh, Reading, Writing, Used}
use Rattle.fluid_voice.specs.declared.actions.Act.{Act}
use Rattle.fluid_voice.specs.declared.actions.Act.TheVariants as act
use Rattle.fluid_voice.specs.declared.ends.ActEnd.{ActEnd}
use Rattle.fluid_voice.specs.declared.ends.ActEnd.TheVariants.{Said, Joined, Told, Entered as EndsEntered, FullNow, TooMany, Given}
use Rattle.fluid_voice.specs.States.{client_id, is_connected}
use Rattle.fluid_voice.specs.Heard.{acts_of, entries_in, entry_of, submission_acts, read_acts, event_acts, nacks}
use Rattle.fluid_voice.specs.Laws.{entries_under, FullBehind}
use Rattle.fluid_voice.proofs.Entering.{writers_enter}
use Rattle.fluid_voice.specs.Suits.{Suits}
use Rattle.fluid_ends.specs.Adding.{AddsBy}
use Rattle.fluid_talk.specs.Talking.{Talking}
use Rattle.fluid_talk.specs.Doing.{Did, AreDone, acts_in, ends_in, steps_in}
use Rattle.fluid_talk.specs.Hearing.{Does}
use Rattle.fluid_session.specs.Events.{Event, Stand, Round, IsRound, AreWhole, AreEvents, behind}
use Rattle.fluid_session.specs.Events.Event.{brings, hears}
use Rattle.fluid_session.specs.Outcome.{entered, tried_in, subs_in, ArePrefixes, MayBreakLast}
use Rattle.fluid_session.proofs.Passes.{goes_on}
use Rattle.fluid_session.proofs.Prefixes.{prefix_behind, prefix_last}

-- ---- acts of one that is connected

abbrev pub IsNoConnect : Act → Type 0
IsNoConnect (act.Connect name write scopes detail moment) = ⊥
IsNoConnect (act.Say reply) = Unit {0}
IsNoConnect (act.Enter raw) = Unit {0}
IsNoConnect (act.Deltas from to) = Unit {0}
IsNoConnect (act.Summary asked) = Unit {0}
IsNoConnect (act.GetObject id) = Unit {0}
IsNoConnect (act.PutObject bytes) = Unit {0}

abbrev pub NoConnects : List Act → Type 0
NoConnects [] = Unit {0}
NoConnects (a ∷ acts) = IsNoConnect a × NoConnects acts

either : (b : Bool) (xs ys : List Act) → NoConnects xs → NoConnects ys → NoConnects (if b then xs else ys)
either true xs ys h k = h
either false xs ys h k = k

of_submissions : (moment : ℕ) (id : List ℕ) (submissions : List Submission) → NoConnects (submission_acts moment id submissions)
of_submissions moment id [] = tt
of_submissions moment id (s ∷ ss) = (tt, of_submissions moment id ss)

of_reading : (name : List ℕ) (next moment : ℕ) (e : Spelled) → NoConnects (event_acts (Reading name next) moment e)
of_reading name next moment (event.Connect other write scopes client) = (tt, tt)
of_reading name next moment (event.SubmitOp id submissions) = (tt, tt)
of_reading name next moment (event.GetDeltas from to) = (tt, tt)
of_reading name next moment (event.GetSummary asked) = (tt, tt)
of_reading name next moment (event.GetObject id) = (tt, tt)
of_reading name next moment (event.PutObject bytes) = either (is_ok (object_read bytes)) _ _ (tt, tt) (tt, tt)

of_writing : (name own : List ℕ) (next moment : ℕ) (e : Spelled) → NoConnects (event_acts (Writing name own next) moment e)
of_writing name own next moment (event.Connect other write scopes client) = (tt, tt)
of_writing name own next moment (event.SubmitOp id submissions) = either (bytes_eq id own) (submission_acts moment id submissions) (nacks (Writing name own next) ForeignClient) (of_submissions moment id submissions) (tt, tt)
of_writing name own next moment (event.GetDeltas from to) = (tt, tt)
of_writing name own next moment (event.GetSummary asked) = (tt, tt)
of_writing name own next moment (event.GetObject id) = (tt, tt)
of_writing name own next moment (event.PutObject bytes) = either (is_ok (object_read bytes)) _ _ (tt, tt) (tt, tt)

of_read_reading : (name : List ℕ) (next moment : ℕ) (read : Read Spelled) → NoConnects (read_acts (Reading name next) moment read)
of_read_reading name next moment (Ok e) = of_reading name next moment e
of_read_reading name next moment (Err fault) = (tt, tt)

of_read_writing : (name own : List ℕ) (next moment : ℕ) (read : Read Spelled) → NoConnects (read_acts (Writing name own next) moment read)
of_read_writing name own next moment (Ok e) = of_writing name own next moment e
of_read_writing name own next moment (Err fault) = (tt, tt)

pub no_connects : (s : VoiceState) (text : List ℕ) (moment : ℕ) → is_connected s ≡ true → NoConnects (acts_of s text moment)
unfolding acts_of
no_connects Fresh text moment joined = absurd (false≢true joined)
no_connects (Reading name next) text moment joined = of_read_reading name next moment (event_spelled text)
no_connects (Writing name own next) text moment joined = of_read_writing name own next moment (event_spelled text)
no_connects Used text moment joined = absurd (false≢true joined)

prefix_connects : (a b : List Act) → NoConnects (a ++ b) → NoConnects a
prefix_connects [] b none = tt
prefix_connects (x ∷ a) b (here, rest) = (here, prefix_connects a b rest)

-- ---- what one text enters

-- none of them found the document full
abbrev pub HasNoFull : List ActEnd → Type 0
HasNoFull [] = Unit {0}
HasNoFull (FullNow ∷ ends) = ⊥
HasNoFull (end ∷ ends) = HasNoFull ends

all_full : (done : List Did) → AreDone done → NoConnects (acts_in done) → All (λ end. end ≡ FullNow) (ends_in done) → entered (steps_in done) ≡ []
all_full [] are none full = refl
all_full (d ∷ done) (is, are) (here, none) full =
    ap (λ l. entered (l ++ steps_in done)) (nothing d.act here (subst (λ e. AddsBy d.act e d.added) (All-head (λ end. end ≡ FullNow) d.end (ends_in done) full) is.adds))
    ∙ all_full done are none (All-tail (λ end. end ≡ FullNow) d.end (ends_in done) full)
  where
    nothing : (a : Act) → IsNoConnect a → AddsBy a FullNow d.added → d.added ≡ []
    nothing (act.Say reply) h adds = adds
    nothing (act.Connect name write scopes detail moment) h adds = absurd h
    nothing (act.Enter raw) h adds = adds
    nothing (act.Deltas from to) h adds = adds
    nothing (act.Summary asked) h adds = adds
    nothing (act.GetObject id) h adds = adds
    nothing (act.PutObject bytes) h adds = adds

each_full : (ends : List ActEnd) → All (λ end. end ≡ FullNow) ends → FullBehind ends
each_full [] full = tt
each_full (e ∷ ends) full = subst (λ x. FullBehind (x ∷ ends)) (sym (All-head (λ end. end ≡ FullNow) e ends full)) (All-tail (λ end. end ≡ FullNow) e ends full)

full_tail : (end : ActEnd) (ends : List ActEnd) → FullBehind (end ∷ ends) → FullBehind ends
full_tail Said ends full = full
full_tail (Joined id number) ends full = full
full_tail (Told last) ends full = full
full_tail (EndsEntered verdict) ends full = full
full_tail FullNow ends full = each_full ends full
full_tail TooMany ends full = full
full_tail (Given reply) ends full = full

none_tail : (end : ActEnd) (ends : List ActEnd) → HasNoFull (end ∷ ends) → HasNoFull ends
none_tail Said ends none = none
none_tail (Joined id number) ends none = none
none_tail (Told last) ends none = none
none_tail (EndsEntered verdict) ends none = none
none_tail FullNow ends none = absurd none
none_tail TooMany ends none = none
none_tail (Given reply) ends none = none

-- an act that enters nothing added nothing
added_none : (added rest : List Step) → added ≡ [] → entered (added ++ rest) ≡ entered rest
added_none added rest none = ap (λ l. entered (l ++ rest)) none

cons_prefix : (raw : Raw) (a b : List Raw) → IsPrefix a b → IsPrefix (raw ∷ a) (raw ∷ b)
cons_prefix raw a b (rest, is) = (rest, ap (λ l. raw ∷ l) is)

nil_prefix : (a b : List Raw) → a ≡ [] → IsPrefix a b
nil_prefix a b none = (b, ap (λ l. l ++ b) (sym none))

prefixes : (done : List Did) → AreDone done → NoConnects (acts_in done) → FullBehind (ends_in done) → IsPrefix (entered (steps_in done)) (entries_in (acts_in done))
prefixes [] are none full = prefix_refl []
prefixes (d ∷ done) (is, are) (here, none) full = by d.act d.end here is.suits is.adds (prefixes done are none (full_tail d.end (ends_in done) full)) full
  where
    skips : (added : List Step) → added ≡ [] → IsPrefix (entered (steps_in done)) (entries_in (acts_in done)) → IsPrefix (entered (added ++ steps_in done)) (entries_in (acts_in done))
    skips added nothing rest = subst (λ l. IsPrefix l (entries_in (acts_in done))) (sym (added_none added (steps_in done) nothing)) rest

    by : (a : Act) (end : ActEnd) → IsNoConnect a → Suits a end → AddsBy a end d.added → IsPrefix (entered (steps_in done)) (entries_in (acts_in done)) → FullBehind (end ∷ ends_in done)
        → IsPrefix (entered (d.added ++ steps_in done)) (entry_of a ++ entries_in (acts_in done))
    by (act.Say reply) end h suits adds rest full_here = skips d.added adds rest
    by (act.Connect name write scopes detail moment) end h suits adds rest full_here = absurd h
    by (act.Deltas from to) end h suits adds rest full_here = skips d.added adds rest
    by (act.Summary asked) end h suits adds rest full_here = skips d.added adds rest
    by (act.GetObject id) end h suits adds rest full_here = skips d.added adds rest
    by (act.PutObject bytes) end h suits adds rest full_here = skips d.added adds rest
    by (act.Enter raw) Said h suits adds rest full_here = absurd suits
    by (act.Enter raw) (Joined id number) h suits adds rest full_here = absurd suits
    by (act.Enter raw) (Told last) h suits adds rest full_here = absurd suits
    by (act.Enter raw) (EndsEntered verdict) h suits adds rest full_here =
        subst (λ l. IsPrefix (entered (l ++ steps_in done)) (raw ∷ entries_in (acts_in done))) (sym adds) (cons_prefix raw (entered (steps_in done)) (entries_in (acts_in done)) rest)
    by (act.Enter raw) FullNow h suits adds rest full_here =
        nil_prefix (entered (d.added ++ steps_in done)) (raw ∷ entries_in (acts_in done)) (added_none d.added (steps_in done) adds ∙ all_full done are none full_here)
    by (act.Enter raw) TooMany h suits adds rest full_here = absurd suits
    by (act.Enter raw) (Given reply) h suits adds rest full_here = absurd suits

pub all_in : (done : List Did) → AreDone done → NoConnects (acts_in done) → HasNoFull (ends_in done) → entered (steps_in done) ≡ entries_in (acts_in done)
all_in [] are none never = refl
all_in (d ∷ done) (is, are) (here, none) never = by d.act d.end here is.suits is.adds (all_in done are none (none_tail d.end (ends_in done) never)) never
  where
    skips : (added : List Step) → added ≡ [] → entered (steps_in done) ≡ entries_in (acts_in done) → entered (added ++ steps_in done) ≡ entries_in (acts_in done)
    skips added nothing rest = added_none added (steps_in done) nothing ∙ rest

    by : (a : Act) (end : ActEnd) → IsNoConnect a → Suits a end → AddsBy a end d.added → entered (steps_in done) ≡ entries_in (acts_in done) → HasNoFull (end ∷ ends_in done)
        → entered (d.added ++ steps_in done) ≡ entry_of a ++ entries_in (acts_in done)
    by (act.Say reply) end h suits adds rest never_here = skips d.added adds rest
    by (act.Connect name write scopes detail moment) end h suits adds rest never_here = absurd h
    by (act.Deltas from to) end h suits adds rest never_here = skips d.added adds rest
    by (act.Summary asked) end h suits adds rest never_here = skips d.added adds rest
    by (act.GetObject id) end h suits adds rest never_here = skips d.added adds rest
    by (act.PutObject bytes) end h suits adds rest never_here = skips d.added adds rest
    by (act.Enter raw) Said h suits adds rest never_here = absurd suits
    by (act.Enter raw) (Joined id number) h suits adds rest never_here = absurd suits
    by (act.Enter raw) (Told last) h suits adds rest never_here = absurd suits
    by (act.Enter raw) (EndsEntered verdict) h suits adds rest never_here = ap (λ l. entered (l ++ steps_in done)) adds ∙ ap (λ l. raw ∷ l) rest
    by (act.Enter raw) FullNow h suits adds rest never_here = absurd never_here
    by (act.Enter raw) TooMany h suits adds rest never_here = absurd suits
    by (act.Enter raw) (Given reply) h suits adds rest never_here = absurd suits

entries-append : (a b : List Act) → entries_in (a ++ b) ≡ entries_in a ++ entries_in b
entries-append [] b = refl
entries-append (x ∷ a) b = ap (λ l. entry_of x ++ l) (entries-append a b) ∙ sym (append_assoc (entry_of x) (entries_in a) (entries_in b))

pub round_none : (r : Round) → is_connected r.from.voice ≡ true → IsRound r → NoConnects (acts_in r.done)
round_none r joined is =
    prefix_connects (acts_in r.done) is.hears_it.does.rest (subst NoConnects is.hears_it.does.asked (no_connects r.from.voice r.text r.moment joined))

-- what was tried of a text is a prefix of what it spells
pub round_tried : (r : Round) → IsRound r → IsPrefix (entries_in (acts_in r.done)) (entries_under (client_id r.from.voice) r.text r.moment)
round_tried r is =
    let does : Does r.from r.to r.before r.now r.text r.moment r.done r.heard.fault = is.hears_it.does in
    (entries_in does.rest, sym (writers_enter r.from.voice r.text r.moment) ∙ ap entries_in does.asked ∙ entries-append (acts_in r.done) does.rest)

-- and all of it where nothing failed
pub round_whole : (r : Round) → IsRound r → r.heard.fault ≡ None → entries_in (acts_in r.done) ≡ entries_under (client_id r.from.voice) r.text r.moment
round_whole r is well =
    let does : Does r.from r.to r.before r.now r.text r.moment r.done r.heard.fault = is.hears_it.does in
    ap entries_in (sym (append-nil (acts_in r.done)) ∙ ap (λ l. acts_in r.done ++ l) (sym (does.whole well)) ∙ sym does.asked) ∙ writers_enter r.from.voice r.text r.moment

-- ---- what all of them enter

pub all_tried : (es : List Event) (s t : Stand) → AreEvents s es t → AreWhole es → tried_in es ≡ subs_in es
all_tried [] s t same whole = refl
all_tried (brings c ∷ es) s t (begins, (is, more)) (well, rest) = all_tried es (behind (brings c) s) t more rest
all_tried (hears r ∷ es) s t (begins, (is, more)) (well, rest) =
    ap (λ l. l ++ tried_in es) (round_whole r is well.1) ∙ ap (λ l. entries_under (client_id r.from.voice) r.text r.moment ++ l) (all_tried es (behind (hears r) s) t more rest)

pub tried_prefix : (es : List Event) (s t : Stand) → AreEvents s es t → MayBreakLast es → IsPrefix (tried_in es) (subs_in es)
tried_prefix [] s t same may = prefix_refl []
tried_prefix (brings c ∷ []) s t (begins, (is, more)) may = prefix_refl []
tried_prefix (hears r ∷ []) s t (begins, (is, more)) may = prefix_last (entries_in (acts_in r.done)) _ (round_tried r is)
tried_prefix (brings c ∷ e ∷ es) s t (begins, (is, more)) (well, rest) = tried_prefix (e ∷ es) (behind (brings c) s) t more rest
tried_prefix (hears r ∷ e ∷ es) s t (begins, (is, more)) (well, rest) =
    subst (λ l. IsPrefix (l ++ tried_in (e ∷ es)) (subs_in (hears r ∷ e ∷ es))) (sym (round_whole r is well.1))
    (prefix_behind (entries_under (client_id r.from.voice) r.text r.moment) (tried_in (e ∷ es)) (subs_in (e ∷ es)) (tried_prefix (e ∷ es) (behind (hears r) s) t more rest))

pub each_prefix : (es : List Event) (s t : Stand) → is_connected s.talk.voice ≡ true → AreEvents s es t → ArePrefixes es
each_prefix [] s t joined same = tt
each_prefix (brings c ∷ es) s t joined (begins, (is, more)) =
    each_prefix es (behind (brings c) s) t (goes_on (brings c ∷ []) s (behind (brings c) s) joined (begins, (is, refl))).still more
each_prefix (hears r ∷ es) s t joined (begins, (is, more)) =
    let here : is_connected r.from.voice ≡ true = ap (λ (k : Talking). is_connected k.voice) begins.0 ∙ joined in (
      prefixes r.done is.hears_it.does.are_done (round_none r here is) is.hears_it.does.full,
      each_prefix es (behind (hears r) s) t (goes_on (hears r ∷ []) s (behind (hears r) s) joined (begins, (is, refl))).still more,
    )
