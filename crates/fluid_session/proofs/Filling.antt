-- What the texts of a client enter where its document's keeper tells its content: all of it until the document is full, and nothing then.
use Rattle.std.proofs.Common.{◌≡◌, ◌⊎◌, inl, inr, ℕ, ◌+◌, ◌≤◌, Bool, true, false, ◌&&◌, List, [], ◌∷◌, ◌++◌, map, cond, nat_le, Option, Some, None, refl, sym, ap, subst, ◌∙◌, arith, append-nil, if◌then◌else◌}
use Rattle.std.proofs.lemmas.Bool.{false≢true, leb-true, le-leb}
use Rattle.std.proofs.lemmas.List.Sums.{sum_by-append}
use Rattle.std.specs.FinMap.{empty}
use Rattle.fluid_turn.specs.declared.view.Numbered.{Numbered}
use Rattle.fluid_turn.specs.Entries.{IsPrefix, by_seat, entries}
use Rattle.fluid_turn.proofs.Lists.{prefix_refl, prefix_trans, prefix-append, entries-append}
use Rattle.fluid_types.specs.Ledger.{Ledger}
use Rattle.fluid_types.specs.declared.entries.Raw.{Raw}
use Rattle.fluid_types.specs.declared.entries.Raw.TheVariants.{Submit}
use Rattle.fluid_types.specs.declared.entries.Submission.{Submission}
use Rattle.fluid_types.specs.declared.verdicts.Verdict.{Verdict}
use Rattle.fluid_rules.specs.Rules.{verdict}
use Rattle.fluid_rules.specs.Counted.{is_counted, counted, is_full}
use Rattle.fluid_rules.specs.declared.limits.Limits.{Limits}
use Rattle.fluid_store.specs.Held.{Held}
use Rattle.fluid_store.specs.Storing.{Storing}
use Rattle.fluid_lane.specs.declared.steps.Step.{Step}
use Rattle.fluid_lane.specs.Steps.{ledger}
use Rattle.fluid_voice.specs.declared.actions.Act.{Act}
use Rattle.fluid_voice.specs.declared.actions.Act.TheVariants as act
use Rattle.fluid_voice.specs.declared.ends.ActEnd.{ActEnd}
use Rattle.fluid_voice.specs.declared.ends.ActEnd.TheVariants.{Said, Joined, Told, Entered as EndsEntered, FullNow, TooMany, Given}
use Rattle.fluid_voice.specs.Ends.{outcome}
use Rattle.fluid_voice.specs.Ends.Outcome.{ends}
use Rattle.fluid_voice.specs.States.{client_id, is_connected}
use Rattle.fluid_voice.specs.Suits.{Suits}
use Rattle.fluid_voice.specs.Heard.{entries_in, entry_of, submissions_of}
use Rattle.fluid_voice.specs.Laws.{entries_under}
use Rattle.fluid_ends.specs.Adding.{AddsBy}
use Rattle.fluid_ends.specs.Asking.{found_in}
use Rattle.fluid_ends.specs.declared.fault.TalkFault.{TalkFault}
use Rattle.fluid_talk.specs.Talking.{Knowing, Talking, ledger_of}
use Rattle.fluid_talk.specs.Doing.{Did, AreDone, AreFound, AreAnswered, IsAnswered, seen_behind, acts_in, ends_in, steps_in}
use Rattle.fluid_talk.specs.Hearing.{HearsConnected}
use Rattle.fluid_session.specs.Events.{Event, Stand, Round, IsRound, AreWhole, AreEvents, behind}
use Rattle.fluid_session.specs.Events.Event.{brings, hears}
use Rattle.fluid_session.specs.Outcome.{entered, entered_in, subs_in, IsFull, SubmitsTold, Submits, MayBreakLast, GoesOn}
use Rattle.fluid_session.proofs.Passes.{goes_on, ledger-more, found_prefix}
use Rattle.fluid_session.proofs.Prefixes.{prefix_behind, prefix_last}
use Rattle.fluid_session.proofs.Submitted.{IsNoConnect, NoConnects, round_none, round_tried, round_whole, each_prefix, all_in, HasNoFull, tried_prefix, all_tried}

-- ---- counts only grow

counted-both : (a b : Ledger) → counted (a ++ b) ≡ counted a + counted b
unfolding counted
counted-both a b = sum_by-append (λ e. cond (is_counted e.0) 1 0) a b

counted_later : (a b : List (Numbered Step)) → IsPrefix a b → counted (ledger_of a) ≤ counted (ledger_of b)
counted_later a b (rest, is) =
    let both : ledger_of b ≡ ledger_of a ++ ledger_of rest = ap ledger_of is ∙ ap ledger (entries-append a rest) ∙ ledger-more (entries a) (entries rest) in
    let sum : counted (ledger_of b) ≡ counted (ledger_of a) + counted (ledger_of rest) = ap counted both ∙ counted-both (ledger_of a) (ledger_of rest) in
    omega (arith, sum)

-- a document that is full stays full
pub full_later : (p q : Knowing) → q.limits ≡ p.limits → IsPrefix p.seen q.seen → IsFull p → IsFull q
full_later p q same more full =
    let entries_are : q.limits.entries ≡ p.limits.entries = ap (λ (l : Limits). l.entries) same in
    let later : counted (ledger_of p.seen) ≤ counted (ledger_of q.seen) = counted_later p.seen q.seen more in
    let f : p.limits.entries ≤ counted (ledger_of p.seen) = full in
    omega (arith, entries_are, later, f)

-- ---- what texts ask to enter counts

abbrev AllCounted : List Raw → Type 0
AllCounted [] = Unit {0}
AllCounted (raw ∷ raws) = (is_counted raw ≡ true) × AllCounted raws

each_counted : (id : List ℕ) (moment : ℕ) (submissions : List Submission) → AllCounted (map (λ s. Submit id s moment) submissions)
each_counted id moment [] = tt
each_counted id moment (s ∷ ss) = (refl, each_counted id moment ss)

under_counted : (id : Option (List ℕ)) (text : List ℕ) (moment : ℕ) → AllCounted (entries_under id text moment)
under_counted None text moment = tt
under_counted (Some id) text moment = each_counted id moment (submissions_of id text)

prefix_counted : (a b : List Raw) → AllCounted (a ++ b) → AllCounted a
prefix_counted [] b all = tt
prefix_counted (raw ∷ a) b (here, rest) = (here, prefix_counted a b rest)

round_counted : (r : Round) → IsRound r → AllCounted (entries_in (acts_in r.done))
round_counted r is =
    let prefix = round_tried r is in
    prefix_counted (entries_in (acts_in r.done)) prefix.0 (subst AllCounted prefix.1 (under_counted (client_id r.from.voice) r.text r.moment))

-- ---- one entry

pub nothing_held : Held
nothing_held = empty

ends_same : (a b : ActEnd) → ends a ≡ ends b → a ≡ b
ends_same a b same = cc

both_true : (a b : Bool) → a ≡ true → b ≡ true → (a && b) ≡ true
both_true a b h k = rw (h, k) refl

both_of : (a b : Bool) → (a && b) ≡ true → b ≡ true
both_of true b is = is
both_of false b is = absurd (false≢true is)

-- an entry that counts is refused by a full document, and by no other
entry_full : (limits : Limits) (l : Ledger) (raw : Raw) (end : ActEnd) → is_counted raw ≡ true → limits.entries ≤ counted l → outcome (found_in limits l nothing_held) (act.Enter raw) ≡ ends end → end ≡ FullNow
entry_full limits l raw end counts full is =
    let b : is_full limits.entries l raw ≡ true = both_true (is_counted raw) (nat_le limits.entries (counted l)) counts (le-leb limits.entries (counted l) full) in
    sym (ends_same _ _ (sym (ap (λ (b : Bool). ends (if b then FullNow else EndsEntered (verdict l raw))) b) ∙ is))

full_entry : (limits : Limits) (l : Ledger) (raw : Raw) → outcome (found_in limits l nothing_held) (act.Enter raw) ≡ ends FullNow → limits.entries ≤ counted l
full_entry limits l raw is = by (is_full limits.entries l raw) refl
  where
    other : (v : Verdict) → ends (EndsEntered v) ≡ ends FullNow → ⊥
    other v same = cc

    by : (b : Bool) → is_full limits.entries l raw ≡ b → limits.entries ≤ counted l
    by true full = leb-true limits.entries (counted l) (both_of (is_counted raw) (nat_le limits.entries (counted l)) full)
    by false free = absurd (other (verdict l raw) (sym (ap (λ (b : Bool). ends (if b then FullNow else EndsEntered (verdict l raw))) free) ∙ is))

-- ---- the entries of one text

module _ (p : Knowing) (store : Storing) (told : p.told ≡ true) (number : ℕ) (failed : Option TalkFault) where
  -- nothing is entered by a document that is full
  full_done : (seen now : List (Numbered Step)) (done : List Did) → p.limits.entries ≤ counted (ledger_of seen) → AllCounted (entries_in (acts_in done)) → NoConnects (acts_in done) → AreDone done
      → AreFound number failed seen now done → AreAnswered p store done → entered (steps_in done) ≡ []
  full_done seen now [] full counts none are found answered = refl
  full_done seen now (d ∷ done) full counts (here, none) (is, are) (at, found) (answer, answered) =
      let later : p.limits.entries ≤ counted (ledger_of d.found) = (let more = counted_later seen d.found at in omega (arith, full, more)) in
      let onward : IsPrefix seen (seen_behind number d) = prefix-append seen d.found (map (by_seat number) d.added) at in
      let last : p.limits.entries ≤ counted (ledger_of (seen_behind number d)) = (let more = counted_later seen (seen_behind number d) onward in omega (arith, full, more)) in
      ap (λ l. entered (l ++ steps_in done)) (by d.act d.end here is.suits is.adds later counts answer)
      ∙ full_done (seen_behind number d) now done last (rest_counted d.act counts) none are found answered
    where
      rest_counted : (a : Act) → AllCounted (entry_of a ++ entries_in (acts_in done)) → AllCounted (entries_in (acts_in done))
      rest_counted (act.Enter raw) (first, rest) = rest
      rest_counted (act.Say reply) all = all
      rest_counted (act.Connect name write scopes detail moment) all = all
      rest_counted (act.Deltas from to) all = all
      rest_counted (act.Summary asked) all = all
      rest_counted (act.GetObject id) all = all
      rest_counted (act.PutObject bytes) all = all

      by : (a : Act) (end : ActEnd) → IsNoConnect a → Suits a end → AddsBy a end d.added → p.limits.entries ≤ counted (ledger_of d.found) → AllCounted (entry_of a ++ entries_in (acts_in done))
          → IsAnswered p store (record { act = a; end = end; found = d.found; added = d.added }) → d.added ≡ []
      by (act.Say reply) end h suits adds full counts answer = adds
      by (act.Connect name write scopes detail moment) end h suits adds full counts answer = absurd h
      by (act.Deltas from to) end h suits adds full counts answer = adds
      by (act.Summary asked) end h suits adds full counts answer = adds
      by (act.GetObject id) end h suits adds full counts answer = adds
      by (act.PutObject bytes) end h suits adds full counts answer = adds
      by (act.Enter raw) end h suits adds full counts answer =
          subst (λ e. AddsBy (act.Enter raw) e d.added) (entry_full p.limits (ledger_of d.found) raw end counts.0 full (answer nothing_held told)) adds

  -- where one of them is refused so, the document is full
  full_found : (seen now : List (Numbered Step)) (done : List Did) → NoConnects (acts_in done) → AreDone done → AreFound number failed seen now done → AreAnswered p store done
      → HasNoFull (ends_in done) ⊎ (p.limits.entries ≤ counted (ledger_of now))
  full_found seen now [] none are found answered = inl tt
  full_found seen now (d ∷ done) (here, none) (is, are) (at, found) (answer, answered) =
      by d.act d.end here is.suits answer (full_found (seen_behind number d) now done none are found answered)
    where
      behind_it : IsPrefix d.found now
      behind_it = prefix_trans d.found (seen_behind number d) now (map (by_seat number) d.added, refl) (found_prefix number failed (seen_behind number d) now done found)

      passes : (end : ActEnd) → (HasNoFull (ends_in done) → HasNoFull (end ∷ ends_in done)) → HasNoFull (ends_in done) ⊎ (p.limits.entries ≤ counted (ledger_of now))
          → HasNoFull (end ∷ ends_in done) ⊎ (p.limits.entries ≤ counted (ledger_of now))
      passes end on (inl none) = inl (on none)
      passes end on (inr full) = inr full

      by : (a : Act) (end : ActEnd) → IsNoConnect a → Suits a end → IsAnswered p store (record { act = a; end = end; found = d.found; added = d.added })
          → HasNoFull (ends_in done) ⊎ (p.limits.entries ≤ counted (ledger_of now)) → HasNoFull (end ∷ ends_in done) ⊎ (p.limits.entries ≤ counted (ledger_of now))
      by a Said h suits answer rest = passes Said (λ x. x) rest
      by a (Joined id n) h suits answer rest = passes (Joined id n) (λ x. x) rest
      by a (Told last) h suits answer rest = passes (Told last) (λ x. x) rest
      by a (EndsEntered v) h suits answer rest = passes (EndsEntered v) (λ x. x) rest
      by a TooMany h suits answer rest = passes TooMany (λ x. x) rest
      by a (Given reply) h suits answer rest = passes (Given reply) (λ x. x) rest
      by (act.Enter raw) FullNow h suits answer rest =
          let full : p.limits.entries ≤ counted (ledger_of d.found) = full_entry p.limits (ledger_of d.found) raw (answer nothing_held told) in
          let more : counted (ledger_of d.found) ≤ counted (ledger_of now) = counted_later d.found now behind_it in
          inr (omega (arith, full, more))
      by (act.Say reply) FullNow h suits answer rest = absurd (not_said suits)
        where
          not_said : ◌≡◌ {A = ActEnd} FullNow Said → ⊥
          not_said same = cc
      by (act.Connect name write scopes detail moment) FullNow h suits answer rest = absurd h
      by (act.Deltas from to) FullNow h suits answer rest = absurd suits
      by (act.Summary asked) FullNow h suits answer rest = absurd suits
      by (act.GetObject id) FullNow h suits answer rest = absurd suits
      by (act.PutObject bytes) FullNow h suits answer rest = absurd suits

-- ---- one text of one that is connected

heard_of : (r : Round) → is_connected r.from.voice ≡ true → IsRound r → HearsConnected r.from r.to r.before r.done r.heard.fault
heard_of r joined is = is.hears_it.does.connected joined

round_full : (r : Round) → is_connected r.from.voice ≡ true → r.from.pass.told ≡ true → IsRound r → IsFull r.from.pass → entered (steps_in r.done) ≡ []
round_full r joined told is full =
    let heard = heard_of r joined is in
    full_done r.from.pass r.before told r.from.pass.number r.heard.fault r.from.pass.seen r.to.pass.seen r.done full (round_counted r is) (round_none r joined is) is.hears_it.does.are_done heard.found heard.answered

round_enters : (r : Round) → is_connected r.from.voice ≡ true → r.from.pass.told ≡ true → IsRound r → (entered (steps_in r.done) ≡ entries_in (acts_in r.done)) ⊎ IsFull r.to.pass
round_enters r joined told is =
    let heard = heard_of r joined is in
    by heard (full_found r.from.pass r.before told r.from.pass.number r.heard.fault r.from.pass.seen r.to.pass.seen r.done (round_none r joined is) is.hears_it.does.are_done heard.found heard.answered)
  where
    by : HearsConnected r.from r.to r.before r.done r.heard.fault → HasNoFull (ends_in r.done) ⊎ (r.from.pass.limits.entries ≤ counted (ledger_of r.to.pass.seen))
        → (entered (steps_in r.done) ≡ entries_in (acts_in r.done)) ⊎ IsFull r.to.pass
    by heard (inl never) = inl (all_in r.done is.hears_it.does.are_done (round_none r joined is) never)
    by heard (inr full) = inr (let same = ap (λ (l : Limits). l.entries) heard.goes.same.limits in omega (arith, full, same))

-- ---- all texts

one_on : (e : Event) (s : Stand) (t : Stand) (es : List Event) → is_connected s.talk.voice ≡ true → AreEvents s (e ∷ es) t → GoesOn s.talk (behind e s).talk (e ∷ [])
one_on (brings c) s t es joined (begins, (is, more)) = goes_on (brings c ∷ []) s (behind (brings c) s) joined (begins, (is, refl))
one_on (hears r) s t es joined (begins, (is, more)) = goes_on (hears r ∷ []) s (behind (hears r) s) joined (begins, (is, refl))

nothing_more : (es : List Event) (s t : Stand) → is_connected s.talk.voice ≡ true → s.talk.pass.told ≡ true → IsFull s.talk.pass → AreEvents s es t → entered_in es ≡ []
nothing_more [] s t joined told full same = refl
nothing_more (brings c ∷ es) s t joined told full (begins, (is, more)) =
    let one = one_on (brings c) s t es joined (begins, (is, more)) in
    nothing_more es (behind (brings c) s) t one.still (one.goes.same.told ∙ told) (full_later s.talk.pass c.to.pass one.goes.same.limits one.goes.seen full) more
nothing_more (hears r ∷ es) s t joined told full (begins, (is, more)) =
    let one = one_on (hears r) s t es joined (begins, (is, more)) in
    let from : r.from ≡ s.talk = begins.0 in
    ap (λ l. l ++ entered_in es)
    (round_full r (ap (λ (k : Talking). is_connected k.voice) from ∙ joined) (ap (λ (k : Talking). k.pass.told) from ∙ told) is (subst (λ (k : Talking). IsFull k.pass) (sym from) full))
    ∙ nothing_more es (behind (hears r) s) t one.still (one.goes.same.told ∙ told) (full_later s.talk.pass r.to.pass one.goes.same.limits one.goes.seen full) more

-- all of it, or the document is full
told_all : (es : List Event) (s t : Stand) → is_connected s.talk.voice ≡ true → s.talk.pass.told ≡ true → AreWhole es → AreEvents s es t → (entered_in es ≡ subs_in es) ⊎ IsFull t.talk.pass
told_all [] s t joined told whole same = inl refl
told_all (brings c ∷ es) s t joined told (well, whole) (begins, (is, more)) =
    let one = one_on (brings c) s t es joined (begins, (is, more)) in
    told_all es (behind (brings c) s) t one.still (one.goes.same.told ∙ told) whole more
told_all (hears r ∷ es) s t joined told (well, whole) (begins, (is, more)) =
    let one = one_on (hears r) s t es joined (begins, (is, more)) in
    let from : r.from ≡ s.talk = begins.0 in
    let on : GoesOn r.to t.talk es = goes_on es (behind (hears r) s) t one.still more in
    by on (round_enters r (ap (λ (k : Talking). is_connected k.voice) from ∙ joined) (ap (λ (k : Talking). k.pass.told) from ∙ told) is) (told_all es (behind (hears r) s) t one.still (one.goes.same.told ∙ told) whole more)
  where
    by : GoesOn r.to t.talk es → (entered (steps_in r.done) ≡ entries_in (acts_in r.done)) ⊎ IsFull r.to.pass → (entered_in es ≡ subs_in es) ⊎ IsFull t.talk.pass
        → (entered (steps_in r.done) ++ entered_in es ≡ entries_under (client_id r.from.voice) r.text r.moment ++ subs_in es) ⊎ IsFull t.talk.pass
    by on (inr full) rest = inr (full_later r.to.pass t.talk.pass on.goes.same.limits on.goes.seen full)
    by on (inl here) (inr full) = inr full
    by on (inl here) (inl rest) =
        inl (ap (λ l. l ++ entered_in es) (here ∙ round_whole r is well.1) ∙ ap (λ l. entries_under (client_id r.from.voice) r.text r.moment ++ l) rest)

-- a prefix of it
prefix_of_prefix : {X : Type 0} (a b more : List X) → IsPrefix a b → IsPrefix (a ++ []) (b ++ more)
prefix_of_prefix a b more prefix = subst (λ l. IsPrefix l (b ++ more)) (sym (append-nil a)) (prefix-append a b more prefix)

told_prefix : (es : List Event) (s t : Stand) → is_connected s.talk.voice ≡ true → s.talk.pass.told ≡ true → MayBreakLast es → AreEvents s es t → IsPrefix (entered_in es) (subs_in es)
told_prefix [] s t joined told may same = prefix_refl []
told_prefix (brings c ∷ []) s t joined told may are = prefix_refl []
told_prefix (brings c ∷ e ∷ es) s t joined told (well, rest) (begins, (is, more)) =
    let one = one_on (brings c) s t (e ∷ es) joined (begins, (is, more)) in
    told_prefix (e ∷ es) (behind (brings c) s) t one.still (one.goes.same.told ∙ told) rest more
told_prefix (hears r ∷ []) s t joined told may (begins, (is, more)) =
    let here : is_connected r.from.voice ≡ true = ap (λ (k : Talking). is_connected k.voice) begins.0 ∙ joined in
    let prefixes = each_prefix (hears r ∷ []) s (behind (hears r) s) joined (begins, (is, refl)) in
    prefix_last (entered (steps_in r.done)) _ (prefix_trans _ _ _ prefixes.0 (round_tried r is))
told_prefix (hears r ∷ e ∷ es) s t joined told (well, rest) (begins, (is, more)) =
    let one = one_on (hears r) s t (e ∷ es) joined (begins, (is, more)) in
    let from : r.from ≡ s.talk = begins.0 in
    let told_then : r.to.pass.told ≡ true = one.goes.same.told ∙ told in
    let prefixes = each_prefix (hears r ∷ []) s (behind (hears r) s) joined (begins, (is, refl)) in
    by one.still told_then (prefix_trans _ _ _ prefixes.0 (round_tried r is)) (round_enters r (ap (λ (k : Talking). is_connected k.voice) from ∙ joined) (ap (λ (k : Talking). k.pass.told) from ∙ told) is)
    (told_prefix (e ∷ es) (behind (hears r) s) t one.still told_then rest more)
  where
    by : is_connected r.to.voice ≡ true → r.to.pass.told ≡ true → IsPrefix (entered (steps_in r.done)) (entries_under (client_id r.from.voice) r.text r.moment)
        → (entered (steps_in r.done) ≡ entries_in (acts_in r.done)) ⊎ IsFull r.to.pass → IsPrefix (entered_in (e ∷ es)) (subs_in (e ∷ es))
        → IsPrefix (entered (steps_in r.done) ++ entered_in (e ∷ es)) (entries_under (client_id r.from.voice) r.text r.moment ++ subs_in (e ∷ es))
    by still told_then prefix (inl here) behind_it =
        subst (λ l. IsPrefix (l ++ entered_in (e ∷ es)) (entries_under (client_id r.from.voice) r.text r.moment ++ subs_in (e ∷ es))) (sym (here ∙ round_whole r is well.1))
        (prefix_behind (entries_under (client_id r.from.voice) r.text r.moment) (entered_in (e ∷ es)) (subs_in (e ∷ es)) behind_it)
    by still told_then prefix (inr full) behind_it =
        subst (λ l. IsPrefix (entered (steps_in r.done) ++ l) (entries_under (client_id r.from.voice) r.text r.moment ++ subs_in (e ∷ es)))
        (sym (nothing_more (e ∷ es) (behind (hears r) s) t still told_then full more)) (prefix_of_prefix (entered (steps_in r.done)) _ (subs_in (e ∷ es)) prefix)

-- ---- the texts before one

-- events up to one of them
pub split_events : (a b : List Event) (s t : Stand) → AreEvents s (a ++ b) t → (m : Stand) × (AreEvents s a m × AreEvents m b t)
split_events [] b s t are = (s, (refl, are))
split_events (e ∷ a) b s t (begins, (is, more)) = let rest = split_events a b (behind e s) t more in (rest.0, ((begins, (is, rest.1.0)), rest.1.1))

prefix_whole : (prefix : List Event) (e : Event) (behind_it : List Event) → MayBreakLast (prefix ++ e ∷ behind_it) → AreWhole prefix
prefix_whole [] e behind_it may = tt
prefix_whole (f ∷ []) e behind_it (here, rest) = (here, tt)
prefix_whole (f ∷ g ∷ prefix) e behind_it (here, rest) = (here, prefix_whole (g ∷ prefix) e behind_it rest)

before_text : (es : List Event) (s t : Stand) → is_connected s.talk.voice ≡ true → s.talk.pass.told ≡ true → MayBreakLast es → AreEvents s es t → (prefix : List Event) (r : Round) (behind_it : List Event)
    → es ≡ prefix ++ hears r ∷ behind_it → (entered_in prefix ≡ subs_in prefix) ⊎ IsFull t.talk.pass
before_text es s t joined told may are prefix r behind_it is =
    let parts = split_events prefix (hears r ∷ behind_it) s t (subst (λ l. AreEvents s l t) is are) in
    let on : GoesOn s.talk parts.0.talk prefix = goes_on prefix s parts.0 joined parts.1.0 in
    let onward : GoesOn parts.0.talk t.talk (hears r ∷ behind_it) = goes_on (hears r ∷ behind_it) parts.0 t on.still parts.1.1 in
    by onward (told_all prefix s parts.0 joined told (prefix_whole prefix (hears r) behind_it (subst MayBreakLast is may)) parts.1.0)
  where
    by : {m : Talking} → GoesOn m t.talk (hears r ∷ behind_it) → (entered_in prefix ≡ subs_in prefix) ⊎ IsFull m.pass → (entered_in prefix ≡ subs_in prefix) ⊎ IsFull t.talk.pass
    by onward (inl all) = inl all
    by {m} onward (inr full) = inr (full_later m.pass t.talk.pass onward.goes.same.limits onward.goes.seen full)

pub submits : (es : List Event) (s t : Stand) → is_connected s.talk.voice ≡ true → MayBreakLast es → AreEvents s es t → Submits t.talk.pass es
submits es s t joined may are =
    let on : GoesOn s.talk t.talk es = goes_on es s t joined are in
    record {
      tried = tried_prefix es s t are may;
      all_tried = all_tried es s t are;
      prefixes = each_prefix es s t joined are;
      told = λ told.
          let begins : s.talk.pass.told ≡ true = sym on.goes.same.told ∙ told in record {
            prefix = told_prefix es s t joined begins may are;
            all = λ whole. told_all es s t joined begins whole are;
            before = before_text es s t joined begins may are;
          };
    }

-- the same behind the leave
pub submits_later : (p q : Knowing) (es : List Event) → q.told ≡ p.told → q.limits ≡ p.limits → IsPrefix p.seen q.seen → Submits p es → Submits q es
submits_later p q es same limits more submits_it = record {
  tried = submits_it.tried;
  all_tried = submits_it.all_tried;
  prefixes = submits_it.prefixes;
  told = λ told.
      let t : SubmitsTold p es = submits_it.told (sym same ∙ told) in record {
        prefix = t.prefix;
        all = λ whole. on (t.all whole);
        before = λ prefix r behind_it is. on (t.before prefix r behind_it is);
      };
}
  where
    on : {A : Type 0} → A ⊎ IsFull p → A ⊎ IsFull q
    on (inl a) = inl a
    on (inr full) = inr (full_later p q limits more full)
