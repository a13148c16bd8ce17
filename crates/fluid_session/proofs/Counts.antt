-- The numbers of a report: sums over the texts, counted in the steps of the pass.
use Rattle.std.proofs.Common.{◌≡◌, ℕ, suc, ◌+◌, ◌-◌, ◌^◌, ◌<◌, ◌≤◌, Bool, true, false, not, List, [], ◌∷◌, ◌++◌, length, filter, Option, Some, None, refl, sym, ap, subst, ◌∙◌, arith, if◌then◌else◌, zero-add}
use Rattle.std.proofs.lemmas.List.Filters.{length-filter_both}
use Rattle.fluid_turn.specs.declared.view.Numbered.{Numbered}
use Rattle.fluid_turn.specs.Entries.{entries, made_by, is_number}
use Rattle.fluid_types.specs.declared.entries.Raw.{Raw}
use Rattle.fluid_types.specs.declared.verdicts.Verdict.{Verdict}
use Rattle.fluid_deltas.specs.declared.fault.DeltaFault.{DeltaFault}
use Rattle.fluid_deltas.specs.declared.fault.DeltaFault.TheVariants as delta
use Rattle.fluid_lane.specs.declared.fault.LaneFault.{LaneFault}
use Rattle.fluid_lane.specs.declared.fault.LaneFault.TheVariants as lane
use Rattle.fluid_lane.specs.declared.steps.Step.{Step}
use Rattle.fluid_lane.specs.declared.steps.Step.TheVariants.{Entered, Aside}
use Rattle.fluid_lane.specs.Steps.{fault_steps, delta_steps}
use Rattle.fluid_voice.specs.declared.actions.Act.{Act}
use Rattle.fluid_voice.specs.declared.actions.Act.TheVariants as act
use Rattle.fluid_voice.specs.declared.ends.ActEnd.{ActEnd}
use Rattle.fluid_voice.specs.declared.ends.ActEnd.TheVariants.{Said, Joined, Told, Entered as EndsEntered, FullNow, TooMany, Given}
use Rattle.fluid_voice.specs.States.{is_connected}
use Rattle.fluid_voice.specs.Heard.{acts_of}
use Rattle.fluid_voice.specs.Replies.{entered_verdict, one_where, count_of}
use Rattle.fluid_voice.specs.Suits.{Suits}
use Rattle.fluid_voice.specs.Laws.{IsOneAnswer}
use Rattle.fluid_voice.proofs.Ahead.{others_connect}
use Rattle.fluid_ends.specs.Adding.{AddsBy}
use Rattle.fluid_ends.specs.declared.fault.TalkFault.{TalkFault}
use Rattle.fluid_ends.specs.declared.fault.TalkFault.TheVariants.{Door, Lane, Delta, Store, NoMemory}
use Rattle.fluid_talk.specs.Talking.{Talking}
use Rattle.fluid_talk.specs.Doing.{Did, AreDone, acts_in, ended, steps_in, may_steps}
use Rattle.fluid_session.specs.declared.tally.Tally.{Tally}
use Rattle.fluid_session.specs.Counted.{plus, capped, counts_of}
use Rattle.fluid_session.specs.Events.{Event, Stand, Round, IsRound, AreEvents, behind, counted_behind}
use Rattle.fluid_session.specs.Events.Event.{brings, hears}
use Rattle.fluid_session.specs.Outcome.{count_steps, steps_of, steps_of_round, unread_in}
use Rattle.fluid_session.proofs.Passes.{AllApart, goes_on}
use Rattle.fluid_session.proofs.Submitted.{IsNoConnect, NoConnects, round_none}

-- ---- sums that stand still at their end

-- the sum over the texts
abbrev pub sum_in : (Tally → ℕ) → List Event → ℕ
sum_in f [] = 0
sum_in f (brings c ∷ es) = sum_in f es
sum_in f (hears r ∷ es) = f (counts_of r.heard) + sum_in f es

capped_exact : (a b : ℕ) → capped a b < 2 ^ 64 - 1 → capped a b ≡ a + b
capped_exact a b h = grind arith

capped_most : (a b : ℕ) → capped a b ≤ a + b
capped_most a b = grind arith

capped_least : (a b : ℕ) → a < 2 ^ 64 → a ≤ capped a b
capped_least a b h = grind arith

-- a part of a tally that is summed
pub record IsSummed (f : Tally → ℕ) : Type 0 where
  pub adds : (a b : Tally) → f (plus a b) ≡ capped (f a) (f b)

module _ (f : Tally → ℕ) (summed : IsSummed f) where
  -- it is at most the sum
  pub sum_most : (es : List Event) (tally : Tally) → f (counted_behind tally es) ≤ f tally + sum_in f es
  sum_most [] tally = omega arith
  sum_most (brings c ∷ es) tally = sum_most es tally
  sum_most (hears r ∷ es) tally =
      let rest = sum_most es (plus tally (counts_of r.heard)) in
      let one = summed.adds tally (counts_of r.heard) in
      let most = capped_most (f tally) (f (counts_of r.heard)) in
      omega (arith, rest, one, most)

  few_least : (es : List Event) (tally : Tally) → f (counted_behind tally es) < 2 ^ 64 - 1 → f tally < 2 ^ 64 → f tally < 2 ^ 64 - 1
  few_least [] tally few fits = few
  few_least (brings c ∷ es) tally few fits = few_least es tally few fits
  few_least (hears r ∷ es) tally few fits =
      let one = summed.adds tally (counts_of r.heard) in
      let fits_then : f (plus tally (counts_of r.heard)) < 2 ^ 64 = subst (λ n. n < 2 ^ 64) (sym one) (capped_fits (f tally) (f (counts_of r.heard))) in
      let rest = few_least es (plus tally (counts_of r.heard)) few fits_then in
      let least = capped_least (f tally) (f (counts_of r.heard)) fits in
      omega (arith, rest, one, least)
    where
      capped_fits : (a b : ℕ) → capped a b < 2 ^ 64
      capped_fits a b = grind arith

  -- and the sum itself where it is below the end
  pub sum_exact : (es : List Event) (tally : Tally) → f (counted_behind tally es) < 2 ^ 64 - 1 → f (counted_behind tally es) ≡ f tally + sum_in f es
  sum_exact [] tally few = omega arith
  sum_exact (brings c ∷ es) tally few = sum_exact es tally few
  sum_exact (hears r ∷ es) tally few =
      let one = summed.adds tally (counts_of r.heard) in
      let rest = sum_exact es (plus tally (counts_of r.heard)) few in
      let below : f (plus tally (counts_of r.heard)) < 2 ^ 64 - 1 = omega (arith, rest, few) in
      let exact = capped_exact (f tally) (f (counts_of r.heard)) (subst (λ n. n < 2 ^ 64 - 1) one below) in
      omega (arith, rest, one, exact)

-- the part that counts unread texts
pub unread_sum : (es : List Event) → sum_in (λ t. t.unread) es ≡ unread_in es
unread_sum [] = refl
unread_sum (brings c ∷ es) = unread_sum es
unread_sum (hears r ∷ es) = ap (λ n. (counts_of r.heard).unread + n) (unread_sum es)

-- ---- verdicts in the steps

count-append : (kind : Verdict → Bool) (a b : List Step) → count_steps kind (a ++ b) ≡ count_steps kind a + count_steps kind b
count-append kind [] b = sym (zero-add (count_steps kind b))
count-append kind (Entered raw verdict ∷ a) b = let rest = count-append kind a b in omega (arith, rest)
count-append kind (Aside side ∷ a) b = count-append kind a b

count_lane : (kind : Verdict → Bool) (f : LaneFault) → count_steps kind (fault_steps f) ≡ 0
count_lane kind (lane.LogFailed note) = refl
count_lane kind (lane.Full n) = refl
count_lane kind (lane.BadRecord n) = refl
count_lane kind (lane.NoCheckpoint a b) = refl
count_lane kind lane.CheckpointsFull = refl
count_lane kind lane.TooManyClients = refl
count_lane kind (lane.DeltaFailed note) = refl
count_lane kind lane.NoMemory = refl
count_lane kind (lane.BadCheckpoint n f) = refl
count_lane kind (lane.TooLarge n) = refl
count_lane kind lane.Worn = refl

count_delta : (kind : Verdict → Bool) (f : DeltaFault) → count_steps kind (delta_steps f) ≡ 0
count_delta kind (delta.DeltaFailed note) = refl
count_delta kind delta.NoMemory = refl
count_delta kind (delta.BadDelta n) = refl
count_delta kind delta.Worn = refl

-- notes are no verdicts
count_notes : (kind : Verdict → Bool) (failed : Option TalkFault) → count_steps kind (may_steps failed) ≡ 0
count_notes kind None = refl
count_notes kind (Some (Door fault)) = refl
count_notes kind (Some (Lane fault)) = count_lane kind fault
count_notes kind (Some (Delta fault)) = count_delta kind fault
count_notes kind (Some (Store fault)) = refl
count_notes kind (Some NoMemory) = refl

-- only an entry ends with a verdict
no_verdict : (a : Act) (end : ActEnd) → IsNoConnect a → ((raw : Raw) → a ≡ act.Enter raw → ⊥) → Suits a end → entered_verdict end ≡ None
no_verdict a Said h k suits = refl
no_verdict a (Joined id n) h k suits = refl
no_verdict a (Told last) h k suits = refl
no_verdict a FullNow h k suits = refl
no_verdict a TooMany h k suits = refl
no_verdict a (Given reply) h k suits = refl
no_verdict (act.Say reply) (EndsEntered v) h k suits = absurd (not_said suits)
  where
    not_said : ◌≡◌ {A = ActEnd} (EndsEntered v) Said → ⊥
    not_said same = cc
no_verdict (act.Connect name write scopes detail moment) (EndsEntered v) h k suits = absurd h
no_verdict (act.Enter raw) (EndsEntered v) h k suits = absurd (k raw refl)
no_verdict (act.Deltas from to) (EndsEntered v) h k suits = absurd suits
no_verdict (act.Summary asked) (EndsEntered v) h k suits = absurd suits
no_verdict (act.GetObject id) (EndsEntered v) h k suits = absurd suits
no_verdict (act.PutObject bytes) (EndsEntered v) h k suits = absurd suits

-- what one text's ends count, its steps count
done_counts : (kind : Verdict → Bool) (done : List Did) → NoConnects (acts_in done) → AreDone done → count_of kind (ended done) ≡ count_steps kind (steps_in done)
done_counts kind [] none are = refl
done_counts kind (d ∷ done) (here, none) (is, are) =
    ap (λ n. n + count_of kind (ended done)) (by d.act d.end here is.suits is.adds) ∙ ap (λ n. count_steps kind d.added + n) (done_counts kind done none are) ∙ sym (count-append kind d.added (steps_in done))
  where
    nothing : (a : Act) (end : ActEnd) → entered_verdict end ≡ None → d.added ≡ [] → one_where kind (entered_verdict end) ≡ count_steps kind d.added
    nothing a end none added = ap (one_where kind) none ∙ ap (count_steps kind) (sym added)

    one_more : (n : ℕ) → n ≡ n + 0
    one_more n = omega arith

    by : (a : Act) (end : ActEnd) → IsNoConnect a → Suits a end → AddsBy a end d.added → one_where kind (entered_verdict end) ≡ count_steps kind d.added
    by (act.Say reply) end h suits adds = nothing (act.Say reply) end (no_verdict (act.Say reply) end h (λ raw same. not_enter same) suits) adds
      where
        not_enter : {raw : Raw} → act.Say reply ≡ act.Enter raw → ⊥
        not_enter same = cc
    by (act.Connect name write scopes detail moment) end h suits adds = absurd h
    by (act.Deltas from to) end h suits adds = nothing (act.Deltas from to) end (no_verdict (act.Deltas from to) end h (λ raw same. not_enter same) suits) adds
      where
        not_enter : {raw : Raw} → act.Deltas from to ≡ act.Enter raw → ⊥
        not_enter same = cc
    by (act.Summary asked) end h suits adds = nothing (act.Summary asked) end (no_verdict (act.Summary asked) end h (λ raw same. not_enter same) suits) adds
      where
        not_enter : {raw : Raw} → act.Summary asked ≡ act.Enter raw → ⊥
        not_enter same = cc
    by (act.GetObject id) end h suits adds = nothing (act.GetObject id) end (no_verdict (act.GetObject id) end h (λ raw same. not_enter same) suits) adds
      where
        not_enter : {raw : Raw} → act.GetObject id ≡ act.Enter raw → ⊥
        not_enter same = cc
    by (act.PutObject bytes) end h suits adds = nothing (act.PutObject bytes) end (no_verdict (act.PutObject bytes) end h (λ raw same. not_enter same) suits) adds
      where
        not_enter : {raw : Raw} → act.PutObject bytes ≡ act.Enter raw → ⊥
        not_enter same = cc
    by (act.Enter raw) (EndsEntered v) h suits adds = one_more (if kind v then 1 else 0) ∙ ap (count_steps kind) (sym adds)
    by (act.Enter raw) FullNow h suits adds = ap (count_steps kind) (sym adds)
    by (act.Enter raw) Said h suits adds = absurd suits
    by (act.Enter raw) (Joined id n) h suits adds = absurd suits
    by (act.Enter raw) (Told last) h suits adds = absurd suits
    by (act.Enter raw) TooMany h suits adds = absurd suits
    by (act.Enter raw) (Given reply) h suits adds = absurd suits

-- nothing comes behind one answer
pub more_none : (a b : Act) (acts : List Act) → IsOneAnswer (a ∷ b ∷ acts) → ⊥
more_none (act.Say reply) b acts h = h
more_none (act.Connect name write scopes detail moment) b acts h = h
more_none (act.Enter raw) b acts h = h
more_none (act.Deltas from to) b acts h = h
more_none (act.Summary asked) b acts h = h
more_none (act.GetObject id) b acts h = h
more_none (act.PutObject bytes) b acts h = h

-- a part of a tally that counts verdicts of a kind
pub record IsCountOf (kind : Verdict → Bool) (f : Tally → ℕ) : Type 0 where
  pub is : (r : Round) → IsRound r → f (counts_of r.heard) ≡ count_of kind (ended r.done)

module _ (kind : Verdict → Bool) (f : Tally → ℕ) (counts : IsCountOf kind f) where
  pub sum_steps : (es : List Event) (s t : Stand) → is_connected s.talk.voice ≡ true → AreEvents s es t → sum_in f es ≡ count_steps kind (steps_of es)
  sum_steps [] s t joined same = refl
  sum_steps (brings c ∷ es) s t joined (begins, (is, more)) =
      sum_steps es (behind (brings c) s) t (goes_on (brings c ∷ []) s (behind (brings c) s) joined (begins, (is, refl))).still more
  sum_steps (hears r ∷ es) s t joined (begins, (is, more)) =
      let here : is_connected r.from.voice ≡ true = ap (λ (k : Talking). is_connected k.voice) begins.0 ∙ joined in
      let still = (goes_on (hears r ∷ []) s (behind (hears r) s) joined (begins, (is, refl))).still in
      let one : f (counts_of r.heard) ≡ count_steps kind (steps_in r.done) = counts.is r is ∙ done_counts kind r.done (round_none r here is) is.hears_it.does.are_done in
      let notes : count_steps kind (may_steps r.heard.fault) ≡ 0 = count_notes kind r.heard.fault in
      let round : count_steps kind (steps_of_round r) ≡ count_steps kind (steps_in r.done) + count_steps kind (may_steps r.heard.fault) = count-append kind (steps_in r.done) (may_steps r.heard.fault) in
      let all : count_steps kind (steps_of (hears r ∷ es)) ≡ count_steps kind (steps_of_round r) + count_steps kind (steps_of es) = count-append kind (steps_of_round r) (steps_of es) in
      let rest = sum_steps es (behind (hears r) s) t still more in
      omega (arith, one, notes, round, all, rest)

  -- a text of one that isn't connected counts nothing
  pub apart_counts : (r : Round) → is_connected r.from.voice ≡ false → IsRound r → f (counts_of r.heard) ≡ 0
  apart_counts r apart is =
      counts.is r is ∙ by (acts_of r.from.voice r.text r.moment) r.done is.hears_it.does.rest (others_connect r.from.voice r.text r.moment apart) is.hears_it.does.asked is.hears_it.does.are_done
    where
      one : (a : Act) (done : List Did) → IsOneAnswer (a ∷ acts_in done) → (end : ActEnd) → Suits a end → one_where kind (entered_verdict end) ≡ 0
      one a done answer Said suits = refl
      one a done answer (Joined id n) suits = refl
      one a done answer (Told last) suits = refl
      one a done answer FullNow suits = refl
      one a done answer TooMany suits = refl
      one a done answer (Given reply) suits = refl
      one (act.Say reply) done answer (EndsEntered v) suits = absurd (not_said suits)
        where
          not_said : ◌≡◌ {A = ActEnd} (EndsEntered v) Said → ⊥
          not_said same = cc
      one (act.Connect name true scopes detail moment) done answer (EndsEntered v) suits = absurd suits
      one (act.Connect name false scopes detail moment) done answer (EndsEntered v) suits = absurd suits
      one (act.Enter raw) done answer (EndsEntered v) suits = absurd answer
      one (act.Deltas from to) done answer (EndsEntered v) suits = absurd suits
      one (act.Summary asked) done answer (EndsEntered v) suits = absurd suits
      one (act.GetObject id) done answer (EndsEntered v) suits = absurd suits
      one (act.PutObject bytes) done answer (EndsEntered v) suits = absurd suits

      prefix_one : (a b : List Act) → IsOneAnswer (a ++ b) → IsOneAnswer a
      prefix_one [] b h = tt
      prefix_one (act.Say reply ∷ []) b h = tt
      prefix_one (act.Connect name write scopes detail moment ∷ []) b h = tt
      prefix_one (act.Enter raw ∷ []) b h = absurd h
      prefix_one (act.Deltas from to ∷ []) b h = absurd h
      prefix_one (act.Summary asked ∷ []) b h = absurd h
      prefix_one (act.GetObject id ∷ []) b h = absurd h
      prefix_one (act.PutObject bytes ∷ []) b h = absurd h
      prefix_one (act.Say reply ∷ x ∷ a) b h = absurd h
      prefix_one (act.Connect name write scopes detail moment ∷ x ∷ a) b h = absurd h
      prefix_one (act.Enter raw ∷ x ∷ a) b h = absurd h
      prefix_one (act.Deltas from to ∷ x ∷ a) b h = absurd h
      prefix_one (act.Summary asked ∷ x ∷ a) b h = absurd h
      prefix_one (act.GetObject id ∷ x ∷ a) b h = absurd h
      prefix_one (act.PutObject bytes ∷ x ∷ a) b h = absurd h

      of_done : (done : List Did) → IsOneAnswer (acts_in done) → AreDone done → count_of kind (ended done) ≡ 0
      of_done [] h are = refl
      of_done (d ∷ []) h (is, are) = ap (λ n. n + 0) (one d.act [] h d.end is.suits)
      of_done (d ∷ e ∷ done) h are = absurd (more_none d.act e.act (acts_in done) h)

      by : (acts : List Act) (done : List Did) (rest : List Act) → IsOneAnswer acts → acts ≡ acts_in done ++ rest → AreDone done → count_of kind (ended done) ≡ 0
      by acts done rest h is are = of_done done (prefix_one (acts_in done) rest (subst IsOneAnswer is h)) are

  pub sum_apart : (es : List Event) → AllApart es → sum_in f es ≡ 0
  sum_apart [] all = refl
  sum_apart (brings c ∷ es) all = sum_apart es all
  sum_apart (hears r ∷ es) ((apart, is), all) = let one = apart_counts r apart is in let rest = sum_apart es all in omega (arith, one, rest)

pub sum-append : (f : Tally → ℕ) (a b : List Event) → sum_in f (a ++ b) ≡ sum_in f a + sum_in f b
sum-append f [] b = sym (zero-add (sum_in f b))
sum-append f (brings c ∷ a) b = sum-append f a b
sum-append f (hears r ∷ a) b = let rest = sum-append f a b in omega (arith, rest)

-- ---- they are few

pub count_few : (kind : Verdict → Bool) (l : List Step) → count_steps kind l ≤ length l
count_few kind [] = omega arith
count_few kind (Entered raw verdict ∷ l) = by (kind verdict) (count_few kind l)
  where
    by : (b : Bool) → count_steps kind l ≤ length l → (if b then 1 else 0) + count_steps kind l ≤ length (Entered raw verdict ∷ l)
    by true rest = omega (arith, rest)
    by false rest = omega (arith, rest)
count_few kind (Aside side ∷ l) = let rest = count_few kind l in omega (arith, rest)

entries_length : (l : List (Numbered Step)) → length (entries l) ≡ length l
entries_length [] = refl
entries_length (x ∷ xs) = ap suc (entries_length xs)

pub made_few : (number : ℕ) (l : List (Numbered Step)) → length (made_by number l) ≤ length l
made_few number l =
    let both = length-filter_both (λ x. is_number number x.number) (λ x. not (is_number number x.number)) (λ x. refl) l in
    let same = entries_length (filter (λ x. is_number number x.number) l) in omega (arith, both, same)
