-- What is kept behind a message that speaks of a task.
use Rattle.std.proofs.Common.{◌≡◌, ℕ, ◌<◌, ◌==◌, Bool, true, false, not, ◌&&◌, cond, List, [], ◌∷◌, ◌++◌, Option, Some, None, option_map, refl, sym, ◌∙◌, ap, ap₂, subst, append-nil, nat_cmp, inl, inr, ◌⊎◌, bytes_eq}
use Rattle.std.specs.Prelude.{filter, is_some}
use Rattle.std.specs.List.{AllByRecursion}
use Rattle.std.specs.Map.{lookup, remove_entry}
use Rattle.std.specs.BTreeMap.{BTreeMap, get, is_at, insert_entry}
use Rattle.std.proofs.lemmas.Bool.{eqb-true, eq-eqb, false_from_ne_true}
use Rattle.std.proofs.lemmas.Slice.Eq.{bytes_eq-Decides}
use Rattle.fluid_types.specs.declared.messages.Message.{Message}
use Rattle.fluid_tasks.specs.declared.acts.Act.TheVariants.{Volunteer, Abandon, Finish}
use Rattle.fluid_tasks.specs.declared.tasks.Item.{Item}
use Rattle.fluid_tasks.specs.declared.queues.Queue.{Queue}
use Rattle.fluid_tasks.specs.Acts.{Does, said}
use Rattle.fluid_tasks.specs.Past.{Past, first, is_text, clients, Volunteering, standing_since, standing, candidates, holder}
use Rattle.fluid_tasks.specs.Kept.{Named, at, MadeAt, Makes, ChangedAt, Changes, Candidates, entries_at, candidate_at, IsEmptyTask, WithCandidate, IsWithoutClient, HasNoCandidates, SteppedDown, Clients, task_at, NotesTask, IsNumbered, pairs, IsKept}
use Rattle.fluid_tasks.proofs.Lists.{no_test, all-weaker, filter-all}
use Rattle.fluid_tasks.proofs.Candidates.{since-step, Among, standing_rise, standing_below, standing_stand, stood_found, found_stands, found_there, insert-last, pairs-append, pairs-below, standing-kept, standing-left, standing-done, stood_already, standing-again, stood_first, standing-new, remove-filter, some_is}
use Rattle.fluid_tasks.proofs.Applied.{SameItems, SameTasks, same_queue}

-- ---- entries and candidates

pub holder-entries : (past : Past) (u : List ℕ) (o : Option Candidates) → entries_at o ≡ pairs (standing past u) → option_map (λ e. e.1) (first (entries_at o)) ≡ holder past u
unfolding holder candidates
holder-entries past u o is = ap (λ es. option_map (λ e. e.1) (first es)) is ∙ of (standing past u)
  where
    of : (vs : List Volunteering) → option_map (λ e. e.1) (first (pairs vs)) ≡ first (clients vs)
    of [] = refl
    of (v ∷ vs) = refl

candidate_in : (o : Option Candidates) (k : ℕ) → candidate_at o k ≡ lookup (is_at (nat_cmp k)) (entries_at o)
candidate_in None k = refl
candidate_in (Some candidates) k = refl

-- a client stands for a task exactly where it is found under the number that is noted
pub found_under : (past : Past) (u c : List ℕ) (o : Option Candidates) → entries_at o ≡ pairs (standing past u) → (k : ℕ) → is_text (candidate_at o k) c ≡ true → standing_since past u c ≡ Some k
found_under past u c o is k at = of (candidate_at o k) refl at
  where
    of : (x : Option (List ℕ)) → candidate_at o k ≡ x → is_text x c ≡ true → standing_since past u c ≡ Some k
    of None there h = absurd (cc)
    of (Some e) there h =
        let same : e ≡ c = (bytes_eq-Decides e c).0 h in
        found_stands past u c k (ap (lookup (is_at (nat_cmp k))) (sym is) ∙ sym (candidate_in o k) ∙ there ∙ ap Some same)

pub under_found : (past : Past) → IsNumbered past → (u c : List ℕ) (o : Option Candidates) → entries_at o ≡ pairs (standing past u) → (k : ℕ) → standing_since past u c ≡ Some k → is_text (candidate_at o k) c ≡ true
under_found past numbered u c o is k at =
    ap (λ x. is_text x c) (candidate_in o k ∙ ap (lookup (is_at (nat_cmp k))) is ∙ stood_found past numbered u c k at) ∙ (bytes_eq-Decides c c).1 refl

-- ---- one client steps down

all_among : (vs : List Volunteering) → AllByRecursion (λ (v : Volunteering). Among v.number v.client vs) vs
all_among [] = tt
all_among (v ∷ vs) = (inl (refl, refl), all-weaker (λ (w : Volunteering). Among w.number w.client vs) (λ (w : Volunteering). Among w.number w.client (v ∷ vs)) (λ w at. inr at) vs (all_among vs))

both_all : {X : Type 0} (P Q R : X → Type 0) → ((x : X) → P x → Q x → R x) → (xs : List X) → AllByRecursion P xs → AllByRecursion Q xs → AllByRecursion R xs
both_all P Q R step [] one two = tt
both_all P Q R step (x ∷ xs) one two = (step x one.0 two.0, both_all P Q R step xs one.1 two.1)

same_test : (a b : Bool) → (a ≡ true → b ≡ true) → (b ≡ true → a ≡ true) → a ≡ b
same_test true true there back = refl
same_test true false there back = sym (there refl)
same_test false true there back = back refl
same_test false false there back = refl

-- of one that doesn't stand nothing is left out
none_left : (past : Past) (u c : List ℕ) → standing_since past u c ≡ None → filter (λ (v : Volunteering). not (bytes_eq c v.client)) (standing past u) ≡ standing past u
none_left past u c none =
    filter-all (λ (v : Volunteering). not (bytes_eq c v.client)) (standing past u)
    (all-weaker (λ (v : Volunteering). standing_since past u v.client ≡ Some v.number) (λ (v : Volunteering). not (bytes_eq c v.client) ≡ true)
    (λ v at. ap not (false_from_ne_true (bytes_eq c v.client) (λ same.
    let wrong : None ≡ Some v.number = sym none ∙ ap (standing_since past u) ((bytes_eq-Decides c v.client).0 same) ∙ at in
    cc)))
    (standing past u) (standing_stand past u))

-- the candidates without one, by the number that is noted of it
pub stepped : (past : Past) → IsNumbered past → (u c : List ℕ) (noted : Option ℕ) → ((k : ℕ) → standing_since past u c ≡ Some k → noted ≡ Some k) → (old new : Option Candidates) → entries_at old ≡ pairs (standing past u)
    → ChangedAt (SteppedDown c noted) true old new → entries_at new ≡ pairs (filter (λ (v : Volunteering). not (bytes_eq c v.client)) (standing past u))
stepped past numbered u c noted notes None new is to = ap entries_at to ∙ nothing (standing past u) is
  where
    nothing : (vs : List Volunteering) → [] ≡ pairs vs → [] ≡ pairs (filter (λ (v : Volunteering). not (bytes_eq c v.client)) vs)
    nothing [] h = refl
    nothing (v ∷ vs) h = absurd (cc)
stepped past numbered u c noted notes (Some w) new is to = ap entries_at to.1.0 ∙ of (standing_since past u c) refl noted refl to.1.1
  where
    lookup_is : (k : ℕ) → get nat_cmp w k ≡ lookup (is_at (nat_cmp k)) (pairs (standing past u))
    lookup_is k = ap (lookup (is_at (nat_cmp k))) is

    unchanged : standing_since past u c ≡ None → w.entries ≡ pairs (filter (λ (v : Volunteering). not (bytes_eq c v.client)) (standing past u))
    unchanged none = is ∙ ap pairs (sym (none_left past u c none))

    not_found : standing_since past u c ≡ None → (k : ℕ) → is_text (get nat_cmp w k) c ≡ false
    not_found none k = false_from_ne_true _ (λ at.
        let wrong : None ≡ Some k = sym none ∙ found_under past u c (Some w) is k at in
        cc)

    its_number : (k : ℕ) → standing_since past u c ≡ Some k → AllByRecursion (λ (v : Volunteering). bytes_eq c v.client ≡ (k == v.number)) (standing past u)
    its_number k stood = both_all
        (λ (v : Volunteering). standing_since past u v.client ≡ Some v.number) (λ (v : Volunteering). Among v.number v.client (standing past u)) (λ (v : Volunteering). bytes_eq c v.client ≡ (k == v.number))
        (λ v its among. same_test (bytes_eq c v.client) (k == v.number)
        (λ same. eq-eqb k v.number (some_is k v.number (sym stood ∙ ap (standing_since past u) ((bytes_eq-Decides c v.client).0 same) ∙ its)))
        (λ same.
        let number_is : k ≡ v.number = eqb-true k v.number same in
        let found : lookup (is_at (nat_cmp k)) (pairs (standing past u)) ≡ Some v.client =
        subst (λ n. lookup (is_at (nat_cmp n)) (pairs (standing past u)) ≡ Some v.client) (sym number_is) (found_there v.number v.client (standing past u) (standing_rise past numbered u) among) in
        (bytes_eq-Decides c v.client).1 (some_is c v.client (sym (stood_found past numbered u c k stood) ∙ found))))
        (standing past u) (standing_stand past u) (all_among (standing past u))

    of : (o : Option ℕ) → standing_since past u c ≡ o → (n : Option ℕ) → noted ≡ n → SteppedDown c n w to.0 → to.0.entries ≡ pairs (filter (λ (v : Volunteering). not (bytes_eq c v.client)) (standing past u))
    of None stood None at down = down ∙ unchanged stood
    of None stood (Some k) at down = down ∙ ap (λ b. cond b (remove_entry (is_at (nat_cmp k)) w.entries) w.entries) (not_found stood k) ∙ unchanged stood
    of (Some j) stood None at down = absurd (let wrong : None ≡ Some j = sym at ∙ notes j stood in cc)
    of (Some j) stood (Some k) at down =
        let number_is : k ≡ j = some_is k j (sym at ∙ notes j stood) in
        let stood_k : standing_since past u c ≡ Some k = stood ∙ ap Some (sym number_is) in
        down ∙ ap (λ b. cond b (remove_entry (is_at (nat_cmp k)) w.entries) w.entries) (under_found past numbered u c (Some w) is k stood_k)
        ∙ ap (remove_entry (is_at (nat_cmp k))) is ∙ remove-filter c k (standing past u) (standing_rise past numbered u) (its_number k stood_k)

-- ---- an abandoning

module _ (m : Message) (past : Past) (c own : List ℕ) (is : said m ≡ Does c (Abandon own)) (numbered : IsNumbered (m ∷ past)) where
  since_abandoned : (u e : List ℕ) → standing_since (m ∷ past) u e ≡ cond (bytes_eq own u && bytes_eq c e) None (standing_since past u e)
  since_abandoned u e = since-step m past _ is u e

  abandoned_here : (u : List ℕ) → bytes_eq own u ≡ true → standing (m ∷ past) u ≡ filter (λ (v : Volunteering). not (bytes_eq c v.client)) (standing past u)
  abandoned_here u here = standing-left m past _ is u refl c (λ e. since_abandoned u e ∙ ap (λ b. cond (b && bytes_eq c e) None (standing_since past u e)) here)

  abandoned_elsewhere : (u : List ℕ) → bytes_eq own u ≡ false → standing (m ∷ past) u ≡ standing past u
  abandoned_elsewhere u other = standing-kept m past _ is u refl (λ e. since_abandoned u e ∙ ap (λ b. cond (b && bytes_eq c e) None (standing_since past u e)) other)

  -- one that doesn't stand
  pub same_abandon : standing_since past own c ≡ None → SameTasks past (m ∷ past)
  same_abandon none = record {
    since_same = since;
    standing_same = λ u. standing-kept m past _ is u refl (since u);
  }
    where
      at_both : (a b : Bool) (o : Option ℕ) → (a ≡ true → b ≡ true → o ≡ None) → cond (a && b) None o ≡ o
      at_both true true o gone = sym (gone refl refl)
      at_both true false o gone = refl
      at_both false b o gone = refl

      since : (u e : List ℕ) → standing_since (m ∷ past) u e ≡ standing_since past u e
      since u e = since_abandoned u e ∙ at_both (bytes_eq own u) (bytes_eq c e) (standing_since past u e) (λ a b.
          subst (λ w. standing_since past w e ≡ None) ((bytes_eq-Decides own u).0 a) (subst (λ w. standing_since past own w ≡ None) ((bytes_eq-Decides c e).0 b) none))

  pub kept_abandoned : SameItems past (m ∷ past) → (items : BTreeMap ℕ Item) (queues : Named Queue) (tasks new_tasks : Named Candidates) (noting new_noting : Clients) (k : ℕ) → task_at (at noting c) own ≡ Some k
      → Changes (IsWithoutClient c k) own tasks new_tasks → NotesTask c own None noting new_noting → IsKept items queues tasks noting past → IsKept items queues new_tasks new_noting (m ∷ past)
  kept_abandoned same items queues tasks new_tasks noting new_noting k noted changed notes kept = record {
    items_are = λ n. kept.items_are n ∙ sym (same.live_same n);
    queues_are = λ q. same_queue past (m ∷ past) same q (at queues q) (kept.queues_are q);
    tasks_are = λ u. task u (bytes_eq own u) refl (changed u);
    holds = λ e n now. notes.items e n ∙ kept.holds e n (sym (same.holds_same e n) ∙ now);
    stands = λ e u n now.
        let parts = stood_on (bytes_eq own u) (bytes_eq c e) (standing_since past u e) n (sym (since_abandoned u e) ∙ now) in
        notes.tasks e u ∙ ap (λ b. cond b None (task_at (at noting e) u)) (swapped (bytes_eq own u) (bytes_eq c e) parts.0) ∙ kept.stands e u n parts.1;
  }
    where
      stood_on : (a b : Bool) (o : Option ℕ) (n : ℕ) → cond (a && b) None o ≡ Some n → ((a && b) ≡ false) × (o ≡ Some n)
      stood_on true true o n h = absurd (cc)
      stood_on true false o n h = (refl, h)
      stood_on false b o n h = (refl, h)

      swapped : (a b : Bool) → (a && b) ≡ false → (b && a) ≡ false
      swapped true true h = h
      swapped true false h = refl
      swapped false true h = refl
      swapped false false h = refl

      task : (u : List ℕ) (b : Bool) → bytes_eq own u ≡ b → ChangedAt (IsWithoutClient c k) b (at tasks u) (at new_tasks u) → entries_at (at new_tasks u) ≡ pairs (standing (m ∷ past) u)
      task u true here to =
          let noted_here : (j : ℕ) → standing_since past u c ≡ Some j → Some k ≡ Some j =
          λ j h. sym noted ∙ ap (task_at (at noting c)) ((bytes_eq-Decides own u).0 here) ∙ kept.stands c u j h in
          stepped past numbered.1 u c (Some k) noted_here (at tasks u) (at new_tasks u) (kept.tasks_are u) (stepping (at tasks u) to) ∙ sym (ap pairs (abandoned_here u here))
        where
          stepping : (o : Option Candidates) → ChangedAt (IsWithoutClient c k) true o (at new_tasks u) → ChangedAt (SteppedDown c (Some k)) true o (at new_tasks u)
          stepping None h = h
          stepping (Some w) h = h
      task u false other to = ap entries_at to ∙ kept.tasks_are u ∙ sym (ap pairs (abandoned_elsewhere u other))

-- ---- a complete

module _ (m : Message) (past : Past) (c own : List ℕ) (is : said m ≡ Does c (Finish own)) where
  since_finished : (u e : List ℕ) → standing_since (m ∷ past) u e ≡ cond (bytes_eq own u && is_text (holder past u) c) None (standing_since past u e)
  since_finished u e = since-step m past _ is u e

  -- by another than the holder
  pub same_finish : is_text (holder past own) c ≡ false → SameTasks past (m ∷ past)
  same_finish not = record {
    since_same = since;
    standing_same = λ u. standing-kept m past _ is u refl (since u);
  }
    where
      at_both : (a b : Bool) (o : Option ℕ) → (a ≡ true → b ≡ false) → cond (a && b) None o ≡ o
      at_both true true o h = absurd (no_test true refl (h refl))
      at_both true false o h = refl
      at_both false b o h = refl

      since : (u e : List ℕ) → standing_since (m ∷ past) u e ≡ standing_since past u e
      since u e = since_finished u e ∙ at_both (bytes_eq own u) (is_text (holder past u) c) (standing_since past u e) (λ a. subst (λ w. is_text (holder past w) c ≡ false) ((bytes_eq-Decides own u).0 a) not)

  pub kept_finished : is_text (holder past own) c ≡ true → SameItems past (m ∷ past) → (items : BTreeMap ℕ Item) (queues : Named Queue) (tasks new_tasks : Named Candidates) (noting : Clients)
      → Changes HasNoCandidates own tasks new_tasks → IsKept items queues tasks noting past → IsKept items queues new_tasks noting (m ∷ past)
  kept_finished holds_it same items queues tasks new_tasks noting changed kept = record {
    items_are = λ n. kept.items_are n ∙ sym (same.live_same n);
    queues_are = λ q. same_queue past (m ∷ past) same q (at queues q) (kept.queues_are q);
    tasks_are = λ u. task u (bytes_eq own u) refl (changed u);
    holds = λ e n now. kept.holds e n (sym (same.holds_same e n) ∙ now);
    stands = λ e u n now. kept.stands e u n (stood_on (bytes_eq own u && is_text (holder past u) c) (standing_since past u e) n (sym (since_finished u e) ∙ now));
  }
    where
      stood_on : (b : Bool) (o : Option ℕ) (n : ℕ) → cond b None o ≡ Some n → o ≡ Some n
      stood_on true o n h = absurd (cc)
      stood_on false o n h = h

      emptied : (o new : Option Candidates) → ChangedAt HasNoCandidates true o new → entries_at new ≡ []
      emptied None new to = ap entries_at to
      emptied (Some w) new to = ap entries_at to.1.0 ∙ to.1.1

      task : (u : List ℕ) (b : Bool) → bytes_eq own u ≡ b → ChangedAt HasNoCandidates b (at tasks u) (at new_tasks u) → entries_at (at new_tasks u) ≡ pairs (standing (m ∷ past) u)
      task u true here to =
          let its : is_text (holder past u) c ≡ true = subst (λ w. is_text (holder past w) c ≡ true) ((bytes_eq-Decides own u).0 here) holds_it in
          emptied (at tasks u) (at new_tasks u) to
          ∙ sym (ap pairs (standing-done m past _ is u refl (λ e. since_finished u e ∙ ap₂ (λ a b. cond (a && b) None (standing_since past u e)) here its)))
      task u false other to =
          ap entries_at to ∙ kept.tasks_are u
          ∙ sym (ap pairs (standing-kept m past _ is u refl (λ e. since_finished u e ∙ ap (λ b. cond (b && is_text (holder past u) c) None (standing_since past u e)) other)))

-- ---- a volunteering

pub made_task : (past : Past) (u : List ℕ) (old new : Option Candidates) → entries_at old ≡ pairs (standing past u) → (new ≡ old) ⊎ MadeAt IsEmptyTask old new → entries_at new ≡ pairs (standing past u)
made_task past u old new is (inl same) = ap entries_at same ∙ is
made_task past u None new is (inr made) = ap entries_at made.1.0 ∙ made.1.1 ∙ is
made_task past u (Some candidates) new is (inr made) = absurd made

module _ (m : Message) (past : Past) (c own : List ℕ) (is : said m ≡ Does c (Volunteer own)) (numbered : IsNumbered (m ∷ past)) where
  -- one that stands already
  pub same_volunteer : (k : ℕ) → standing_since past own c ≡ Some k → SameTasks past (m ∷ past)
  same_volunteer k stood = record {
    standing_same = standing-again m past c own is numbered k stood;
    since_same = stood_already m past c own is numbered k stood;
  }

  pub kept_volunteered : standing_since past own c ≡ None → SameItems past (m ∷ past) → (items : BTreeMap ℕ Item) (queues : Named Queue) (tasks mid new_tasks : Named Candidates) (noting new_noting : Clients)
      → Makes IsEmptyTask tasks mid → is_some (at mid own) ≡ true → NotesTask c own (Some m.number) noting new_noting → Changes (WithCandidate m.number c) own mid new_tasks
      → IsKept items queues tasks noting past → IsKept items queues new_tasks new_noting (m ∷ past)
  kept_volunteered none same items queues tasks mid new_tasks noting new_noting made some notes changed kept = record {
    items_are = λ n. kept.items_are n ∙ sym (same.live_same n);
    queues_are = λ q. same_queue past (m ∷ past) same q (at queues q) (kept.queues_are q);
    tasks_are = λ u. task u (bytes_eq own u) refl (at mid u) (made_task past u (at tasks u) (at mid u) (kept.tasks_are u) (made u)) (λ here. subst (λ w. is_some (at mid w) ≡ true) ((bytes_eq-Decides own u).0 here) some) (changed u);
    holds = λ e n now. notes.items e n ∙ kept.holds e n (sym (same.holds_same e n) ∙ now);
    stands = λ e u n now. notes.tasks e u ∙ stood (bytes_eq own u) (bytes_eq c e) (standing_since past u e) (task_at (at noting e) u) n (kept.stands e u n) (sym (stood_first m past c own is numbered none u e) ∙ now);
  }
    where
      stood : (a b : Bool) (o t : Option ℕ) (n : ℕ) → (o ≡ Some n → t ≡ Some n) → cond (a && b) (Some m.number) o ≡ Some n → cond (b && a) (Some m.number) t ≡ Some n
      stood true true o t n old now = now
      stood true false o t n old now = old now
      stood false true o t n old now = old now
      stood false false o t n old now = old now

      last : (u : List ℕ) (b : Bool) → bytes_eq own u ≡ b → standing (m ∷ past) u ≡ standing past u ++ cond b (record { number = m.number; client = c } ∷ []) []
      last u b here = standing-new m past c own is numbered none u ∙ ap (λ x. standing past u ++ cond x (record { number = m.number; client = c } ∷ []) []) here

      task : (u : List ℕ) (b : Bool) → bytes_eq own u ≡ b → (o : Option Candidates) → entries_at o ≡ pairs (standing past u) → (bytes_eq own u ≡ true → is_some o ≡ true) → ChangedAt (WithCandidate m.number c) b o (at new_tasks u)
          → entries_at (at new_tasks u) ≡ pairs (standing (m ∷ past) u)
      task u false other o was has to = ap entries_at to ∙ was ∙ sym (ap pairs (last u false other ∙ append-nil (standing past u)))
      task u true here None was has to = absurd (let wrong : false ≡ true = has here in cc)
      task u true here (Some w) was has to =
          ap entries_at to.1.0 ∙ to.1.1 ∙ ap (λ es. insert_entry nat_cmp es m.number c) was
          ∙ insert-last (pairs (standing past u)) m.number c (pairs-below m.number (standing past u) (subst (λ n. AllByRecursion (λ (v : Volunteering). v.number < n) (standing past u)) (sym numbered.0) (standing_below past numbered.1 u)))
          ∙ sym (ap pairs (last u true here) ∙ pairs-append (standing past u) (record { number = m.number; client = c } ∷ []))
