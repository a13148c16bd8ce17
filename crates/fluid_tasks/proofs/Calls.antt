-- What each call leaves, by the act of its message.
use Rattle.std.proofs.Common.{◌≡◌, ℕ, ◌==◌, Bool, true, false, not, ◌&&◌, cond, List, [], ◌∷◌, ◌++◌, Option, Some, None, option_map, refl, sym, ◌∙◌, ap, ap₂, subst, arith, nat_cmp, bytes_eq}
use Rattle.std.specs.Prelude.{is_some}
use Rattle.std.specs.Map.{lookup}
use Rattle.std.specs.BTreeMap.{BTreeMap, get, is_at, UpdatesBy}
use Rattle.std.proofs.lemmas.Bool.{eqb-true, false_from_ne_true}
use Rattle.std.proofs.lemmas.List.{reverse-append}
use Rattle.std.proofs.lemmas.Slice.Eq.{bytes_eq-Decides}
use Rattle.fluid_types.specs.Quorum.{left_by}
use Rattle.fluid_types.specs.declared.messages.Message.{Message}
use Rattle.fluid_tasks.specs.declared.acts.Act.TheVariants.{Add, Acquire, Complete, Release, Volunteer, Abandon, Finish}
use Rattle.fluid_tasks.specs.declared.tasks.Item.{Item}
use Rattle.fluid_tasks.specs.declared.queues.Queue.{Queue}
use Rattle.fluid_tasks.specs.Acts.{Said, Does, Leaves, Nothing, said, done, act_of}
use Rattle.fluid_tasks.specs.Past.{Past, past_of, first, is_text, adds, added, is_of, status, is_held_by, is_there, free, live, volunteering, since_behind, standing_since, standing, holder}
use Rattle.fluid_tasks.specs.Kept.{Named, at, Makes, ChangedAt, Changes, SameNames, free_at, held_at, IsEmptyQueue, IsSameQueue, IsAdded, IsGiven, IsTakenBack, IsFinished, Candidates, entries_at, candidate_at, IsEmptyTask, IsSameTask, WithCandidate, IsWithoutClient, HasNoCandidates, Clients, has_item, task_at, KeepsItems, NotesTask, SameClients, IsNumbered, pairs, IsQueue, IsKept}
use Rattle.fluid_tasks.proofs.Lists.{no_test}
use Rattle.fluid_tasks.proofs.Facts.{status-step, none_added, no_status}
use Rattle.fluid_tasks.proofs.Candidates.{eq-cmp, since-step, standing-kept}
use Rattle.fluid_tasks.proofs.Applied.{SameItems, SameTasks, same_items, kept_same, made_queue, kept_added, same_given, kept_given, live-is}
use Rattle.fluid_tasks.proofs.Freed.{held_test, held_in, same_release, kept_released, same_complete, kept_done}
use Rattle.fluid_tasks.proofs.Stood.{holder-entries, found_under, under_found, same_abandon, kept_abandoned, same_finish, kept_finished, made_task, same_volunteer, kept_volunteered}
use Rattle.fluid_tasks.proofs.Left.{same_left}

-- ---- what says nothing of tasks, or of items

pub no_task : (m : Message) (past : Past) (d : Said) → said m ≡ d → ((u : List ℕ) → volunteering u d ≡ None) → ((u c : List ℕ) (h : Option (List ℕ)) (before : Option ℕ) → since_behind m.number d u h c before ≡ before) → SameTasks past (m ∷ past)
no_task m past d is none quiet = record {
  since_same = λ u c. since-step m past d is u c ∙ quiet u c (holder past u) (standing_since past u c);
  standing_same = λ u. standing-kept m past d is u (none u) (λ c. since-step m past d is u c ∙ quiet u c (holder past u) (standing_since past u c));
}

module _ (m : Message) (past : Past) (numbered : IsNumbered (m ∷ past)) where
  -- nothing is said
  pub kept_nothing : said m ≡ Nothing → (items : BTreeMap ℕ Item) (queues : Named Queue) (tasks : Named Candidates) (noting : Clients) → IsKept items queues tasks noting past → IsKept items queues tasks noting (m ∷ past)
  kept_nothing is items queues tasks noting kept =
      kept_same items queues tasks noting past (m ∷ past) (same_items m past Nothing is numbered refl (λ n. status-step m past Nothing is n))
      (no_task m past Nothing is (λ u. refl) (λ u c h before. refl)) kept

  -- ---- an add

  pub add_keeps : (c queue : List ℕ) (it : Item) → said m ≡ Does c (Add queue it.value) → it.queue ≡ queue → (items new_items : BTreeMap ℕ Item) (queues mid new_queues : Named Queue) (tasks : Named Candidates) (noting : Clients)
      → UpdatesBy nat_cmp (nat_cmp m.number) items new_items (Some it) → Makes IsEmptyQueue queues mid → is_some (at mid queue) ≡ true → Changes (IsAdded m.number) queue mid new_queues
      → IsKept items queues tasks noting past → IsKept new_items new_queues tasks noting (m ∷ past)
  add_keeps c queue it is own items new_items queues mid new_queues tasks noting updates made some changed kept =
      let said_is : said m ≡ Does c (Add it.queue it.value) = is ∙ ap (λ q. Does c (Add q it.value)) (sym own) in
      kept_added m past c it said_is numbered (no_task m past _ said_is (λ u. refl) (λ u e h before. refl)) items new_items queues mid new_queues tasks noting updates made
      (subst (λ q. is_some (at mid q) ≡ true) (sym own) some) (subst (λ q. Changes (IsAdded m.number) q mid new_queues) (sym own) changed) kept

  -- a queue more without items changes nothing, and neither does an item that came and went
  pub made_keeps : (items : BTreeMap ℕ Item) (queues mid : Named Queue) (tasks : Named Candidates) (noting : Clients) → Makes IsEmptyQueue queues mid → IsKept items queues tasks noting past → IsKept items mid tasks noting past
  made_keeps items queues mid tasks noting made kept = record {
    items_are = kept.items_are;
    queues_are = λ q. made_queue past q (at queues q) (at mid q) (kept.queues_are q) (made q);
    tasks_are = kept.tasks_are;
    holds = kept.holds;
    stands = kept.stands;
  }

  pub same_items_keep : (items new_items : BTreeMap ℕ Item) (queues : Named Queue) (tasks : Named Candidates) (noting : Clients) → new_items.entries ≡ items.entries → IsKept items queues tasks noting past → IsKept new_items queues tasks noting past
  same_items_keep items new_items queues tasks noting same kept = record {
    items_are = λ n. ap (lookup (is_at (nat_cmp n))) same ∙ kept.items_are n;
    queues_are = kept.queues_are;
    tasks_are = kept.tasks_are;
    holds = kept.holds;
    stands = kept.stands;
  }

  pub undone_keeps : (it : Item) (items mid new_items : BTreeMap ℕ Item) (queues new_queues : Named Queue) (tasks : Named Candidates) (noting : Clients) → UpdatesBy nat_cmp (nat_cmp m.number) items mid (Some it)
      → UpdatesBy nat_cmp (nat_cmp m.number) mid new_items None → SameNames queues new_queues → IsKept items queues tasks noting past → IsKept new_items new_queues tasks noting past
  undone_keeps it items mid new_items queues new_queues tasks noting one two same kept = record {
    items_are = λ n. of n (m.number == n) refl;
    queues_are = λ q. subst (IsQueue past q) (sym (same q)) (kept.queues_are q);
    tasks_are = kept.tasks_are;
    holds = kept.holds;
    stands = kept.stands;
  }
    where
      of : (n : ℕ) (b : Bool) → (m.number == n) ≡ b → get nat_cmp new_items n ≡ live past n
      of n true here =
          let n_is : m.number ≡ n = eqb-true m.number n here in
          let none : added past n ≡ None = none_added past numbered.1 n (omega (arith, n_is, numbered.0)) in
          two.0 n ∙ ap (λ b. cond b None (get nat_cmp mid n)) (eq-cmp m.number n ∙ here)
          ∙ sym (live-is past n ∙ ap₂ (λ st (o : Option Item). cond (is_there st) o None) (no_status past n none) none)
      of n false other =
          two.0 n ∙ ap (λ b. cond b None (get nat_cmp mid n)) (eq-cmp m.number n ∙ other)
          ∙ one.0 n ∙ ap (λ b. cond b (Some it) (get nat_cmp items n)) (eq-cmp m.number n ∙ other) ∙ kept.items_are n

  -- ---- an acquire

  free_line : (queue : List ℕ) (o : Option Queue) → IsQueue past queue o → free_at o ≡ free past queue
  free_line queue None is = sym is.free
  free_line queue (Some w) is = is.free

  pub acquire_nothing : (c queue : List ℕ) → said m ≡ Does c (Acquire queue) → (items : BTreeMap ℕ Item) (queues : Named Queue) (tasks : Named Candidates) (noting : Clients) → first (free_at (at queues queue)) ≡ None
      → IsKept items queues tasks noting past → IsKept items queues tasks noting (m ∷ past)
  acquire_nothing c queue is items queues tasks noting none kept =
      kept_same items queues tasks noting past (m ∷ past)
      (same_given m past c queue is numbered (ap first (sym (free_line queue (at queues queue) (kept.queues_are queue))) ∙ none))
      (no_task m past _ is (λ u. refl) (λ u e h before. refl)) kept

  pub acquire_keeps : (c queue : List ℕ) (g : ℕ) → said m ≡ Does c (Acquire queue) → (items : BTreeMap ℕ Item) (queues new_queues : Named Queue) (tasks : Named Candidates) (noting new_noting : Clients) → first (free_at (at queues queue)) ≡ Some g
      → SameClients noting new_noting → has_item (at new_noting c) g ≡ true → Changes (IsGiven g c) queue queues new_queues → IsKept items queues tasks noting past → IsKept items new_queues tasks new_noting (m ∷ past)
  acquire_keeps c queue g is items queues new_queues tasks noting new_noting some same noted changed kept =
      let line = of (free past queue) refl (ap first (sym (free_line queue (at queues queue) (kept.queues_are queue))) ∙ some) in
      kept_given m past c queue is numbered g line.0 line.1 (no_task m past _ is (λ u. refl) (λ u e h before. refl)) items queues new_queues tasks noting new_noting same noted changed kept
    where
      of : (l : List ℕ) → free past queue ≡ l → first l ≡ Some g → (rest : List ℕ) × (free past queue ≡ g ∷ rest)
      of [] at h = absurd (let wrong : ◌≡◌ {A = Option ℕ} None (Some g) = h in cc)
      of (x ∷ rest) at h = let x_is : x ≡ g = cc in (rest, at ∙ ap (λ y. y ∷ rest) x_is)

  -- a queue with the same items
  pub same_queue_keeps : (queue : List ℕ) (items : BTreeMap ℕ Item) (queues new_queues : Named Queue) (tasks : Named Candidates) (noting : Clients) → Changes IsSameQueue queue queues new_queues
      → IsKept items queues tasks noting past → IsKept items new_queues tasks noting past
  same_queue_keeps queue items queues new_queues tasks noting changed kept = record {
    items_are = kept.items_are;
    queues_are = λ q. of q (bytes_eq queue q) (at queues q) (kept.queues_are q) (changed q);
    tasks_are = kept.tasks_are;
    holds = kept.holds;
    stands = kept.stands;
  }
    where
      of : (q : List ℕ) (b : Bool) (o : Option Queue) → IsQueue past q o → ChangedAt IsSameQueue b o (at new_queues q) → IsQueue past q (at new_queues q)
      of q false o is to = subst (IsQueue past q) (sym to) is
      of q true None is to = subst (IsQueue past q) (sym to) is
      of q true (Some w) is to =
          let now = to.1.1 in
          subst (IsQueue past q) (sym to.1.0) (record {
            free = ap (λ l. l.free) now.line ∙ is.free;
            held = λ n. now.held n ∙ is.held n;
            balanced = let out_is = ap (λ l. l.out) now.line in omega (arith, now.count, out_is, is.balanced);
            ordered = now.ordered;
          })

  -- ---- a release and a complete

  -- whether the client holds the item in the queue
  held_so : (c queue : List ℕ) (item : ℕ) (queues : Named Queue) (b : Bool) → IsQueue past queue (at queues queue) → is_text (held_at (at queues queue) item) c ≡ b → (is_of past queue item && is_held_by c (status past item)) ≡ b
  held_so c queue item queues b is h = sym (held_test past queue item c) ∙ ap (λ o. is_text o c) (sym (held_in past queue (at queues queue) is item)) ∙ h

  pub release_nothing : (c queue : List ℕ) (item : ℕ) → said m ≡ Does c (Release queue item) → (items : BTreeMap ℕ Item) (queues : Named Queue) (tasks : Named Candidates) (noting : Clients) → is_text (held_at (at queues queue) item) c ≡ false
      → IsKept items queues tasks noting past → IsKept items queues tasks noting (m ∷ past)
  release_nothing c queue item is items queues tasks noting not kept =
      kept_same items queues tasks noting past (m ∷ past) (same_release m past c queue item is numbered (held_so c queue item queues false (kept.queues_are queue) not))
      (no_task m past _ is (λ u. refl) (λ u e h before. refl)) kept

  pub release_keeps : (c queue : List ℕ) (item : ℕ) → said m ≡ Does c (Release queue item) → (items : BTreeMap ℕ Item) (queues new_queues : Named Queue) (tasks : Named Candidates) (noting new_noting : Clients) → is_text (held_at (at queues queue) item) c ≡ true
      → Changes (IsTakenBack item) queue queues new_queues → KeepsItems c item noting new_noting → IsKept items queues tasks noting past → IsKept items new_queues tasks new_noting (m ∷ past)
  release_keeps c queue item is items queues new_queues tasks noting new_noting own changed noted kept =
      kept_released m past c queue item is numbered (held_so c queue item queues true (kept.queues_are queue) own) (no_task m past _ is (λ u. refl) (λ u e h before. refl)) items queues new_queues tasks noting new_noting changed noted kept

  pub complete_nothing : (c queue : List ℕ) (item : ℕ) → said m ≡ Does c (Complete queue item) → (items : BTreeMap ℕ Item) (queues : Named Queue) (tasks : Named Candidates) (noting : Clients) → is_text (held_at (at queues queue) item) c ≡ false
      → IsKept items queues tasks noting past → IsKept items queues tasks noting (m ∷ past)
  complete_nothing c queue item is items queues tasks noting not kept =
      kept_same items queues tasks noting past (m ∷ past) (same_complete m past c queue item is numbered (held_so c queue item queues false (kept.queues_are queue) not))
      (no_task m past _ is (λ u. refl) (λ u e h before. refl)) kept

  pub complete_keeps : (c queue : List ℕ) (item : ℕ) → said m ≡ Does c (Complete queue item) → (items new_items : BTreeMap ℕ Item) (queues new_queues : Named Queue) (tasks : Named Candidates) (noting new_noting : Clients)
      → is_text (held_at (at queues queue) item) c ≡ true → UpdatesBy nat_cmp (nat_cmp item) items new_items None → Changes (IsFinished item) queue queues new_queues → KeepsItems c item noting new_noting
      → IsKept items queues tasks noting past → IsKept new_items new_queues tasks new_noting (m ∷ past)
  complete_keeps c queue item is items new_items queues new_queues tasks noting new_noting own updates changed noted kept =
      kept_done m past c queue item is numbered (held_so c queue item queues true (kept.queues_are queue) own) (no_task m past _ is (λ u. refl) (λ u e h before. refl)) items new_items queues new_queues tasks noting new_noting updates changed noted kept

  -- ---- tasks

  pub volunteer_nothing : (c own : List ℕ) → said m ≡ Does c (Volunteer own) → is_some (standing_since past own c) ≡ true → (items : BTreeMap ℕ Item) (queues : Named Queue) (tasks : Named Candidates) (noting : Clients)
      → IsKept items queues tasks noting past → IsKept items queues tasks noting (m ∷ past)
  volunteer_nothing c own is some items queues tasks noting kept =
      let k = of (standing_since past own c) refl some in
      kept_same items queues tasks noting past (m ∷ past) (same_items m past _ is numbered refl (λ n. status-step m past _ is n)) (same_volunteer m past c own is numbered k.0 k.1) kept
    where
      of : (o : Option ℕ) → standing_since past own c ≡ o → is_some o ≡ true → (k : ℕ) × (standing_since past own c ≡ Some k)
      of None at h = absurd (let wrong : false ≡ true = h in cc)
      of (Some k) at h = (k, at)

  pub volunteer_keeps : (c own : List ℕ) → said m ≡ Does c (Volunteer own) → is_some (standing_since past own c) ≡ false → (items : BTreeMap ℕ Item) (queues : Named Queue) (tasks mid new_tasks : Named Candidates) (noting new_noting : Clients)
      → Makes IsEmptyTask tasks mid → is_some (at mid own) ≡ true → NotesTask c own (Some m.number) noting new_noting → Changes (WithCandidate m.number c) own mid new_tasks
      → IsKept items queues tasks noting past → IsKept items queues new_tasks new_noting (m ∷ past)
  volunteer_keeps c own is none items queues tasks mid new_tasks noting new_noting made some notes changed kept =
      kept_volunteered m past c own is numbered (none_of_it (standing_since past own c) none) (same_items m past _ is numbered refl (λ n. status-step m past _ is n)) items queues tasks mid new_tasks noting new_noting made some notes changed kept
    where
      none_of_it : (o : Option ℕ) → is_some o ≡ false → o ≡ None
      none_of_it None h = refl
      none_of_it (Some k) h = absurd (let wrong : true ≡ false = h in cc)

  -- a place without candidates, and a note of one that doesn't stand, change nothing
  pub made_task_keeps : (items : BTreeMap ℕ Item) (queues : Named Queue) (tasks mid : Named Candidates) (noting : Clients) → Makes IsEmptyTask tasks mid → IsKept items queues tasks noting past → IsKept items queues mid noting past
  made_task_keeps items queues tasks mid noting made kept = record {
    items_are = kept.items_are;
    queues_are = kept.queues_are;
    tasks_are = λ u. made_task past u (at tasks u) (at mid u) (kept.tasks_are u) (made u);
    holds = kept.holds;
    stands = kept.stands;
  }

  pub noted_task_keeps : (c own : List ℕ) (number : Option ℕ) → is_some (standing_since past own c) ≡ false → (items : BTreeMap ℕ Item) (queues : Named Queue) (tasks new_tasks : Named Candidates) (noting new_noting : Clients) → NotesTask c own number noting new_noting
      → Changes IsSameTask own tasks new_tasks → IsKept items queues tasks noting past → IsKept items queues new_tasks new_noting past
  noted_task_keeps c own number none items queues tasks new_tasks noting new_noting notes changed kept = record {
    items_are = kept.items_are;
    queues_are = kept.queues_are;
    tasks_are = λ u. same u (bytes_eq own u) (at tasks u) (kept.tasks_are u) (changed u);
    holds = λ e n h. notes.items e n ∙ kept.holds e n h;
    stands = λ e u n h. notes.tasks e u ∙ ap (λ b. cond b number (task_at (at noting e) u)) (apart e u n h) ∙ kept.stands e u n h;
  }
    where
      same : (u : List ℕ) (b : Bool) (o : Option Candidates) → entries_at o ≡ pairs (standing past u) → ChangedAt IsSameTask b o (at new_tasks u) → entries_at (at new_tasks u) ≡ pairs (standing past u)
      same u false o is to = ap entries_at to ∙ is
      same u true None is to = ap entries_at to ∙ is
      same u true (Some w) is to = ap entries_at to.1.0 ∙ to.1.1 ∙ is

      apart : (e u : List ℕ) (n : ℕ) → standing_since past u e ≡ Some n → (bytes_eq c e && bytes_eq own u) ≡ false
      apart e u n h = of (bytes_eq c e) (bytes_eq own u) refl refl
        where
          of : (a b : Bool) → bytes_eq c e ≡ a → bytes_eq own u ≡ b → (a && b) ≡ false
          of true true one two =
              let its : standing_since past own c ≡ Some n = subst (λ w. standing_since past w c ≡ Some n) (sym ((bytes_eq-Decides own u).0 two)) (subst (λ w. standing_since past u w ≡ Some n) (sym ((bytes_eq-Decides c e).0 one)) h) in
              absurd (no_test (is_some (standing_since past own c)) (ap is_some its) none)
          of true false one two = refl
          of false b one two = refl

  pub abandon_nothing : (c own : List ℕ) → said m ≡ Does c (Abandon own) → (items : BTreeMap ℕ Item) (queues : Named Queue) (tasks : Named Candidates) (noting : Clients) → task_at (at noting c) own ≡ None
      → IsKept items queues tasks noting past → IsKept items queues tasks noting (m ∷ past)
  abandon_nothing c own is items queues tasks noting none kept =
      kept_same items queues tasks noting past (m ∷ past) (same_items m past _ is numbered refl (λ n. status-step m past _ is n)) (same_abandon m past c own is numbered (of (standing_since past own c) refl)) kept
    where
      of : (o : Option ℕ) → standing_since past own c ≡ o → standing_since past own c ≡ None
      of None at = at
      of (Some k) at = absurd (let wrong : ◌≡◌ {A = Option ℕ} None (Some k) = sym none ∙ kept.stands c own k at in cc)

  pub abandon_keeps : (c own : List ℕ) (k : ℕ) → said m ≡ Does c (Abandon own) → (items : BTreeMap ℕ Item) (queues : Named Queue) (tasks new_tasks : Named Candidates) (noting new_noting : Clients) → task_at (at noting c) own ≡ Some k
      → Changes (IsWithoutClient c k) own tasks new_tasks → NotesTask c own None noting new_noting → IsKept items queues tasks noting past → IsKept items queues new_tasks new_noting (m ∷ past)
  abandon_keeps c own k is items queues tasks new_tasks noting new_noting noted changed notes kept =
      kept_abandoned m past c own is numbered (same_items m past _ is numbered refl (λ n. status-step m past _ is n)) items queues tasks new_tasks noting new_noting k noted changed notes kept

  pub finish_nothing : (c own : List ℕ) → said m ≡ Does c (Finish own) → (items : BTreeMap ℕ Item) (queues : Named Queue) (tasks : Named Candidates) (noting : Clients) → is_text (option_map (λ e. e.1) (first (entries_at (at tasks own)))) c ≡ false
      → IsKept items queues tasks noting past → IsKept items queues tasks noting (m ∷ past)
  finish_nothing c own is items queues tasks noting not kept =
      kept_same items queues tasks noting past (m ∷ past) (same_items m past _ is numbered refl (λ n. status-step m past _ is n))
      (same_finish m past c own is (ap (λ o. is_text o c) (sym (holder-entries past own (at tasks own) (kept.tasks_are own))) ∙ not)) kept

  pub finish_keeps : (c own : List ℕ) → said m ≡ Does c (Finish own) → (items : BTreeMap ℕ Item) (queues : Named Queue) (tasks new_tasks : Named Candidates) (noting : Clients) → is_text (option_map (λ e. e.1) (first (entries_at (at tasks own)))) c ≡ true
      → Changes HasNoCandidates own tasks new_tasks → IsKept items queues tasks noting past → IsKept items queues new_tasks noting (m ∷ past)
  finish_keeps c own is items queues tasks new_tasks noting own_holder changed kept =
      kept_finished m past c own is (ap (λ o. is_text o c) (sym (holder-entries past own (at tasks own) (kept.tasks_are own))) ∙ own_holder) (same_items m past _ is numbered refl (λ n. status-step m past _ is n))
      items queues tasks new_tasks noting changed kept

  -- ---- a leave

  pub leave_nothing : (c : List ℕ) → said m ≡ Leaves c → (items : BTreeMap ℕ Item) (queues : Named Queue) (tasks : Named Candidates) (noting new_noting : Clients) → at noting c ≡ None → SameNames noting new_noting
      → IsKept items queues tasks noting past → IsKept items queues tasks new_noting (m ∷ past)
  leave_nothing c is items queues tasks noting new_noting none same kept =
      let both = same_left m past c is numbered
      (λ n. false_from_ne_true (is_held_by c (status past n)) (λ h. let wrong : false ≡ true = ap (λ o. has_item o n) (sym none) ∙ kept.holds c n h in cc))
      (λ u. of u (standing_since past u c) refl) in
      kept_same items queues tasks new_noting past (m ∷ past) both.0 both.1 (record {
        items_are = kept.items_are;
        queues_are = kept.queues_are;
        tasks_are = kept.tasks_are;
        holds = λ e n h. ap (λ o. has_item o n) (same e) ∙ kept.holds e n h;
        stands = λ e u n h. ap (λ o. task_at o u) (same e) ∙ kept.stands e u n h;
      })
    where
      of : (u : List ℕ) (o : Option ℕ) → standing_since past u c ≡ o → standing_since past u c ≡ None
      of u None at = at
      of u (Some k) at = absurd (let wrong : ◌≡◌ {A = Option ℕ} None (Some k) = ap (λ o. task_at o u) (sym none) ∙ kept.stands c u k at in cc)

-- a candidate is one that stands
pub candidate_stands : (past : Past) → IsNumbered past → (u c : List ℕ) (k : ℕ) (o : Option Candidates) → entries_at o ≡ pairs (standing past u) → ((n : ℕ) → standing_since past u c ≡ Some n → Some k ≡ Some n)
    → is_text (candidate_at o k) c ≡ is_some (standing_since past u c)
candidate_stands past numbered u c k o is notes = of (standing_since past u c) refl
  where
    of : (s : Option ℕ) → standing_since past u c ≡ s → is_text (candidate_at o k) c ≡ is_some s
    of None at = false_from_ne_true (is_text (candidate_at o k) c) (λ h. let wrong : ◌≡◌ {A = Option ℕ} None (Some k) = sym at ∙ found_under past u c o is k h in cc)
    of (Some n) at =
        let k_is : k ≡ n = (let same = notes n at in cc) in
        under_found past numbered u c o is k (at ∙ ap Some (sym k_is))

-- one of which nothing is noted doesn't stand
pub not_noted : (o : Option ℕ) → ((n : ℕ) → o ≡ Some n → ◌≡◌ {A = Option ℕ} None (Some n)) → false ≡ is_some o
not_noted None notes = refl
not_noted (Some n) notes = absurd (let wrong = notes n refl in cc)

pub past-push : (ms : List Message) (m : Message) → past_of (ms ++ m ∷ []) ≡ m ∷ past_of ms
past-push ms m = reverse-append ms (m ∷ [])

-- ---- what a message says

pub says_left : (m : Message) (c : List ℕ) → left_by m ≡ Some c → said m ≡ Leaves c
unfolding said
says_left m c is = rw is refl

pub says_done : (m : Message) → left_by m ≡ None → said m ≡ done m.client (act_of m)
unfolding said
says_done m is = rw is refl
