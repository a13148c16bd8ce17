-- What is kept behind a message that frees items or makes one gone.
use Rattle.std.proofs.Common.{◌≡◌, ℕ, ◌+◌, ◌-◌, ◌≤◌, ◌==◌, Bool, true, false, not, ◌&&◌, cond, List, [], ◌∷◌, ◌++◌, Option, Some, None, refl, sym, ◌∙◌, ap, ap₂, subst, arith, append-nil, nat_cmp, bytes_eq}
use Rattle.std.specs.Prelude.{filter}
use Rattle.std.specs.BTreeMap.{BTreeMap, get, UpdatesBy, btree_map_len}
use Rattle.std.proofs.lemmas.Bool.{eqb-true, and_parts, lt-ltb}
use Rattle.std.proofs.lemmas.Slice.Eq.{bytes_eq-Decides}
use Rattle.fluid_types.specs.declared.messages.Message.{Message}
use Rattle.fluid_tasks.specs.declared.acts.Act.TheVariants.{Complete, Release}
use Rattle.fluid_tasks.specs.declared.tasks.Item.{Item}
use Rattle.fluid_tasks.specs.declared.queues.Queue.{Queue}
use Rattle.fluid_tasks.specs.Acts.{Said, Does, said}
use Rattle.fluid_tasks.specs.Line.{ALine, given_back}
use Rattle.fluid_tasks.specs.Past.{Past, is_text, adds, items, added, is_of, Status, NoItem, Free, Held, Gone, is_free_since, holder_in, is_held_by, is_there, status, free, live}
use Rattle.fluid_tasks.specs.Kept.{Named, at, ChangedAt, Changes, held_at, IsTakenBack, IsFinished, Candidates, Clients, KeepsItems, IsNumbered, held_by, pairs, IsQueue, IsKept}
use Rattle.fluid_tasks.proofs.Lists.{no_test, all-any, filter-same, filter-none, filter-one}
use Rattle.fluid_tasks.proofs.Facts.{status-step, items_rise, of_mem, text_some}
use Rattle.fluid_tasks.proofs.Candidates.{eq-cmp}
use Rattle.fluid_tasks.proofs.Freeing.{added-kept, is_of-kept, free-kept, free-freed, of_one, held_not_free}
use Rattle.fluid_tasks.proofs.Applied.{SameItems, SameTasks, same_items, live-is, held_by-is}

-- ---- who holds an item of a queue

pub held_test : (past : Past) (queue : List ℕ) (item : ℕ) (c : List ℕ) → is_text (held_by past queue item) c ≡ (is_of past queue item && is_held_by c (status past item))
held_test past queue item c = ap (λ o. is_text o c) (held_by-is past queue item) ∙ of (is_of past queue item)
  where
    of : (b : Bool) → is_text (cond b (holder_in (status past item)) None) c ≡ (b && is_held_by c (status past item))
    of true = refl
    of false = refl

pub held_in : (past : Past) (q : List ℕ) (o : Option Queue) → IsQueue past q o → (n : ℕ) → held_at o n ≡ held_by past q n
held_in past q None is n = sym (is.held n)
held_in past q (Some queue) is n = is.held n

pub held_there : (c : List ℕ) (st : Status) → is_held_by c st ≡ true → is_there st ≡ true
held_there c NoItem is = cc
held_there c (Free since) is = cc
held_there c (Held own) is = refl
held_there c Gone is = cc

-- ---- some items are freed that a client held

module _ (m : Message) (past : Past) (d : Said) (is : said m ≡ d) (none : adds d ≡ None) (freed : ℕ → Bool) (c : List ℕ) (held : (n : ℕ) → freed n ≡ true → is_held_by c (status past n) ≡ true)
    (behind : (n : ℕ) → status (m ∷ past) n ≡ cond (freed n) (Free m.number) (status past n)) where
  pub held_freed : (q : List ℕ) (n : ℕ) → held_by (m ∷ past) q n ≡ cond (freed n) None (held_by past q n)
  held_freed q n =
      held_by-is (m ∷ past) q n ∙ ap₂ (λ b st. cond b (holder_in st) None) (is_of-kept m past d is none q n) (behind n) ∙ of (freed n) (is_of past q n)
      ∙ ap (λ o. cond (freed n) None o) (sym (held_by-is past q n))
    where
      of : (b a : Bool) → cond a (holder_in (cond b (Free m.number) (status past n))) None ≡ cond b None (cond a (holder_in (status past n)) None)
      of true true = refl
      of true false = refl
      of false a = refl

  pub live_freed : (n : ℕ) → live (m ∷ past) n ≡ live past n
  live_freed n =
      live-is (m ∷ past) n ∙ ap₂ (λ st (o : Option Item). cond (is_there st) o None) (behind n) (added-kept m past d is none n) ∙ ap (λ b. cond b (added past n) None) (of (freed n) refl) ∙ sym (live-is past n)
    where
      of : (b : Bool) → freed n ≡ b → is_there (cond b (Free m.number) (status past n)) ≡ is_there (status past n)
      of true at = sym (held_there c (status past n) (held n at))
      of false at = refl

  -- who holds an item behind it held it before, and it wasn't freed
  pub held_still : (e : List ℕ) (n : ℕ) → is_held_by e (status (m ∷ past) n) ≡ true → (freed n ≡ false) × (is_held_by e (status past n) ≡ true)
  held_still e n now = of (freed n) refl (sym (ap (is_held_by e) (behind n)) ∙ now)
    where
      of : (b : Bool) → freed n ≡ b → is_held_by e (cond b (Free m.number) (status past n)) ≡ true → (freed n ≡ false) × (is_held_by e (status past n) ≡ true)
      of true at h = absurd (cc)
      of false at h = (at, h)

-- ---- a release, and a complete

-- an item that the client holds in a queue
module _ (past : Past) (c queue : List ℕ) (item : ℕ) (own : (is_of past queue item && is_held_by c (status past item)) ≡ true) where
  -- the test of a release is that of the item
  pub its_test : (n : ℕ) → ((item == n) && (is_of past queue n && is_held_by c (status past n))) ≡ (item == n)
  its_test n = of (item == n) refl
    where
      of : (b : Bool) → (item == n) ≡ b → (b && (is_of past queue n && is_held_by c (status past n))) ≡ b
      of true at = subst (λ k. (is_of past queue k && is_held_by c (status past k)) ≡ true) (eqb-true item n at) own
      of false at = refl

  pub its_queue : is_of past queue item ≡ true
  its_queue = (and_parts (is_of past queue item) _ own).0

  pub its_holder : is_held_by c (status past item) ≡ true
  its_holder = (and_parts (is_of past queue item) _ own).1

  pub held_at_it : (n : ℕ) → (item == n) ≡ true → is_held_by c (status past n) ≡ true
  held_at_it n at = subst (λ k. is_held_by c (status past k) ≡ true) (eqb-true item n at) its_holder

  pub in_its_queue : (q : List ℕ) → IsNumbered past → filter (λ i. is_of past q i && (item == i)) (items past) ≡ cond (bytes_eq queue q) (item ∷ []) []
  in_its_queue q numbered =
      filter-same (λ i. bytes_eq queue q && (item == i)) (λ i. is_of past q i && (item == i)) (items past)
      (all-any (λ i. (is_of past q i && (item == i)) ≡ (bytes_eq queue q && (item == i))) (λ i. each i (item == i) refl) (items past))
      ∙ one (bytes_eq queue q)
    where
      both_false : (a b : Bool) → (a && false) ≡ (b && false)
      both_false true true = refl
      both_false true false = refl
      both_false false true = refl
      both_false false false = refl

      each : (i : ℕ) (b : Bool) → (item == i) ≡ b → (is_of past q i && b) ≡ (bytes_eq queue q && b)
      each i true at = ap (λ x. x && true) (subst (λ k. is_of past q k ≡ bytes_eq queue q) (eqb-true item i at) (of_one past queue q item its_queue))
      each i false at = both_false (is_of past q i) (bytes_eq queue q)

      one : (b : Bool) → filter (λ i. b && (item == i)) (items past) ≡ cond b (item ∷ []) []
      one true = filter-one item (items past) (items_rise past numbered) (of_mem past queue item its_queue)
      one false = filter-none (λ i. false) (items past) (all-any (λ i. false ≡ false) (λ i. refl) (items past))

-- what isn't the holder's counts for nothing
pub no_release : (past : Past) (c queue : List ℕ) (item : ℕ) → (is_of past queue item && is_held_by c (status past item)) ≡ false → (n : ℕ) → ((item == n) && (is_of past queue n && is_held_by c (status past n))) ≡ false
no_release past c queue item not n = of (item == n) refl
  where
    of : (b : Bool) → (item == n) ≡ b → (b && (is_of past queue n && is_held_by c (status past n))) ≡ false
    of true at = subst (λ k. (is_of past queue k && is_held_by c (status past k)) ≡ false) (eqb-true item n at) not
    of false at = refl

-- one that is out is given back
pub back_of : (l : ALine) (item : ℕ) → 1 ≤ l.out → given_back l item ≡ record { free = l.free ++ item ∷ []; out = l.out - 1 }
back_of l item some = ap (λ b. cond b (record { free = l.free ++ item ∷ []; out = l.out - 1 }) l) (lt-ltb 0 l.out (omega (arith, some)))

module _ (m : Message) (past : Past) (c queue : List ℕ) (item : ℕ) (is : said m ≡ Does c (Release queue item)) (numbered : IsNumbered (m ∷ past)) where
  pub same_release : (is_of past queue item && is_held_by c (status past item)) ≡ false → SameItems past (m ∷ past)
  same_release not = same_items m past _ is numbered refl (λ n. status-step m past _ is n ∙ ap (λ b. cond b (Free m.number) (status past n)) (no_release past c queue item not n))

  module _ (own : (is_of past queue item && is_held_by c (status past item)) ≡ true) where
    behind_release : (n : ℕ) → status (m ∷ past) n ≡ cond (item == n) (Free m.number) (status past n)
    behind_release n = status-step m past _ is n ∙ ap (λ b. cond b (Free m.number) (status past n)) (its_test past c queue item own n)

    released_queue : (q : List ℕ) (old new : Option Queue) → IsQueue past q old → ChangedAt (IsTakenBack item) (bytes_eq queue q) old new → IsQueue (m ∷ past) q new
    released_queue q old new was to = of (bytes_eq queue q) refl old was to
      where
        free_now : (b : Bool) → bytes_eq queue q ≡ b → free (m ∷ past) q ≡ free past q ++ cond b (item ∷ []) []
        free_now b at =
            free-freed m past _ is numbered refl (λ n. item == n) c (held_at_it past c queue item own) behind_release q
            ∙ ap (λ l. free past q ++ l) (in_its_queue past c queue item own q numbered.1 ∙ ap (λ x. cond x (item ∷ []) []) at)

        held_now : (n : ℕ) → held_by (m ∷ past) q n ≡ cond (item == n) None (held_by past q n)
        held_now n = held_freed m past _ is refl (λ n. item == n) c (held_at_it past c queue item own) behind_release q n

        not_elsewhere : bytes_eq queue q ≡ false → (n : ℕ) → held_by (m ∷ past) q n ≡ held_by past q n
        not_elsewhere other n = held_now n ∙ at (item == n) refl
          where
            at : (b : Bool) → (item == n) ≡ b → cond b None (held_by past q n) ≡ held_by past q n
            at true same =
                let apart : is_of past q n ≡ false = subst (λ k. is_of past q k ≡ false) (eqb-true item n same) (of_one past queue q item (its_queue past c queue item own) ∙ other) in
                sym (held_by-is past q n ∙ ap (λ b. cond b (holder_in (status past n)) None) apart)
            at false same = refl

        of : (b : Bool) → bytes_eq queue q ≡ b → (o : Option Queue) → IsQueue past q o → ChangedAt (IsTakenBack item) b o new → IsQueue (m ∷ past) q new
        of false at None was now =
            subst (IsQueue (m ∷ past) q) (sym now) (record { free = free_now false at ∙ append-nil (free past q) ∙ was.free; held = λ n. not_elsewhere at n ∙ was.held n })
        of false at (Some w) was now = subst (IsQueue (m ∷ past) q) (sym now) (record {
          free = was.free ∙ sym (free_now false at ∙ append-nil (free past q));
          held = λ n. was.held n ∙ sym (not_elsewhere at n);
          balanced = was.balanced;
          ordered = was.ordered;
        })
        of true at None was now =
            let q_is : queue ≡ q = (bytes_eq-Decides queue q).0 at in
            let its : is_text (held_by past q item) c ≡ true = subst (λ s. is_text (held_by past s item) c ≡ true) q_is (held_test past queue item c ∙ own) in
            absurd (no_test (is_text (held_by past q item) c) its (ap (λ o. is_text o c) (was.held item)))
        of true at (Some w) was now =
            let change = now.1.1 in
            let q_is : queue ≡ q = (bytes_eq-Decides queue q).0 at in
            let its : is_text (get nat_cmp w.held item) c ≡ true = ap (λ o. is_text o c) (was.held item) ∙ subst (λ s. is_text (held_by past s item) c ≡ true) q_is (held_test past queue item c ∙ own) in
            let counted : btree_map_len now.0.held + 1 ≡ btree_map_len w.held = subst (λ b. btree_map_len now.0.held + cond b 1 0 ≡ btree_map_len w.held) (text_some (get nat_cmp w.held item) c its) change.unheld.count in
            let line_is = change.line ∙ back_of w.line item (omega (arith, counted, was.balanced)) in
            let out_is : now.0.line.out ≡ w.line.out - 1 = ap (λ l. l.out) line_is in
            subst (IsQueue (m ∷ past) q) (sym now.1.0) (record {
              free = ap (λ l. l.free) line_is ∙ ap (λ l. l ++ item ∷ []) was.free ∙ sym (free_now true at);
              held = λ n. change.unheld.held n ∙ ap (λ o. cond (item == n) None o) (was.held n) ∙ sym (held_now n);
              balanced = omega (arith, out_is, counted, was.balanced);
              ordered = change.unheld.ordered;
            })

    pub kept_released : SameTasks past (m ∷ past) → (items_kept : BTreeMap ℕ Item) (queues new_queues : Named Queue) (tasks : Named Candidates) (clients new_clients : Clients)
        → Changes (IsTakenBack item) queue queues new_queues → KeepsItems c item clients new_clients → IsKept items_kept queues tasks clients past → IsKept items_kept new_queues tasks new_clients (m ∷ past)
    kept_released same_tasks items_kept queues new_queues tasks clients new_clients changed noted kept = record {
      items_are = λ n. kept.items_are n ∙ sym (live_freed m past _ is refl (λ n. item == n) c (held_at_it past c queue item own) behind_release n);
      queues_are = λ q. released_queue q (at queues q) (at new_queues q) (kept.queues_are q) (changed q);
      tasks_are = λ u. kept.tasks_are u ∙ sym (ap pairs (same_tasks.standing_same u));
      holds = λ e n now.
          let still = held_still m past _ is refl (λ n. item == n) c (held_at_it past c queue item own) behind_release e n now in
          noted.items e n (and_false (bytes_eq c e) (item == n) still.0) (kept.holds e n still.1);
      stands = λ e u n now. noted.tasks e u ∙ kept.stands e u n (sym (same_tasks.since_same u e) ∙ now);
    }
      where
        and_false : (a b : Bool) → b ≡ false → (a && b) ≡ false
        and_false true b h = h
        and_false false b h = refl

module _ (m : Message) (past : Past) (c queue : List ℕ) (item : ℕ) (is : said m ≡ Does c (Complete queue item)) (numbered : IsNumbered (m ∷ past)) where
  pub same_complete : (is_of past queue item && is_held_by c (status past item)) ≡ false → SameItems past (m ∷ past)
  same_complete not = same_items m past _ is numbered refl (λ n. status-step m past _ is n ∙ ap (λ b. cond b Gone (status past n)) (no_release past c queue item not n))

  module _ (own : (is_of past queue item && is_held_by c (status past item)) ≡ true) where
    behind_complete : (n : ℕ) → status (m ∷ past) n ≡ cond (item == n) Gone (status past n)
    behind_complete n = status-step m past _ is n ∙ ap (λ b. cond b Gone (status past n)) (its_test past c queue item own n)

    free_done : (q : List ℕ) → free (m ∷ past) q ≡ free past q
    free_done q = free-kept m past _ is numbered refl (λ s n. ap (is_free_since s) (behind_complete n) ∙ of s n (item == n) refl) q
      where
        of : (s n : ℕ) (b : Bool) → (item == n) ≡ b → is_free_since s (cond b Gone (status past n)) ≡ is_free_since s (status past n)
        of s n true at = sym (held_not_free c s (status past n) (held_at_it past c queue item own n at))
        of s n false at = refl

    held_done : (q : List ℕ) (n : ℕ) → held_by (m ∷ past) q n ≡ cond (item == n) None (held_by past q n)
    held_done q n =
        held_by-is (m ∷ past) q n ∙ ap₂ (λ b st. cond b (holder_in st) None) (is_of-kept m past _ is refl q n) (behind_complete n) ∙ of (item == n) (is_of past q n)
        ∙ ap (λ o. cond (item == n) None o) (sym (held_by-is past q n))
      where
        of : (b a : Bool) → cond a (holder_in (cond b Gone (status past n))) None ≡ cond b None (cond a (holder_in (status past n)) None)
        of true true = refl
        of true false = refl
        of false a = refl

    live_done : (n : ℕ) → live (m ∷ past) n ≡ cond (item == n) None (live past n)
    live_done n =
        live-is (m ∷ past) n ∙ ap₂ (λ st (o : Option Item). cond (is_there st) o None) (behind_complete n) (added-kept m past _ is refl n) ∙ of (item == n)
        ∙ ap (λ (o : Option Item). cond (item == n) None o) (sym (live-is past n))
      where
        of : (b : Bool) → cond (is_there (cond b Gone (status past n))) (added past n) None ≡ cond b None (cond (is_there (status past n)) (added past n) None)
        of true = refl
        of false = refl

    held_done_still : (e : List ℕ) (n : ℕ) → is_held_by e (status (m ∷ past) n) ≡ true → ((item == n) ≡ false) × (is_held_by e (status past n) ≡ true)
    held_done_still e n now = of (item == n) refl (sym (ap (is_held_by e) (behind_complete n)) ∙ now)
      where
        of : (b : Bool) → (item == n) ≡ b → is_held_by e (cond b Gone (status past n)) ≡ true → ((item == n) ≡ false) × (is_held_by e (status past n) ≡ true)
        of true at h = absurd (cc)
        of false at h = (at, h)

    done_queue : (q : List ℕ) (old new : Option Queue) → IsQueue past q old → ChangedAt (IsFinished item) (bytes_eq queue q) old new → IsQueue (m ∷ past) q new
    done_queue q old new was to = of (bytes_eq queue q) refl old was to
      where
        not_elsewhere : bytes_eq queue q ≡ false → (n : ℕ) → held_by (m ∷ past) q n ≡ held_by past q n
        not_elsewhere other n = held_done q n ∙ at (item == n) refl
          where
            at : (b : Bool) → (item == n) ≡ b → cond b None (held_by past q n) ≡ held_by past q n
            at true same =
                let apart : is_of past q n ≡ false = subst (λ k. is_of past q k ≡ false) (eqb-true item n same) (of_one past queue q item (its_queue past c queue item own) ∙ other) in
                sym (held_by-is past q n ∙ ap (λ b. cond b (holder_in (status past n)) None) apart)
            at false same = refl

        of : (b : Bool) → bytes_eq queue q ≡ b → (o : Option Queue) → IsQueue past q o → ChangedAt (IsFinished item) b o new → IsQueue (m ∷ past) q new
        of false at None was now = subst (IsQueue (m ∷ past) q) (sym now) (record { free = free_done q ∙ was.free; held = λ n. not_elsewhere at n ∙ was.held n })
        of false at (Some w) was now = subst (IsQueue (m ∷ past) q) (sym now) (record {
          free = was.free ∙ sym (free_done q);
          held = λ n. was.held n ∙ sym (not_elsewhere at n);
          balanced = was.balanced;
          ordered = was.ordered;
        })
        of true at None was now =
            let q_is : queue ≡ q = (bytes_eq-Decides queue q).0 at in
            let its : is_text (held_by past q item) c ≡ true = subst (λ s. is_text (held_by past s item) c ≡ true) q_is (held_test past queue item c ∙ own) in
            absurd (no_test (is_text (held_by past q item) c) its (ap (λ o. is_text o c) (was.held item)))
        of true at (Some w) was now =
            let change = now.1.1 in
            let q_is : queue ≡ q = (bytes_eq-Decides queue q).0 at in
            let its : is_text (get nat_cmp w.held item) c ≡ true = ap (λ o. is_text o c) (was.held item) ∙ subst (λ s. is_text (held_by past s item) c ≡ true) q_is (held_test past queue item c ∙ own) in
            let counted : btree_map_len now.0.held + 1 ≡ btree_map_len w.held = subst (λ b. btree_map_len now.0.held + cond b 1 0 ≡ btree_map_len w.held) (text_some (get nat_cmp w.held item) c its) change.unheld.count in
            let out_is : now.0.line.out ≡ w.line.out - 1 = ap (λ l. l.out) change.line in
            subst (IsQueue (m ∷ past) q) (sym now.1.0) (record {
              free = ap (λ l. l.free) change.line ∙ was.free ∙ sym (free_done q);
              held = λ n. change.unheld.held n ∙ ap (λ o. cond (item == n) None o) (was.held n) ∙ sym (held_done q n);
              balanced = omega (arith, out_is, counted, was.balanced);
              ordered = change.unheld.ordered;
            })

    pub kept_done : SameTasks past (m ∷ past) → (items_kept new_items : BTreeMap ℕ Item) (queues new_queues : Named Queue) (tasks : Named Candidates) (clients new_clients : Clients)
        → UpdatesBy nat_cmp (nat_cmp item) items_kept new_items None → Changes (IsFinished item) queue queues new_queues → KeepsItems c item clients new_clients
        → IsKept items_kept queues tasks clients past → IsKept new_items new_queues tasks new_clients (m ∷ past)
    kept_done same_tasks items_kept new_items queues new_queues tasks clients new_clients updates changed noted kept = record {
      items_are = λ n. updates.0 n ∙ ap₂ (λ b (o : Option Item). cond b None o) (eq-cmp item n) (kept.items_are n) ∙ sym (live_done n);
      queues_are = λ q. done_queue q (at queues q) (at new_queues q) (kept.queues_are q) (changed q);
      tasks_are = λ u. kept.tasks_are u ∙ sym (ap pairs (same_tasks.standing_same u));
      holds = λ e n now. let still = held_done_still e n now in noted.items e n (and_false (bytes_eq c e) (item == n) still.0) (kept.holds e n still.1);
      stands = λ e u n now. noted.tasks e u ∙ kept.stands e u n (sym (same_tasks.since_same u e) ∙ now);
    }
      where
        and_false : (a b : Bool) → b ≡ false → (a && b) ≡ false
        and_false true b h = h
        and_false false b h = refl
