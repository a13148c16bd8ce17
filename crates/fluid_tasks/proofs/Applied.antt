-- What is kept behind each message.
use Rattle.std.proofs.Common.{◌≡◌, ℕ, ◌+◌, ◌≤◌, ◌==◌, Bool, true, false, ◌&&◌, cond, List, [], ◌∷◌, ◌++◌, Option, Some, None, option_map, refl, sym, ◌∙◌, ap, ap₂, subst, arith, append-nil, nat_cmp, inl, inr, ◌⊎◌, bytes_eq}
use Rattle.std.specs.Prelude.{is_some}
use Rattle.std.specs.BTreeMap.{BTreeMap, get, IsOrdered, UpdatesBy, btree_map_len}
use Rattle.std.proofs.lemmas.Bool.{eqb-true, cases_Bool}
use Rattle.std.proofs.lemmas.Slice.Eq.{bytes_eq-Decides}
use Rattle.fluid_types.specs.declared.messages.Message.{Message}
use Rattle.fluid_tasks.specs.declared.acts.Act.TheVariants.{Add, Acquire}
use Rattle.fluid_tasks.specs.declared.tasks.Item.{Item}
use Rattle.fluid_tasks.specs.declared.queues.Queue.{Queue}
use Rattle.fluid_tasks.specs.Acts.{Said, Does, said}
use Rattle.fluid_tasks.specs.Line.{given_of}
use Rattle.fluid_tasks.specs.Past.{Past, first, is_text, is_number, adds, items, added, is_of, Free, Held, is_free_since, holder_in, is_held_by, is_there, status, free, live, holder_of, standing_since, standing}
use Rattle.fluid_tasks.specs.Kept.{Named, at, MadeAt, Makes, ChangedAt, Changes, IsEmptyQueue, IsAdded, IsGiven, Candidates, Clients, has_item, SameClients, IsNumbered, held_by, pairs, IsQueue, IsKept}
use Rattle.fluid_tasks.proofs.Facts.{status-step, none_added, first_free_is, IsFreeIn, free_is}
use Rattle.fluid_tasks.proofs.Candidates.{eq-cmp}
use Rattle.fluid_tasks.proofs.Freeing.{added-kept, is_of-kept, free-kept, free-given, added-new, status-new, free-added, of_one}

-- ---- views

pub live-is : (past : Past) (n : ℕ) → live past n ≡ cond (is_there (status past n)) (added past n) None
unfolding live
live-is past n = refl

pub holder_of-is : (past : Past) (n : ℕ) → holder_of past n ≡ holder_in (status past n)
unfolding holder_of
holder_of-is past n = refl

pub held_by-is : (past : Past) (q : List ℕ) (n : ℕ) → held_by past q n ≡ cond (is_of past q n) (holder_in (status past n)) None
held_by-is past q n = ap (λ o. cond (is_of past q n) o None) (holder_of-is past n)

-- ---- nothing of items changes

pub record SameItems (past now : Past) : Type 0 where
  pub free_same : (q : List ℕ) → free now q ≡ free past q
  pub held_same : (q : List ℕ) (n : ℕ) → held_by now q n ≡ held_by past q n
  pub live_same : (n : ℕ) → live now n ≡ live past n
  pub holds_same : (c : List ℕ) (n : ℕ) → is_held_by c (status now n) ≡ is_held_by c (status past n)

pub record SameTasks (past now : Past) : Type 0 where
  pub standing_same : (u : List ℕ) → standing now u ≡ standing past u
  pub since_same : (u c : List ℕ) → standing_since now u c ≡ standing_since past u c

pub same_items : (m : Message) (past : Past) (d : Said) → said m ≡ d → IsNumbered (m ∷ past) → adds d ≡ None → ((n : ℕ) → status (m ∷ past) n ≡ status past n) → SameItems past (m ∷ past)
same_items m past d is numbered none same = record {
  free_same = free-kept m past d is numbered none (λ s n. ap (is_free_since s) (same n));
  held_same = λ q n.
      held_by-is (m ∷ past) q n ∙ ap₂ (λ b st. cond b (holder_in st) None) (is_of-kept m past d is none q n) (same n) ∙ sym (held_by-is past q n);
  live_same = λ n. live-is (m ∷ past) n ∙ ap₂ (λ st (o : Option Item). cond (is_there st) o None) (same n) (added-kept m past d is none n) ∙ sym (live-is past n);
  holds_same = λ c n. ap (is_held_by c) (same n);
}

pub same_queue : (past now : Past) → SameItems past now → (q : List ℕ) (o : Option Queue) → IsQueue past q o → IsQueue now q o
same_queue past now same q None is = record { free = same.free_same q ∙ is.free; held = λ n. same.held_same q n ∙ is.held n }
same_queue past now same q (Some queue) is = record {
  free = is.free ∙ sym (same.free_same q);
  held = λ n. is.held n ∙ sym (same.held_same q n);
  balanced = is.balanced;
  ordered = is.ordered;
}

module _ (items : BTreeMap ℕ Item) (queues : Named Queue) (tasks : Named Candidates) (clients : Clients) where
  -- nothing of it all changes
  pub kept_same : (past now : Past) → SameItems past now → SameTasks past now → IsKept items queues tasks clients past → IsKept items queues tasks clients now
  kept_same past now items_same tasks_same kept = record {
    items_are = λ n. kept.items_are n ∙ sym (items_same.live_same n);
    queues_are = λ q. same_queue past now items_same q (at queues q) (kept.queues_are q);
    tasks_are = λ u. kept.tasks_are u ∙ sym (ap pairs (tasks_same.standing_same u));
    holds = λ c n is. kept.holds c n (sym (items_same.holds_same c n) ∙ is);
    stands = λ c u n is. kept.stands c u n (sym (tasks_same.since_same u c) ∙ is);
  }

-- ---- the queues that one of them is made beside

pub made_queue : (past : Past) (q : List ℕ) (old new : Option Queue) → IsQueue past q old → (new ≡ old) ⊎ MadeAt IsEmptyQueue old new → IsQueue past q new
made_queue past q old new is (inl same) = subst (IsQueue past q) (sym same) is
made_queue past q None new is (inr made) =
    subst (IsQueue past q) (sym made.1.0) (record {
      free = ap (λ l. l.free) made.1.1.line ∙ sym is.free;
      held = λ n. made.1.1.held n ∙ sym (is.held n);
      balanced = omega (arith, made.1.1.count);
      ordered = made.1.1.ordered;
    })
made_queue past q (Some queue) new is (inr made) = absurd made

-- clients of whom as much is noted
pub noted_kept : (items : BTreeMap ℕ Item) (queues : Named Queue) (tasks : Named Candidates) (old new : Clients) (past : Past) → SameClients old new → IsKept items queues tasks old past → IsKept items queues tasks new past
noted_kept items queues tasks old new past same kept = record {
  items_are = kept.items_are;
  queues_are = kept.queues_are;
  tasks_are = kept.tasks_are;
  holds = λ c n is. same.items c n (kept.holds c n is);
  stands = λ c u n is. same.tasks c u ∙ kept.stands c u n is;
}

-- ---- an item is added

either_none : {X : Type 0} (b : Bool) → cond {A = Option X} b None None ≡ None
either_none true = refl
either_none false = refl

module _ (m : Message) (past : Past) (c : List ℕ) (it : Item) (is : said m ≡ Does c (Add it.queue it.value)) (numbered : IsNumbered (m ∷ past)) where
  held_added : (q : List ℕ) (n : ℕ) → held_by (m ∷ past) q n ≡ held_by past q n
  held_added q n = elim (cases_Bool (m.number == n)) [
    | inl here ↦
        let number_is : m.number ≡ n = eqb-true m.number n here in
        let nothing : added past n ≡ None = none_added past numbered.1 n (omega (arith, number_is, numbered.0)) in
        held_by-is (m ∷ past) q n
        ∙ ap (λ st. cond (is_of (m ∷ past) q n) (holder_in st) None) (status-new m past c it is numbered n ∙ ap (λ b. cond b (Free m.number) (status past n)) here)
        ∙ either_none (is_of (m ∷ past) q n)
        ∙ sym (held_by-is past q n ∙ ap (λ (o : Option Item). cond (is_text (option_map (λ (x : Item). x.queue) o) q) (holder_in (status past n)) None) nothing)
    | inr other ↦
        held_by-is (m ∷ past) q n
        ∙ ap₂ (λ (o : Option Item) st. cond (is_text (option_map (λ (x : Item). x.queue) o) q) (holder_in st) None)
        (added-new m past c it is numbered n ∙ ap (λ b. cond b (Some it) (added past n)) other)
        (status-new m past c it is numbered n ∙ ap (λ b. cond b (Free m.number) (status past n)) other)
        ∙ sym (held_by-is past q n)
  ]

  live_added : (n : ℕ) → live (m ∷ past) n ≡ cond (m.number == n) (Some it) (live past n)
  live_added n =
      live-is (m ∷ past) n ∙ ap₂ (λ st (o : Option Item). cond (is_there st) o None) (status-new m past c it is numbered n) (added-new m past c it is numbered n)
      ∙ of (m.number == n) ∙ ap (λ (o : Option Item). cond (m.number == n) (Some it) o) (sym (live-is past n))
    where
      of : (b : Bool) → cond (is_there (cond b (Free m.number) (status past n))) (cond b (Some it) (added past n)) None ≡ cond b (Some it) (cond (is_there (status past n)) (added past n) None)
      of true = refl
      of false = refl

  -- who holds an item held it before
  held_before : (e : List ℕ) (n : ℕ) → is_held_by e (status (m ∷ past) n) ≡ true → is_held_by e (status past n) ≡ true
  held_before e n at = of (m.number == n) (sym (ap (is_held_by e) (status-new m past c it is numbered n)) ∙ at)
    where
      of : (b : Bool) → is_held_by e (cond b (Free m.number) (status past n)) ≡ true → is_held_by e (status past n) ≡ true
      of true h = absurd (cc)
      of false h = h

  added_queue : (q : List ℕ) (old mid new : Option Queue) → IsQueue past q mid → (bytes_eq it.queue q ≡ true → is_some mid ≡ true) → ChangedAt (IsAdded m.number) (bytes_eq it.queue q) mid new → IsQueue (m ∷ past) q new
  added_queue q old mid new queue some changed = of (bytes_eq it.queue q) refl mid queue some changed
    where
      free_is_now : (b : Bool) → bytes_eq it.queue q ≡ b → free (m ∷ past) q ≡ free past q ++ cond b (m.number ∷ []) []
      free_is_now b at = free-added m past c it is numbered q ∙ ap (λ x. free past q ++ cond x (m.number ∷ []) []) at

      unchanged : bytes_eq it.queue q ≡ false → (o : Option Queue) → IsQueue past q o → IsQueue (m ∷ past) q o
      unchanged at None own = record { free = free_is_now false at ∙ append-nil (free past q) ∙ own.free; held = λ n. held_added q n ∙ own.held n }
      unchanged at (Some w) own = record {
        free = own.free ∙ sym (free_is_now false at ∙ append-nil (free past q));
        held = λ n. own.held n ∙ sym (held_added q n);
        balanced = own.balanced;
        ordered = own.ordered;
      }

      of : (b : Bool) → bytes_eq it.queue q ≡ b → (o : Option Queue) → IsQueue past q o → (bytes_eq it.queue q ≡ true → is_some o ≡ true) → ChangedAt (IsAdded m.number) b o new → IsQueue (m ∷ past) q new
      of false at o own has to = subst (IsQueue (m ∷ past) q) (sym to) (unchanged at o own)
      of true at None own has to = absurd (let wrong : false ≡ true = has at in cc)
      of true at (Some w) own has to =
          let now = to.1.1 in
          subst (IsQueue (m ∷ past) q) (sym to.1.0) (record {
            free = ap (λ l. l.free) now.line ∙ ap (λ l. l ++ m.number ∷ []) own.free ∙ sym (free_is_now true at);
            held = λ n. ap (λ h. get nat_cmp h n) now.held ∙ own.held n ∙ sym (held_added q n);
            balanced = subst (λ l. btree_map_len to.0.held ≤ l.out) (sym now.line) (subst (λ h. btree_map_len h ≤ w.line.out) (sym now.held) own.balanced);
            ordered = subst (λ h. IsOrdered nat_cmp h) (sym now.held) own.ordered;
          })

  module _ (same_tasks : SameTasks past (m ∷ past)) (items new_items : BTreeMap ℕ Item) (queues mid new_queues : Named Queue) (tasks : Named Candidates) (clients : Clients) where
    pub kept_added : UpdatesBy nat_cmp (nat_cmp m.number) items new_items (Some it) → Makes IsEmptyQueue queues mid → is_some (at mid it.queue) ≡ true → Changes (IsAdded m.number) it.queue mid new_queues
        → IsKept items queues tasks clients past → IsKept new_items new_queues tasks clients (m ∷ past)
    kept_added updates made some changed kept = record {
      items_are = λ n.
          updates.0 n ∙ ap₂ (λ b (o : Option Item). cond b (Some it) o) (eq-cmp m.number n) (kept.items_are n) ∙ sym (live_added n);
      queues_are = λ q.
          added_queue q (at queues q) (at mid q) (at new_queues q) (made_queue past q (at queues q) (at mid q) (kept.queues_are q) (made q))
          (λ same. subst (λ w. is_some (at mid w) ≡ true) ((bytes_eq-Decides it.queue q).0 same) some) (changed q);
      tasks_are = λ u. kept.tasks_are u ∙ sym (ap pairs (same_tasks.standing_same u));
      holds = λ e n at. kept.holds e n (held_before e n at);
      stands = λ e u n at. kept.stands e u n (sym (same_tasks.since_same u e) ∙ at);
    }

-- ---- an item is given

module _ (m : Message) (past : Past) (c queue : List ℕ) (is : said m ≡ Does c (Acquire queue)) (numbered : IsNumbered (m ∷ past)) where
  -- nothing is free
  pub same_given : first (free past queue) ≡ None → SameItems past (m ∷ past)
  same_given none = same_items m past _ is numbered refl (λ n. status-step m past _ is n ∙ ap (λ o. cond (is_number o n) (Held c) (status past n)) none)

  module _ (g : ℕ) (rest : List ℕ) (given_is : free past queue ≡ g ∷ rest) where
    its : IsFreeIn past queue g
    its = first_free_is past queue g (ap first given_is)

    status_given : (n : ℕ) → status (m ∷ past) n ≡ cond (g == n) (Held c) (status past n)
    status_given n = status-step m past _ is n ∙ ap (λ l. cond (is_number (first l) n) (Held c) (status past n)) given_is

    live_given : (n : ℕ) → live (m ∷ past) n ≡ live past n
    live_given n =
        live-is (m ∷ past) n ∙ ap₂ (λ st (o : Option Item). cond (is_there st) o None) (status_given n) (added-kept m past _ is refl n)
        ∙ ap (λ b. cond b (added past n) None) (of (g == n) refl) ∙ sym (live-is past n)
      where
        of : (b : Bool) → (g == n) ≡ b → is_there (cond b (Held c) (status past n)) ≡ is_there (status past n)
        of true at =
            let n_is : g ≡ n = eqb-true g n at in
            sym (ap is_there (subst (λ k. status past k ≡ Free its.since) n_is (free_is its.since (status past g) its.is_free)))
        of false at = refl

    held_given : (q : List ℕ) (n : ℕ) → held_by (m ∷ past) q n ≡ cond (bytes_eq queue q && (g == n)) (Some c) (held_by past q n)
    held_given q n =
        held_by-is (m ∷ past) q n ∙ ap₂ (λ b st. cond b (holder_in st) None) (is_of-kept m past _ is refl q n) (status_given n)
        ∙ of (g == n) refl ∙ ap (λ o. cond (bytes_eq queue q && (g == n)) (Some c) o) (sym (held_by-is past q n))
      where
        in_queue : (b : Bool) (old : Option (List ℕ)) → old ≡ None → cond b (Some c) None ≡ cond (b && true) (Some c) (cond b old None)
        in_queue true old none = refl
        in_queue false old none = refl

        not_here : (b a : Bool) (old : Option (List ℕ)) → cond a old None ≡ cond (b && false) (Some c) (cond a old None)
        not_here true a old = refl
        not_here false a old = refl

        of : (b : Bool) → (g == n) ≡ b → cond (is_of past q n) (holder_in (cond b (Held c) (status past n))) None ≡ cond (bytes_eq queue q && b) (Some c) (cond (is_of past q n) (holder_in (status past n)) None)
        of true at =
            let n_is : g ≡ n = eqb-true g n at in
            let own : is_of past q n ≡ bytes_eq queue q = subst (λ k. is_of past q k ≡ bytes_eq queue q) n_is (of_one past queue q g its.of_queue) in
            let was : holder_in (status past n) ≡ None = ap holder_in (subst (λ k. status past k ≡ Free its.since) n_is (free_is its.since (status past g) its.is_free)) in
            ap (λ b. cond b (Some c) None) own ∙ in_queue (bytes_eq queue q) (holder_in (status past n)) was
            ∙ ap (λ b. cond (bytes_eq queue q && true) (Some c) (cond b (holder_in (status past n)) None)) (sym own)
        of false at = not_here (bytes_eq queue q) (is_of past q n) (holder_in (status past n))

    given_queue : (q : List ℕ) (old new : Option Queue) → IsQueue past q old → ChangedAt (IsGiven g c) (bytes_eq queue q) old new → IsQueue (m ∷ past) q new
    given_queue q old new own to = of (bytes_eq queue q) refl old own to
      where
        free_now : (b : Bool) → bytes_eq queue q ≡ b → free (m ∷ past) q ≡ cond b rest (free past q)
        free_now b at = free-given m past c queue is numbered g rest given_is q ∙ ap (λ x. cond x rest (free past q)) at

        held_now : (b : Bool) → bytes_eq queue q ≡ b → (n : ℕ) → held_by (m ∷ past) q n ≡ cond (b && (g == n)) (Some c) (held_by past q n)
        held_now b at n = held_given q n ∙ ap (λ x. cond (x && (g == n)) (Some c) (held_by past q n)) at

        own_line : bytes_eq queue q ≡ true → free past q ≡ g ∷ rest
        own_line at = ap (free past) (sym ((bytes_eq-Decides queue q).0 at)) ∙ given_is

        of : (b : Bool) → bytes_eq queue q ≡ b → (o : Option Queue) → IsQueue past q o → ChangedAt (IsGiven g c) b o new → IsQueue (m ∷ past) q new
        of false at None was now = subst (IsQueue (m ∷ past) q) (sym now) (record { free = free_now false at ∙ was.free; held = λ n. held_now false at n ∙ was.held n })
        of false at (Some w) was now = subst (IsQueue (m ∷ past) q) (sym now) (record {
          free = was.free ∙ sym (free_now false at);
          held = λ n. was.held n ∙ sym (held_now false at n);
          balanced = was.balanced;
          ordered = was.ordered;
        })
        of true at None was now = absurd (let wrong : [] ≡ g ∷ rest = sym was.free ∙ own_line at in cc)
        of true at (Some w) was now =
            let change = now.1.1 in
            let line_is : now.0.line ≡ record { free = rest; out = w.line.out + 1 } = change.line ∙ ap (λ l. given_of l w.line) (was.free ∙ own_line at) in
            subst (IsQueue (m ∷ past) q) (sym now.1.0) (record {
              free = ap (λ l. l.free) line_is ∙ sym (free_now true at);
              held = λ n. change.held n ∙ ap (λ o. cond (g == n) (Some c) o) (was.held n) ∙ sym (held_now true at n);
              balanced = let out_is : now.0.line.out ≡ w.line.out + 1 = ap (λ l. l.out) line_is in omega (arith, out_is, change.count, was.balanced);
              ordered = change.ordered;
            })

    pub kept_given : SameTasks past (m ∷ past) → (items : BTreeMap ℕ Item) (queues new_queues : Named Queue) (tasks : Named Candidates) (clients new_clients : Clients)
        → SameClients clients new_clients → has_item (at new_clients c) g ≡ true → Changes (IsGiven g c) queue queues new_queues
        → IsKept items queues tasks clients past → IsKept items new_queues tasks new_clients (m ∷ past)
    kept_given same_tasks items queues new_queues tasks clients new_clients same noted changed kept = record {
      items_are = λ n. kept.items_are n ∙ sym (live_given n);
      queues_are = λ q. given_queue q (at queues q) (at new_queues q) (kept.queues_are q) (changed q);
      tasks_are = λ u. kept.tasks_are u ∙ sym (ap pairs (same_tasks.standing_same u));
      holds = λ e n at. holds_now e n (g == n) refl (sym (ap (is_held_by e) (status_given n)) ∙ at);
      stands = λ e u n at. same.tasks e u ∙ kept.stands e u n (sym (same_tasks.since_same u e) ∙ at);
    }
      where
        holds_now : (e : List ℕ) (n : ℕ) (b : Bool) → (g == n) ≡ b → is_held_by e (cond b (Held c) (status past n)) ≡ true → has_item (at new_clients e) n ≡ true
        holds_now e n true here h =
            let e_is : c ≡ e = (bytes_eq-Decides c e).0 h in
            subst (λ k. has_item (at new_clients e) k ≡ true) (eqb-true g n here) (subst (λ w. has_item (at new_clients w) g ≡ true) e_is noted)
        holds_now e n false here h = same.items e n (kept.holds e n h)
