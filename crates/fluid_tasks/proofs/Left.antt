-- What is kept behind a leave.
use Rattle.std.proofs.Common.{◌≡◌, ℕ, ◌+◌, ◌-◌, ◌<◌, ◌==◌, Bool, true, false, not, ◌&&◌, ◌||◌, cond, List, [], ◌∷◌, ◌++◌, Option, Some, None, option_map, String, Global, string_bytes, string_cmp, refl, sym, ◌∙◌, ap, ap₂, subst, arith, append_assoc, append-nil, nat_cmp, bytes_eq}
use Rattle.std.specs.Prelude.{filter}
use Rattle.std.specs.List.{AllByRecursion, list_any}
use Rattle.std.specs.List.Sorted.{IsStrictlySortedBy}
use Rattle.std.specs.Map.{lookup, keys_of}
use Rattle.std.specs.Ordering.{is_eq, MatchOrdering}
use Rattle.std.specs.declared.cmp.Ordering.{Ordering}
use Rattle.std.specs.declared.cmp.Ordering.TheVariants.{Less, Equal, Greater}
use Rattle.std.specs.Cmp.Lexicographic.{slice_cmp}
use Rattle.std.specs.BTreeMap.{BTreeMap, get, get_by_text, is_at, btree_map_len}
use Rattle.std.proofs.lemmas.Bool.{eqb-true, eq-eqb, and_parts, false_from_ne_true}
use Rattle.std.proofs.lemmas.Cmp.{ranked}
use Rattle.std.proofs.lemmas.Map.Keys.{sorted_head, sorted_tail}
use Rattle.std.proofs.lemmas.Map.Text.{is_eq-slice_cmp, text_cmp}
use Rattle.std.proofs.lemmas.Slice.Eq.{bytes_eq-Decides}
use Rattle.fluid_types.specs.declared.messages.Message.{Message}
use Rattle.fluid_tasks.specs.declared.held.Holdings.{Holdings}
use Rattle.fluid_tasks.specs.declared.tasks.Item.{Item}
use Rattle.fluid_tasks.specs.declared.queues.Queue.{Queue}
use Rattle.fluid_tasks.specs.Acts.{Leaves, said}
use Rattle.fluid_tasks.specs.Past.{Past, is_text, items, added, is_of, Free, holder_in, is_held_by, status, free, live, standing_since}
use Rattle.fluid_tasks.specs.Kept.{Named, at, ChangedAt, is_returned, IsBack, AreBack, Candidates, IsWithoutClient, HasSteppedDown, Clients, has_item, task_at, IsNumbered, held_by, pairs, IsQueue, IsKept}
use Rattle.fluid_tasks.proofs.Lists.{no_test, all-any, all-weaker, filter-same, filter-none, mem, Ascends, ascends-filter, same_ascending}
use Rattle.fluid_tasks.proofs.Facts.{status-step, items_rise, of_mem, text_some}
use Rattle.fluid_tasks.proofs.Candidates.{eq-cmp, since-step, standing-kept, standing-left}
use Rattle.fluid_tasks.proofs.Freeing.{free-freed}
use Rattle.fluid_tasks.proofs.Applied.{SameItems, SameTasks, same_items, live-is, held_by-is}
use Rattle.fluid_tasks.proofs.Freed.{held_test, held_in, held_freed, live_freed, held_still, back_of, held_there}
use Rattle.fluid_tasks.proofs.Stood.{stepped}

-- ---- keys that rise

pub keys_rise : (ks : List ℕ) → IsStrictlySortedBy nat_cmp ks → Ascends ks
keys_rise [] h = tt
keys_rise (k ∷ ks) h = (all-weaker (λ j. nat_cmp k j ≡ Less) (λ j. k < j) (λ j less. below j (nat_cmp k j) less (ranked k j (nat_cmp k j) refl)) ks (sorted_head nat_cmp k ks h), keys_rise ks (sorted_tail nat_cmp k ks h))
  where
    below : (j : ℕ) (r : Ordering) → r ≡ Less → MatchOrdering r (k < j) (k ≡ j) (j < k) → k < j
    below j Less is lt = lt
    below j Equal is same = cc
    below j Greater is gt = cc

same_number : (a b : ℕ) → (a == b) ≡ (b == a)
same_number a b = of (a == b) (b == a) refl refl
  where
    of : (x y : Bool) → (a == b) ≡ x → (b == a) ≡ y → x ≡ y
    of true true one two = refl
    of false false one two = refl
    of true false one two = absurd (no_test (b == a) (eq-eqb b a (sym (eqb-true a b one))) two)
    of false true one two = absurd (no_test (a == b) (eq-eqb a b (sym (eqb-true b a two))) one)

pub contains-mem : (ks : List ℕ) (n : ℕ) → list_any (is_at (nat_cmp n)) ks ≡ mem n ks
contains-mem [] n = refl
contains-mem (k ∷ ks) n = ap₂ (λ a b. a || b) (eq-cmp n k ∙ same_number n k) (contains-mem ks n)

pub mem-filter : (p : ℕ → Bool) (xs : List ℕ) (n : ℕ) → mem n (filter p xs) ≡ (mem n xs && p n)
mem-filter p [] n = refl
mem-filter p (x ∷ xs) n = of (p x) refl (mem-filter p xs n)
  where
    here : (b : Bool) → (x == n) ≡ b → p x ≡ true → (b || (mem n xs && p n)) ≡ ((b || mem n xs) && p n)
    here true at own = sym (subst (λ k. p k ≡ true) (eqb-true x n at) own)
    here false at own = refl

    away : (b : Bool) → (x == n) ≡ b → p x ≡ false → (mem n xs && p n) ≡ ((b || mem n xs) && p n)
    away true at own = let no : p n ≡ false = subst (λ k. p k ≡ false) (eqb-true x n at) own in ap (λ b. mem n xs && b) no ∙ none_and (mem n xs) ∙ sym no
      where
        none_and : (b : Bool) → (b && false) ≡ false
        none_and true = refl
        none_and false = refl
    away false at own = refl

    of : (b : Bool) → p x ≡ b → mem n (filter p xs) ≡ (mem n xs && p n) → mem n (cond b (x ∷ filter p xs) (filter p xs)) ≡ (((x == n) || mem n xs) && p n)
    of true own rest = ap (λ b. (x == n) || b) rest ∙ here (x == n) refl own
    of false own rest = rest ∙ away (x == n) refl own

-- ---- items that are taken back one after another

and_false : (a : Bool) → (a && false) ≡ false
and_false true = refl
and_false false = refl

back_none : (b : Bool) (item : ℕ) (next : Option Queue) → IsBack b item None next → next ≡ None
back_none true item next is = is
back_none false item next is = is

pub back_more : (kept : ℕ → Option Item) (c q : List ℕ) (item : ℕ) (rest : List ℕ) → AllByRecursion (λ n. item < n) rest → (now next last : Option Queue) → IsBack (is_returned kept c q now item) item now next
    → AreBack kept c q rest next last → AreBack kept c q (item ∷ rest) now last
back_more kept c q item rest above None next last one more = subst (λ o. AreBack kept c q rest o last) (back_none _ item next one) more
back_more kept c q item rest above (Some w) next last one more = of (is_returned kept c q (Some w) item) refl one
  where
    returned : ℕ → Bool
    returned = is_returned kept c q (Some w)

    of : (b : Bool) → is_returned kept c q (Some w) item ≡ b → IsBack b item (Some w) next → AreBack kept c q (item ∷ rest) (Some w) last
    of false at to =
        let behind = subst (λ o. AreBack kept c q rest o last) to more in
        let same : filter (is_returned kept c q (Some w)) (item ∷ rest) ≡ filter (is_returned kept c q (Some w)) rest = ap (λ b. cond b (item ∷ filter (is_returned kept c q (Some w)) rest) (filter (is_returned kept c q (Some w)) rest)) at in (
          behind.0,
          (
            behind.1.0,
            record {
              free = λ balanced. behind.1.1.free balanced ∙ ap (λ l. w.line.free ++ l) (sym same);
              held = λ n. behind.1.1.held n ∙ ap (λ l. cond (mem n l) None (get nat_cmp w.held n)) (sym same);
              balanced = behind.1.1.balanced;
              ordered = behind.1.1.ordered;
            },
          ),
        )
    of true at to =
        let v = to.0 in
        let change = to.1.1 in
        let behind = subst (λ o. AreBack kept c q rest o last) to.1.0 more in
        let tests : filter (is_returned kept c q (Some v)) rest ≡ filter (is_returned kept c q (Some w)) rest =
        filter-same (is_returned kept c q (Some w)) (is_returned kept c q (Some v)) rest
        (all-weaker (λ n. item < n) (λ n. is_returned kept c q (Some v) n ≡ is_returned kept c q (Some w) n)
        (λ n lt. ap (λ o. is_text (option_map (λ (it : Item). it.queue) (kept n)) q && is_text o c)
        (change.unheld.held n ∙ ap (λ b. cond b None (get nat_cmp w.held n)) (false_from_ne_true (item == n) (λ same. let is = eqb-true item n same in omega (arith, is, lt)))))
        rest above) in
        let all : filter (is_returned kept c q (Some w)) (item ∷ rest) ≡ item ∷ filter (is_returned kept c q (Some w)) rest = ap (λ b. cond b (item ∷ filter (is_returned kept c q (Some w)) rest) (filter (is_returned kept c q (Some w)) rest)) at in
        let its = text_some (get nat_cmp w.held item) c (and_parts _ _ at).1 in
        let counted : btree_map_len v.held + 1 ≡ btree_map_len w.held = subst (λ b. btree_map_len v.held + cond b 1 0 ≡ btree_map_len w.held) its change.unheld.count in (
          behind.0,
          (
            behind.1.0,
            record {
              free = λ balanced.
                  let line_is = change.line ∙ back_of w.line item (omega (arith, counted, balanced)) in
                  let out_is : v.line.out ≡ w.line.out - 1 = ap (λ l. l.out) line_is in
                  behind.1.1.free (omega (arith, out_is, counted, balanced))
                  ∙ ap₂ (λ a b. a ++ b) (ap (λ l. l.free) line_is) tests
                  ∙ append_assoc w.line.free (item ∷ []) (filter (is_returned kept c q (Some w)) rest)
                  ∙ ap (λ l. w.line.free ++ l) (sym all);
              held = λ n.
                  behind.1.1.held n
                  ∙ ap₂ (λ l o. cond (mem n l) None o) tests (change.unheld.held n)
                  ∙ both (item == n) (mem n (filter (is_returned kept c q (Some w)) rest)) (get nat_cmp w.held n)
                  ∙ ap (λ l. cond (mem n l) None (get nat_cmp w.held n)) (sym all);
              balanced = λ balanced.
                  let line_is = change.line ∙ back_of w.line item (omega (arith, counted, balanced)) in
                  let out_is : v.line.out ≡ w.line.out - 1 = ap (λ l. l.out) line_is in
                  behind.1.1.balanced (omega (arith, out_is, counted, balanced));
              ordered = λ order. behind.1.1.ordered change.unheld.ordered;
            },
          ),
        )
      where
        both : (a b : Bool) (o : Option (List ℕ)) → cond b None (cond a None o) ≡ cond (a || b) None o
        both true true o = refl
        both true false o = refl
        both false b o = refl

-- nothing is left to take back
pub back_end : (kept : ℕ → Option Item) (c q : List ℕ) (o : Option Queue) → AreBack kept c q [] o o
back_end kept c q None = refl
back_end kept c q (Some w) = (w, (refl, record { free = λ balanced. sym (append-nil w.line.free); held = λ n. refl; balanced = λ balanced. balanced; ordered = λ order. order }))

-- ---- tasks that are left one after another

-- the number that is noted of a task
abbrev pub noted_in : List (String Global × ℕ) → List ℕ → Option ℕ
noted_in es u = lookup (is_at (text_cmp u)) es

equal : (u k : List ℕ) → is_eq (slice_cmp nat_cmp u k) ≡ true → u ≡ k
equal u k is = (bytes_eq-Decides u k).0 (sym (is_eq-slice_cmp u k) ∙ is)

not_later : (u : List ℕ) (s : String Global) (es : List (String Global × ℕ)) → u ≡ string_bytes s → AllByRecursion (λ k. string_cmp s k ≡ Less) (keys_of es) → noted_in es u ≡ None
not_later u s [] is below = refl
not_later u s (e ∷ es) is below =
    let less : slice_cmp nat_cmp u (string_bytes e.0) ≡ Less = ap (λ k. slice_cmp nat_cmp k (string_bytes e.0)) is ∙ below.0 in
    ap (λ r. cond (is_eq r) (Some e.1) (noted_in es u)) less ∙ not_later u s es is below.1

pub step_more : (c : List ℕ) (e : String Global × ℕ) (es : List (String Global × ℕ)) → IsStrictlySortedBy string_cmp (keys_of (e ∷ es)) → (u : List ℕ) (now next last : Option Candidates)
    → ChangedAt (IsWithoutClient c e.1) (bytes_eq (string_bytes e.0) u) now next → HasSteppedDown c (noted_in es u) next last → HasSteppedDown c (noted_in (e ∷ es) u) now last
step_more c e es sorted u now next last one more = of (bytes_eq (string_bytes e.0) u) refl one
  where
    test : is_eq (slice_cmp nat_cmp u (string_bytes e.0)) ≡ bytes_eq (string_bytes e.0) u
    test = is_eq-slice_cmp u (string_bytes e.0) ∙ swapped (bytes_eq u (string_bytes e.0)) (bytes_eq (string_bytes e.0) u) refl refl
      where
        swapped : (x y : Bool) → bytes_eq u (string_bytes e.0) ≡ x → bytes_eq (string_bytes e.0) u ≡ y → x ≡ y
        swapped true true one two = refl
        swapped false false one two = refl
        swapped true false one two = absurd (no_test _ ((bytes_eq-Decides (string_bytes e.0) u).1 (sym ((bytes_eq-Decides u (string_bytes e.0)).0 one))) two)
        swapped false true one two = absurd (no_test _ ((bytes_eq-Decides u (string_bytes e.0)).1 (sym ((bytes_eq-Decides (string_bytes e.0) u).0 two))) one)

    here : bytes_eq (string_bytes e.0) u ≡ true → noted_in (e ∷ es) u ≡ Some e.1
    here at = ap (λ b. cond b (Some e.1) (noted_in es u)) (test ∙ at)

    away : bytes_eq (string_bytes e.0) u ≡ false → noted_in (e ∷ es) u ≡ noted_in es u
    away at = ap (λ b. cond b (Some e.1) (noted_in es u)) (test ∙ at)

    none_later : bytes_eq (string_bytes e.0) u ≡ true → noted_in es u ≡ None
    none_later at = not_later u e.0 es (sym ((bytes_eq-Decides (string_bytes e.0) u).0 at)) (sorted_head string_cmp e.0 (keys_of es) sorted)

    joined : (x y : Option Candidates) → ChangedAt (IsWithoutClient c e.1) true x y → HasSteppedDown c None y last → HasSteppedDown c (Some e.1) x last
    joined None y to then = subst (λ o. HasSteppedDown c None o last) to then
    joined (Some w) y to then =
        let behind = subst (λ o. HasSteppedDown c None o last) to.1.0 then in
        (behind.0, (behind.1.0, behind.1.1 ∙ to.1.1))

    of : (b : Bool) → bytes_eq (string_bytes e.0) u ≡ b → ChangedAt (IsWithoutClient c e.1) b now next → HasSteppedDown c (noted_in (e ∷ es) u) now last
    of true at to = subst (λ o. HasSteppedDown c o now last) (sym (here at)) (joined now next to (subst (λ o. HasSteppedDown c o next last) (none_later at) more))
    of false at to = subst (λ o. HasSteppedDown c o now last) (sym (away at)) (subst (λ x. HasSteppedDown c (noted_in es u) x last) to more)

pub step_end : (c : List ℕ) (o : Option Candidates) → HasSteppedDown c None o o
step_end c None = refl
step_end c (Some w) = (w, (refl, refl))

-- ---- the leave

module _ (m : Message) (past : Past) (c : List ℕ) (is : said m ≡ Leaves c) (numbered : IsNumbered (m ∷ past)) where
  freed : ℕ → Bool
  freed n = is_held_by c (status past n)

  behind_leave : (n : ℕ) → status (m ∷ past) n ≡ cond (is_held_by c (status past n)) (Free m.number) (status past n)
  behind_leave n = status-step m past _ is n

  since_left : (u e : List ℕ) → standing_since (m ∷ past) u e ≡ cond (bytes_eq c e) None (standing_since past u e)
  since_left u e = since-step m past _ is u e

  -- one of which nothing is noted
  pub same_left : ((n : ℕ) → is_held_by c (status past n) ≡ false) → ((u : List ℕ) → standing_since past u c ≡ None) → SameItems past (m ∷ past) × SameTasks past (m ∷ past)
  same_left no_items no_tasks = (
    same_items m past _ is numbered refl (λ n. behind_leave n ∙ ap (λ b. cond b (Free m.number) (status past n)) (no_items n)),
    record { since_same = since; standing_same = λ u. standing-kept m past _ is u refl (since u) },
  )
    where
      at : (u e : List ℕ) (b : Bool) → bytes_eq c e ≡ b → cond b None (standing_since past u e) ≡ standing_since past u e
      at u e true same = sym (subst (λ w. standing_since past u w ≡ None) ((bytes_eq-Decides c e).0 same) (no_tasks u))
      at u e false same = refl

      since : (u e : List ℕ) → standing_since (m ∷ past) u e ≡ standing_since past u e
      since u e = since_left u e ∙ at u e (bytes_eq c e) refl

  left_queue : (kept : ℕ → Option Item) → ((n : ℕ) → kept n ≡ live past n) → (keys : List ℕ) → Ascends keys → ((n : ℕ) → is_held_by c (status past n) ≡ true → mem n keys ≡ true)
      → (q : List ℕ) (old new : Option Queue) → IsQueue past q old → AreBack kept c q keys old new → IsQueue (m ∷ past) q new
  left_queue kept kept_is keys rise noted q old new was to = of old was to
    where
      mine : ℕ → Bool
      mine n = is_of past q n && is_held_by c (status past n)

      free_now : free (m ∷ past) q ≡ free past q ++ filter (λ n. is_of past q n && is_held_by c (status past n)) (items past)
      free_now = free-freed m past _ is numbered refl (λ n. is_held_by c (status past n)) c (λ n h. h) behind_leave q

      held_now : (n : ℕ) → held_by (m ∷ past) q n ≡ cond (is_held_by c (status past n)) None (held_by past q n)
      held_now n = held_freed m past _ is refl (λ n. is_held_by c (status past n)) c (λ n h. h) behind_leave q n

      -- what is returned are those items of the queue that the client holds
      returned_is : (o : Option Queue) → IsQueue past q o → (n : ℕ) → is_returned kept c q o n ≡ (is_of past q n && is_held_by c (status past n))
      returned_is o its n = ap (λ h. is_text (option_map (λ (it : Item). it.queue) (kept n)) q && is_text h c) (held_in past q o its n) ∙ ap (λ b. is_text (option_map (λ (it : Item). it.queue) (kept n)) q && b) (held_test past q n c)
          ∙ on (is_of past q n) (is_held_by c (status past n)) refl refl
        where
          on : (a b : Bool) → is_of past q n ≡ a → is_held_by c (status past n) ≡ b → (is_text (option_map (λ (it : Item). it.queue) (kept n)) q && (a && b)) ≡ (a && b)
          on true true own held =
              let there : kept n ≡ added past n = kept_is n ∙ live-is past n ∙ ap (λ b. cond b (added past n) None) (held_there c (status past n) held) in
              ap (λ (o : Option Item). is_text (option_map (λ (it : Item). it.queue) o) q && true) there ∙ ap (λ b. b && true) own
          on true false own held = and_false _
          on false b own held = and_false _

      same_mem : (n : ℕ) → mem n (filter (λ n. is_of past q n && is_held_by c (status past n)) keys) ≡ mem n (filter (λ n. is_of past q n && is_held_by c (status past n)) (items past))
      same_mem n = mem-filter mine keys n ∙ on (is_of past q n) (is_held_by c (status past n)) refl refl ∙ sym (mem-filter mine (items past) n)
        where
          on : (a b : Bool) → is_of past q n ≡ a → is_held_by c (status past n) ≡ b → (mem n keys && (a && b)) ≡ (mem n (items past) && (a && b))
          on true true own held = ap (λ x. x && true) (noted n held ∙ sym (of_mem past q n own))
          on true false own held = and_false (mem n keys) ∙ sym (and_false (mem n (items past)))
          on false b own held = and_false (mem n keys) ∙ sym (and_false (mem n (items past)))

      same_lists : filter (λ n. is_of past q n && is_held_by c (status past n)) keys ≡ filter (λ n. is_of past q n && is_held_by c (status past n)) (items past)
      same_lists = same_ascending _ _ (ascends-filter mine keys rise) (ascends-filter mine (items past) (items_rise past numbered.1)) same_mem

      returned_list : (o : Option Queue) → IsQueue past q o → filter (is_returned kept c q o) keys ≡ filter (λ n. is_of past q n && is_held_by c (status past n)) (items past)
      returned_list o its =
          filter-same (λ n. is_of past q n && is_held_by c (status past n)) (is_returned kept c q o) keys
          (all-any (λ n. is_returned kept c q o n ≡ (is_of past q n && is_held_by c (status past n))) (returned_is o its) keys)
          ∙ same_lists

      -- whether one of them is this item
      among : (n : ℕ) → mem n (filter (λ n. is_of past q n && is_held_by c (status past n)) (items past)) ≡ (is_of past q n && is_held_by c (status past n))
      among n = mem-filter mine (items past) n ∙ on (is_of past q n) (is_held_by c (status past n)) refl
        where
          on : (a b : Bool) → is_of past q n ≡ a → (mem n (items past) && (a && b)) ≡ (a && b)
          on true b own = ap (λ x. x && b) (of_mem past q n own)
          on false b own = and_false (mem n (items past))

      held_is : (n : ℕ) → cond (is_of past q n && is_held_by c (status past n)) None (held_by past q n) ≡ cond (is_held_by c (status past n)) None (held_by past q n)
      held_is n = on (is_of past q n) (is_held_by c (status past n)) refl
        where
          on : (a b : Bool) → is_of past q n ≡ a → cond (a && b) None (held_by past q n) ≡ cond b None (held_by past q n)
          on true b own = refl
          on false true own = held_by-is past q n ∙ ap (λ x. cond x (holder_in (status past n)) None) own
          on false false own = refl

      of : (o : Option Queue) → IsQueue past q o → AreBack kept c q keys o new → IsQueue (m ∷ past) q new
      of None its to = subst (IsQueue (m ∷ past) q) (sym to) (record {
        free =
            free_now ∙ ap₂ (λ a b. a ++ b) its.free
            (filter-none (λ n. is_of past q n && is_held_by c (status past n)) (items past)
            (all-any (λ n. (is_of past q n && is_held_by c (status past n)) ≡ false) (λ n. sym (held_test past q n c) ∙ ap (λ o. is_text o c) (its.held n)) (items past)));
        held = λ n. held_now n ∙ either (is_held_by c (status past n)) (held_by past q n) (its.held n);
      })
        where
          either : (b : Bool) (o : Option (List ℕ)) → o ≡ None → cond b None o ≡ None
          either true o none = refl
          either false o none = none
      of (Some w) its to =
          let change = to.1.1 in
          subst (IsQueue (m ∷ past) q) (sym to.1.0) (record {
            free = change.free its.balanced ∙ ap₂ (λ a b. a ++ b) its.free (returned_list (Some w) its) ∙ sym free_now;
            held = λ n.
                change.held n ∙ ap₂ (λ l o. cond (mem n l) None o) (returned_list (Some w) its) (its.held n)
                ∙ ap (λ b. cond b None (held_by past q n)) (among n) ∙ held_is n ∙ sym (held_now n);
            balanced = change.balanced its.balanced;
            ordered = change.ordered its.ordered;
          })

  -- what the client held is free, and it stands for no task
  pub kept_left : (items_kept : BTreeMap ℕ Item) (queues new_queues : Named Queue) (tasks new_tasks : Named Candidates) (noting new_noting : Clients) (its : Holdings) → at noting c ≡ Some its
      → ((e : List ℕ) → at new_noting e ≡ cond (bytes_eq c e) None (at noting e)) → IsStrictlySortedBy nat_cmp its.items.keys
      → ((q : List ℕ) → AreBack (get nat_cmp items_kept) c q its.items.keys (at queues q) (at new_queues q)) → ((u : List ℕ) → HasSteppedDown c (get_by_text its.tasks u) (at tasks u) (at new_tasks u))
      → IsKept items_kept queues tasks noting past → IsKept items_kept new_queues new_tasks new_noting (m ∷ past)
  kept_left items_kept queues new_queues tasks new_tasks noting new_noting its own removed sorted back down kept = record {
    items_are = λ n. kept.items_are n ∙ sym (live_freed m past _ is refl (λ n. is_held_by c (status past n)) c (λ n h. h) behind_leave n);
    queues_are = λ q. left_queue (get nat_cmp items_kept) kept.items_are its.items.keys (keys_rise its.items.keys sorted) noted q (at queues q) (at new_queues q) (kept.queues_are q) (back q);
    tasks_are = λ u.
        stepped past numbered.1 u c (get_by_text its.tasks u) (λ k stood. ap (λ o. task_at o u) (sym own) ∙ kept.stands c u k stood) (at tasks u) (at new_tasks u) (kept.tasks_are u) (down u)
        ∙ sym (ap pairs (standing-left m past _ is u refl c (since_left u)));
    holds = λ e n now.
        let still = held_still m past _ is refl (λ n. is_held_by c (status past n)) c (λ n h. h) behind_leave e n now in
        ap (λ o. has_item o n) (removed e ∙ ap (λ b. cond b None (at noting e)) (others e n still.0 still.1)) ∙ kept.holds e n still.1;
    stands = λ e u n now.
        let parts = stood_on (bytes_eq c e) (standing_since past u e) n (sym (since_left u e) ∙ now) in
        ap (λ o. task_at o u) (removed e ∙ ap (λ b. cond b None (at noting e)) parts.0) ∙ kept.stands e u n parts.1;
  }
    where
      noted : (n : ℕ) → is_held_by c (status past n) ≡ true → mem n its.items.keys ≡ true
      noted n held = sym (contains-mem its.items.keys n) ∙ ap (λ o. has_item o n) (sym own) ∙ kept.holds c n held

      others : (e : List ℕ) (n : ℕ) → is_held_by c (status past n) ≡ false → is_held_by e (status past n) ≡ true → bytes_eq c e ≡ false
      others e n not held = false_from_ne_true (bytes_eq c e) (λ same. no_test (is_held_by e (status past n)) held (subst (λ w. is_held_by w (status past n) ≡ false) ((bytes_eq-Decides c e).0 same) not))

      stood_on : (b : Bool) (o : Option ℕ) (n : ℕ) → cond b None o ≡ Some n → (b ≡ false) × (o ≡ Some n)
      stood_on true o n h = absurd (cc)
      stood_on false o n h = (refl, h)
