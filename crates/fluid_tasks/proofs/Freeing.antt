-- What each message makes of the free items of a queue.
use Rattle.std.proofs.Common.{◌≡◌, ℕ, ◌+◌, ◌<◌, ◌==◌, Bool, true, false, not, ◌&&◌, cond, List, [], ◌∷◌, ◌++◌, length, Option, Some, None, option_map, refl, sym, ◌∙◌, ap, ap₂, subst, arith, append-nil, inl, inr, ◌⊎◌, bytes_eq}
use Rattle.std.specs.Prelude.{filter}
use Rattle.std.proofs.lemmas.Bool.{eqb-true, false_from_ne_true, cases_Bool}
use Rattle.std.proofs.lemmas.List.Elements.{filter-append}
use Rattle.std.proofs.lemmas.Slice.Eq.{bytes_eq-Decides}
use Rattle.fluid_types.specs.declared.messages.Message.{Message}
use Rattle.fluid_tasks.specs.declared.acts.Act.TheVariants.{Add, Acquire}
use Rattle.fluid_tasks.specs.declared.tasks.Item.{Item}
use Rattle.fluid_tasks.specs.Acts.{Said, Does, said}
use Rattle.fluid_tasks.specs.Past.{Past, first, is_text, is_number, numbers, adds, number_if, items, added, is_of, Status, NoItem, Free, Held, Gone, is_free_since, is_held_by, status, free}
use Rattle.fluid_tasks.specs.Kept.{IsNumbered}
use Rattle.fluid_tasks.proofs.Lists.{all-weaker, all-any, filter-same, filter-none, Below, turns, turns-push, turns-same, turns-extra, turns-taken, self}
use Rattle.fluid_tasks.proofs.Facts.{numbers_below, numbers_rise, items_below, items_rise, added-step, items-step, numbers-step, status-step, since_below, single, first_free_is}

-- an item of the queue is free since a number
abbrev pub test : Past → List ℕ → ℕ → ℕ → Bool
test past q s i = is_of past q i && is_free_since s (status past i)

pub free-turns : (past : Past) (q : List ℕ) → free past q ≡ turns (test past q) (numbers past) (items past)
unfolding free
free-turns past q = refl

free-step : (m : Message) (past : Past) (d : Said) → said m ≡ d → (q : List ℕ) → (xs : List ℕ) → items past ++ number_if m.number (adds d) ≡ xs →
    free (m ∷ past) q ≡ turns (test (m ∷ past) q) (numbers past) xs ++ filter (test (m ∷ past) q m.number) xs
free-step m past d is q xs are =
    free-turns (m ∷ past) q
    ∙ ap₂ (λ ns is. turns (test (m ∷ past) q) ns is) (numbers-step m past) (items-step m past d is ∙ are)
    ∙ turns-push (test (m ∷ past) q) (numbers past) xs m.number

-- where nothing is added
pub added-kept : (m : Message) (past : Past) (d : Said) → said m ≡ d → adds d ≡ None → (i : ℕ) → added (m ∷ past) i ≡ added past i
added-kept m past d is none i = added-step m past d is i ∙ ap (λ (o : Option Item). cond (is_number (first (number_if m.number o)) i) o (added past i)) none

pub is_of-kept : (m : Message) (past : Past) (d : Said) → said m ≡ d → adds d ≡ None → (q : List ℕ) (i : ℕ) → is_of (m ∷ past) q i ≡ is_of past q i
is_of-kept m past d is none q i = ap (λ (o : Option Item). is_text (option_map (λ (it : Item). it.queue) o) q) (added-kept m past d is none i)

quiet-step : (m : Message) (past : Past) (d : Said) → said m ≡ d → adds d ≡ None → (q : List ℕ) →
    free (m ∷ past) q ≡ turns (test (m ∷ past) q) (numbers past) (items past) ++ filter (test (m ∷ past) q m.number) (items past)
quiet-step m past d is none q =
    free-step m past d is q (items past) (ap (λ (o : Option Item). items past ++ number_if m.number o) none ∙ append-nil (items past))

pub held_not_free : (c : List ℕ) (s : ℕ) (st : Status) → is_held_by c st ≡ true → is_free_since s st ≡ false
held_not_free c s NoItem is = refl
held_not_free c s (Free own) is = cc
held_not_free c s (Held own) is = refl
held_not_free c s Gone is = refl

not_yet : (past : Past) → IsNumbered past → (n i : ℕ) → n ≡ length past + 1 → is_free_since n (status past i) ≡ false
not_yet past h n i is = false_from_ne_true _ (λ at. let lt = since_below past h i n at in omega (arith, lt, is))

other_number : (n s : ℕ) → s < n → (n == s) ≡ false
other_number n s lt = false_from_ne_true (n == s) (λ same. let is = eqb-true n s same in omega (arith, is, lt))

none_and : (b : Bool) → (b && false) ≡ false
none_and true = refl
none_and false = refl

all_and : (b : Bool) → (b && true) ≡ b
all_and true = refl
all_and false = refl

below_numbers : (past : Past) → IsNumbered past → (n : ℕ) → n ≡ length past + 1 → Below n (numbers past)
below_numbers past h n is = subst (λ k. Below k (numbers past)) (sym is) (numbers_below past h)

pub below_items : (past : Past) → IsNumbered past → (n : ℕ) → n ≡ length past + 1 → Below n (items past)
below_items past h n is = subst (λ k. Below k (items past)) (sym is) (items_below past h)

module _ (m : Message) (past : Past) (d : Said) (is : said m ≡ d) (numbered : IsNumbered (m ∷ past)) (none : adds d ≡ None) where
  -- nothing is freed and nothing given
  pub free-kept : ((s i : ℕ) → is_free_since s (status (m ∷ past) i) ≡ is_free_since s (status past i)) → (q : List ℕ) → free (m ∷ past) q ≡ free past q
  free-kept same q =
      quiet-step m past d is none q
      ∙ ap₂ (λ a b. a ++ b)
      (turns-same (test past q) (test (m ∷ past) q) m.number (numbers past) (items past) (below_numbers past numbered.1 m.number numbered.0) (below_items past numbered.1 m.number numbered.0)
      (λ s i s_lt i_lt. ap₂ (λ a b. a && b) (is_of-kept m past d is none q i) (same s i)))
      (filter-none (test (m ∷ past) q m.number) (items past)
      (all-any (λ i. test (m ∷ past) q m.number i ≡ false)
      (λ i. ap (λ b. is_of (m ∷ past) q i && b) (same m.number i ∙ not_yet past numbered.1 m.number i numbered.0) ∙ none_and (is_of (m ∷ past) q i)) (items past)))
      ∙ append-nil (turns (test past q) (numbers past) (items past)) ∙ sym (free-turns past q)

  -- some that were held are freed
  pub free-freed : (freed : ℕ → Bool) (c : List ℕ) → ((i : ℕ) → freed i ≡ true → is_held_by c (status past i) ≡ true) → ((i : ℕ) → status (m ∷ past) i ≡ cond (freed i) (Free m.number) (status past i))
      → (q : List ℕ) → free (m ∷ past) q ≡ free past q ++ filter (λ i. is_of past q i && freed i) (items past)
  free-freed freed c held behind q =
      quiet-step m past d is none q
      ∙ ap₂ (λ a b. a ++ b)
      (turns-same (test past q) (test (m ∷ past) q) m.number (numbers past) (items past) (below_numbers past numbered.1 m.number numbered.0) (below_items past numbered.1 m.number numbered.0)
      (λ s i s_lt i_lt. ap₂ (λ a b. a && b) (is_of-kept m past d is none q i) (ap (is_free_since s) (behind i) ∙ earlier s i s_lt (freed i) refl)))
      (filter-same (λ i. is_of past q i && freed i) (test (m ∷ past) q m.number) (items past)
      (all-any (λ i. test (m ∷ past) q m.number i ≡ (is_of past q i && freed i))
      (λ i. ap₂ (λ a b. a && b) (is_of-kept m past d is none q i) (ap (is_free_since m.number) (behind i) ∙ now i (freed i))) (items past)))
      ∙ ap (λ l. l ++ filter (λ i. is_of past q i && freed i) (items past)) (sym (free-turns past q))
    where
      earlier : (s i : ℕ) → s < m.number → (b : Bool) → freed i ≡ b → is_free_since s (cond b (Free m.number) (status past i)) ≡ is_free_since s (status past i)
      earlier s i lt true at = other_number m.number s lt ∙ sym (held_not_free c s (status past i) (held i at))
      earlier s i lt false at = refl

      now : (i : ℕ) (b : Bool) → is_free_since m.number (cond b (Free m.number) (status past i)) ≡ b
      now i true = self m.number
      now i false = not_yet past numbered.1 m.number i numbered.0

-- the queue of another name isn't that of this item
other_queue : (past : Past) (queue q : List ℕ) (i : ℕ) → is_of past queue i ≡ true → bytes_eq queue q ≡ false → is_of past q i ≡ false
other_queue past queue q i own other = of (added past i) own
  where
    of : (o : Option Item) → is_text (option_map (λ (it : Item). it.queue) o) queue ≡ true → is_text (option_map (λ (it : Item). it.queue) o) q ≡ false
    of None at = refl
    of (Some it) at = let same : it.queue ≡ queue = (bytes_eq-Decides it.queue queue).0 at in ap (λ s. bytes_eq s q) same ∙ other

pub of_one : (past : Past) (queue q : List ℕ) (i : ℕ) → is_of past queue i ≡ true → is_of past q i ≡ bytes_eq queue q
of_one past queue q i own = elim (cases_Bool (bytes_eq queue q)) [
  | inl same ↦ subst (λ s. is_of past s i ≡ true) ((bytes_eq-Decides queue q).0 same) own ∙ sym same
  | inr other ↦ other_queue past queue q i own other ∙ sym other
]

module _ (m : Message) (past : Past) (c queue : List ℕ) (is : said m ≡ Does c (Acquire queue)) (numbered : IsNumbered (m ∷ past)) where
  -- the first is given
  pub free-given : (g : ℕ) (rest : List ℕ) → free past queue ≡ g ∷ rest → (q : List ℕ) → free (m ∷ past) q ≡ cond (bytes_eq queue q) rest (free past q)
  free-given g rest given q =
      quiet-step m past _ is refl q
      ∙ ap₂ (λ a b. a ++ b)
      (turns-same (λ s i. test past q s i && not (g == i)) (test (m ∷ past) q) m.number (numbers past) (items past) (below_numbers past numbered.1 m.number numbered.0)
      (below_items past numbered.1 m.number numbered.0) (λ s i s_lt i_lt. tested s i))
      (filter-none (test (m ∷ past) q m.number) (items past) (all-any (λ i. test (m ∷ past) q m.number i ≡ false) (λ i. tested m.number i ∙ later i) (items past)))
      ∙ append-nil (turns (λ s i. test past q s i && not (g == i)) (numbers past) (items past))
      ∙ taken (cases_Bool (bytes_eq queue q))
    where
      its : is_of past queue g ≡ true
      its = (first_free_is past queue g (ap first given)).of_queue

      behind : (i : ℕ) → status (m ∷ past) i ≡ cond (g == i) (Held c) (status past i)
      behind i = status-step m past _ is i ∙ ap (λ l. cond (is_number (first l) i) (Held c) (status past i)) given

      on : (s i : ℕ) (b : Bool) (own : Bool) → (own && is_free_since s (cond b (Held c) (status past i))) ≡ ((own && is_free_since s (status past i)) && not b)
      on s i true true = sym (none_and (is_free_since s (status past i)))
      on s i true false = refl
      on s i false true = sym (all_and (is_free_since s (status past i)))
      on s i false false = refl

      tested : (s i : ℕ) → test (m ∷ past) q s i ≡ (test past q s i && not (g == i))
      tested s i = ap₂ (λ a b. a && b) (is_of-kept m past _ is refl q i) (ap (is_free_since s) (behind i)) ∙ on s i (g == i) (is_of past q i)

      later : (i : ℕ) → (test past q m.number i && not (g == i)) ≡ false
      later i = ap (λ b. (is_of past q i && b) && not (g == i)) (not_yet past numbered.1 m.number i numbered.0) ∙ ap (λ b. b && not (g == i)) (none_and (is_of past q i))

      elsewhere : bytes_eq queue q ≡ false → (s i : ℕ) (b : Bool) → (g == i) ≡ b → (test past q s i && not b) ≡ test past q s i
      elsewhere apart s i true at =
          let i_is : g ≡ i = eqb-true g i at in
          let not_of : is_of past q i ≡ false = subst (λ k. is_of past q k ≡ false) i_is (other_queue past queue q g its apart) in
          none_and (test past q s i) ∙ sym (ap (λ b. b && is_free_since s (status past i)) not_of)
      elsewhere apart s i false at = all_and (test past q s i)

      taken : (bytes_eq queue q ≡ true) ⊎ (bytes_eq queue q ≡ false) → turns (λ s i. test past q s i && not (g == i)) (numbers past) (items past) ≡ cond (bytes_eq queue q) rest (free past q)
      taken (inl same) =
          let q_is : queue ≡ q = (bytes_eq-Decides queue q).0 same in
          let its_own : turns (test past q) (numbers past) (items past) ≡ g ∷ rest = sym (free-turns past q) ∙ ap (free past) (sym q_is) ∙ given in
          turns-taken (test past q) (single past q) (numbers past) (items past) (numbers_rise past numbered.1) (items_rise past numbered.1) g rest its_own
          ∙ ap (λ b. cond b rest (free past q)) (sym same)
      taken (inr other) =
          turns-same (test past q) (λ s i. test past q s i && not (g == i)) m.number (numbers past) (items past) (below_numbers past numbered.1 m.number numbered.0)
          (below_items past numbered.1 m.number numbered.0)
          (λ s i s_lt i_lt. elsewhere other s i (g == i) refl)
          ∙ sym (free-turns past q) ∙ ap (λ b. cond b rest (free past q)) (sym other)

module _ (m : Message) (past : Past) (c : List ℕ) (it : Item) (is : said m ≡ Does c (Add it.queue it.value)) (numbered : IsNumbered (m ∷ past)) where
  pub added-new : (i : ℕ) → added (m ∷ past) i ≡ cond (m.number == i) (Some it) (added past i)
  added-new i = added-step m past _ is i

  pub status-new : (i : ℕ) → status (m ∷ past) i ≡ cond (m.number == i) (Free m.number) (status past i)
  status-new i = status-step m past _ is i

  -- the new one stands behind the others
  pub free-added : (q : List ℕ) → free (m ∷ past) q ≡ free past q ++ cond (bytes_eq it.queue q) (m.number ∷ []) []
  free-added q =
      free-step m past _ is q (items past ++ m.number ∷ []) refl
      ∙ ap₂ (λ a b. a ++ b)
      (turns-extra (test (m ∷ past) q) (numbers past) (items past) m.number
      (all-weaker (λ s. s < m.number) (λ s. test (m ∷ past) q s m.number ≡ false) (λ s lt. own s ∙ ap (λ b. bytes_eq it.queue q && b) (other_number m.number s lt) ∙ none_and (bytes_eq it.queue q))
      (numbers past) (below_numbers past numbered.1 m.number numbered.0))
      ∙ turns-same (test past q) (test (m ∷ past) q) m.number (numbers past) (items past) (below_numbers past numbered.1 m.number numbered.0) (below_items past numbered.1 m.number numbered.0)
      (λ s i s_lt i_lt. before s i i_lt)
      ∙ sym (free-turns past q))
      (filter-append (test (m ∷ past) q m.number) (items past) (m.number ∷ [])
      ∙ ap₂ (λ a b. a ++ b)
      (filter-none (test (m ∷ past) q m.number) (items past)
      (all-weaker (λ i. i < m.number) (λ i. test (m ∷ past) q m.number i ≡ false)
      (λ i lt. before m.number i lt ∙ ap (λ b. is_of past q i && b) (not_yet past numbered.1 m.number i numbered.0) ∙ none_and (is_of past q i)) (items past)
      (below_items past numbered.1 m.number numbered.0)))
      (ap (λ b. cond b (m.number ∷ []) []) (own m.number ∙ ap (λ b. bytes_eq it.queue q && b) (self m.number) ∙ all_and (bytes_eq it.queue q))))
    where
      own : (s : ℕ) → test (m ∷ past) q s m.number ≡ (bytes_eq it.queue q && (m.number == s))
      own s =
          ap₂ (λ (o : Option Item) st. is_text (option_map (λ (x : Item). x.queue) o) q && is_free_since s st)
          (added-new m.number ∙ ap (λ b. cond b (Some it) (added past m.number)) (self m.number))
          (status-new m.number ∙ ap (λ b. cond b (Free m.number) (status past m.number)) (self m.number))

      before : (s i : ℕ) → i < m.number → test (m ∷ past) q s i ≡ test past q s i
      before s i lt =
          let other = other_number m.number i lt in
          ap₂ (λ (o : Option Item) st. is_text (option_map (λ (x : Item). x.queue) o) q && is_free_since s st)
          (added-new i ∙ ap (λ b. cond b (Some it) (added past i)) other) (status-new i ∙ ap (λ b. cond b (Free m.number) (status past i)) other)
