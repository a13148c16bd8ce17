-- Lists in order that have the same members are one: names in byte order, and entries under rising numbers.
use Rattle.std.proofs.Common.{◌≡◌, ℕ, ◌==◌, Bool, true, false, ◌&&◌, ◌||◌, cond, List, [], ◌∷◌, map, Option, Some, None, option_map, String, Global, string_bytes, string_cmp, refl, sym, ◌∙◌, ap, ap₂, subst, nat_cmp, inl, inr, bytes_eq}
use Rattle.std.specs.Prelude.{filter, is_some}
use Rattle.std.specs.List.{AllByRecursion, filter_map, cons_option}
use Rattle.std.specs.List.Sorted.{IsStrictlySortedBy}
use Rattle.std.specs.Map.{lookup, keys_of}
use Rattle.std.specs.Ordering.{is_eq, ordering_reverse}
use Rattle.std.specs.declared.cmp.Ordering.{Ordering}
use Rattle.std.specs.declared.cmp.Ordering.TheVariants.{Less, Equal, Greater}
use Rattle.std.specs.Cmp.Lexicographic.{slice_cmp}
use Rattle.std.specs.BTreeMap.{BTreeMap, get, is_at, IsOrdered}
use Rattle.std.proofs.lemmas.Bool.{cases_Bool, eqb-true, false_from_ne_true}
use Rattle.std.proofs.lemmas.Cmp.{nat_list_cmp_total}
use Rattle.std.proofs.lemmas.Map.Keys.{sorted_head, sorted_tail}
use Rattle.std.proofs.lemmas.Map.Text.{is_eq-slice_cmp}
use Rattle.fluid_json.specs.Tree.{Tree}
use Rattle.fluid_rules.specs.Past.{has_id, IsBelowEach, AreInOrder}
use Rattle.fluid_rules.proofs.Ids.{same_id, own_id, filter-has, filter-in_order}
use Rattle.fluid_tasks.specs.Printed.{shown}
use Rattle.fluid_tasks.proofs.Lists.{no_test, or_left, mem, Ascends, ascends-filter, same_ascending, above_other, self}
use Rattle.fluid_tasks.proofs.Candidates.{eq-cmp}
use Rattle.fluid_tasks.proofs.Left.{keys_rise, mem-filter}

-- ---- names

below_none : (c : List ℕ) (ids : List (List ℕ)) → IsBelowEach c ids → has_id c ids ≡ false
below_none c [] below = refl
below_none c (id ∷ ids) below = ap₂ (λ a b. a || b) (sym (is_eq-slice_cmp c id) ∙ ap is_eq below.0) (below_none c ids below.1)

below_all : (c d : List ℕ) (ids : List (List ℕ)) → slice_cmp nat_cmp c d ≡ Less → IsBelowEach d ids → IsBelowEach c ids
below_all c d [] less below = tt
below_all c d (id ∷ ids) less below = (nat_list_cmp_total.trans c d id less below.0, below_all c d ids less below.1)

first_has : (c : List ℕ) (ids : List (List ℕ)) → has_id c (c ∷ ids) ≡ true
first_has c ids = or_left (bytes_eq c c) (has_id c ids) (own_id c)

same_heads : (c d : List ℕ) (ids others : List (List ℕ)) → AreInOrder (c ∷ ids) → AreInOrder (d ∷ others) → ((e : List ℕ) → has_id e (c ∷ ids) ≡ has_id e (d ∷ others)) → c ≡ d
same_heads c d ids others one two same = of (slice_cmp nat_cmp c d) refl
  where
    of : (r : Ordering) → slice_cmp nat_cmp c d ≡ r → c ≡ d
    of Equal is = same_id c d (sym (is_eq-slice_cmp c d) ∙ ap is_eq is)
    of Less is = absurd (no_test (has_id c (d ∷ others)) (sym (same c) ∙ first_has c ids) (below_none c (d ∷ others) (is, below_all c d others is two.0)))
    of Greater is =
        let less : slice_cmp nat_cmp d c ≡ Less = nat_list_cmp_total.antisymm d c ∙ ap ordering_reverse is in
        absurd (no_test (has_id d (c ∷ ids)) (same d ∙ first_has d others) (below_none d (c ∷ ids) (less, below_all d c ids less one.0)))

same_tails : (c d : List ℕ) (ids others : List (List ℕ)) → AreInOrder (c ∷ ids) → AreInOrder (d ∷ others) → ((e : List ℕ) → has_id e (c ∷ ids) ≡ has_id e (d ∷ others)) → c ≡ d → (e : List ℕ) → has_id e ids ≡ has_id e others
same_tails c d ids others one two same is e = elim (cases_Bool (bytes_eq e c)) [
  | inl here ↦
      let e_is : e ≡ c = same_id e c here in
      subst (λ w. has_id w ids ≡ has_id w others) (sym e_is) (below_none c ids one.0 ∙ sym (below_none c others (subst (λ w. IsBelowEach w others) (sym is) two.0)))
  | inr other ↦
      let other_d : bytes_eq e d ≡ false = ap (bytes_eq e) (sym is) ∙ other in
      sym (ap (λ b. b || has_id e ids) other) ∙ same e ∙ ap (λ b. b || has_id e others) other_d
]

pub same_names_list : (ids others : List (List ℕ)) → AreInOrder ids → AreInOrder others → ((e : List ℕ) → has_id e ids ≡ has_id e others) → ids ≡ others
same_names_list [] [] one two same = refl
same_names_list [] (d ∷ others) one two same = absurd (let wrong : false ≡ true = same d ∙ first_has d others in cc)
same_names_list (c ∷ ids) [] one two same = absurd (let wrong : true ≡ false = sym (first_has c ids) ∙ same c in cc)
same_names_list (c ∷ ids) (d ∷ others) one two same =
    let is = same_heads c d ids others one two same in
    ap₂ (λ x xs. x ∷ xs) is (same_names_list ids others one.1 two.1 (same_tails c d ids others one two same is))

-- those that are shown are those of the names of which something is shown
shown-filter : (value : List ℕ → Option Tree) (names : List (List ℕ)) → shown value names ≡ shown value (filter (λ n. is_some (value n)) names)
shown-filter value [] = refl
shown-filter value (n ∷ names) = of (value n) refl (shown-filter value names)
  where
    of : (o : Option Tree) → value n ≡ o → shown value names ≡ shown value (filter (λ n. is_some (value n)) names)
        → cons_option (option_map (λ tree. (n, tree)) o) (shown value names) ≡ shown value (cond (is_some o) (n ∷ filter (λ n. is_some (value n)) names) (filter (λ n. is_some (value n)) names))
    of None is rest = rest
    of (Some t) is rest =
        ap (λ l. (n, t) ∷ l) rest ∙ ap (λ o. cons_option (option_map (λ tree. (n, tree)) o) (shown value (filter (λ n. is_some (value n)) names))) (sym is)

pub same_shown : (value : List ℕ → Option Tree) (names others : List (List ℕ)) → AreInOrder names → AreInOrder others → ((n : List ℕ) → is_some (value n) ≡ true → has_id n names ≡ true) → ((n : List ℕ) → is_some (value n) ≡ true → has_id n others ≡ true)
    → shown value names ≡ shown value others
same_shown value names others one two in_names in_others =
    shown-filter value names
    ∙ ap (shown value)
    (same_names_list (filter (λ n. is_some (value n)) names) (filter (λ n. is_some (value n)) others) (filter-in_order (λ n. is_some (value n)) names one) (filter-in_order (λ n. is_some (value n)) others two)
    (λ e. filter-has (λ n. is_some (value n)) e names ∙ of e (is_some (value e)) refl ∙ sym (filter-has (λ n. is_some (value n)) e others)))
    ∙ sym (shown-filter value others)
  where
    and_false : (b : Bool) → (b && false) ≡ false
    and_false true = refl
    and_false false = refl

    of : (e : List ℕ) (b : Bool) → is_some (value e) ≡ b → (has_id e names && b) ≡ (has_id e others && b)
    of e true is = ap (λ x. x && true) (in_names e is ∙ sym (in_others e is))
    of e false is = and_false (has_id e names) ∙ sym (and_false (has_id e others))

-- ---- names of a tree

abbrev pub names_of : {V : Type 0} → List (String Global × V) → List (List ℕ)
names_of es = map (λ e. string_bytes e.0) es

below_names : {V : Type 0} (s : String Global) (es : List (String Global × V)) → AllByRecursion (λ k. string_cmp s k ≡ Less) (keys_of es) → IsBelowEach (string_bytes s) (names_of es)
below_names s [] below = tt
below_names s (e ∷ es) below = (below.0, below_names s es below.1)

pub names_in_order : {V : Type 0} (es : List (String Global × V)) → IsStrictlySortedBy string_cmp (keys_of es) → AreInOrder (names_of es)
names_in_order [] h = tt
names_in_order (e ∷ es) h = (below_names e.0 es (sorted_head string_cmp e.0 (keys_of es) h), names_in_order es (sorted_tail string_cmp e.0 (keys_of es) h))

-- ---- entries under numbers

-- what a function says of some numbers
abbrev pub said_of : {X : Type 0} → (ℕ → Option X) → List ℕ → List (ℕ × X)
said_of f ns = filter_map (λ n. option_map (λ x. (n, x)) (f n)) ns

module _ {X : Type 0} where
  said-filter : (f : ℕ → Option X) (ns : List ℕ) → said_of f ns ≡ said_of f (filter (λ n. is_some (f n)) ns)
  said-filter f [] = refl
  said-filter f (n ∷ ns) = of (f n) refl (said-filter f ns)
    where
      of : (o : Option X) → f n ≡ o → said_of f ns ≡ said_of f (filter (λ n. is_some (f n)) ns)
          → cons_option (option_map (λ x. (n, x)) o) (said_of f ns) ≡ said_of f (cond (is_some o) (n ∷ filter (λ n. is_some (f n)) ns) (filter (λ n. is_some (f n)) ns))
      of None is rest = rest
      of (Some x) is rest = ap (λ l. (n, x) ∷ l) rest ∙ ap (λ o. cons_option (option_map (λ x. (n, x)) o) (said_of f (filter (λ n. is_some (f n)) ns))) (sym is)

  -- each entry is what is found under its number
  said_entries : (f : ℕ → Option X) (es : List (ℕ × X)) → AllByRecursion (λ (e : ℕ × X). f e.0 ≡ Some e.1) es → said_of f (keys_of es) ≡ es
  said_entries f [] all = refl
  said_entries f (e ∷ es) all =
      ap (λ o. cons_option (option_map (λ x. (e.0, x)) o) (said_of f (keys_of es))) all.0 ∙ ap (λ l. e ∷ l) (said_entries f es all.1)

  found_each : (es all : List (ℕ × X)) → ((n : ℕ) → mem n (keys_of es) ≡ true → lookup (is_at (nat_cmp n)) all ≡ lookup (is_at (nat_cmp n)) es) → Ascends (keys_of es) → AllByRecursion (λ (e : ℕ × X). lookup (is_at (nat_cmp e.0)) all ≡ Some e.1) es
  found_each [] all same rise = tt
  found_each (e ∷ es) all same rise = (
    same e.0 (or_left (e.0 == e.0) (mem e.0 (keys_of es)) (self e.0)) ∙ ap (λ b. cond b (Some e.1) (lookup (is_at (nat_cmp e.0)) es)) (eq-cmp e.0 e.0 ∙ self e.0),
    found_each es all
        (λ n among.
        same n (or_right (e.0 == n) (mem n (keys_of es)) among)
        ∙ ap (λ b. cond b (Some e.1) (lookup (is_at (nat_cmp n)) es)) (eq-cmp n e.0 ∙ apart n among))
        rise.1,
  )
    where
      or_right : (a b : Bool) → b ≡ true → (a || b) ≡ true
      or_right true b is = refl
      or_right false b is = is

      apart : (n : ℕ) → mem n (keys_of es) ≡ true → (n == e.0) ≡ false
      apart n among = false_from_ne_true (n == e.0) (λ same_number.
          let n_is : n ≡ e.0 = eqb-true n e.0 same_number in
          no_test (mem e.0 (keys_of es)) (subst (λ k. mem k (keys_of es) ≡ true) n_is among) (not_among e.0 (keys_of es) (above_other e.0 (keys_of es) rise.0)))
        where
          not_among : (k : ℕ) (ks : List ℕ) → AllByRecursion (λ j. (k == j) ≡ false) ks → mem k ks ≡ false
          not_among k [] all = refl
          not_among k (j ∷ ks) all = ap₂ (λ a b. a || b) (false_from_ne_true (j == k) (λ one. no_test (k == k) (self k) (ap (λ x. k == x) (sym (eqb-true j k one)) ∙ all.0))) (not_among k ks all.1)

  -- a number that is found is among the keys
  found_among : (es : List (ℕ × X)) (n : ℕ) → is_some (lookup (is_at (nat_cmp n)) es) ≡ true → mem n (keys_of es) ≡ true
  found_among [] n is = absurd (let wrong : false ≡ true = is in cc)
  found_among (e ∷ es) n is = of (e.0 == n) refl (λ h. found_among es n h)
    where
      swapped : (e.0 == n) ≡ false → (n == e.0) ≡ false
      swapped at = false_from_ne_true (n == e.0) (λ one. no_test (e.0 == e.0) (self e.0) (ap (λ x. e.0 == x) (sym (eqb-true n e.0 one)) ∙ at))

      of : (b : Bool) → (e.0 == n) ≡ b → (is_some (lookup (is_at (nat_cmp n)) es) ≡ true → mem n (keys_of es) ≡ true) → (b || mem n (keys_of es)) ≡ true
      of true at again = refl
      of false at again = again (sym (ap (λ b. is_some (cond b (Some e.1) (lookup (is_at (nat_cmp n)) es))) (eq-cmp n e.0 ∙ swapped at)) ∙ is)

  -- the entries are what a function says of some rising numbers, among which are all of which it says something
  pub entries_are : (m : BTreeMap ℕ X) → IsOrdered nat_cmp m → (f : ℕ → Option X) → ((n : ℕ) → get nat_cmp m n ≡ f n) → (ns : List ℕ) → Ascends ns → ((n : ℕ) → is_some (f n) ≡ true → mem n ns ≡ true)
      → m.entries ≡ said_of f ns
  entries_are m order f is ns rise among =
      let keys_up = keys_rise (keys_of m.entries) order in
      let all = found_each m.entries m.entries (λ n h. refl) keys_up in
      sym (said_entries f m.entries (weaker m.entries all))
      ∙ said-filter f (keys_of m.entries)
      ∙ ap (said_of f) (same_ascending (filter (λ n. is_some (f n)) (keys_of m.entries)) (filter (λ n. is_some (f n)) ns) (ascends-filter (λ n. is_some (f n)) (keys_of m.entries) keys_up) (ascends-filter (λ n. is_some (f n)) ns rise)
      (λ n. mem-filter (λ n. is_some (f n)) (keys_of m.entries) n ∙ of n (is_some (f n)) refl ∙ sym (mem-filter (λ n. is_some (f n)) ns n)))
      ∙ sym (said-filter f ns)
    where
      weaker : (es : List (ℕ × X)) → AllByRecursion (λ (e : ℕ × X). lookup (is_at (nat_cmp e.0)) m.entries ≡ Some e.1) es → AllByRecursion (λ (e : ℕ × X). f e.0 ≡ Some e.1) es
      weaker [] all = tt
      weaker (e ∷ es) all = (sym (is e.0) ∙ all.0, weaker es all.1)

      and_false : (b : Bool) → (b && false) ≡ false
      and_false true = refl
      and_false false = refl

      of : (n : ℕ) (b : Bool) → is_some (f n) ≡ b → (mem n (keys_of m.entries) && b) ≡ (mem n ns && b)
      of n true some = ap (λ x. x && true) (found_among m.entries n (ap is_some (is n) ∙ some) ∙ sym (among n some))
      of n false some = and_false (mem n (keys_of m.entries)) ∙ sym (and_false (mem n ns))
