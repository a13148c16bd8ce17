-- Places under texts, and the table that they stand for.
use Rattle.std.proofs.Common.{◌≡◌, ℕ, Bool, true, false, cond, T, ◌&&◌, List, [], ◌∷◌, ◌++◌, map, append_assoc, append-nil, bytes_eq, fold, Option, Some, None, String, Global, string_bytes, string_cmp, nat_cmp, refl, sym, ap, ap₂, subst, ◌∙◌}
use Rattle.std.specs.Prelude.{IsSome, is_some, option_to_list}
use Rattle.std.specs.List.{AllByRecursion}
use Rattle.std.specs.List.Sorted.{IsStrictlySortedBy}
use Rattle.std.specs.Map.{lookup, keys_of}
use Rattle.std.specs.Ordering.{eq_by_cmp, is_eq, is_lt}
use Rattle.std.specs.declared.cmp.Ordering.TheVariants.{Less, Equal, Greater}
use Rattle.std.specs.declared.cmp.Ordering.{Ordering}
use Rattle.std.specs.Option.{option_or}
use Rattle.std.specs.Cmp.{eq_by_cmp_equiv}
use Rattle.std.specs.Cmp.Lexicographic.{nat_list_cmp_total, slice_cmp}
use Rattle.std.specs.BTreeMap.{UpdatesBy, get_by_text, is_at}
use Rattle.std.specs.FinMap as table
use Rattle.std.specs.FinMap.{empty, from_sorted, get, get-empty, insert, entries, same_map, get-insert, get-remove, remove, get-from_sorted, entries-from_sorted, IsAntisymmetric, nat_cmp-IsAntisymmetric, slice_cmp-IsAntisymmetric}
use Rattle.std.specs.FinMap.Entries.{find, is_sorted}
use Rattle.std.proofs.lemmas.Map.Keys.{sorted_head, sorted_tail}
use Rattle.std.proofs.lemmas.Map.Text.{is_eq-slice_cmp, btree_map_updates_text, text_cmp}
use Rattle.std.proofs.lemmas.Slice.Eq.{bytes_eq-Decides}
use Rattle.fluid_table.specs.Table.{byte_order}
use Rattle.fluid_table.proofs.Maps.{from_sorted_nothing}
use Rattle.fluid_types.specs.Quorum.{Table}
use Rattle.fluid_quorum.specs.Places.{Places, with_place, held, table_at, AreOrdered, KeepsPlaces}

antisymmetric : IsAntisymmetric byte_order
antisymmetric = slice_cmp-IsAntisymmetric nat_cmp-IsAntisymmetric

both : (a b : Bool) → T a → T b → T (a && b)
both true b p q = q
both false b p q = p

first : (a b : Bool) → T (a && b) → T a
first true b p = tt
first false b p = p

second : (a b : Bool) → T (a && b) → T b
second true b p = p
second false b p = absurd p

equal : (q k : List ℕ) → is_eq (byte_order q k) ≡ true → q ≡ k
equal q k is = (bytes_eq-Decides q k).0 (sym (is_eq-slice_cmp q k) ∙ is)

tied : (q key : List ℕ) → is_eq (byte_order q key) ≡ bytes_eq key q
tied q key = sym ((eq_by_cmp_equiv nat_list_cmp_total).symm key q) ∙ is_eq-slice_cmp key q

less_only : (r : Ordering) → T (is_lt r) → is_eq r ≡ false
less_only Less h = refl
less_only Equal h = absurd h
less_only Greater h = refl

pub none_of : {A : Type 0} (o : Option A) → is_some o ≡ false → o ≡ None
none_of None is = refl
none_of (Some a) is = cc

-- what a place says: its value, if it has one
abbrev pub said : {V : Type 0} → Option (Option V) → Option V
said None = None
said (Some o) = o

abbrev Entries : Type 0 → Type 0
Entries V = List (String Global × Option V)

module _ {V : Type 0} where
  -- ---- in order

  -- a key below all of them, and then they
  led : (s : String Global) (v : V) (es : Entries V) → AllByRecursion (λ k. string_cmp s k ≡ Less) (keys_of es) → T (is_sorted byte_order (held es)) → T (is_sorted byte_order ((string_bytes s, v) ∷ held es))
  led s v [] below h = tt
  led s v (e ∷ es) below h = by e.1 h (led s v es below.1)
    where
      by : (o : Option V) → T (is_sorted byte_order (with_place (string_bytes e.0) o (held es))) → (T (is_sorted byte_order (held es)) → T (is_sorted byte_order ((string_bytes s, v) ∷ held es)))
          → T (is_sorted byte_order ((string_bytes s, v) ∷ with_place (string_bytes e.0) o (held es)))
      by None sorted rest = rest sorted
      by (Some w) sorted rest = both _ _ (both _ _ (subst (λ r. T (is_lt r)) (sym below.0) tt) (first _ _ (rest (second _ _ sorted)))) sorted

  in_order : (es : Entries V) → IsStrictlySortedBy string_cmp (keys_of es) → T (is_sorted byte_order (held es))
  in_order [] h = tt
  in_order (e ∷ es) h = by e.1 (in_order es (sorted_tail string_cmp e.0 (keys_of es) h))
    where
      by : (o : Option V) → T (is_sorted byte_order (held es)) → T (is_sorted byte_order (with_place (string_bytes e.0) o (held es)))
      by None rest = rest
      by (Some v) rest = led e.0 v es (sorted_head string_cmp e.0 (keys_of es) h) rest

  -- ---- look-ups

  -- a key below all of them isn't among them
  pub not_later : (q : List ℕ) (s : String Global) (es : Entries V) → is_eq (byte_order q (string_bytes s)) ≡ true → AllByRecursion (λ k. string_cmp s k ≡ Less) (keys_of es)
      → lookup (is_at (text_cmp q)) es ≡ None
  not_later q s [] is below = refl
  not_later q s (e ∷ es) is below =
      let less : byte_order q (string_bytes e.0) ≡ Less = ap (λ k. byte_order k (string_bytes e.0)) (equal q (string_bytes s) is) ∙ below.0 in
      ap (λ r. cond (is_eq r) (Some e.1) (lookup (is_at (text_cmp q)) es)) less ∙ not_later q s es is below.1

  found : (q : List ℕ) (es : Entries V) → IsStrictlySortedBy string_cmp (keys_of es) → find byte_order q (held es) ≡ said (lookup (is_at (text_cmp q)) es)
  found q [] h = refl
  found q (e ∷ es) h = by e.1 (is_eq (byte_order q (string_bytes e.0))) refl (found q es (sorted_tail string_cmp e.0 (keys_of es) h))
    where
      by : (o : Option V) (b : Bool) → is_eq (byte_order q (string_bytes e.0)) ≡ b → find byte_order q (held es) ≡ said (lookup (is_at (text_cmp q)) es)
          → find byte_order q (with_place (string_bytes e.0) o (held es)) ≡ said (cond (is_eq (byte_order q (string_bytes e.0))) (Some o) (lookup (is_at (text_cmp q)) es))
      by None true is rest = rest ∙ ap said (not_later q e.0 es is (sorted_head string_cmp e.0 (keys_of es) h)) ∙ ap (λ b. said (cond b (Some None) (lookup (is_at (text_cmp q)) es))) (sym is)
      by None false is rest = rest ∙ ap (λ b. said (cond b (Some None) (lookup (is_at (text_cmp q)) es))) (sym is)
      by (Some v) true is rest = rw is refl
      by (Some v) false is rest = rw is rest

  module _ (m : Places V) (order : AreOrdered m) where
    pub got : (q : List ℕ) → get (table_at m) q ≡ said (get_by_text m q)
    got q = get-from_sorted byte_order (held m.entries) q (in_order m.entries order) ∙ found q m.entries order

    pub listed : entries (table_at m) ≡ held m.entries
    listed = entries-from_sorted byte_order (held m.entries) (in_order m.entries order)

  module _ (m n : Places V) (m_order : AreOrdered m) (n_order : AreOrdered n) where
    -- two that answer alike
    pub alike : ((q : List ℕ) → get_by_text n q ≡ get_by_text m q) → table_at n ≡ table_at m
    alike is = same_map nat_list_cmp_total antisymmetric _ _ (λ q. got n n_order q ∙ ap said (is q) ∙ sym (got m m_order q))

    module _ (key : List ℕ) where
      pub kept : (o : Option V) → UpdatesBy string_cmp (λ k. slice_cmp nat_cmp key (string_bytes k)) m n (Some o) → KeepsPlaces m n
      kept o updates q has = subst IsSome (sym (btree_map_updates_text key m n (Some o) updates q)) (by (bytes_eq key q) has)
        where
          by : (b : Bool) → IsSome (get_by_text m q) → IsSome (cond b (Some o) (get_by_text m q))
          by true has = search
          by false has = has

      pub placed : UpdatesBy string_cmp (λ k. slice_cmp nat_cmp key (string_bytes k)) m n (Some None) → get_by_text m key ≡ None → table_at n ≡ table_at m
      placed updates none = same_map nat_list_cmp_total antisymmetric _ _ (λ q.
          got n n_order q ∙ ap said (btree_map_updates_text key m n (Some None) updates q) ∙ by q (bytes_eq key q) refl ∙ sym (got m m_order q))
        where
          by : (q : List ℕ) (b : Bool) → bytes_eq key q ≡ b → said (cond (bytes_eq key q) (Some None) (get_by_text m q)) ≡ said (get_by_text m q)
          by q true is = let same : key ≡ q = (bytes_eq-Decides key q).0 is in rw is (ap said (sym (ap (get_by_text m) (sym same) ∙ none)))
          by q false is = rw is refl

      pub valued : (v : V) → UpdatesBy string_cmp (λ k. slice_cmp nat_cmp key (string_bytes k)) m n (Some (Some v)) → table_at n ≡ insert (table_at m) key v
      valued v updates = same_map nat_list_cmp_total antisymmetric _ _ (λ q.
          got n n_order q ∙ ap said (btree_map_updates_text key m n (Some (Some v)) updates q) ∙ by q (bytes_eq key q) refl
          ∙ sym (get-insert nat_list_cmp_total (table_at m) key v q ∙ ap (cond (eq_by_cmp byte_order q key) (Some v)) (got m m_order q)))
        where
          by : (q : List ℕ) (b : Bool) → bytes_eq key q ≡ b → said (cond (bytes_eq key q) (Some (Some v)) (get_by_text m q)) ≡ cond (eq_by_cmp byte_order q key) (Some v) (said (get_by_text m q))
          by q true is = rw (tied q key, is) refl
          by q false is = rw (tied q key, is) refl

      pub removed : UpdatesBy string_cmp (λ k. slice_cmp nat_cmp key (string_bytes k)) m n None → table_at n ≡ remove (table_at m) key
      removed updates = same_map nat_list_cmp_total antisymmetric _ _ (λ q.
          got n n_order q ∙ ap said (btree_map_updates_text key m n None updates q) ∙ by q (bytes_eq key q) refl
          ∙ sym (get-remove nat_list_cmp_total (table_at m) key q ∙ ap (cond (eq_by_cmp byte_order q key) None) (got m m_order q)))
        where
          by : (q : List ℕ) (b : Bool) → bytes_eq key q ≡ b → said (cond (bytes_eq key q) None (get_by_text m q)) ≡ cond (eq_by_cmp byte_order q key) None (said (get_by_text m q))
          by q true is = rw (tied q key, is) refl
          by q false is = rw (tied q key, is) refl

-- ---- the values in order

module _ {V : Type 0} where
  abbrev pub values_in : Entries V → List V
  values_in es = map (λ (e : List ℕ × V). e.1) (held es)

  listed_first : (key : List ℕ) (o : Option V) (rest : List (List ℕ × V)) → map (λ (e : List ℕ × V). e.1) (with_place key o rest) ≡ option_to_list o ++ map (λ (e : List ℕ × V). e.1) rest
  listed_first key None rest = refl
  listed_first key (Some v) rest = refl

  pub listed-on : (s : String Global) (o : Option V) (left rest : Entries V) (old new all : List V) → left ≡ (s, o) ∷ rest → new ≡ old ++ option_to_list o → old ++ values_in left ≡ all → new ++ values_in rest ≡ all
  listed-on s o left rest old new all left_is put before =
      ap (λ l. l ++ values_in rest) put ∙ append_assoc old (option_to_list o) (values_in rest) ∙ ap (λ l. old ++ l) (sym (listed_first (string_bytes s) o (held rest)))
      ∙ ap (λ l. old ++ values_in l) (sym left_is) ∙ before

  pub listed-end : (m : Places V) (order : AreOrdered m) (left : Entries V) (old : List V) → left ≡ [] → old ++ values_in left ≡ values_in m.entries → old ≡ table.values (table_at m)
  listed-end m order left old none before =
      sym (ap (λ l. old ++ values_in l) none ∙ append-nil old) ∙ before ∙ ap (λ es. map (λ (e : List ℕ × V). e.1) es) (sym (listed m order))

-- ---- a copy, place by place

pub or_none : {A : Type 0} (o : Option A) → option_or o None ≡ o
or_none None = refl
or_none (Some a) = refl

-- what is left, and then what is copied, answers as all did
abbrev pub Copies : {V : Type 0} → Entries V → Places V → Places V → Type 0
Copies left copies all = (q : List ℕ) → option_or (lookup (is_at (text_cmp q)) left) (get_by_text copies q) ≡ get_by_text all q

pub copied-on : {V : Type 0} (s : String Global) (key : List ℕ) (o : Option V) (es left : Entries V) (m n all : Places V) → left ≡ (s, o) ∷ es → key ≡ string_bytes s
    → IsStrictlySortedBy string_cmp (keys_of left) → ((q : List ℕ) → get_by_text n q ≡ cond (bytes_eq key q) (Some o) (get_by_text m q)) → Copies left m all → Copies es n all
copied-on s key o es left m n all left_is key_is sorted put copies q =
    by (is_eq (byte_order q (string_bytes s))) refl ∙ ap (λ l. option_or (lookup (is_at (text_cmp q)) l) (get_by_text m q)) (sym left_is) ∙ copies q
  where
    here : get_by_text n q ≡ cond (is_eq (byte_order q (string_bytes s))) (Some o) (get_by_text m q)
    here = put q ∙ ap (λ b. cond b (Some o) (get_by_text m q)) (sym (tied q key) ∙ ap (λ k. is_eq (byte_order q k)) key_is)

    below : AllByRecursion (λ k. string_cmp s k ≡ Less) (keys_of es)
    below = sorted_head string_cmp s (keys_of es) (subst (λ l. IsStrictlySortedBy string_cmp (keys_of l)) left_is sorted)

    by : (b : Bool) → is_eq (byte_order q (string_bytes s)) ≡ b
        → option_or (lookup (is_at (text_cmp q)) es) (get_by_text n q) ≡ option_or (cond (is_eq (byte_order q (string_bytes s))) (Some o) (lookup (is_at (text_cmp q)) es)) (get_by_text m q)
    by true is = ap₂ option_or (not_later q s es is below) here ∙ rw is refl
    by false is = ap (option_or (lookup (is_at (text_cmp q)) es)) here ∙ rw is refl

pub copied-end : {V : Type 0} (left : Entries V) (copies all : Places V) → left ≡ [] → Copies left copies all → (q : List ℕ) → get_by_text copies q ≡ get_by_text all q
copied-end left copies all none is q = ap (λ l. option_or (lookup (is_at (text_cmp q)) l) (get_by_text copies q)) (sym none) ∙ is q

pub sorted-on : {V : Type 0} (s : String Global) (o : Option V) (es left : Entries V) → left ≡ (s, o) ∷ es → IsStrictlySortedBy string_cmp (keys_of left) → IsStrictlySortedBy string_cmp (keys_of es)
sorted-on s o es left is sorted = sorted_tail string_cmp s (keys_of es) (subst (λ l. IsStrictlySortedBy string_cmp (keys_of l)) is sorted)

-- ---- values in order, one after another

module _ {V : Type 0} where
  abbrev pub with_pair : Table V → List ℕ × V → Table V
  with_pair t e = insert t e.0 e.1

  -- a key below all of them
  abbrev is_below : List ℕ → List (List ℕ × V) → Bool
  is_below k [] = true
  is_below k (e ∷ es) = is_lt (byte_order k e.0) && is_below k es

  none_below : (q k : List ℕ) (es : List (List ℕ × V)) → q ≡ k → T (is_below k es) → find byte_order q es ≡ None
  none_below q k [] same h = refl
  none_below q k (e ∷ es) same h =
      let lower : is_eq (byte_order q e.0) ≡ false = ap (λ l. is_eq (byte_order l e.0)) same ∙ less_only (byte_order k e.0) (first (is_lt (byte_order k e.0)) (is_below k es) h) in
      ap (λ b. cond b (Some e.1) (find byte_order q es)) lower ∙ none_below q k es same (second (is_lt (byte_order k e.0)) (is_below k es) h)

  sorted_rest : (e : List ℕ × V) (es : List (List ℕ × V)) → T (is_sorted byte_order (e ∷ es)) → T (is_sorted byte_order es)
  sorted_rest e es h = second (is_below e.0 es) (is_sorted byte_order es) h

  none_behind : (q : List ℕ) (e : List ℕ × V) (es : List (List ℕ × V)) → q ≡ e.0 → T (is_sorted byte_order (e ∷ es)) → find byte_order q es ≡ None
  none_behind q e es same h = none_below q e.0 es same (first (is_below e.0 es) (is_sorted byte_order es) h)

  get-all : (q : List ℕ) (es : List (List ℕ × V)) (t : Table V) → T (is_sorted byte_order es) → get (fold with_pair t es) q ≡ option_or (find byte_order q es) (get t q)
  get-all q [] t h = refl
  get-all q (e ∷ es) t h =
      get-all q es (with_pair t e) (sorted_rest e es h) ∙ ap (option_or (find byte_order q es)) (get-insert nat_list_cmp_total t e.0 e.1 q) ∙ by (is_eq (byte_order q e.0)) refl
    where
      by : (b : Bool) → is_eq (byte_order q e.0) ≡ b
          → option_or (find byte_order q es) (cond (is_eq (byte_order q e.0)) (Some e.1) (get t q)) ≡ option_or (cond (is_eq (byte_order q e.0)) (Some e.1) (find byte_order q es)) (get t q)
      by true is = ap (λ o. option_or o (cond (is_eq (byte_order q e.0)) (Some e.1) (get t q))) (none_behind q e es (equal q e.0 is) h) ∙ rw is refl
      by false is = rw is refl

  pub all_in_order : (es : List (List ℕ × V)) → T (is_sorted byte_order es) → fold with_pair empty es ≡ from_sorted es
  all_in_order es h = same_map nat_list_cmp_total antisymmetric _ _ (λ q.
      get-all q es empty h ∙ ap (option_or (find byte_order q es)) (get-empty byte_order q) ∙ or_none (find byte_order q es) ∙ sym (get-from_sorted byte_order es q h))

  pub none_at : (m : Places V) → m.entries ≡ [] → table_at m ≡ empty
  none_at m none = ap (λ es. from_sorted (held es)) none ∙ from_sorted_nothing byte_order
