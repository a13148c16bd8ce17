-- A tree whose objects are held is complete: the bytes of each of them are read back.
use Rattle.std.proofs.Common.{◌≡◌, ◌≢◌, ℕ, zero, suc, ◌-◌, ◌^◌, ◌<◌, ◌&&◌, ◌||◌, not, List, [], ◌∷◌, ◌++◌, length, map, flat_map, fold, Bool, true, false, Some, None, option_and_then, Ok, Ordering, Less, Equal, Greater, refl, sym, ap, ap₂, subst, ◌∙◌, arith, append_assoc}
use Rattle.std.specs.Prelude.{codes, slice_get}
use Rattle.std.specs.Result.{result_ok}
use Rattle.std.specs.List.{list_all, list_any}
use Rattle.std.specs.Ordering.{match_ordering, ordering_reverse, is_lt}
use Rattle.std.specs.Str.{IsUtf8, bytes_eq}
use Rattle.std.specs.FinMap.{get}
use Rattle.std.proofs.lemmas.Bool.{or_parts}
use Rattle.std.proofs.lemmas.Slice.Eq.{bytes_eq-Decides}
use Rattle.sha1.specs.Sha1.{sha1}
use Rattle.fluid_tree.specs.Identity.{id_within, entries_within}
use Rattle.fluid_tree.specs.Laws.{AreWhole, IsReadBack}
use Rattle.fluid_tree.specs.Names.{is_bad, first_refused}
use Rattle.fluid_tree.specs.Object.{sort_key, placed, in_order, entry_bytes, with_header, tree_bytes, object_bytes}
use Rattle.fluid_tree.specs.Reading.{is_behind, fits_behind, object_read}
use Rattle.fluid_tree.specs.Summary.{Summary, blob, tree, handle, Children, no_children, child, names}
use Rattle.fluid_tree.specs.declared.object.Object.{Object}
use Rattle.fluid_tree.specs.declared.object.Object.TheVariants.{Blob, Tree}
use Rattle.fluid_tree.specs.declared.object.ObjectEntry.{ObjectEntry}
use Rattle.fluid_store.specs.Held.{byte_order, Held}
use Rattle.fluid_store.specs.Keeping.{Holds}
use Rattle.fluid_store.specs.Laws.{IsReadable, AllReadable}
use Rattle.fluid_store.specs.Listed.{own_bytes, own_entries, in_key_order, joined, objects, keyed}
use Rattle.fluid_store.specs.Standing.{object_at}
use Rattle.fluid_store.specs.Complete.{is_whole, is_complete}
use Rattle.fluid_store.proofs.Maps.{byte_order_total, byte_order-IsAntisymmetric}
use Rattle.fluid_store.proofs.Distinct.{EachHolds, all_below, both_hold, unrefused, names_apart}
use Rattle.fluid_store.proofs.Looked.{complete_more, blob_complete}
use Rattle.fluid_store.proofs.Sized.{Each, each_last, id_size, body_size}
use Rattle.fluid_store.proofs.Stood.{tree_within, no_tree, entry_within, own_of_tree, own_of_child, none_own, own_of_blob, no_handle, objects_of_blob, objects_of_tree, keyed_child, id_is}

-- ---- lists of which each element has a property

pub each_then : (P Q : ObjectEntry → Type 0) → ((e : ObjectEntry) → P e → Q e) → (es : List ObjectEntry) → Each P es → Each Q es
each_then P Q f [] h = tt
each_then P Q f (e ∷ es) h = (f e h.0, each_then P Q f es h.1)

pub each_placed : (P : ObjectEntry → Type 0) (e : ObjectEntry) (es : List ObjectEntry) → P e → Each P es → Each P (placed e es)
each_placed P e [] p h = (p, tt)
each_placed P e (f ∷ fs) p h = by_order (byte_order (sort_key e.tree e.name) (sort_key f.tree f.name)) (each_placed P e fs p h.1)
  where
    by_order : (o : Ordering) → Each P (placed e fs) → Each P (match_ordering o (e ∷ f ∷ fs) (e ∷ fs) (f ∷ placed e fs))
    by_order Less more = (p, h)
    by_order Equal more = (p, h.1)
    by_order Greater more = (h.0, more)

pub each_in_order : (P : ObjectEntry → Type 0) (acc es : List ObjectEntry) → Each P acc → Each P es → Each P (fold (λ sorted e. placed e sorted) acc es)
each_in_order P acc [] a h = a
each_in_order P acc (e ∷ es) a h = each_in_order P (placed e acc) es (each_placed P e acc h.0 a) h.1

-- ---- entries in the order of their keys, no two of one name

abbrev pub key : ObjectEntry → List ℕ
key e = sort_key e.tree e.name

abbrev pub IsBefore : ObjectEntry → ObjectEntry → Type 0
IsBefore e f = (byte_order (key e) (key f) ≡ Less) × (e.name ≢ f.name)

abbrev pub IsApart : ObjectEntry → ObjectEntry → Type 0
IsApart e f = e.name ≢ f.name

abbrev pub AreApart : List ObjectEntry → Type 0
AreApart [] = Unit {0}
AreApart (e ∷ es) = Each (IsApart e) es × AreApart es

abbrev pub AreRising : List ObjectEntry → Type 0
AreRising [] = Unit {0}
AreRising (e ∷ es) = Each (IsBefore e) es × AreRising es

before_all : (e f : ObjectEntry) (fs : List ObjectEntry) → byte_order (key e) (key f) ≡ Less → Each (IsApart e) fs → Each (IsBefore f) fs → Each (IsBefore e) fs
before_all e f [] less apart h = tt
before_all e f (g ∷ gs) less apart h = ((byte_order_total.trans (key e) (key f) (key g) less h.0.0, apart.0), before_all e f gs less apart.1 h.1)

same_key_before : (e f : ObjectEntry) (fs : List ObjectEntry) → key e ≡ key f → Each (IsApart e) fs → Each (IsBefore f) fs → Each (IsBefore e) fs
same_key_before e f [] same apart h = tt
same_key_before e f (g ∷ gs) same apart h = ((ap (λ k. byte_order k (key g)) same ∙ h.0.0, apart.0), same_key_before e f gs same apart.1 h.1)

flipped : (e f : ObjectEntry) → byte_order (key e) (key f) ≡ Greater → byte_order (key f) (key e) ≡ Less
flipped e f h = byte_order_total.antisymm (key f) (key e) ∙ ap ordering_reverse h

rising_placed : (e : ObjectEntry) (es : List ObjectEntry) → Each (IsApart e) es → AreRising es → AreRising (placed e es)
rising_placed e [] apart h = (tt, tt)
rising_placed e (f ∷ fs) apart h = by_order (byte_order (key e) (key f)) refl (rising_placed e fs apart.1 h.1)
  where
    by_order : (o : Ordering) → byte_order (key e) (key f) ≡ o → AreRising (placed e fs) → AreRising (match_ordering o (e ∷ f ∷ fs) (e ∷ fs) (f ∷ placed e fs))
    by_order Less is more = (((is, apart.0), before_all e f fs is apart.1 h.0), h)
    by_order Equal is more = (same_key_before e f fs (byte_order-IsAntisymmetric (key e) (key f) is) apart.1 h.0, h.1)
    by_order Greater is more = (each_placed (IsBefore f) e fs (flipped e f is, λ same. apart.0 (sym same)) h.0, more)

-- each of these is apart from all of those
abbrev pub AreAway : List ObjectEntry → List ObjectEntry → Type 0
AreAway acc = Each (λ e. Each (IsApart e) acc)

away_placed : (e : ObjectEntry) (acc es : List ObjectEntry) → Each (IsApart e) es → AreAway acc es → AreAway (placed e acc) es
away_placed e acc [] apart h = tt
away_placed e acc (g ∷ gs) apart h = (each_placed (IsApart g) e acc (λ same. apart.0 (sym same)) h.0, away_placed e acc gs apart.1 h.1)

pub rising_in_order : (acc es : List ObjectEntry) → AreRising acc → AreApart es → AreAway acc es → AreRising (fold (λ sorted e. placed e sorted) acc es)
rising_in_order acc [] a h away = a
rising_in_order acc (e ∷ es) a h away = rising_in_order (placed e acc) es (rising_placed e acc away.0 a) h.1 (away_placed e acc es h.0 away.1)

-- all of these stand before each of those
abbrev AreAfter : List ObjectEntry → List ObjectEntry → Type 0
AreAfter acc = Each (λ e. Each (λ f. IsBefore f e) acc)

after_more : (acc : List ObjectEntry) (e : ObjectEntry) (es : List ObjectEntry) → Each (IsBefore e) es → AreAfter acc es → AreAfter (acc ++ e ∷ []) es
after_more acc e [] h a = tt
after_more acc e (g ∷ gs) h a = (each_last (λ f. IsBefore f g) acc e a.0 h.0, after_more acc e gs h.1 a.1)

placed_last : (acc : List ObjectEntry) (e : ObjectEntry) → Each (λ f. IsBefore f e) acc → placed e acc ≡ acc ++ e ∷ []
placed_last [] e h = refl
placed_last (f ∷ fs) e h =
    let above : byte_order (key e) (key f) ≡ Greater = byte_order_total.antisymm (key e) (key f) ∙ ap ordering_reverse h.0.0 in
    rw above (ap (λ l. f ∷ l) (placed_last fs e h.1))

in_order_same : (acc es : List ObjectEntry) → AreRising es → AreAfter acc es → fold (λ sorted e. placed e sorted) acc es ≡ acc ++ es
in_order_same acc [] h a = sym (append_none acc)
  where
    append_none : (l : List ObjectEntry) → l ++ [] ≡ l
    append_none [] = refl
    append_none (x ∷ xs) = ap (λ m. x ∷ m) (append_none xs)
in_order_same acc (e ∷ es) h a =
    ap (λ l. fold (λ sorted f. placed f sorted) l es) (placed_last acc e a.0) ∙ in_order_same (acc ++ e ∷ []) es h.1 (after_more acc e es h.0 a.1) ∙ append_assoc acc (e ∷ []) es

after_none : (es : List ObjectEntry) → AreAfter [] es
after_none [] = tt
after_none (e ∷ es) = (tt, after_none es)

pub away_none : (es : List ObjectEntry) → AreAway [] es
away_none [] = tt
away_none (e ∷ es) = (tt, away_none es)

-- ---- such entries are those of an object

abbrev pub IsFit : ObjectEntry → Type 0
IsFit e = (is_bad e.name ≡ false) × (IsUtf8 e.name × (length e.id ≡ 20))

unequal : (n m : List ℕ) → n ≢ m → bytes_eq n m ≡ false
unequal n m differ = by_test (bytes_eq n m) refl
  where
    by_test : (b : Bool) → bytes_eq n m ≡ b → b ≡ false
    by_test true h = absurd (differ ((bytes_eq-Decides n m).0 h))
    by_test false h = refl

none_same : (acc : List ObjectEntry) (e : ObjectEntry) → Each (λ f. IsBefore f e) acc → list_any (λ one. bytes_eq one e.name) (map (λ f. f.name) acc) ≡ false
none_same [] e h = refl
none_same (f ∷ fs) e h = ap₂ (λ a b. a || b) (unequal f.name e.name h.0.1) (none_same fs e h.1)

last_before : (acc : List ObjectEntry) (e : ObjectEntry) → Each (λ f. IsBefore f e) acc → is_behind (slice_get acc (length acc - 1)) e ≡ true
last_before [] e h = refl
last_before (f ∷ []) e h = let one : length (f ∷ []) - 1 ≡ 0 = omega arith in ap (λ i. is_behind (slice_get (f ∷ []) i) e) one ∙ ap is_lt h.0.0
last_before (f ∷ g ∷ gs) e h =
    let far : length (f ∷ g ∷ gs) - 1 ≡ suc (length gs) = omega arith in
    let near : length (g ∷ gs) - 1 ≡ length gs = omega arith in
    ap (λ i. is_behind (slice_get (f ∷ g ∷ gs) i) e) far ∙ ap (λ i. is_behind (slice_get (g ∷ gs) i) e) (sym near) ∙ last_before (g ∷ gs) e h.1

fits : (acc : List ObjectEntry) (e : ObjectEntry) → is_bad e.name ≡ false → Each (λ f. IsBefore f e) acc → fits_behind acc e ≡ true
fits acc e good h = ap₂ (λ a b. not a && b) (ap₂ (λ a b. a || b) good (none_same acc e h)) (last_before acc e h)

are_whole : (acc es : List ObjectEntry) → AreRising es → AreAfter acc es → Each IsFit es → AreWhole acc es
are_whole acc [] h a fit = tt
are_whole acc (e ∷ es) h a fit = (fits acc e fit.0.0 a.0, (fit.0.1, are_whole (acc ++ e ∷ []) es h.1 (after_more acc e es h.0 a.1) fit.1))

-- ---- the objects of a tree

blob_read : IsReadBack → (content : List ℕ) → length (object_bytes (Blob content)) < 2 ^ 53 → object_read (object_bytes (Blob content)) ≡ Ok (Blob content)
unfolding object_bytes
blob_read back content small = back (Blob content) (omega (arith, small, body_size (codes "blob") content))

-- the entries of a tree are read in their order, where its body is short enough
pub body_read : IsReadBack → (es : List ObjectEntry) → AreApart es → Each IsFit es → length (flat_map entry_bytes (in_order es)) < 2 ^ 53 → object_read (tree_bytes es) ≡ Ok (Tree (in_order es))
unfolding object_bytes tree_bytes
body_read back es apart fit small =
    let sorted = in_order es in
    let rising : AreRising sorted = rising_in_order [] es tt apart (away_none es) in
    let again : in_order sorted ≡ sorted = in_order_same [] sorted rising (after_none sorted) in
    let whole = are_whole [] sorted rising (after_none sorted) (each_in_order IsFit [] es tt fit) in
    ap (λ l. object_read (with_header (codes "tree") (flat_map entry_bytes l))) (sym again)
    ∙ back (Tree sorted) (whole, small)

tree_read : IsReadBack → (es : List ObjectEntry) → AreApart es → Each IsFit es → length (tree_bytes es) < 2 ^ 53 → object_read (tree_bytes es) ≡ Ok (Tree (in_order es))
unfolding tree_bytes
tree_read back es apart fit small = body_read back es apart fit (omega (arith, small, body_size (codes "tree") (flat_map entry_bytes (in_order es))))

-- ---- the entries of a tree's nodes

has_none : (n : List ℕ) (before : List (List ℕ)) (cs : Children) → ((m : List ℕ) → list_any (λ one. bytes_eq one m) before ≡ false → bytes_eq n m ≡ false) → first_refused before (names cs) ≡ None
    → Each (λ f. n ≢ f.name) (own_entries cs)
has_none n before no_children known h = subst (Each (λ f. n ≢ f.name)) (sym none_own) tt
has_none n before (child m s cs) known h =
    let here = unrefused before m (names cs) h in
    let parts = or_parts (is_bad m) _ here.0 in
    subst (Each (λ f. n ≢ f.name)) (sym (own_of_child m s cs))
    (names_apart n m (known m parts.1), has_none n (m ∷ before) cs (λ k none. known k (or_parts (bytes_eq m k) _ none).1) here.1)

own_apart : (before : List (List ℕ)) (cs : Children) → first_refused before (names cs) ≡ None → AreApart (own_entries cs)
own_apart before no_children h = subst AreApart (sym none_own) tt
own_apart before (child m s cs) h =
    let here = unrefused before m (names cs) h in
    subst AreApart (sym (own_of_child m s cs)) (has_none m (m ∷ before) cs (λ k none. (or_parts (bytes_eq m k) _ none).0) here.1, own_apart (m ∷ before) cs here.1)

own_fit : (before : List (List ℕ)) (cs : Children) → first_refused before (names cs) ≡ None → AllReadable cs → Each IsFit (own_entries cs)
own_fit before no_children h readable = subst (Each IsFit) (sym none_own) tt
own_fit before (child m s cs) h readable =
    let here = unrefused before m (names cs) h in
    let parts = or_parts (is_bad m) _ here.0 in
    subst (Each IsFit) (sym (own_of_child m s cs)) ((parts.0, (readable.0, id_size (own_bytes s))), own_fit (m ∷ before) cs here.1 readable.1.1)

-- ---- complete

at_read : (held : Held) (id bytes : List ℕ) (o : Object) → get held id ≡ Some bytes → object_read bytes ≡ Ok o → object_at held id ≡ Some o
at_read held id bytes o here read = ap (option_and_then (λ b. result_ok (object_read b))) here ∙ ap result_ok read

all_true : (p : ObjectEntry → Bool) (es : List ObjectEntry) → Each (λ e. p e ≡ true) es → list_all p es ≡ true
all_true p [] h = refl
all_true p (e ∷ es) h = ap₂ (λ a b. a && b) h.0 (all_true p es h.1)

module _ (back : IsReadBack) (held : Held) where
  blob_held : (n : ℕ) (content : List ℕ) → Holds held (objects (blob content)) → IsReadable (blob content) → is_complete held n (sha1 (own_bytes (blob content))) ≡ true
  blob_held n content holds readable =
      let own = own_of_blob content in
      let here = (subst (Holds held) (objects_of_blob content) holds).0 in
      let read = blob_read back content (subst (λ b. length b < 2 ^ 53) own readable) in
      ap (λ b. is_complete held n (sha1 b)) own ∙ blob_is (at_read held (sha1 (object_bytes (Blob content))) (object_bytes (Blob content)) (Blob content) here read)
    where
      all_of_none : (k : ℕ) (id : List ℕ) → object_at held id ≡ Some (Blob content) → is_complete held k id ≡ true
      all_of_none zero id h = blob_complete held zero id content h
      all_of_none (suc k) id h = blob_complete held (suc k) id content h

      blob_is : object_at held (sha1 (object_bytes (Blob content))) ≡ Some (Blob content) → is_complete held n (sha1 (object_bytes (Blob content))) ≡ true
      blob_is h = all_of_none n (sha1 (object_bytes (Blob content))) h

  abbrev AreComplete : ℕ → List ObjectEntry → Type 0
  AreComplete n = Each (λ e. is_complete held n e.id ≡ true)

  tree_is : (n : ℕ) (cs : Children) → first_refused [] (names cs) ≡ None → get held (sha1 (own_bytes (tree cs))) ≡ Some (own_bytes (tree cs)) → IsReadable (tree cs) → AreComplete n (own_entries cs)
      → is_complete held (suc n) (sha1 (own_bytes (tree cs))) ≡ true
  tree_is n cs good here readable all =
      let es = own_entries cs in
      let id = sha1 (own_bytes (tree cs)) in
      let own = own_of_tree cs in
      let read = tree_read back es (own_apart [] cs good) (own_fit [] cs good readable.1) (subst (λ b. length b < 2 ^ 53) own readable.0) in
      let at = at_read held id (tree_bytes es) (Tree (in_order es)) (here ∙ ap Some own) read in
      complete_more held n id ∙ ap (is_whole (is_complete held n)) at ∙ all_true (λ e. is_complete held n e.id) (in_order es) (each_in_order (λ e. is_complete held n e.id ≡ true) [] es tt all)

  mutual
    held_complete : (n : ℕ) (s : Summary) (i : List ℕ) → id_within n s ≡ Ok i → Holds held (objects s) → IsReadable s → is_complete held n (sha1 (own_bytes s)) ≡ true
    held_complete n (blob content) i h holds readable = blob_held n content holds readable
    held_complete n (handle path) i h holds readable = absurd (no_handle n path i h)
    held_complete zero (tree cs) i h holds readable = absurd (no_tree cs i h)
    held_complete (suc n) (tree cs) i h holds readable =
        let w = tree_within n cs i h in
        let parts = both_hold held (joined (in_key_order (keyed cs))) _ (subst (Holds held) (objects_of_tree cs) holds) in
        tree_is n cs w.0 parts.1.0 readable (all_held n cs w.1.0 w.1.1.0 (all_below held cs w.0 parts.0) readable.1)

    all_held : (n : ℕ) (cs : Children) (es : List ObjectEntry) → entries_within n cs ≡ Ok es → EachHolds held (keyed cs) → AllReadable cs → AreComplete n (own_entries cs)
    all_held n no_children es h each readable = subst (AreComplete n) (sym none_own) tt
    all_held n (child m s cs) es h each readable =
        let w = entry_within n m s cs es h in
        let parts = subst (EachHolds held) (keyed_child m s cs) each in
        subst (AreComplete n) (sym (own_of_child m s cs)) (held_complete n s w.0 w.1.0 parts.0 readable.1.0, all_held n cs w.1.1.0 w.1.1.1.0 parts.1 readable.1.1)

  pub complete_under : (node : Summary) (id : List ℕ) → id_within 32 node ≡ Ok id → Holds held (objects node) → IsReadable node → is_complete held 32 id ≡ true
  complete_under node id h holds readable = ap (is_complete held 32) (id_is 32 node id h) ∙ held_complete 32 node id h holds readable
