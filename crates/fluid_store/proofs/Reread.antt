-- What stands is read as it was put, but that the entries of a tree are read in their order.
use Rattle.std.proofs.Common.{◌≡◌, ◌≢◌, ◌⊎◌, inl, inr, ℕ, List, [], ◌∷◌, flat_map, fold, true, false, Some, None, option_and_then, Result, Ok, Err, Ordering, Less, Equal, Greater, refl, sym, ap, subst, ◌∙◌}
use Rattle.std.specs.List.{list_any}
use Rattle.std.specs.Ordering.{match_ordering}
use Rattle.std.specs.Result.{result_ok}
use Rattle.std.specs.Str.{IsUtf8, bytes_eq}
use Rattle.std.specs.FinMap.{get}
use Rattle.std.proofs.lemmas.Bool.{or_parts}
use Rattle.fluid_tree.specs.Laws.{IsReadBack}
use Rattle.fluid_tree.specs.Names.{is_bad, first_refused}
use Rattle.fluid_tree.specs.Object.{entry_bytes, with_header, tree_bytes, object_bytes, placed, in_order}
use Rattle.fluid_tree.specs.Reading.{object_read}
use Rattle.fluid_tree.specs.Summary.{Children, no_children, child, names}
use Rattle.fluid_tree.specs.declared.fault.TreeFault.{TreeFault}
use Rattle.fluid_tree.specs.declared.object.Object.{Object}
use Rattle.fluid_tree.specs.declared.object.Object.TheVariants.{Blob, Tree}
use Rattle.fluid_tree.specs.declared.object.ObjectEntry.{ObjectEntry}
use Rattle.fluid_store.specs.Held.{byte_order, Held}
use Rattle.fluid_store.specs.Standing.{AllStand, object_at}
use Rattle.fluid_store.proofs.Distinct.{keys_apart, plain_name, names_apart, unrefused}
use Rattle.fluid_store.proofs.Maps.{byte_order-IsAntisymmetric}
use Rattle.fluid_store.proofs.Sized.{Each, short_read}
use Rattle.fluid_store.proofs.Whole.{each_then, each_placed, key, IsBefore, IsApart, AreApart, AreRising, rising_in_order, away_none as none_away, IsFit, body_read}

-- ---- the bytes that are held

ok_of : (r : Result Object TreeFault) (o : Object) → result_ok r ≡ Some o → r ≡ Ok o
ok_of (Ok p) o h = let is : p ≡ o = cc in ap Ok is
ok_of (Err fault) o h = cc

read_of : (held : Held) (id bytes : List ℕ) (o : Object) → get held id ≡ Some bytes → object_at held id ≡ Some o → object_read bytes ≡ Ok o
read_of held id bytes o here at = ok_of (object_read bytes) o (sym (ap (option_and_then (λ b. result_ok (object_read b))) here) ∙ at)

same_object : (r : Result Object TreeFault) (o p : Object) → r ≡ Ok o → r ≡ Ok p → o ≡ p
same_object r o p h k = let both : ◌≡◌ {A = Result Object TreeFault} (Ok o) (Ok p) = sym h ∙ k in cc

blob_is : IsReadBack → (content : List ℕ) (o : Object) → object_read (object_bytes (Blob content)) ≡ Ok o → o ≡ Blob content
unfolding object_bytes with_header
blob_is back content o h = same_object (object_read (object_bytes (Blob content))) o (Blob content) h (back (Blob content) (short_read false content o h))

tree_is : IsReadBack → (es : List ObjectEntry) (o : Object) → AreApart es → Each IsFit es → object_read (tree_bytes es) ≡ Ok o → o ≡ Tree (in_order es)
unfolding tree_bytes with_header
tree_is back es o apart fit h = same_object (object_read (tree_bytes es)) o (Tree (in_order es)) h (body_read back es apart fit (short_read true (flat_map entry_bytes (in_order es)) o h))

-- an object that is read where a blob's is held is that of the blob
pub reread_blob : IsReadBack → (held : Held) (id content : List ℕ) (o : Object) → get held id ≡ Some (object_bytes (Blob content)) → object_at held id ≡ Some o → o ≡ Blob content
reread_blob back held id content o here at = blob_is back content o (read_of held id (object_bytes (Blob content)) o here at)

-- and where a tree's is held, that of the tree, with its entries in their order
pub reread_tree : IsReadBack → (held : Held) (id : List ℕ) (es : List ObjectEntry) (o : Object) → AreApart es → Each IsFit es → get held id ≡ Some (tree_bytes es) → object_at held id ≡ Some o
    → o ≡ Tree (in_order es)
reread_tree back held id es o apart fit here at = tree_is back es o apart fit (read_of held id (tree_bytes es) o here at)

-- ---- the entries of a tree that stands

abbrev pub AllUtf8 : List (List ℕ) → Type 0
AllUtf8 [] = Unit {0}
AllUtf8 (n ∷ ns) = IsUtf8 n × AllUtf8 ns

has_none : (n : List ℕ) (before : List (List ℕ)) (held : Held) (es : List ObjectEntry) (cs : Children) → AllStand held es cs
    → ((m : List ℕ) → list_any (λ one. bytes_eq one m) before ≡ false → bytes_eq n m ≡ false) → first_refused before (names cs) ≡ None → Each (λ f. n ≢ f.name) es
has_none n before held [] no_children stand known h = tt
has_none n before held [] (child m s cs) stand known h = absurd stand
has_none n before held (e ∷ es) no_children stand known h = absurd stand
has_none n before held (e ∷ es) (child m s cs) stand known h =
    let here = unrefused before m (names cs) h in
    let parts = or_parts (is_bad m) _ here.0 in (
      λ same. names_apart n m (known m parts.1) (same ∙ stand.0),
      has_none n (m ∷ before) held es cs stand.1.1.1.1 (λ k none. known k (or_parts (bytes_eq m k) _ none).1) here.1,
    )

entries_apart : (before : List (List ℕ)) (held : Held) (es : List ObjectEntry) (cs : Children) → AllStand held es cs → first_refused before (names cs) ≡ None → AreApart es
entries_apart before held [] no_children stand h = tt
entries_apart before held [] (child m s cs) stand h = absurd stand
entries_apart before held (e ∷ es) no_children stand h = absurd stand
entries_apart before held (e ∷ es) (child m s cs) stand h =
    let here = unrefused before m (names cs) h in (
      subst (λ n. Each (λ f. n ≢ f.name) es) (sym stand.0) (has_none m (m ∷ before) held es cs stand.1.1.1.1 (λ k none. (or_parts (bytes_eq m k) _ none).0) here.1),
      entries_apart (m ∷ before) held es cs stand.1.1.1.1 here.1,
    )

entries_fit : (before : List (List ℕ)) (held : Held) (es : List ObjectEntry) (cs : Children) → AllStand held es cs → first_refused before (names cs) ≡ None → AllUtf8 (names cs) → Each IsFit es
entries_fit before held [] no_children stand h utf8 = tt
entries_fit before held [] (child m s cs) stand h utf8 = absurd stand
entries_fit before held (e ∷ es) no_children stand h utf8 = absurd stand
entries_fit before held (e ∷ es) (child m s cs) stand h utf8 =
    let here = unrefused before m (names cs) h in
    let parts = or_parts (is_bad m) _ here.0 in (
      (ap is_bad stand.0 ∙ parts.0, (subst IsUtf8 (sym stand.0) utf8.0, stand.1.1.0)),
      entries_fit (m ∷ before) held es cs stand.1.1.1.1 here.1 utf8.1,
    )

pub record AreFit (es : List ObjectEntry) : Type 0 where
  pub apart : AreApart es
  pub fit : Each IsFit es

-- those of nodes with such names
pub standing_fit : (held : Held) (es : List ObjectEntry) (cs : Children) → AllStand held es cs → first_refused [] (names cs) ≡ None → AllUtf8 (names cs) → AreFit es
standing_fit held es cs stand h utf8 = record { apart = entries_apart [] held es cs stand h; fit = entries_fit [] held es cs stand h utf8 }

-- ---- none is lost in their order

abbrev pub Has : (ObjectEntry → Type 0) → List ObjectEntry → Type 0
Has P [] = ⊥
Has P (e ∷ es) = P e ⊎ Has P es

abbrev IsElsewhere : ObjectEntry → ObjectEntry → Type 0
IsElsewhere e f = key e ≢ key f

abbrev AreElsewhere : List ObjectEntry → Type 0
AreElsewhere [] = Unit {0}
AreElsewhere (e ∷ es) = Each (IsElsewhere e) es × AreElsewhere es

abbrev AreAway : List ObjectEntry → List ObjectEntry → Type 0
AreAway acc = Each (λ e. Each (IsElsewhere e) acc)

elsewhere : (e f : ObjectEntry) → IsFit e → IsFit f → IsApart e f → IsElsewhere e f
elsewhere e f fit other apart = keys_apart e.tree f.tree e.name f.name (plain_name e.name fit.0) (plain_name f.name other.0) apart

all_elsewhere : (e : ObjectEntry) (es : List ObjectEntry) → IsFit e → Each IsFit es → Each (IsApart e) es → Each (IsElsewhere e) es
all_elsewhere e [] fit others apart = tt
all_elsewhere e (f ∷ fs) fit others apart = (elsewhere e f fit others.0 apart.0, all_elsewhere e fs fit others.1 apart.1)

are_elsewhere : (es : List ObjectEntry) → Each IsFit es → AreApart es → AreElsewhere es
are_elsewhere [] fit apart = tt
are_elsewhere (e ∷ es) fit apart = (all_elsewhere e es fit.0 fit.1 apart.0, are_elsewhere es fit.1 apart.1)

has_placed : (P : ObjectEntry → Type 0) (e : ObjectEntry) (fs : List ObjectEntry) → Each (IsElsewhere e) fs → P e ⊎ Has P fs → Has P (placed e fs)
has_placed P e [] away h = h
has_placed P e (f ∷ fs) away h = by_order (has_placed P e fs away.1) (byte_order (key e) (key f)) refl h
  where
    later : P e ⊎ (P f ⊎ Has P fs) → (P e ⊎ Has P fs → Has P (placed e fs)) → P f ⊎ Has P (placed e fs)
    later (inl p) again = inr (again (inl p))
    later (inr (inl q)) again = inl q
    later (inr (inr r)) again = inr (again (inr r))

    by_order : (P e ⊎ Has P fs → Has P (placed e fs)) → (o : Ordering) → byte_order (key e) (key f) ≡ o → P e ⊎ (P f ⊎ Has P fs) → Has P (match_ordering o (e ∷ f ∷ fs) (e ∷ fs) (f ∷ placed e fs))
    by_order more Less is k = k
    by_order more Equal is k = absurd (away.0 (byte_order-IsAntisymmetric (key e) (key f) is))
    by_order more Greater is k = later k more

away_placed : (e : ObjectEntry) (acc es : List ObjectEntry) → Each (IsElsewhere e) es → AreAway acc es → AreAway (placed e acc) es
away_placed e acc [] apart h = tt
away_placed e acc (g ∷ gs) apart h = (each_placed (IsElsewhere g) e acc (λ same. apart.0 (sym same)) h.0, away_placed e acc gs apart.1 h.1)

has_all : (P : ObjectEntry → Type 0) (acc es : List ObjectEntry) → AreElsewhere es → AreAway acc es → Has P acc ⊎ Has P es → Has P (fold (λ sorted e. placed e sorted) acc es)
has_all P acc [] apart away (inl h) = h
has_all P acc [] apart away (inr h) = absurd h
has_all P acc (e ∷ es) apart away (inl h) = has_all P (placed e acc) es apart.1 (away_placed e acc es apart.0 away.1) (inl (has_placed P e acc away.0 (inr h)))
has_all P acc (e ∷ es) apart away (inr (inl p)) = has_all P (placed e acc) es apart.1 (away_placed e acc es apart.0 away.1) (inl (has_placed P e acc away.0 (inl p)))
has_all P acc (e ∷ es) apart away (inr (inr h)) = has_all P (placed e acc) es apart.1 (away_placed e acc es apart.0 away.1) (inr h)

away_none : (es : List ObjectEntry) → AreAway [] es
away_none [] = tt
away_none (e ∷ es) = (tt, away_none es)

-- what one of the entries is, one of them is in their order
pub has_in_order : (P : ObjectEntry → Type 0) (es : List ObjectEntry) → AreFit es → Has P es → Has P (in_order es)
has_in_order P es are h = has_all P [] es (are_elsewhere es are.fit are.apart) (away_none es) (inr h)

rising_apart : (es : List ObjectEntry) → AreRising es → AreApart es
rising_apart [] h = tt
rising_apart (e ∷ es) h = (each_then (IsBefore e) (IsApart e) (λ f before. before.1) es h.0, rising_apart es h.1)

-- no two of them have one name in their order
pub apart_in_order : (es : List ObjectEntry) → AreFit es → AreApart (in_order es)
apart_in_order es are = rising_apart (in_order es) (rising_in_order [] es tt are.apart (none_away es))
