-- Sorted entries are an object's members, and the other way round; what is printed for them is read back.
use Rattle.std.proofs.Common.{◌≡◌, ℕ, zero, suc, ◌<◌, ◌≤◌, ◌⊎◌, inl, inr, Bool, true, false, not, ◌&&◌, T, List, [], ◌∷◌, ◌++◌, length, get_or, map, take, if◌then◌else◌, Some, None, Result, Ok, Err, is_ok, All, bytes_eq, IsUtf8, refl, sym, ap, subst, ◌∙◌, arith}
use Rattle.std.specs.Ordering.{is_lt}
use Rattle.std.proofs.Math.Seq.{take-suc}
use Rattle.std.specs.FinMap.{empty, entries, insert, values, from_sorted, entries_sorted, entries-from_sorted, same_entries_map}
use Rattle.std.specs.FinMap.Entries.{put, below_all, is_sorted}
use Rattle.std.proofs.lemmas.Slice.Eq.{bytes_eq-Decides}
use Rattle.std.proofs.lemmas.Str.{is_utf8-from_IsUtf8, IsUtf8-from_is_utf8}
use Rattle.std.proofs.lemmas.Bool.{false≢true}
use Rattle.std.proofs.lemmas.Option.{none-some, same_Some}
use Rattle.std.specs.Str.{is_utf8}
use Rattle.std.specs.Result.{result_ok}
use Rattle.fluid_json.specs.Tree.{Tree, null, boolean, whole, text, list, object, as_members, Members, no_members, member, members, depth, members_depth, IsCanonical, HasCanonical, IsBelowAll, AreAscending}
use Rattle.fluid_json.specs.Printed.{printed}
use Rattle.fluid_json.specs.Spelled as json
use Rattle.fluid_json.specs.Laws.{IsReadBack}
use Rattle.fluid_json.specs.declared.fault.JsonFault.{JsonFault}
use Rattle.fluid_json.specs.declared.fault.JsonFault.TheVariants.{NoMemory as json_no_memory}
use Rattle.fluid_json.specs.Unless.{IsUnless}
use Rattle.fluid_types.specs.declared.fault.BlobFault.{BlobFault}
use Rattle.fluid_types.specs.declared.fault.BlobFault.TheVariants.{NoMemory as no_memory}
use Rattle.fluid_table.specs.Table.{byte_order}
use Rattle.fluid_table.proofs.Ordered.{both, first, second, less}
use Rattle.fluid_table.proofs.Maps.{insert-from_sorted, from_sorted_nothing}
use Rattle.fluid_table.proofs.Places.{AreInOrder, is_true, byte_order_total}
use Rattle.fluid_map.specs.Replay.{Values, Shared}
use Rattle.fluid_map.specs.Content.{object_of, content, values_of, values_in, is_content, bad_content, answer}

abbrev pub Pairs : Type 0
Pairs = List (List ℕ × Tree)

-- ---- entries in order, and an object's members

below : (key : List ℕ) (es : Pairs) → T (below_all byte_order key es) → IsBelowAll key (members es)
below key [] h = tt
below key (e ∷ es) h = (less (byte_order key e.0) (first _ _ h), below key es (second _ _ h))

object_canonical : (es : Pairs) → T (is_sorted byte_order es) → All (λ pair. IsCanonical pair.1) es → HasCanonical (members es)
object_canonical [] h each = tt
object_canonical (e ∷ es) h each =
    (below e.0 es (first _ _ h), (each 0 e (omega arith), object_canonical es (second _ _ h) (λ k d lt. each (suc k) d (omega arith))))

below_is : (key : List ℕ) (es : Pairs) → IsBelowAll key (members es) → T (below_all byte_order key es)
below_is key [] h = tt
below_is key (e ∷ es) h = both _ _ (subst (λ r. T (is_lt r)) (sym h.0) tt) (below_is key es h.1)

in_order : (es : Pairs) → HasCanonical (members es) → T (is_sorted byte_order es)
in_order [] h = tt
in_order (e ∷ es) h = both _ _ (below_is e.0 es h.0) (in_order es h.1.1)

pub canonical_in_order : (es : Pairs) → HasCanonical (members es) → AreInOrder es
canonical_in_order es h = is_true _ (in_order es h)

pub no_entries : entries (empty {X = Tree} {R = byte_order}) ≡ []
no_entries = ap entries (sym (from_sorted_nothing byte_order)) ∙ entries-from_sorted byte_order [] tt

values_of-entries : (m : Values) → from_sorted (entries m) ≡ m
values_of-entries m = same_entries_map _ _ (entries-from_sorted byte_order (entries m) (entries_sorted m))

-- a key below all others is put first
put_first : (k : List ℕ) (v : Tree) (es : Pairs) → T (below_all byte_order k es) → put byte_order k v es ≡ (k, v) ∷ es
put_first k v [] h = refl
put_first k v (e ∷ es) h = rw (less (byte_order k e.0) (first _ _ h)) refl

-- the values of an object whose keys stand in order
pub values_of-members : (es : Pairs) → T (is_sorted byte_order es) → values_of (members es) ≡ from_sorted es
values_of-members [] h = sym (from_sorted_nothing byte_order)
values_of-members (e ∷ es) h =
    ap (λ m. insert m e.0 e.1) (values_of-members es (second _ _ h))
    ∙ insert-from_sorted byte_order_total es (second _ _ h) e.0 e.1
    ∙ ap from_sorted (put_first e.0 e.1 es (first _ _ h))

abbrev pairs_of : Members → Pairs
pairs_of no_members = []
pairs_of (member key value ms) = (key, value) ∷ pairs_of ms

members-pairs_of : (ms : Members) → members (pairs_of ms) ≡ ms
members-pairs_of no_members = refl
members-pairs_of (member key value ms) = ap (member key value) (members-pairs_of ms)

-- the object of an object's values is that object
object_of-values_of : (ms : Members) → HasCanonical ms → object_of (values_of ms) ≡ object ms
object_of-values_of ms h =
    let same = members-pairs_of ms in
    let sorted = in_order (pairs_of ms) (subst HasCanonical (sym same) h) in
    ap (λ m. object_of (values_of m)) (sym same)
    ∙ ap object_of (values_of-members (pairs_of ms) sorted)
    ∙ ap (λ es. object (members es)) (entries-from_sorted byte_order (pairs_of ms) sorted) ∙ ap object same

shallow : (es : Pairs) → All (λ value. depth value ≤ 99) (map (λ e. e.1) es) → members_depth (members es) ≤ 99
shallow [] h = omega arith
shallow (e ∷ es) h = omega (arith, h 0 e.1 (omega arith), shallow es (λ k d lt. h (suc k) d (omega arith)))

pub each_pair : (es : Pairs) → All IsCanonical (map (λ e. e.1) es) → All (λ pair. IsCanonical pair.1) es
each_pair [] h = λ k d lt. absurd (omega arith)
each_pair (e ∷ es) h = each_of e es (h 0 e.1 (omega arith)) (each_pair es (λ k d lt. h (suc k) d (omega arith)))
  where
    each_of : (e : List ℕ × Tree) (es : Pairs) → IsCanonical e.1 → All (λ pair. IsCanonical pair.1) es → All (λ pair. IsCanonical pair.1) (e ∷ es)
    each_of e es own rest zero d lt = own
    each_of e es own rest (suc k) d lt = rest k d (omega arith)

-- ---- what is read

same_bytes : (s : List ℕ) → bytes_eq s s ≡ true
same_bytes s = (bytes_eq-Decides s s).1 refl

-- the values of a text that spells an object
values_read : (blob : List ℕ) (ms : Members) → json.answer blob ≡ Ok (object ms) → values_in blob ≡ values_of ms
values_read blob ms read = rw read refl

pub accepted : (blob : List ℕ) (m : Values) → IsUtf8 blob → values_in blob ≡ m → blob ≡ content m → answer blob ≡ Ok (record { acknowledged = m; pending = [] })
accepted blob m utf8 within is = rw (is_utf8-from_IsUtf8 blob utf8, within, ← is, same_bytes blob) refl

-- what is printed for a map is read back
pub reads_back : IsReadBack → (m : Values) → IsUtf8 (content m) → All (λ pair. IsCanonical pair.1) (entries m) → All (λ value. depth value ≤ 99) (values m) → answer (content m) ≡ Ok (record { acknowledged = m; pending = [] })
reads_back law m utf8 each deep =
    let canonical = object_canonical (entries m) (entries_sorted m) each in
    let read : json.answer (content m) ≡ Ok (object_of m) = law (object_of m) canonical (omega (arith, shallow (entries m) deep)) in
    accepted (content m) m utf8 (values_read (content m) (members (entries m)) read ∙ values_of-members (entries m) (entries_sorted m) ∙ values_of-entries m) refl

-- a text that was read as an object, and is what is printed for it
pub read_whole : (blob : List ℕ) (pairs : Pairs) → IsUtf8 blob → json.answer blob ≡ Ok (object (members pairs)) → blob ≡ printed (object (members pairs)) → HasCanonical (members pairs)
    → (answer blob ≡ Ok (record { acknowledged = from_sorted pairs; pending = [] })) × (blob ≡ content (from_sorted pairs))
read_whole blob pairs utf8 read is canonical =
    let same : content (from_sorted pairs) ≡ printed (object (members pairs)) = ap (λ es. printed (object (members es))) (entries-from_sorted byte_order pairs (in_order pairs canonical)) in
    (accepted blob (from_sorted pairs) utf8 (values_read blob (members pairs) read ∙ values_of-members pairs (in_order pairs canonical)) (is ∙ sym same), is ∙ sym same)

-- ---- what is refused

abbrev read_where : List ℕ → Bool → Result Shared BlobFault
read_where blob b = if b then Ok (record { acknowledged = values_in blob; pending = [] }) else Err bad_content

refused_where : (blob : List ℕ) → (is_content blob ≡ true → ⊥) → answer blob ≡ Err bad_content
refused_where blob never = refuse (is_content blob) refl
  where
    refuse : (b : Bool) → is_content blob ≡ b → read_where blob b ≡ Err bad_content
    refuse true is = absurd (never is)
    refuse false is = refl

is_true_both : (x y : Bool) → x && y ≡ true → (x ≡ true) × (y ≡ true)
is_true_both true y is = (refl, is)
is_true_both false y is = cc

text_of : (blob : List ℕ) → is_content blob ≡ true → IsUtf8 blob × (blob ≡ content (values_in blob))
text_of blob is =
    let parts = is_true_both (is_utf8 blob) (bytes_eq blob (content (values_in blob))) is in
    (IsUtf8-from_is_utf8 blob parts.0, (bytes_eq-Decides blob (content (values_in blob))).0 parts.1)

-- a text that is not UTF-8 is no map's
pub not_utf8 : (blob : List ℕ) → ¬ (IsUtf8 blob) → answer blob ≡ Err bad_content
not_utf8 blob never = refused_where blob (λ is. never (text_of blob is).0)

-- a text in which no object is found would be that of no values
none_in : IsReadBack → (blob : List ℕ) → values_in blob ≡ empty → blob ≡ content (values_in blob) → json.answer blob ≡ Ok (object no_members)
none_in law blob none is =
    let nothing : content empty ≡ printed (object no_members) = ap (λ es. printed (object (members es))) no_entries in
    ap json.answer (is ∙ ap content none ∙ nothing) ∙ law (object no_members) tt (omega arith)

-- a text that is no JSON is no map's
pub not_json : IsReadBack → (blob : List ℕ) (fault : JsonFault) → json.answer blob ≡ Err fault → answer blob ≡ Err bad_content
not_json law blob fault read =
    refused_where blob (λ is. absurd (subst (λ r. T (not (is_ok r))) (sym read ∙ none_in law blob (rw read refl) (text_of blob is).1) tt))

-- neither is one that spells something else than an object
pub not_object : IsReadBack → (blob : List ℕ) (value : Tree) → json.answer blob ≡ Ok value → as_members value ≡ None → answer blob ≡ Err bad_content
not_object law blob value read none =
    refused_where blob
    (λ is.
    let within : values_in blob ≡ empty = rw (read, none) refl in
    let same : value ≡ object no_members = same_Some value (object no_members) (ap result_ok (sym read ∙ none_in law blob within (text_of blob is).1)) in
    absurd (none-some _ (sym none ∙ ap as_members same)))

-- nor one that isn't what is printed for it
pub not_printed : IsReadBack → (blob : List ℕ) (value : Tree) → json.answer blob ≡ Ok value → IsCanonical value → (blob ≡ printed value → ⊥) → answer blob ≡ Err bad_content
not_printed law blob (object ms) read canonical never =
    refused_where blob
    (λ is. never ((text_of blob is).1 ∙ ap content (values_read blob ms read) ∙ ap printed (object_of-values_of ms canonical)))
not_printed law blob null read canonical never = not_object law blob null read refl
not_printed law blob (boolean b) read canonical never = not_object law blob (boolean b) read refl
not_printed law blob (whole n) read canonical never = not_object law blob (whole n) read refl
not_printed law blob (text s) read canonical never = not_object law blob (text s) read refl
not_printed law blob (list ts) read canonical never = not_object law blob (list ts) read refl

-- want of memory, or the fault of a bad text
pub refused : (fault : BlobFault) (expected : Result Shared BlobFault) → (fault ≡ no_memory) ⊎ (fault ≡ bad_content) → expected ≡ Err bad_content → IsUnless no_memory (Err fault) expected
refused fault expected (inl is) answer_is = inl (ap Err is)
refused fault expected (inr is) answer_is = inr (ap Err is ∙ sym answer_is)

pub was_read : (value : Tree) (expected : Result Tree JsonFault) → IsUnless json_no_memory (Ok value) expected → expected ≡ Ok value
was_read value expected (inl is) = absurd (subst (λ r. T (is_ok r)) is tt)
was_read value expected (inr is) = sym is

-- ---- what was read is the content

pub only_content : (blob : List ℕ) (shared : Shared) (b : Bool) → is_content blob ≡ b
    → read_where blob b ≡ Ok shared → (blob ≡ content shared.acknowledged) × (shared.pending ≡ [])
only_content blob shared true is read =
    let same : record { acknowledged = values_in blob; pending = [] } ≡ shared = same_Some _ shared (ap result_ok read) in
    ((text_of blob is).1 ∙ ap (λ s. content s.acknowledged) same, sym (ap (λ s. s.pending) same))
only_content blob shared false is read = cc

-- ---- a value with pairs is an object

pub object_is : (value : Tree) (pairs : Pairs) → Some (members pairs) ≡ as_members value → value ≡ object (members pairs)
object_is null pairs is = absurd (none-some _ (sym is))
object_is (boolean b) pairs is = absurd (none-some _ (sym is))
object_is (whole n) pairs is = absurd (none-some _ (sym is))
object_is (text s) pairs is = absurd (none-some _ (sym is))
object_is (list ts) pairs is = absurd (none-some _ (sym is))
object_is (object ms) pairs is = ap object (sym (same_Some _ _ is))

pub members_canonical : (value : Tree) (pairs : Pairs) → Some (members pairs) ≡ as_members value → IsCanonical value → HasCanonical (members pairs)
members_canonical value pairs is canonical = subst IsCanonical (object_is value pairs is) canonical

pub differs : (one other : List ℕ) → bytes_eq one other ≡ false → other ≡ one → ⊥
differs one other apart same = absurd (false≢true (sym apart ∙ (bytes_eq-Decides one other).1 (sym same)))

pub alike : (one other : List ℕ) → bytes_eq one other ≡ true → other ≡ one
alike one other same = sym ((bytes_eq-Decides one other).0 same)

-- ---- the object of entries, one more at a time

-- the first entries of a list in order are in order
below_take : (key : List ℕ) (n : ℕ) (es : Pairs) → IsBelowAll key (members es) → IsBelowAll key (members (take n es))
below_take key zero es h = tt
below_take key (suc n) [] h = tt
below_take key (suc n) (e ∷ es) h = (h.0, below_take key n es h.1)

ascending_take : (n : ℕ) (es : Pairs) → AreAscending (members es) → AreAscending (members (take n es))
ascending_take zero es h = tt
ascending_take (suc n) [] h = tt
ascending_take (suc n) (e ∷ es) h = (below_take e.0 n es h.0, ascending_take n es h.1)

ascending_entries : (es : Pairs) → T (is_sorted byte_order es) → AreAscending (members es)
ascending_entries [] h = tt
ascending_entries (e ∷ es) h = (below e.0 es (first _ _ h), ascending_entries es (second _ _ h))

pub ascending_so_far : (m : Values) (n : ℕ) → AreAscending (members (take n (entries m)))
ascending_so_far m n = ascending_take n (entries m) (ascending_entries (entries m) (entries_sorted m))

pub entries_in_order : (m : Values) → AreInOrder (entries m)
entries_in_order m = is_true _ (entries_sorted m)

pub same_again : (m : Values) → from_sorted (entries m) ≡ m
same_again m = values_of-entries m

-- the first entries, and the next one's key and value
pub ascending_pushed : (m : Values) (es so_far : Pairs) (n : ℕ) (pair : List ℕ × Tree) (key : List ℕ) (value : Tree) → es ≡ entries m → so_far ≡ take n es
    → n < length es → pair ≡ get_or es n pair → key ≡ pair.0 → value ≡ pair.1 → AreAscending (members (so_far ++ (key, value) ∷ []))
ascending_pushed m es so_far n pair key value all first_ones within is own said =
    rw (first_ones, own, said)
    (subst (λ l. AreAscending (members l)) (take-suc es n pair within ∙ ap (λ p. take n es ++ p ∷ []) (sym is))
    (subst (λ l. AreAscending (members (take (suc n) l))) (sym all) (ascending_so_far m (suc n))))
