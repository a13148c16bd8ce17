-- Lists that are made of a table's entries one after another.
use Rattle.std.proofs.Common.{◌≡◌, ℕ, zero, suc, ◌+◌, ◌<◌, ◌≤◌, true, if◌then◌else◌, T, List, [], ◌∷◌, ◌++◌, length, get_or, take, map, Option, Some, refl, sym, ap, ap₂, subst, ◌∙◌, arith}
use Rattle.std.proofs.Math.Seq.{take-suc}
use Rattle.std.proofs.lemmas.List.{map-append, take-map, take_all}
use Rattle.std.proofs.lemmas.Simd.{map-map}
use Rattle.std.specs.Option.{unwrap_or}
use Rattle.std.specs.FinMap.Entries.{below_all, is_sorted}
use Rattle.std.specs.FinMap.{entries, get, from_sorted, entries_sorted, get-entries}
use Rattle.fluid_json.specs.Tree.{Tree, members, IsBelowAll, AreAscending}
use Rattle.fluid_table.specs.Table.{byte_order, Values}
use Rattle.fluid_table.proofs.Places.{byte_order_total, same_pairs}
use Rattle.fluid_table.proofs.Ordered.{first, second, less, find_at}
use Rattle.fluid_tree.specs.Summary.{Summary, handle}
use Rattle.fluid_runtime.specs.AppTree.{channel_node, node_since}
use Rattle.fluid_runtime.specs.Shown.{shown_channel}
use Rattle.fluid_runtime.specs.Slots.{Slots, each, channel_of, channels_of, changed_of, is_changed, settled_slot, node_at}
use Rattle.fluid_runtime.specs.declared.slots.Slot.{Slot}
use Rattle.fluid_runtime.proofs.Each.{mapped, in_order_each, entries_each, get_found}

-- one more of a list, and of what a function makes of it
pub mapped_pushed : {A B : Type 0} (f : A → B) (xs : List A) (n : ℕ) (x : A) → n < length xs → x ≡ get_or xs n x → map f (take n xs) ++ f x ∷ [] ≡ map f (take (n + 1) xs)
mapped_pushed f xs n x within is =
    let more : suc n ≡ n + 1 = omega arith in
    sym (map-append f (take n xs) (x ∷ [])) ∙ ap (λ y. map f (take n xs ++ y ∷ [])) is ∙ ap (map f) (sym (take-suc xs n x within)) ∙ ap (λ k. map f (take k xs)) more

-- the next one is put behind those so far
pub pushed_on : {A B : Type 0} (f : A → B) (xs : List A) (so_far behind : List B) (n : ℕ) (x : A) (made : B) → behind ≡ so_far ++ made ∷ [] → so_far ≡ map f (take n xs)
    → n < length xs → x ≡ get_or xs n x → made ≡ f x → behind ≡ map f (take (n + 1) xs)
pushed_on f xs so_far behind n x made pushed first_ones within is made_is =
    pushed ∙ ap₂ (λ l y. l ++ y ∷ []) first_ones made_is ∙ mapped_pushed f xs n x within is

pub at_end : {A B : Type 0} (f : A → B) (xs : List A) (so_far : List B) (n : ℕ) → so_far ≡ map f (take n xs) → length xs ≤ n → so_far ≡ map f xs
at_end f xs so_far n is all = is ∙ ap (map f) (take_all n xs all)

-- pairs of the keys' texts and the values are the pairs themselves
pub listed : {V : Type 0} (m : Values V) (es : List (List ℕ × V)) → map (λ e. (e.0, e.1)) es ≡ entries m → es ≡ entries m
listed m es is = sym (same_pairs es) ∙ is

pub copies_are : (slots : Slots) (items : List (List ℕ × Slot)) → items ≡ map (λ e. (e.0, settled_slot e.1)) (entries slots) → from_sorted items ≡ each settled_slot slots
copies_are slots items is = ap from_sorted is

-- ---- the members of an object, one at a time

below : (key : List ℕ) (es : List (List ℕ × Tree)) → T (below_all byte_order key es) → IsBelowAll key (members es)
below key [] h = tt
below key (e ∷ es) h = (less (byte_order key e.0) (first _ _ h), below key es (second _ _ h))

below_take : (key : List ℕ) (n : ℕ) (es : List (List ℕ × Tree)) → IsBelowAll key (members es) → IsBelowAll key (members (take n es))
below_take key zero es h = tt
below_take key (suc n) [] h = tt
below_take key (suc n) (e ∷ es) h = (h.0, below_take key n es h.1)

ascending : (es : List (List ℕ × Tree)) → T (is_sorted byte_order es) → AreAscending (members es)
ascending [] h = tt
ascending (e ∷ es) h = (below e.0 es (first _ _ h), ascending es (second _ _ h))

ascending_take : (n : ℕ) (es : List (List ℕ × Tree)) → AreAscending (members es) → AreAscending (members (take n es))
ascending_take zero es h = tt
ascending_take (suc n) [] h = tt
ascending_take (suc n) (e ∷ es) h = (below_take e.0 n es h.0, ascending_take n es h.1)

pub member_pushed : (f : Slot → Tree) (slots : Slots) (es : List (List ℕ × Slot)) (so_far : List (List ℕ × Tree)) (n : ℕ) (e : List ℕ × Slot) (key : List ℕ) (value : Tree)
    → es ≡ entries slots → so_far ≡ map (λ e. (e.0, f e.1)) (take n es) → n < length es → e ≡ get_or es n e → key ≡ e.0 → value ≡ f e.1
    → AreAscending (members (so_far ++ (key, value) ∷ []))
member_pushed f slots es so_far n e key value all so_far_is within is own said =
    let more : so_far ++ (key, value) ∷ [] ≡ take (n + 1) (mapped f es) =
    pushed_on (λ e. (e.0, f e.1)) es so_far (so_far ++ (key, value) ∷ []) n e (key, value) refl so_far_is within is (ap₂ (λ k v. (k, v)) own said)
    ∙ sym (take-map (λ e. (e.0, f e.1)) (n + 1) es) in
    subst (λ l. AreAscending (members l)) (sym more)
    (ascending_take (n + 1) (mapped f es) (ascending (mapped f es) (subst (λ l. T (is_sorted byte_order (mapped f l))) (sym all) (in_order_each f slots))))

-- ---- the whole

pub shown_whole : (slots : Slots) (es : List (List ℕ × Slot)) (pairs : List (List ℕ × Tree)) → es ≡ entries slots → pairs ≡ map (λ e. (e.0, shown_channel (channel_of e.1))) es
    → pairs ≡ map (λ e. (e.0, shown_channel e.1)) (entries (channels_of slots))
shown_whole slots es pairs all is =
    is ∙ ap (map (λ e. (e.0, shown_channel (channel_of e.1)))) all ∙ sym (map-map (λ e. (e.0, shown_channel e.1)) (λ e. (e.0, channel_of e.1)) (entries slots))
    ∙ ap (map (λ e. (e.0, shown_channel e.1))) (sym (entries_each channel_of slots))

pub tree_whole : (slots : Slots) (es : List (List ℕ × Slot)) (nodes : List (List ℕ × Summary)) → es ≡ entries slots → nodes ≡ map (λ e. (e.0, channel_node (channel_of e.1))) es
    → nodes ≡ map (λ e. (e.0, channel_node e.1)) (entries (channels_of slots))
tree_whole slots es nodes all is =
    is ∙ ap (map (λ e. (e.0, channel_node (channel_of e.1)))) all ∙ sym (map-map (λ e. (e.0, channel_node e.1)) (λ e. (e.0, channel_of e.1)) (entries slots))
    ∙ ap (map (λ e. (e.0, channel_node e.1))) (sym (entries_each channel_of slots))

-- ---- a tree that tells what has changed

pub map_alike : {A B : Type 0} (f g : A → B) (xs : List A) → ((n : ℕ) (d : A) → n < length xs → f (get_or xs n d) ≡ g (get_or xs n d)) → map f xs ≡ map g xs
map_alike f g [] same = refl
map_alike f g (x ∷ xs) same = ap₂ (λ y ys. y ∷ ys) (same 0 x (omega arith)) (map_alike f g xs (λ n d within. same (suc n) d (omega arith)))

-- each entry is found under its key
pub found_there : {V : Type 0} (m : Values V) (n : ℕ) (d : List ℕ × V) → n < length (entries m) → get m (get_or (entries m) n d).0 ≡ Some (get_or (entries m) n d).1
found_there m n d within = get-entries m _ ∙ find_at byte_order_total (get_or (entries m) n d).0 (entries m) n d (entries_sorted m) within refl

same_node : (mark : Option ℕ) (slots : Slots) (at : List ℕ) (slot : Slot) → get slots at ≡ Some slot → node_at mark at slot ≡ node_since (changed_of mark slots) at (channel_of slot)
same_node mark slots at slot found =
    ap (λ changed. if unwrap_or changed true then channel_node (channel_of slot) else handle (at ∷ [])) (sym (get_found (is_changed mark) slots at slot found))

pub since_whole : (mark : Option ℕ) (slots : Slots) (es : List (List ℕ × Slot)) (nodes : List (List ℕ × Summary)) → es ≡ entries slots
    → nodes ≡ map (λ e. (e.0, node_at mark e.0 e.1)) es → nodes ≡ map (λ e. (e.0, node_since (changed_of mark slots) e.0 e.1)) (entries (channels_of slots))
since_whole mark slots es nodes all is =
    is
    ∙ ap (map (λ e. (e.0, node_at mark e.0 e.1))) all
    ∙ map_alike (λ e. (e.0, node_at mark e.0 e.1)) (λ e. (e.0, node_since (changed_of mark slots) e.0 (channel_of e.1))) (entries slots)
    (λ n d within. ap (λ node. ((get_or (entries slots) n d).0, node)) (same_node mark slots (get_or (entries slots) n d).0 (get_or (entries slots) n d).1 (found_there slots n d within)))
    ∙ sym (map-map (λ e. (e.0, node_since (changed_of mark slots) e.0 e.1)) (λ e. (e.0, channel_of e.1)) (entries slots))
    ∙ ap (map (λ e. (e.0, node_since (changed_of mark slots) e.0 e.1))) (sym (entries_each channel_of slots))
