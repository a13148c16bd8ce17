-- Converting item by item and member by member.
use Rattle.std.proofs.Common.{◌≡◌, ℕ, List, [], ◌∷◌, ◌++◌, map, Option, Some, None, option_map, String, Global, Less, string_bytes, string_cmp, refl, sym, ap, ◌∙◌, subst, append_assoc}
use Rattle.std.proofs.lemmas.List.{map-append}
use Rattle.std.specs.List.{AllByRecursion}
use Rattle.std.specs.List.Sorted.{IsStrictlySortedBy}
use Rattle.std.specs.Map.{keys_of}
use Rattle.serde_json.specs.Data as serde
use Rattle.serde_json.proofs.Views.{Entry}
use Rattle.fluid_json.specs.Spelled.{of_data, of_items, of_members}
use Rattle.fluid_json.specs.Tree.{Tree, Trees, no_trees, tree, Members, no_members, member, trees, members, AreAscending, IsBelow, IsBelowAll}

-- these trees, and then those
abbrev pub onto_trees : List Tree → Trees → Trees
onto_trees [] us = us
onto_trees (t ∷ ts) us = tree t (onto_trees ts us)

abbrev pub onto_members : List (List ℕ × Tree) → Members → Members
onto_members [] ns = ns
onto_members (m ∷ ms) ns = member m.0 m.1 (onto_members ms ns)

-- the keys of these pairs and then of those entries are the keys of all
abbrev pub Follows : List (List ℕ × Tree) → List Entry → List Entry → Type 0
Follows ms rest all = map (λ m. m.0) ms ++ map (λ e. string_bytes e.0) rest ≡ map (λ e. string_bytes e.0) all

onto_more : (ts : List Tree) (t : Tree) (us : Trees) → onto_trees ts (tree t us) ≡ onto_trees (ts ++ t ∷ []) us
onto_more [] t us = refl
onto_more (s ∷ ts) t us = ap (tree s) (onto_more ts t us)

item_behind : (ts : List Tree) (t : Tree) (o : Option Trees) → option_map (onto_trees ts) (option_map (tree t) o) ≡ option_map (onto_trees (ts ++ t ∷ [])) o
item_behind ts t None = refl
item_behind ts t (Some us) = ap Some (onto_more ts t us)

pub item_converted : (ts : List Tree) (t : Tree) (d : serde.Data) (ds : serde.Items) → of_data d ≡ Some t
    → option_map (onto_trees ts) (of_items (serde.item d ds)) ≡ option_map (onto_trees (ts ++ t ∷ [])) (of_items ds)
item_converted ts t d ds e = rw e (item_behind ts t (of_items ds))

pub items_converted : (ts : List Tree) → onto_trees ts no_trees ≡ trees ts
items_converted [] = refl
items_converted (t ∷ ts) = ap (tree t) (items_converted ts)

members_more : (ms : List (List ℕ × Tree)) (k : List ℕ) (t : Tree) (ns : Members) → onto_members ms (member k t ns) ≡ onto_members (ms ++ (k, t) ∷ []) ns
members_more [] k t ns = refl
members_more (m ∷ ms) k t ns = ap (member m.0 m.1) (members_more ms k t ns)

member_behind : (ms : List (List ℕ × Tree)) (k : List ℕ) (t : Tree) (o : Option Members)
    → option_map (onto_members ms) (option_map (member k t) o) ≡ option_map (onto_members (ms ++ (k, t) ∷ [])) o
member_behind ms k t None = refl
member_behind ms k t (Some ns) = ap Some (members_more ms k t ns)

pub member_converted : (ms : List (List ℕ × Tree)) (k : List ℕ) (t : Tree) (d : serde.Data) (ds : serde.Members) → of_data d ≡ Some t
    → option_map (onto_members ms) (of_members (serde.member k d ds)) ≡ option_map (onto_members (ms ++ (k, t) ∷ [])) (of_members ds)
member_converted ms k t d ds e = rw e (member_behind ms k t (of_members ds))

pub members_converted : (ms : List (List ℕ × Tree)) → onto_members ms no_members ≡ members ms
members_converted [] = refl
members_converted (m ∷ ms) = ap (member m.0 m.1) (members_converted ms)

-- ---- the keys, which a map holds in order

abbrev IsBelowEach : List ℕ → List (List ℕ) → Type 0
IsBelowEach k [] = Unit {0}
IsBelowEach k (l ∷ ls) = IsBelow k l × IsBelowEach k ls

abbrev IsRising : List (List ℕ) → Type 0
IsRising [] = Unit {0}
IsRising (k ∷ ks) = IsBelowEach k ks × IsRising ks

below_each : (k : String Global) (es : List Entry) → AllByRecursion (λ l. string_cmp k l ≡ Less) (keys_of es) → IsBelowEach (string_bytes k) (map (λ e. string_bytes e.0) es)
below_each k [] h = tt
below_each k (e ∷ es) h = (h.0, below_each k es h.1)

rising : (es : List Entry) → IsStrictlySortedBy string_cmp (keys_of es) → IsRising (map (λ e. string_bytes e.0) es)
unfolding IsStrictlySortedBy
rising [] h = tt
rising (e ∷ es) h = (below_each e.0 es h.0, rising es h.1)

below_all : (k l : List ℕ) (ms : List (List ℕ × Tree)) (more : List (List ℕ)) (t : Tree) → IsBelowEach k (map (λ m. m.0) ms ++ l ∷ more) → IsBelowAll k (members (ms ++ (l, t) ∷ []))
below_all k l [] more t h = (h.0, tt)
below_all k l (m ∷ ms) more t h = (h.0, below_all k l ms more t h.1)

ascending : (ms : List (List ℕ × Tree)) (k : List ℕ) (more : List (List ℕ)) (t : Tree) → IsRising (map (λ m. m.0) ms ++ k ∷ more) → AreAscending (members (ms ++ (k, t) ∷ []))
ascending [] k more t h = (tt, tt)
ascending (m ∷ ms) k more t h = (below_all m.0 k ms more t h.0, ascending ms k more t h.1)

pub follows_more : (ms : List (List ℕ × Tree)) (e : Entry) (rest all : List Entry) (t : Tree)
    → Follows ms (e ∷ rest) all → Follows (ms ++ (string_bytes e.0, t) ∷ []) rest all
follows_more ms e rest all t h =
    ap (λ ks. ks ++ map (λ f. string_bytes f.0) rest) (map-append (λ m. m.0) ms ((string_bytes e.0, t) ∷ []))
    ∙ append_assoc (map (λ m. m.0) ms) (string_bytes e.0 ∷ []) (map (λ f. string_bytes f.0) rest) ∙ h

pub follows_ascending : (ms : List (List ℕ × Tree)) (e : Entry) (rest all : List Entry) (t : Tree)
    → Follows ms (e ∷ rest) all → IsStrictlySortedBy string_cmp (keys_of all) → AreAscending (members (ms ++ (string_bytes e.0, t) ∷ []))
follows_ascending ms e rest all t h sorted =
    ascending ms (string_bytes e.0) (map (λ f. string_bytes f.0) rest) t (subst IsRising (sym h) (rising all sorted))
