-- The entries of a tree's nodes, one after the other.
use Rattle.std.proofs.Common.{◌≡◌, ◌⊎◌, inl, inr, ℕ, ◌+◌, ◌<◌, ◌≤◌, List, [], ◌∷◌, ◌++◌, length, get_or, drop, Vec, Global, Result, Ok, Err, refl, sym, ap, ◌∙◌, append_assoc, append-nil}
use Rattle.std.proofs.lemmas.List.{at_drop_more, at_drop_all}
use Rattle.std.specs.Result.{IsErrAnd}
use Rattle.fluid_json.specs.Unless.{IsUnless}
use Rattle.fluid_tree.specs.Summary.{Summary, Children, child, children, is_tree}
use Rattle.fluid_tree.specs.Identity.{id_within, entries_within, ◌>>=◌}
use Rattle.fluid_tree.specs.Listed.{listed}
use Rattle.fluid_tree.specs.declared.object.ObjectEntry.{ObjectEntry}
use Rattle.fluid_tree.specs.declared.fault.TreeFault.{TreeFault}
use Rattle.fluid_tree.specs.declared.fault.TreeFault.TheVariants.{NoMemory}

-- a call's fault is want of memory, or that of what it answers for
pub cause : {A : Type 0} (r x : Result A TreeFault) (e : TreeFault) → r ≡ Err e → IsUnless NoMemory r x → (e ≡ NoMemory) ⊎ (x ≡ Err e)
cause (Ok a) x e was h = cc
cause (Err f) x e was (inl m) = inl cc
cause (Err f) x e was (inr q) = inr (sym q ∙ was)

pub success : {A : Type 0} (r x : Result A TreeFault) (a : A) → r ≡ Ok a → IsUnless NoMemory r x → x ≡ Ok a
success r x a was (inl m) = cc
success r x a was (inr q) = sym q ∙ was

pub handed_on : {A : Type 0} (r : Result (Vec A Global) TreeFault) (x : Result (List A) TreeFault) (e : TreeFault)
    → IsErrAnd r (λ f. f ≡ e) → (e ≡ NoMemory) ⊎ (x ≡ Err e) → IsUnless NoMemory (listed r) x
handed_on (Ok v) x e h k = absurd h
handed_on (Err f) x e h (inl m) = inl (ap Err (h ∙ m))
handed_on (Err f) x e h (inr q) = inr (ap Err h ∙ sym q)

pub passed_on : {A : Type 0} (r x : Result A TreeFault) (e : TreeFault) → IsErrAnd r (λ f. f ≡ e) → (e ≡ NoMemory) ⊎ (x ≡ Err e) → IsUnless NoMemory r x
passed_on (Ok a) x e h k = absurd h
passed_on (Err f) x e h (inl m) = inl (ap Err (h ∙ m))
passed_on (Err f) x e h (inr q) = inr (ap Err h ∙ sym q)

abbrev Named : Type 0
Named = List ℕ × Summary

abbrev entry_of : Named → List ℕ → ObjectEntry
entry_of m i = record { name = m.0; tree = is_tree m.1; id = i }

at : (levels : ℕ) (ms : List Named) (i : ℕ) (m : Named) → i < length ms → m ≡ get_or ms i m → entries_within levels (children (drop i ms)) ≡ entries_within levels (child m.0 m.1 (children (drop (i + 1) ms)))
at levels ms i m lt is =
    at_drop_more (λ ns. entries_within levels (children ns)) ms i m lt ∙ ap (λ n. entries_within levels (children (n ∷ drop (i + 1) ms))) (sym is)

first_fails : (levels : ℕ) (m : Named) (cs : Children) (e : TreeFault) → id_within levels m.1 ≡ Err e → entries_within levels (child m.0 m.1 cs) ≡ Err e
unfolding entries_within
first_fails levels m cs e h = rw h refl

pub node_fails : (levels : ℕ) (ms : List Named) (i : ℕ) (m : Named) (done : List ObjectEntry) (e : TreeFault) → i < length ms → m ≡ get_or ms i m
    → entries_within levels (children ms) ≡ (entries_within levels (children (drop i ms)) >>= λ rest. Ok (done ++ rest)) → id_within levels m.1 ≡ Err e → entries_within levels (children ms) ≡ Err e
node_fails levels ms i m done e lt is inv h =
    inv ∙ ap (λ r. r >>= λ rest. Ok (done ++ rest)) (at levels ms i m lt is ∙ first_fails levels m (children (drop (i + 1) ms)) e h)

pub or_else : {P Q R : Type 0} → P ⊎ Q → (Q → R) → P ⊎ R
or_else (inl p) f = inl p
or_else (inr q) f = inr (f q)

pub node_refused : (levels : ℕ) (ms : List Named) (i : ℕ) (m : Named) (done : List ObjectEntry) (e : TreeFault) (r : Result (List ℕ) TreeFault) → i < length ms → m ≡ get_or ms i m
    → entries_within levels (children ms) ≡ (entries_within levels (children (drop i ms)) >>= λ rest. Ok (done ++ rest)) → r ≡ Err e → IsUnless NoMemory r (id_within levels m.1)
    → (e ≡ NoMemory) ⊎ (entries_within levels (children ms) ≡ Err e)
node_refused levels ms i m done e r lt is inv was h = or_else (cause r (id_within levels m.1) e was h) (node_fails levels ms i m done e lt is inv)

behind : (r : Result (List ObjectEntry) TreeFault) (done : List ObjectEntry) (e : ObjectEntry)
    → ((r >>= λ es. Ok (e ∷ es)) >>= λ rest. Ok (done ++ rest)) ≡ (r >>= λ rest. Ok ((done ++ e ∷ []) ++ rest))
behind (Ok es) done e = ap Ok (sym (append_assoc done (e ∷ []) es))
behind (Err f) done e = refl

first_goes : (levels : ℕ) (m : Named) (cs : Children) (i : List ℕ) → id_within levels m.1 ≡ Ok i
    → entries_within levels (child m.0 m.1 cs) ≡ (entries_within levels cs >>= λ es. Ok (entry_of m i ∷ es))
unfolding entries_within
first_goes levels m cs i h = rw h refl

pub node_goes : (levels : ℕ) (ms : List Named) (i : ℕ) (m : Named) (done : List ObjectEntry) (j : List ℕ) → i < length ms → m ≡ get_or ms i m
    → entries_within levels (children ms) ≡ (entries_within levels (children (drop i ms)) >>= λ rest. Ok (done ++ rest)) → id_within levels m.1 ≡ Ok j
    → entries_within levels (children ms) ≡ (entries_within levels (children (drop (i + 1) ms)) >>= λ rest. Ok ((done ++ entry_of m j ∷ []) ++ rest))
node_goes levels ms i m done j lt is inv h =
    inv ∙ ap (λ r. r >>= λ rest. Ok (done ++ rest)) (at levels ms i m lt is ∙ first_goes levels m (children (drop (i + 1) ms)) j h)
    ∙ behind (entries_within levels (children (drop (i + 1) ms))) done (entry_of m j)

no_nodes : (levels : ℕ) → entries_within levels (children []) ≡ Ok []
unfolding entries_within
no_nodes levels = refl

pub nodes_end : (levels : ℕ) (ms : List Named) (i : ℕ) (done : List ObjectEntry) → length ms ≤ i
    → entries_within levels (children ms) ≡ (entries_within levels (children (drop i ms)) >>= λ rest. Ok (done ++ rest)) → Ok done ≡ entries_within levels (children ms)
nodes_end levels ms i done le inv =
    sym (inv ∙ ap (λ r. r >>= λ rest. Ok (done ++ rest)) (at_drop_all (λ ns. entries_within levels (children ns)) ms i le ∙ no_nodes levels) ∙ ap Ok (append-nil done))
