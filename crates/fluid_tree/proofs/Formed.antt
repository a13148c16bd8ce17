-- The nodes of a JSON object's members, one after the other.
use Rattle.std.proofs.Common.{◌≡◌, ◌⊎◌, ℕ, ◌+◌, ◌<◌, ◌≤◌, List, [], ◌∷◌, ◌++◌, length, get_or, drop, Result, Ok, Err, refl, sym, ap, ◌∙◌}
use Rattle.std.proofs.lemmas.List.{at_drop_more, at_drop_all}
use Rattle.fluid_json.specs.Unless.{IsUnless}
use Rattle.fluid_json.specs.Tree.{Tree, member, members}
use Rattle.fluid_tree.specs.Summary.{Summary, tree, Children, no_children, child, children}
use Rattle.fluid_tree.specs.Identity.{◌>>=◌}
use Rattle.fluid_tree.specs.FromJson.{children_by, nodes_by}
use Rattle.fluid_tree.specs.declared.fault.TreeFault.{TreeFault}
use Rattle.fluid_tree.specs.declared.fault.TreeFault.TheVariants.{NoMemory}
use Rattle.fluid_tree.proofs.Walked.{cause, or_else}

-- these nodes, and then those
abbrev pub onto : List (List ℕ × Summary) → Children → Children
onto [] ds = ds
onto (c ∷ cs) ds = child c.0 c.1 (onto cs ds)

onto_more : (cs : List (List ℕ × Summary)) (n : List ℕ) (s : Summary) (ds : Children) → onto cs (child n s ds) ≡ onto (cs ++ (n, s) ∷ []) ds
onto_more [] n s ds = refl
onto_more (c ∷ cs) n s ds = ap (child c.0 c.1) (onto_more cs n s ds)

onto_none : (cs : List (List ℕ × Summary)) → onto cs no_children ≡ children cs
onto_none [] = refl
onto_none (c ∷ cs) = ap (child c.0 c.1) (onto_none cs)

abbrev Keyed : Type 0
Keyed = List ℕ × Tree

abbrev Reader : Type 0
Reader = Tree → Result Summary TreeFault

at : (node : Reader) (ms : List Keyed) (i : ℕ) (m : Keyed) → i < length ms → m ≡ get_or ms i m → children_by node (members (drop i ms)) ≡ children_by node (member m.0 m.1 (members (drop (i + 1) ms)))
at node ms i m lt is = at_drop_more (λ ns. children_by node (members ns)) ms i m lt ∙ ap (λ n. children_by node (members (n ∷ drop (i + 1) ms))) (sym is)

member_fails : (node : Reader) (ms : List Keyed) (i : ℕ) (m : Keyed) (done : List (List ℕ × Summary)) (e : TreeFault) → i < length ms → m ≡ get_or ms i m
    → children_by node (members ms) ≡ (children_by node (members (drop i ms)) >>= λ rest. Ok (onto done rest)) → node m.1 ≡ Err e → nodes_by node (members ms) ≡ Err e
member_fails node ms i m done e lt is inv h =
    ap (λ r. r >>= λ cs. Ok (tree cs)) (inv ∙ ap (λ r. r >>= λ rest. Ok (onto done rest)) (at node ms i m lt is ∙ ap (λ r. r >>= λ s. children_by node (members (drop (i + 1) ms)) >>= λ cs. Ok (child m.0 s cs)) h))

pub member_refused : (node : Reader) (ms : List Keyed) (i : ℕ) (m : Keyed) (done : List (List ℕ × Summary)) (e : TreeFault) (r : Result Summary TreeFault) → i < length ms → m ≡ get_or ms i m
    → children_by node (members ms) ≡ (children_by node (members (drop i ms)) >>= λ rest. Ok (onto done rest)) → r ≡ Err e → IsUnless NoMemory r (node m.1)
    → (e ≡ NoMemory) ⊎ (nodes_by node (members ms) ≡ Err e)
member_refused node ms i m done e r lt is inv was h = or_else (cause r (node m.1) e was h) (member_fails node ms i m done e lt is inv)

behind : (r : Result Children TreeFault) (done : List (List ℕ × Summary)) (n : List ℕ) (s : Summary)
    → ((r >>= λ cs. Ok (child n s cs)) >>= λ rest. Ok (onto done rest)) ≡ (r >>= λ rest. Ok (onto (done ++ (n, s) ∷ []) rest))
behind (Ok cs) done n s = ap Ok (onto_more done n s cs)
behind (Err e) done n s = refl

pub member_goes : (node : Reader) (ms : List Keyed) (i : ℕ) (m : Keyed) (done : List (List ℕ × Summary)) (s : Summary) → i < length ms → m ≡ get_or ms i m
    → children_by node (members ms) ≡ (children_by node (members (drop i ms)) >>= λ rest. Ok (onto done rest)) → node m.1 ≡ Ok s
    → children_by node (members ms) ≡ (children_by node (members (drop (i + 1) ms)) >>= λ rest. Ok (onto (done ++ (m.0, s) ∷ []) rest))
member_goes node ms i m done s lt is inv h =
    inv
    ∙ ap (λ r. r >>= λ rest. Ok (onto done rest)) (at node ms i m lt is ∙ ap (λ r. r >>= λ t. children_by node (members (drop (i + 1) ms)) >>= λ cs. Ok (child m.0 t cs)) h)
    ∙ behind (children_by node (members (drop (i + 1) ms))) done m.0 s

pub members_end : (node : Reader) (ms : List Keyed) (i : ℕ) (done : List (List ℕ × Summary)) → length ms ≤ i
    → children_by node (members ms) ≡ (children_by node (members (drop i ms)) >>= λ rest. Ok (onto done rest)) → Ok (tree (children done)) ≡ nodes_by node (members ms)
members_end node ms i done le inv =
    sym (ap (λ r. r >>= λ cs. Ok (tree cs)) (inv ∙ ap (λ r. r >>= λ rest. Ok (onto done rest)) (at_drop_all (λ ns. children_by node (members ns)) ms i le)) ∙ ap (λ cs. Ok (tree cs)) (onto_none done))
