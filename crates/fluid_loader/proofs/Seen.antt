-- The nodes of a version.
use Rattle.std.proofs.Common.{◌≡◌, ℕ, zero, suc, true, false, List, Option, Some, None, Result, Ok, Err, if◌then◌else◌, sym, ap, subst, ◌∙◌, arith, ◌+◌, ◌<◌, [], ◌∷◌, ◌++◌, length, get_or, take}
use Rattle.fluid_io.specs.Causes.{Tells}
use Rattle.fluid_tree.specs.Summary.{Summary, tree, children}
use Rattle.fluid_tree.specs.declared.object.Object.{Object}
use Rattle.fluid_tree.specs.declared.object.Object.TheVariants.{Tree}
use Rattle.fluid_tree.specs.declared.object.ObjectEntry.{ObjectEntry}
use Rattle.fluid_runtime.proofs.Nodes.{pushed_on}
use Rattle.fluid_store.specs.Held.{Held}
use Rattle.fluid_store.specs.Standing.{object_at}
use Rattle.fluid_loader.specs.Calls.{Sees}
use Rattle.fluid_loader.specs.Link.{Document, Linked}
use Rattle.fluid_loader.specs.Version.{no_node, as_leaf, as_inner, node_within, nodes_within}
use Rattle.fluid_loader.specs.declared.fault.LoadFault.{LoadFault}
use Rattle.fluid_loader.specs.declared.fault.LoadFault.TheVariants.{LinkFailed, NoSummary, BadSummary, Edit, Refused, NoMemory, Clash}

pub tells_then : (told : Option Document) (P Q : Document → Type 0) → ((d : Document) → P d → Q d) → Tells told P → Tells told Q
tells_then None P Q f h = tt
tells_then (Some d) P Q f h = f d h

pub tells_both : (told : Option Document) (P Q R : Document → Type 0) → ((d : Document) → P d → Q d → R d) → Tells told P → Tells told Q → Tells told R
tells_both None P Q R f h k = tt
tells_both (Some d) P Q R f h k = f d h k

pub tells_all : (told : Option Document) (P : Document → Type 0) → ((d : Document) → P d) → Tells told P
tells_all None P f = tt
tells_all (Some d) P f = f d

pub same_answer : {A : Type 0} (a b : A) → ◌≡◌ {A = Result A (List ℕ)} (Ok a) (Ok b) → a ≡ b
same_answer a b is = cc

pub too_deep : (held : Held) (levels : ℕ) (e : ObjectEntry) → levels ≡ 0 → e.tree ≡ true → no_node ≡ node_within held levels e
unfolding node_within
too_deep held zero e none is = sym (ap (λ b. if b then no_node else as_leaf (object_at held e.id)) is)
too_deep held (suc n) e none is = absurd (omega (arith, none))

pub leaf : (held : Held) (levels : ℕ) (e : ObjectEntry) (o : Option Object) → e.tree ≡ false → o ≡ object_at held e.id → as_leaf o ≡ node_within held levels e
unfolding node_within
leaf held zero e o is at = ap as_leaf at ∙ sym (ap (λ b. if b then no_node else as_leaf (object_at held e.id)) is)
leaf held (suc n) e o is at = ap as_leaf at ∙ sym (ap (λ b. if b then as_inner (node_within held n) (object_at held e.id) else as_leaf (object_at held e.id)) is)

pub inner : (held : Held) (levels n : ℕ) (e : ObjectEntry) (o : Option Object) → levels ≡ suc n → e.tree ≡ true → o ≡ object_at held e.id → as_inner (node_within held n) o ≡ node_within held levels e
unfolding node_within
inner held zero n e o some is at = absurd (omega (arith, some))
inner held (suc m) n e o some is at =
    let less : n ≡ m = omega (arith, some) in
    (λ i. as_inner (node_within held (less i)) (at i)) ∙ sym (ap (λ b. if b then as_inner (node_within held m) (object_at held e.id) else as_leaf (object_at held e.id)) is)

-- the same answer, said otherwise
pub sees_same : {A : Type 0} (h f : Held → Result A (List ℕ)) (old new : Linked) (r : Result A LoadFault) → ((held : Held) → h held ≡ f held) → Sees h old new r → Sees f old new r
sees_same h f old new (Ok a) same s = tells_then old.told _ _ (λ d k. k ∙ same d.held) s
sees_same h f old new (Err (BadSummary path)) same s = tells_then old.told _ _ (λ d k. k ∙ same d.held) s
sees_same h f old new (Err (LinkFailed note)) same s = s
sees_same h f old new (Err NoSummary) same s = s
sees_same h f old new (Err (Edit fault)) same s = s
sees_same h f old new (Err (Refused nack)) same s = s
sees_same h f old new (Err NoMemory) same s = s
sees_same h f old new (Err (Clash id kept bytes)) same s = s

pub tells_of : (a b : Option Document) (P : Document → Type 0) → b ≡ a → Tells b P → Tells a P
tells_of a b P same h = subst (λ c. Tells c P) same h

-- a tree whose nodes were read
pub tree_read : (told between : Option Document) (levels : ℕ) (id : List ℕ) (entries slice : List ObjectEntry) (nodes : List (List ℕ × Summary)) (node : Summary) (found : Option Object) → between ≡ told
    → found ≡ Some (Tree entries) → slice ≡ entries → node ≡ tree (children nodes) → Tells told (λ d. ◌≡◌ {A = Result (Option Object) (List ℕ)} (Ok found) (Ok (object_at d.held id)))
    → Tells between (λ d. ◌≡◌ {A = Result (List (List ℕ × Summary)) (List ℕ)} (Ok nodes) (Ok (nodes_within d.held levels slice)))
    → Tells told (λ d. ◌≡◌ {A = Result Summary (List ℕ)} (Ok node) (Ok (as_inner (node_within d.held levels) (object_at d.held id))))
tree_read told between levels id entries slice nodes node found same is own made at all =
    tells_both told _ _ _ (λ d here rest.
    ap Ok
    (made ∙ ap (λ ns. tree (children ns)) (same_answer nodes (nodes_within d.held levels slice) rest ∙ ap (nodes_within d.held levels) own)
    ∙ ap (as_inner (node_within d.held levels)) (sym is ∙ same_answer found (object_at d.held id) here)))
    at (tells_of told between _ same all)

-- one node more
pub node_pushed : (old mid : Option Document) (levels n : ℕ) (entries : List ObjectEntry) (e : ObjectEntry) (so_far behind : List (List ℕ × Summary)) (name : List ℕ) (node : Summary) → mid ≡ old
    → n < length entries → e ≡ get_or entries n e → name ≡ e.name → behind ≡ so_far ++ (name, node) ∷ [] → Tells old (λ d. so_far ≡ nodes_within d.held levels (take n entries))
    → Tells mid (λ d. ◌≡◌ {A = Result Summary (List ℕ)} (Ok node) (Ok (node_within d.held levels e))) → Tells old (λ d. behind ≡ nodes_within d.held levels (take (n + 1) entries))
node_pushed old mid levels n entries e so_far behind name node same within is own pushed first next =
    tells_both old (λ d. so_far ≡ nodes_within d.held levels (take n entries)) (λ d. ◌≡◌ {A = Result Summary (List ℕ)} (Ok node) (Ok (node_within d.held levels e)))
    (λ d. behind ≡ nodes_within d.held levels (take (n + 1) entries))
    (λ d a b.
    pushed_on (λ f. (f.name, node_within d.held levels f)) entries so_far behind n e (name, node) pushed a within is (λ i. (own i, same_answer node (node_within d.held levels e) b i)))
    first (tells_of old mid (λ d. ◌≡◌ {A = Result Summary (List ℕ)} (Ok node) (Ok (node_within d.held levels e))) same next)
