-- Trees without handles.
use Rattle.std.proofs.Common.{◌≡◌, ℕ, Bool, true, false, List, [], ◌∷◌, Option, Some, None, option_and_then, Result, Ok, Err, if◌then◌else◌, bytes_eq, refl, sym, ap, subst, ◌∙◌}
use Rattle.std.specs.Option.{ok_or}
use Rattle.fluid_tree.specs.Summary.{Summary, blob, tree, handle, Children, no_children, child, as_children}
use Rattle.fluid_handles.specs.Resolved.{resolved, all_resolved, named, at_path, IsWhole, AllWhole, ◌>>=◌}

mutual
  pub itself : (base : Option Summary) (node : Summary) → IsWhole node → resolved base node ≡ Ok node
  itself base (blob content) h = refl
  itself base (tree nodes) h = ap (λ r. r >>= λ whole. Ok (tree whole)) (all_themselves base nodes h)
  itself base (handle path) h = absurd h

  pub all_themselves : (base : Option Summary) (nodes : Children) → AllWhole nodes → all_resolved base nodes ≡ Ok nodes
  all_themselves base no_children h = refl
  all_themselves base (child name node nodes) h =
      ap (λ r. r >>= λ s. (all_resolved base nodes >>= λ rest. Ok (child name s rest))) (itself base node h.0)
      ∙ ap (λ r. r >>= λ rest. Ok (child name node rest)) (all_themselves base nodes h.1)

-- ---- what stands at the end of a path

IsWholeIfAny : Option Summary → Type 0
IsWholeIfAny None = Unit {0}
IsWholeIfAny (Some s) = IsWhole s

whole_if : (b : Bool) (s : Summary) (other : Option Summary) → IsWhole s → IsWholeIfAny other → IsWholeIfAny (if b then Some s else other)
unfolding IsWholeIfAny
whole_if true s other one rest = one
whole_if false s other one rest = rest

whole_named : (name : List ℕ) (nodes : Children) → AllWhole nodes → IsWholeIfAny (named name nodes)
unfolding IsWholeIfAny
whole_named name no_children h = tt
whole_named name (child n s cs) h = whole_if (bytes_eq name n) s (named name cs) h.0 (whole_named name cs h.1)

whole_under : (name : List ℕ) (s : Summary) → IsWhole s → IsWholeIfAny (option_and_then (named name) (as_children s))
unfolding IsWholeIfAny
whole_under name (blob content) h = tt
whole_under name (tree nodes) h = whole_named name nodes h
whole_under name (handle path) h = tt

whole_on : (path : List (List ℕ)) → ((s : Summary) → IsWhole s → IsWholeIfAny (at_path path s)) → (s : Option Summary) → IsWholeIfAny s → IsWholeIfAny (option_and_then (at_path path) s)
unfolding IsWholeIfAny
whole_on path rest None h = tt
whole_on path rest (Some s) h = rest s h

whole_at : (path : List (List ℕ)) (s : Summary) → IsWhole s → IsWholeIfAny (at_path path s)
unfolding IsWholeIfAny
whole_at [] s h = h
whole_at (name ∷ path) s h = whole_on path (whole_at path) (option_and_then (named name) (as_children s)) (whole_under name s h)

whole_found : (found : Option Summary) (path : List (List ℕ)) (whole : Summary) → IsWholeIfAny found → ok_or found path ≡ Ok whole → IsWhole whole
unfolding IsWholeIfAny
whole_found None path whole h is = cc
whole_found (Some s) path whole h is = let same : s ≡ whole = cc in subst IsWhole same h

goes : {A B : Type 0} (r : Result A (List (List ℕ))) (f : A → Result B (List (List ℕ))) (b : B) → (r >>= f) ≡ Ok b → (a : A) × ((r ≡ Ok a) × (f a ≡ Ok b))
goes (Ok a) f b h = (a, (refl, h))
goes (Err e) f b h = cc

mutual
  pub no_handle : (base node whole : Summary) → IsWhole base → resolved (Some base) node ≡ Ok whole → IsWhole whole
  no_handle base (blob content) whole h is = let same : blob content ≡ whole = cc in subst IsWhole same tt
  no_handle base (tree nodes) whole h is =
      let a = goes (all_resolved (Some base) nodes) (λ w. Ok (tree w)) whole is in
      let same : tree a.0 ≡ whole = cc in
      subst IsWhole same (no_handles base nodes a.0 h a.1.0)
  no_handle base (handle path) whole h is = whole_found (at_path path base) path whole (whole_at path base h) is

  no_handles : (base : Summary) (nodes whole : Children) → IsWhole base → all_resolved (Some base) nodes ≡ Ok whole → AllWhole whole
  no_handles base no_children whole h is = let same : no_children ≡ whole = cc in subst AllWhole same tt
  no_handles base (child name node nodes) whole h is =
      let a = goes (resolved (Some base) node) (λ s. (all_resolved (Some base) nodes >>= λ rest. Ok (child name s rest))) whole is in
      let b = goes (all_resolved (Some base) nodes) (λ rest. Ok (child name a.0 rest)) whole a.1.1 in
      let same : child name a.0 b.0 ≡ whole = cc in
      subst AllWhole same (no_handle base node a.0 h a.1.0, no_handles base nodes b.0 h b.1.0)
