-- Item by item.
use Rattle.std.proofs.Common.{◌≡◌, List, [], ◌++◌, Result, Ok, Err, IsErr, IsErrAnd, inl, inr, refl, ap, sym, ◌∙◌, append_assoc, append-nil}
use Rattle.fluid_json.specs.Tree.{Tree, Trees, no_trees, tree}
use Rattle.fluid_types.specs.Forms.{Read, ◌>>=◌}
use Rattle.fluid_json.specs.Unless.{IsUnless}
use Rattle.fluid_types.specs.declared.fault.CodecFault.{CodecFault}
use Rattle.fluid_types.specs.declared.fault.CodecFault.TheVariants.{NoMemory}
use Rattle.fluid_codec.specs.Behind.{behind}
use Rattle.fluid_codec.specs.Events.{each}

joined : {A : Type 0} (xs : List A) (r q : Read (List A)) → behind xs (r >>= λ prefix. q >>= λ rest. Ok (prefix ++ rest)) ≡ (behind xs r >>= λ ys. behind ys q)
joined xs (Ok prefix) (Ok rest) = ap Ok (sym (append_assoc xs prefix rest))
joined xs (Ok prefix) (Err e) = refl
joined xs (Err e) q = refl

-- an item that was read
pub item_read : {A : Type 0} (read : Tree → Read (List A)) (xs ys : List A) (t : Tree) (ts : Trees) → behind xs (read t) ≡ Ok ys → behind xs (each read (tree t ts)) ≡ behind ys (each read ts)
unfolding each
item_read read xs ys t ts h = joined xs (read t) (each read ts) ∙ ap (λ r. r >>= λ zs. behind zs (each read ts)) h

-- an item that was refused
pub item_refused : {A : Type 0} (read : Tree → Read (List A)) (xs : List A) (e : CodecFault) (t : Tree) (ts : Trees) → behind xs (read t) ≡ Err e → behind xs (each read (tree t ts)) ≡ Err e
unfolding each
item_refused read xs e t ts h = joined xs (read t) (each read ts) ∙ ap (λ r. r >>= λ zs. behind zs (each read ts)) h

pub no_item : {A : Type 0} (read : Tree → Read (List A)) (xs : List A) → behind xs (each read no_trees) ≡ Ok xs
unfolding each
no_item read xs = ap Ok (append-nil xs)

pub behind_none : {A : Type 0} (r : Read (List A)) → behind [] r ≡ r
behind_none (Ok xs) = refl
behind_none (Err e) = refl

same_fault : {A : Type 0} (e f : CodecFault) → (let r : Read A = Err e in r) ≡ Err f → e ≡ f
same_fault e f h = cc

-- a fault that is handed on
pub refused : {A B : Type 0} (r : Result B CodecFault) (e : CodecFault) (x : Read A) (y : Read B) → IsErr r × IsErrAnd r (λ f. f ≡ e)
    → IsUnless NoMemory (Err e) x → (x ≡ Err e → y ≡ Err e) → IsUnless NoMemory r y
refused (Ok b) e x y h u g = absurd h.1
refused (Err f) e x y h (inl p) g = inl (ap Err (h.1 ∙ same_fault e NoMemory p))
refused (Err f) e x y h (inr p) g = inr (ap Err h.1 ∙ sym (g (sym p)))
