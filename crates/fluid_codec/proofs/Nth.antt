-- Items by their place.
use Rattle.std.proofs.Common.{◌≡◌, ◌<◌, ◌≤◌, ℕ, zero, suc, List, [], ◌∷◌, length, get_or, Some, None, refl, ap, sym, ◌∙◌, arith}
use Rattle.fluid_json.specs.Tree.{Tree, trees, as_trees}
use Rattle.fluid_codec.specs.Items.{nth, item}

nth-trees : (xs : List Tree) (n : ℕ) (d : Tree) → n < length xs → nth n (trees xs) ≡ Some (get_or xs n d)
nth-trees [] n d h = absurd (omega arith)
nth-trees (x ∷ xs) zero d h = refl
nth-trees (x ∷ xs) (suc n) d h = nth-trees xs n d (omega arith)

nth-none : (xs : List Tree) (n : ℕ) → length xs ≤ n → nth n (trees xs) ≡ None
nth-none [] n h = refl
nth-none (x ∷ xs) zero h = absurd (omega arith)
nth-none (x ∷ xs) (suc n) h = nth-none xs n (omega arith)

-- the item of a list that is long enough
pub item_found : (t : Tree) (xs : List Tree) (n : ℕ) (v : Tree) → Some (trees xs) ≡ as_trees t → n < length xs → v ≡ get_or xs n v → Some v ≡ item n t
item_found t xs n v h k e = rw (← h) (ap Some e ∙ sym (nth-trees xs n v k))

pub item_missing : (t : Tree) (xs : List Tree) (n : ℕ) → Some (trees xs) ≡ as_trees t → length xs ≤ n → None ≡ item n t
item_missing t xs n h k = rw (← h) (sym (nth-none xs n k))
