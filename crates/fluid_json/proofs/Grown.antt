-- One more item, and one more member.
use Rattle.std.proofs.Common.{ℕ, List, [], ◌∷◌, ◌++◌}
use Rattle.fluid_json.specs.Tree.{Tree, trees, members, IsCanonical, AreCanonical, HasCanonical, AreAscending}

pub item_added : (ts : List Tree) (t : Tree) → AreCanonical (trees ts) → IsCanonical t → AreCanonical (trees (ts ++ t ∷ []))
item_added [] t h k = (k, tt)
item_added (u ∷ us) t h k = (h.0, item_added us t h.1 k)

pub member_added : (ms : List (List ℕ × Tree)) (k : List ℕ) (t : Tree)
    → AreAscending (members (ms ++ (k, t) ∷ [])) → HasCanonical (members ms) → IsCanonical t → HasCanonical (members (ms ++ (k, t) ∷ []))
member_added [] k t a h c = (a.0, (c, tt))
member_added (m ∷ ms) k t a h c = (a.0, (h.1.0, member_added ms k t a.1 h.1.1 c))
