-- Entries in order, and the map that they stand for.
use Rattle.std.proofs.Common.{◌≡◌, ℕ, List, [], ◌∷◌, map, refl, ap}
use Rattle.fluid_types.specs.declared.quorum.Member.{Member}

-- members are the values under their ids
pub its_own : (ms : List Member) → ms ≡ map (λ (e : List ℕ × Member). e.1) (map (λ m. (m.id, m)) ms)
its_own [] = refl
its_own (m ∷ ms) = ap (λ l. m ∷ l) (its_own ms)
