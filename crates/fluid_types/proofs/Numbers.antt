-- Messages that are numbered one by one: one of them, a part of them, one more, and the last.
use Rattle.std.proofs.Common.{◌≡◌, ℕ, zero, suc, ◌+◌, ◌<◌, ◌≤◌, List, [], ◌∷◌, ◌++◌, length, map, take, drop, get_or, Some, All, subst, refl, ◌∙◌, arith}
use Rattle.std.specs.Prelude.{unwrap_or}
use Rattle.std.specs.List.{last_or}
use Rattle.std.proofs.lemmas.List.Elements.{All-nil, All-cons}
use Rattle.fluid_types.specs.declared.messages.Message.{Message}
use Rattle.fluid_types.specs.Order.{AreNumberedFrom, AreFirst}
use Rattle.fluid_types.specs.Quorum.{at_last}

pub numbered_same : (ms : List Message) (n k : ℕ) → n ≡ k → AreNumberedFrom n ms → AreNumberedFrom k ms
numbered_same ms n k same numbered = subst (λ number. AreNumberedFrom number ms) same numbered

pub numbered_at : (ms : List Message) (n i : ℕ) (d : Message) → i < length ms → AreNumberedFrom n ms → (get_or ms i d).number ≡ n + i
numbered_at [] n i d lt numbered = absurd (omega arith)
numbered_at (m ∷ ms) n zero d lt numbered = omega (arith, numbered.0)
numbered_at (m ∷ ms) n (suc i) d lt numbered = omega (arith, numbered_at ms (suc n) i d (omega arith) numbered.1)

pub numbered_drop : (ms : List Message) (n k : ℕ) → AreNumberedFrom n ms → AreNumberedFrom (n + k) (drop k ms)
numbered_drop ms n zero numbered = numbered_same ms n (n + 0) (omega arith) numbered
numbered_drop [] n (suc k) numbered = tt
numbered_drop (m ∷ ms) n (suc k) numbered = numbered_same (drop k ms) (suc n + k) (n + suc k) (omega arith) (numbered_drop ms (suc n) k numbered.1)

pub numbered_take : (ms : List Message) (n k : ℕ) → AreNumberedFrom n ms → AreNumberedFrom n (take k ms)
numbered_take ms n zero numbered = tt
numbered_take [] n (suc k) numbered = tt
numbered_take (m ∷ ms) n (suc k) numbered = (numbered.0, numbered_take ms (suc n) k numbered.1)

pub numbered_append : (xs ys : List Message) (n : ℕ) → AreNumberedFrom n xs → AreNumberedFrom (n + length xs) ys → AreNumberedFrom n (xs ++ ys)
numbered_append [] ys n prefix behind = numbered_same ys (n + 0) n (omega arith) behind
numbered_append (x ∷ xs) ys n prefix behind =
    (prefix.0, numbered_append xs ys (suc n) prefix.1 (numbered_same ys (n + suc (length xs)) (suc n + length xs) (omega arith) behind))

-- one more at the end
pub numbered_more : (ms : List Message) (m : Message) (n : ℕ) → AreNumberedFrom n ms → m.number ≡ n + length ms → AreNumberedFrom n (ms ++ m ∷ [])
numbered_more ms m n numbered next = numbered_append ms (m ∷ []) n numbered (next, tt)

-- the numbers are no less than the first and no more than the last
pub numbered_least : (ms : List Message) (n : ℕ) → AreNumberedFrom n ms → All (λ m. n ≤ m.number) ms
numbered_least [] n numbered = All-nil (λ m. n ≤ m.number)
numbered_least (m ∷ ms) n numbered =
    All-cons (λ m. n ≤ m.number) m ms (omega (arith, numbered.0)) (λ i d lt. let later = numbered_least ms (suc n) numbered.1 i d lt in omega (arith, later))

pub numbered_most : (ms : List Message) (n k : ℕ) → AreNumberedFrom n ms → n + length ms ≤ k + 1 → All (λ m. m.number ≤ k) ms
numbered_most [] n k numbered le = All-nil (λ m. m.number ≤ k)
numbered_most (m ∷ ms) n k numbered le =
    All-cons (λ m. m.number ≤ k) m ms (omega (arith, numbered.0)) (numbered_most ms (suc n) k numbered.1 (omega arith))

last_behind : (n : ℕ) (ms : List Message) → AreNumberedFrom (suc n) ms → unwrap_or (last_or (Some n) (map (λ m. m.number) ms)) 0 ≡ n + length ms
last_behind n [] numbered = omega arith
last_behind n (m ∷ ms) numbered = rw numbered.0 (last_behind (suc n) ms numbered.1 ∙ omega arith)

-- the last number is how many there are
pub last_number : (ms : List Message) → AreFirst ms → at_last (λ m. m.number) ms ≡ length ms
last_number [] numbered = refl
last_number (m ∷ ms) numbered = rw numbered.0 (last_behind 1 ms numbered.1 ∙ omega arith)
