-- An id is 20 bytes.
use Rattle.std.proofs.Common.{ℕ, zero, suc, List, [], ◌∷◌, ◌++◌, arith}
use Rattle.std.specs.Prelude.{slice_index}
use Rattle.std.specs.Int.{w32, to_be_bytes}
use Rattle.hex.specs.Hex.{IsBytes}
use Rattle.sha1.specs.Sha1.{digest_bytes, sha1}

bytes_append : (xs ys : List ℕ) → IsBytes xs → IsBytes ys → IsBytes (xs ++ ys)
bytes_append [] ys h k i = k i
bytes_append (x ∷ xs) ys h k zero = h zero
bytes_append (x ∷ xs) ys h k (suc i) = bytes_append xs ys (λ j. h (suc j)) k i

word_bytes : (n : ℕ) → IsBytes (to_be_bytes w32 n)
word_bytes n zero = omega arith
word_bytes n (suc zero) = omega arith
word_bytes n (suc (suc zero)) = omega arith
word_bytes n (suc (suc (suc zero))) = omega arith
word_bytes n (suc (suc (suc (suc i)))) = omega arith

no_bytes : IsBytes []
no_bytes i = omega arith

digest_is_bytes : (h : List ℕ) (n : ℕ) → IsBytes (digest_bytes h n)
unfolding digest_bytes
digest_is_bytes h zero = no_bytes
digest_is_bytes h (suc n) = bytes_append (digest_bytes h n) (to_be_bytes w32 (slice_index h n)) (digest_is_bytes h n) (word_bytes (slice_index h n))

pub sha1_bytes : (s : List ℕ) → IsBytes (sha1 s)
unfolding sha1
sha1_bytes s = digest_is_bytes _ 5
