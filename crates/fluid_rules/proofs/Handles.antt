-- The id of a version has 20 bytes.
use Rattle.std.proofs.Common.{◌≡◌, ℕ, zero, suc, ◌*◌, List, [], ◌∷◌, ◌++◌, length, length-append, refl, arith}
use Rattle.std.specs.Prelude.{slice_index}
use Rattle.std.specs.Int.{w32, to_be_bytes}
use Rattle.hex.specs.Hex.{IsBytes}
use Rattle.sha1.specs.Sha1.{digest_bytes, sha1}
use Rattle.fluid_rules.specs.Scribe.{version}

digest_size : (h : List ℕ) (n : ℕ) → length (digest_bytes h n) ≡ 4 * n
unfolding digest_bytes
digest_size h zero = refl
digest_size h (suc n) =
    let word : length (to_be_bytes w32 (slice_index h n)) ≡ 4 = refl in
    omega (arith, length-append (digest_bytes h n) (to_be_bytes w32 (slice_index h n)), word, digest_size h n)

bytes_append : (xs ys : List ℕ) → IsBytes xs → IsBytes ys → IsBytes (xs ++ ys)
bytes_append [] ys h k i = k i
bytes_append (x ∷ xs) ys h k zero = h zero
bytes_append (x ∷ xs) ys h k (suc i) = bytes_append xs ys (λ j. h (suc j)) k i

word_bytes : (n : ℕ) → IsBytes (to_be_bytes w32 n)
word_bytes n zero = omega arith
word_bytes n (suc zero) = omega arith
word_bytes n (suc (suc zero)) = omega arith
word_bytes n (suc (suc (suc zero))) = omega arith
word_bytes n (suc (suc (suc (suc i)))) = omega arith

no_bytes : IsBytes []
no_bytes i = omega arith

digest_is_bytes : (h : List ℕ) (n : ℕ) → IsBytes (digest_bytes h n)
unfolding digest_bytes
digest_is_bytes h zero = no_bytes
digest_is_bytes h (suc n) = bytes_append (digest_bytes h n) (to_be_bytes w32 (slice_index h n)) (digest_is_bytes h n) (word_bytes (slice_index h n))

sha1_size : (s : List ℕ) → length (sha1 s) ≡ 20
unfolding sha1
sha1_size s = digest_size _ 5

sha1_bytes : (s : List ℕ) → IsBytes (sha1 s)
unfolding sha1
sha1_bytes s = digest_is_bytes _ 5

pub version-size : (app : List ℕ) (texts : List (List ℕ × List ℕ)) → length (version app texts) ≡ 20
unfolding version
version-size app texts = sha1_size _

pub version-bytes : (app : List ℕ) (texts : List (List ℕ × List ℕ)) → IsBytes (version app texts)
unfolding version
version-bytes app texts = sha1_bytes _
