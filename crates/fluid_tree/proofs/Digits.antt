-- The text of an id is read as that id.
use Rattle.std.proofs.Common.{◌≡◌, ℕ, zero, suc, ◌*◌, ◌/◌, ◌%◌, ◌<◌, List, [], ◌∷◌, length, get_or, Bool, true, Some, refl, ap, ◌∙◌, arith}
use Rattle.std.proofs.lemmas.Bool.{and_parts, and_from}
use Rattle.std.specs.List.{list_all}
use Rattle.std.specs.Result.{result_ok}
use Rattle.hex.specs.Hex.{IsBytes, encode_with, encode_lower, lower_digits}
use Rattle.hex.proofs.HexLemmas.{length-encode_with, decode_of-encode_lower, decode_sized-twice}
use Rattle.fluid_tree.specs.Ids.{is_lower_digit, id_read}

passes_at : (p : ℕ → Bool) (xs : List ℕ) (i : ℕ) → list_all p xs ≡ true → i < length xs → p (get_or xs i 0) ≡ true
passes_at p [] i h within = absurd (omega arith)
passes_at p (x ∷ xs) zero h within = (and_parts _ _ h).0
passes_at p (x ∷ xs) (suc i) h within = passes_at p xs i (and_parts _ _ h).1 (omega arith)

lower_digit : (i : ℕ) → i < 16 → is_lower_digit (get_or lower_digits i 0) ≡ true
lower_digit i h = passes_at is_lower_digit lower_digits i refl (omega arith)

all_lower : (xs : List ℕ) → IsBytes xs → list_all is_lower_digit (encode_lower xs) ≡ true
unfolding encode_with
all_lower [] bytes = refl
all_lower (b ∷ bs) bytes =
    let byte : b < 256 = bytes 0 in
    and_from _ _ (lower_digit (b / 16) (omega arith)) (and_from _ _ (lower_digit (b % 16) (omega arith)) (all_lower bs (λ i. bytes (suc i))))

pub id_read_back : (i : List ℕ) → length i ≡ 20 → IsBytes i → id_read (encode_lower i) ≡ Some i
unfolding id_read
id_read_back i size bytes =
    rw (all_lower i bytes)
    (ap result_ok (decode_sized-twice (encode_lower i) 20 (length-encode_with lower_digits i ∙ ap (λ n. 2 * n) size) ∙ decode_of-encode_lower i bytes))
