-- How rows of records are spelled, and where their gates stand.
use Rattle.std.proofs.Common.{◌≡◌, ℕ, zero, suc, ◌+◌, ◌<◌, ◌≤◌, List, [], ◌∷◌, ◌++◌, length, get_or, take, drop, refl, sym, ◌∙◌, ap, arith, append_assoc, length-append}
use Rattle.std.proofs.lemmas.List.{append-nil, drop_more, take_all}
use Rattle.std.specs.Int.{w32, to_be_bytes}
use Rattle.fluid_disk.specs.Records.{framed, spelled, gates_from, gate_before}

pub length_framed : (bytes : List ℕ) → length (framed bytes) ≡ 4 + length bytes
length_framed bytes = length-append (to_be_bytes w32 (length bytes)) bytes

pub length_first : (bytes : List ℕ) (records : List (List ℕ)) → length (spelled (bytes ∷ records)) ≡ 5 + length bytes + length (spelled records)
length_first bytes records = omega (arith, length-append (1 ∷ framed bytes) (spelled records), length_framed bytes)

-- one record more
pub spelled_push : (records : List (List ℕ)) (bytes rest : List ℕ) → spelled (records ++ bytes ∷ []) ++ rest ≡ spelled records ++ 1 ∷ (framed bytes ++ rest)
spelled_push [] bytes rest = ap (λ (l : List ℕ). 1 ∷ (l ++ rest)) (append-nil (framed bytes))
spelled_push (first ∷ records) bytes rest =
    append_assoc (1 ∷ framed first) (spelled (records ++ bytes ∷ [])) rest
    ∙ ap (λ (l : List ℕ). (1 ∷ framed first) ++ l) (spelled_push records bytes rest)
    ∙ sym (append_assoc (1 ∷ framed first) (spelled records) (1 ∷ (framed bytes ++ rest)))

pub length_push : (records : List (List ℕ)) (bytes : List ℕ) → length (spelled (records ++ bytes ∷ [])) ≡ length (spelled records) + 5 + length bytes
length_push [] bytes = omega (arith, length_first bytes [])
length_push (first ∷ records) bytes = omega (arith, length_first first (records ++ bytes ∷ []), length_first first records, length_push records bytes)

pub gates_push : (at : ℕ) (records : List (List ℕ)) (bytes : List ℕ) → gates_from at (records ++ bytes ∷ []) ≡ gates_from at records ++ (at + length (spelled records) + 5 + length bytes) ∷ []
gates_push at [] bytes = let same : at + 5 + length bytes ≡ at + 0 + 5 + length bytes = omega arith in ap (λ (n : ℕ). at ∷ n ∷ []) same
gates_push at (first ∷ records) bytes =
    let next = at + 5 + length first in
    let same : next + length (spelled records) + 5 + length bytes ≡ at + length (spelled (first ∷ records)) + 5 + length bytes = omega (arith, length_first first records) in
    ap (λ (l : List ℕ). at ∷ l) (gates_push next records bytes ∙ ap (λ (n : ℕ). gates_from next records ++ n ∷ []) same)

pub length_gates : (at : ℕ) (records : List (List ℕ)) → length (gates_from at records) ≡ length records + 1
length_gates at [] = refl
length_gates at (first ∷ records) = omega (arith, length_gates (at + 5 + length first) records)

-- the gate before record n
pub gate_at : (at n : ℕ) (records : List (List ℕ)) (d : ℕ) → n ≤ length records → get_or (gates_from at records) n d ≡ at + gate_before n records
gate_at at zero [] d le = omega arith
gate_at at zero (first ∷ records) d le = omega arith
gate_at at (suc n) [] d le = absurd (omega arith)
gate_at at (suc n) (first ∷ records) d le = omega (arith, gate_at (at + 5 + length first) n records d (omega arith), length_first first (take n records))

pub gate_last : (records : List (List ℕ)) → gate_before (length records) records ≡ length (spelled records)
gate_last records = ap (λ (l : List (List ℕ)). length (spelled l)) (take_all (length records) records (omega arith))

-- the gates of the first n records
pub take_gates : (at n : ℕ) (records : List (List ℕ)) → n ≤ length records → take (suc n) (gates_from at records) ≡ gates_from at (take n records)
take_gates at zero [] le = refl
take_gates at zero (first ∷ records) le = refl
take_gates at (suc n) [] le = absurd (omega arith)
take_gates at (suc n) (first ∷ records) le = ap (λ (l : List ℕ). at ∷ l) (take_gates (at + 5 + length first) n records (omega arith))

pub spelled_split : (n : ℕ) (records : List (List ℕ)) → spelled (take n records) ++ spelled (drop n records) ≡ spelled records
spelled_split zero records = refl
spelled_split (suc n) [] = refl
spelled_split (suc n) (first ∷ records) =
    append_assoc (1 ∷ framed first) (spelled (take n records)) (spelled (drop n records)) ∙ ap (λ (l : List ℕ). (1 ∷ framed first) ++ l) (spelled_split n records)

-- the gate before record n is open, and behind it stands the record
pub opened_at : (n : ℕ) (records : List (List ℕ)) → n < length records
    → spelled records ≡ spelled (take n records) ++ 1 ∷ (framed (get_or records n []) ++ spelled (drop (n + 1) records))
opened_at n records lt = sym (spelled_split n records) ∙ ap (λ (l : List (List ℕ)). spelled (take n records) ++ spelled l) (drop_more records n [] lt)
