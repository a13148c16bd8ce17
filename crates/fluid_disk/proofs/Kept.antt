-- Where the bytes of a record stand.
use Rattle.std.proofs.Common.{◌≡◌, ◌⊎◌, inl, inr, ℕ, zero, suc, ◌+◌, ◌-◌, ◌<◌, ◌≤◌, List, [], ◌∷◌, ◌++◌, length, get_or, take, drop, refl, sym, ◌∙◌, ap, arith, append_assoc, length-append}
use Rattle.std.proofs.lemmas.List.{take_at, drop_at, drop-drop, drop-take, take-take, get_or_append_left, take-append-le}
use Rattle.std.specs.Int.{w32, to_be_bytes}
use Rattle.fluid_disk.specs.Records.{framed, spelled, gate_before, IsAtRest}
use Rattle.fluid_disk.specs.Files.{Owing, Nothing, Appending, Cutting, IsAtRestBut, Keeps}
use Rattle.fluid_disk.proofs.Rows.{opened_at, length_first}

-- the gate behind a record
pub gate_next : (n : ℕ) (records : List (List ℕ)) → n < length records → gate_before (suc n) records ≡ gate_before n records + 5 + length (get_or records n [])
gate_next n [] lt = absurd (omega arith)
gate_next zero (first ∷ records) lt = omega (arith, length_first first [])
gate_next (suc n) (first ∷ records) lt =
    omega (arith, length_first first (take (suc n) records), length_first first (take n records), gate_next n records (omega arith))

pub gate_behind_it : (n : ℕ) (records : List (List ℕ)) → n < length records → gate_before (n + 1) records ≡ gate_before n records + 5 + length (get_or records n [])
gate_behind_it n records lt = let next : n + 1 ≡ suc n = omega arith in ap (λ (k : ℕ). gate_before k records) next ∙ gate_next n records lt

-- gates stand behind one another
pub gate_order : (n m : ℕ) (records : List (List ℕ)) → n < m → n < length records → gate_before n records + 5 + length (get_or records n []) ≤ gate_before m records
gate_order n m [] lt within = absurd (omega arith)
gate_order n zero (first ∷ records) lt within = absurd (omega arith)
gate_order zero (suc m) (first ∷ records) lt within = omega (arith, length_first first (take m records))
gate_order (suc n) (suc m) (first ∷ records) lt within =
    omega (arith, length_first first (take m records), length_first first (take n records), gate_order n m records (omega arith) (omega arith))

gate_behind : (m n : ℕ) (records : List (List ℕ)) → m ≤ n → gate_before m records ≤ gate_before n records
gate_behind zero n records le = omega arith
gate_behind (suc m) zero records le = absurd (omega arith)
gate_behind (suc m) (suc n) [] le = omega arith
gate_behind (suc m) (suc n) (first ∷ records) le = omega (arith, length_first first (take m records), length_first first (take n records), gate_behind m n records (omega arith))

pub ordered : (m n : ℕ) → (m ≤ n) ⊎ (n < m)
ordered zero n = inl (omega arith)
ordered (suc m) zero = inr (omega arith)
ordered (suc m) (suc n) = elim (ordered m n) [
  | inl le ↦ inl (omega (arith, le))
  | inr lt ↦ inr (omega (arith, lt))
]

-- what stands within a prefix
within_prefix : (at count prefix : ℕ) (bytes : List ℕ) → at + count ≤ prefix → take count (drop at bytes) ≡ take count (drop at (take prefix bytes))
within_prefix at count prefix bytes le =
    sym (drop-take at count bytes) ∙ ap (λ (l : List ℕ). drop at l) (sym (take-take (at + count) prefix bytes le)) ∙ drop-take at count (take prefix bytes)

record_in : (prefix bytes rest : List ℕ) (gate : ℕ) → take (length bytes) (drop (length prefix + 5) (prefix ++ gate ∷ (framed bytes ++ rest))) ≡ bytes
record_in prefix bytes rest gate =
    let head = to_be_bytes w32 (length bytes) in
    let behind : drop 5 (gate ∷ (framed bytes ++ rest)) ≡ bytes ++ rest = ap (λ (l : List ℕ). drop 4 l) (append_assoc head bytes rest) ∙ drop_at head (bytes ++ rest) 4 refl in
    ap (λ (l : List ℕ). take (length bytes) l)
    (sym (drop-drop 5 (length prefix) (prefix ++ gate ∷ (framed bytes ++ rest))) ∙ ap (λ (l : List ℕ). drop 5 l) (drop_at prefix (gate ∷ (framed bytes ++ rest)) (length prefix) refl) ∙ behind)
    ∙ take_at bytes rest (length bytes) refl

-- the bytes of record n
pub there : (n : ℕ) (records : List (List ℕ)) (held : List ℕ) → n < length records → IsAtRest records held
    → take (length (get_or records n [])) (drop (gate_before n records + 5) held) ≡ get_or records n []
there n records held lt rest =
    let one = get_or records n [] in
    let prefix = spelled (take n records) in
    let back = spelled (drop (n + 1) records) in
    let is : held ≡ prefix ++ 1 ∷ (framed one ++ (back ++ rest.gate ∷ rest.behind)) =
    rest.splits ∙ ap (λ (l : List ℕ). l ++ rest.gate ∷ rest.behind) (opened_at n records lt) ∙ append_assoc prefix (1 ∷ (framed one ++ back)) (rest.gate ∷ rest.behind)
    ∙ ap (λ (l : List ℕ). prefix ++ 1 ∷ l) (append_assoc (framed one) back (rest.gate ∷ rest.behind)) in
    ap (λ (l : List ℕ). take (length one) (drop (length prefix + 5) l)) is ∙ record_in prefix one (back ++ rest.gate ∷ rest.behind) 1

there_push : (n : ℕ) (records : List (List ℕ)) (last held : List ℕ) → n < length records → IsAtRest (records ++ last ∷ []) held
    → take (length (get_or records n [])) (drop (gate_before n records + 5) held) ≡ get_or records n []
there_push n records last held lt rest =
    let same : get_or (records ++ last ∷ []) n [] ≡ get_or records n [] = get_or_append_left records (last ∷ []) [] n lt in
    let place : gate_before n (records ++ last ∷ []) ≡ gate_before n records = ap (λ (l : List (List ℕ)). length (spelled l)) (take-append-le n records (last ∷ []) (omega (arith, lt))) in
    rw (same, place) at (there n (records ++ last ∷ []) held (omega (arith, lt, length-append records (last ∷ []))) rest)

there_but : (n m : ℕ) (records : List (List ℕ)) (held : List ℕ) → n < length records → IsAtRestBut m records held
    → take (length (get_or records n [])) (drop (gate_before n records + 5) held) ≡ get_or records n []
there_but n m records held lt but =
    let one = get_or records n [] in
    let at = gate_before n records + 5 in
    let gate = gate_before m records in
    let whole = there n records but.whole lt but.rest in
    elim (ordered m n) [
      | inl behind ↦
          let le : gate + 1 ≤ at = omega (arith, gate_behind m n records behind) in
          let k = at - (gate + 1) in
          let sum : gate + 1 + k ≡ at = omega (arith, le) in
          let same : drop at held ≡ drop at but.whole =
          ap (λ (i : ℕ). drop i held) (sym sum) ∙ sym (drop-drop k (gate + 1) held) ∙ ap (λ (l : List ℕ). drop k l) but.torn.after ∙ drop-drop k (gate + 1) but.whole ∙ ap (λ (i : ℕ). drop i but.whole) sum in
          ap (λ (l : List ℕ). take (length one) l) same ∙ whole
      | inr before ↦
          let le : at + length one ≤ gate = gate_order n m records before lt in
          within_prefix at (length one) gate held le ∙ ap (λ (l : List ℕ). take (length one) (drop at l)) but.torn.before ∙ sym (within_prefix at (length one) gate but.whole le) ∙ whole
    ]

-- whatever is in progress or owed
pub there_any : (n : ℕ) (records : List (List ℕ)) (owing : Owing) (held : List ℕ) → n < length records → Keeps records owing held
    → take (length (get_or records n [])) (drop (gate_before n records + 5) held) ≡ get_or records n []
there_any n records Nothing held lt rest = there n records held lt rest
there_any n records (Appending bytes) held lt (inl rest) = there n records held lt rest
there_any n records (Appending bytes) held lt (inr rest) = there_push n records bytes held lt rest
there_any n records (Cutting m) held lt but = there_but n m records held lt but
