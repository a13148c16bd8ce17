-- What opening finds, and what a crash leaves while the end of a file is repaired.
use Rattle.std.proofs.Common.{◌≡◌, inl, inr, ℕ, ◌+◌, ◌<◌, ◌≤◌, List, [], ◌∷◌, ◌++◌, length, get_or, take, drop, refl, sym, ◌∙◌, ap, subst, arith, append_assoc, length-append, length-drop}
use Rattle.std.proofs.lemmas.List.{take_at, drop_all, append_cancel_left}
use Rattle.std.proofs.lemmas.Nat.{from_be_bytes-to_be_bytes_4}
use Rattle.std.specs.Int.{w32, to_be_bytes, from_be_bytes}
use Rattle.std.specs.List.{AllByRecursion}
use Rattle.fluid_disk.specs.Disk.{Torn, Cut, overwritten}
use Rattle.fluid_disk.specs.Records.{IsShort, framed, spelled, IsEnd, IsWhole, Finds}
use Rattle.fluid_disk.specs.Files.{ReadsClosed}
use Rattle.fluid_disk.proofs.Tears.{torn_behind, written_behind}
use Rattle.fluid_disk.proofs.Rows.{length_framed}

-- ---- the end of a file

-- no record begins in one byte or none
short_end : (end : List ℕ) → length end ≤ 1 → IsEnd end
short_end [] short = tt
short_end (gate ∷ []) short = λ is_open whole. omega (arith, whole.length_stands)
short_end (gate ∷ other ∷ rest) short = absurd (omega arith)

pub finds_short : (records : List (List ℕ)) (image end : List ℕ) → AllByRecursion IsShort records → image ≡ spelled records ++ end → length end ≤ 1 → Finds records image
finds_short records image end all is short = record { short = all; end = end; splits = is; ends = short_end end short }

-- a byte that is torn at the end of the records, behind which nothing stands
pub end_torn : (records : List (List ℕ)) (end image : List ℕ) → AllByRecursion IsShort records → length end ≤ 1 → Torn (length (spelled records)) 1 (spelled records ++ end) image → Finds records image
end_torn records end image all short torn =
    let k = length (spelled records) in
    finds_short records image (drop k image) all (torn_behind (spelled records) end image 1 torn)
    (omega (arith, length-drop k image, torn.no_longer, length-append (spelled records) end, short))

pub end_written : (records : List (List ℕ)) (end : List ℕ) → length end ≤ 1 → overwritten (length (spelled records)) (0 ∷ []) (spelled records ++ end) ≡ spelled records ++ 0 ∷ []
end_written records end short =
    let k = length (spelled records) in
    written_behind (spelled records) (0 ∷ []) end
    ∙ ap (λ (l : List ℕ). spelled records ++ 0 ∷ l) (drop_all (k + 1) (spelled records ++ end) (omega (arith, length-append (spelled records) end, short)))

-- what stands behind the gate at the end is cut off or it isn't
pub end_cut : (records : List (List ℕ)) (gate : ℕ) (behind image : List ℕ) (to : ℕ) → to ≡ length (spelled records) + 1 → Finds records (spelled records ++ gate ∷ behind)
    → Cut to (spelled records ++ gate ∷ behind) image → Finds records image
end_cut records gate behind image to place finds (inl is) = subst (Finds records) (sym is) finds
end_cut records gate behind image to place finds (inr is) =
    let prefix = spelled records ++ gate ∷ [] in
    let size : length prefix ≡ to = omega (arith, place, length-append (spelled records) (gate ∷ [])) in
    finds_short records image (gate ∷ []) finds.short (is ∙ ap (λ (l : List ℕ). take to l) (sym (append_assoc (spelled records) (gate ∷ []) behind)) ∙ take_at prefix behind to size) (omega arith)

pub end_left : (records : List (List ℕ)) (gate : ℕ) (behind : List ℕ) (to : ℕ) → to ≡ length (spelled records) + 1 → take to (spelled records ++ gate ∷ behind) ≡ spelled records ++ gate ∷ []
end_left records gate behind to place =
    let prefix = spelled records ++ gate ∷ [] in
    let size : length prefix ≡ to = omega (arith, place, length-append (spelled records) (gate ∷ [])) in
    ap (λ (l : List ℕ). take to l) (sym (append_assoc (spelled records) (gate ∷ []) behind)) ∙ take_at prefix behind to size

-- the byte at the end of the records, where one stands there
pub record HasGate (records : List (List ℕ)) (held : List ℕ) : Type 0 where
  pub gate : ℕ
  pub behind : List ℕ
  pub splits : held ≡ spelled records ++ gate ∷ behind

gate_in : (prefix : List ℕ) (end held : List ℕ) → held ≡ prefix ++ end → length prefix < length held → (gate : ℕ) × (behind : List ℕ) × (held ≡ prefix ++ gate ∷ behind)
gate_in prefix [] held is lt = absurd (omega (arith, lt, ap length is, length-append prefix []))
gate_in prefix (gate ∷ behind) held is lt = (gate, behind, is)

pub has_gate : (records : List (List ℕ)) (held : List ℕ) → Finds records held → length (spelled records) < length held → HasGate records held
has_gate records held finds lt = let g = gate_in (spelled records) finds.end held finds.splits lt in record { gate = g.0; behind = g.1; splits = g.2 }

-- a gate that reads 0
pub gate_closed : (records : List (List ℕ)) (gate : ℕ) (behind held : List ℕ) → held ≡ spelled records ++ gate ∷ behind → ReadsClosed records held → gate ≡ 0
gate_closed records gate behind held is closed = ap (λ (l : List ℕ). get_or l 0 0) (append_cancel_left (spelled records) _ _ (sym is ∙ closed.splits))

-- ---- a file has one list of records

pub first_length : (bytes rest : List ℕ) → IsShort bytes → from_be_bytes w32 (take 4 (framed bytes ++ rest)) ≡ length bytes
first_length bytes rest short =
    ap (λ (l : List ℕ). from_be_bytes w32 (take 4 l)) (append_assoc (to_be_bytes w32 (length bytes)) bytes rest)
    ∙ ap (λ (l : List ℕ). from_be_bytes w32 l) (take_at (to_be_bytes w32 (length bytes)) (bytes ++ rest) 4 refl)
    ∙ from_be_bytes-to_be_bytes_4 (length bytes) short

pub whole_first : (bytes rest : List ℕ) → IsShort bytes → IsWhole (framed bytes ++ rest)
whole_first bytes rest short = record {
  length_stands = omega (arith, length-append (framed bytes) rest, length_framed bytes);
  bytes_stand = omega (arith, first_length bytes rest short, length-append (framed bytes) rest, length_framed bytes);
}

tail_same : (x y : ℕ) (xs ys : List ℕ) → x ∷ xs ≡ y ∷ ys → xs ≡ ys
tail_same x y xs ys is = ap (λ (l : List ℕ). drop 1 l) is

pub finds_once : (one two : List (List ℕ)) (bytes end other_end : List ℕ) → AllByRecursion IsShort one → AllByRecursion IsShort two → IsEnd end → IsEnd other_end
    → bytes ≡ spelled one ++ end → bytes ≡ spelled two ++ other_end → one ≡ two
finds_once [] [] bytes end other_end a b ends others is also = refl
finds_once [] (y ∷ two) bytes end other_end a b ends others is also =
    let same : end ≡ 1 ∷ (framed y ++ (spelled two ++ other_end)) = sym is ∙ also ∙ append_assoc (1 ∷ framed y) (spelled two) other_end in
    let begins : IsEnd (1 ∷ (framed y ++ (spelled two ++ other_end))) = subst IsEnd same ends in
    absurd (begins refl (whole_first y (spelled two ++ other_end) b.0))
finds_once (x ∷ one) [] bytes end other_end a b ends others is also =
    let same : other_end ≡ 1 ∷ (framed x ++ (spelled one ++ end)) = sym also ∙ is ∙ append_assoc (1 ∷ framed x) (spelled one) end in
    let begins : IsEnd (1 ∷ (framed x ++ (spelled one ++ end))) = subst IsEnd same others in
    absurd (begins refl (whole_first x (spelled one ++ end) a.0))
finds_once (x ∷ one) (y ∷ two) bytes end other_end a b ends others is also =
    let both : 1 ∷ (framed x ++ (spelled one ++ end)) ≡ 1 ∷ (framed y ++ (spelled two ++ other_end)) =
    sym (append_assoc (1 ∷ framed x) (spelled one) end) ∙ sym is ∙ also ∙ append_assoc (1 ∷ framed y) (spelled two) other_end in
    let behind : framed x ++ (spelled one ++ end) ≡ framed y ++ (spelled two ++ other_end) = tail_same _ _ _ _ both in
    let sizes : length x ≡ length y =
    sym (first_length x (spelled one ++ end) a.0) ∙ ap (λ (l : List ℕ). from_be_bytes w32 (take 4 l)) behind ∙ first_length y (spelled two ++ other_end) b.0 in
    let bodies : x ++ (spelled one ++ end) ≡ y ++ (spelled two ++ other_end) =
    append_cancel_left (to_be_bytes w32 (length x)) _ _
    (sym (append_assoc (to_be_bytes w32 (length x)) x (spelled one ++ end)) ∙ behind ∙ append_assoc (to_be_bytes w32 (length y)) y (spelled two ++ other_end)
    ∙ ap (λ (n : ℕ). to_be_bytes w32 n ++ (y ++ (spelled two ++ other_end))) (sym sizes)) in
    let firsts : x ≡ y = sym (take_at x (spelled one ++ end) (length x) refl) ∙ ap (λ (l : List ℕ). take (length x) l) bodies ∙ take_at y (spelled two ++ other_end) (length x) (sym sizes) in
    let rests : spelled one ++ end ≡ spelled two ++ other_end =
    append_cancel_left x _ _ (bodies ∙ ap (λ (l : List ℕ). l ++ (spelled two ++ other_end)) (sym firsts)) in
    ap (λ (l : List ℕ). l ∷ one) firsts ∙ ap (λ (l : List (List ℕ)). y ∷ l) (finds_once one two (spelled one ++ end) end other_end a.1 b.1 ends others refl rests)

pub found_once : (one two : List (List ℕ)) (bytes : List ℕ) → Finds one bytes → Finds two bytes → one ≡ two
found_once one two bytes a b = finds_once one two bytes a.end b.end a.short b.short a.ends b.ends a.splits b.splits
