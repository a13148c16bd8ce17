-- What the function finds in bytes is what opening finds.
use Rattle.std.proofs.Common.{◌≡◌, ℕ, zero, suc, ◌+◌, ◌≤◌, true, false, cond, ◌&&◌, nat_le, nat_eq, List, [], ◌∷◌, ◌++◌, length, take, drop, Option, Some, None, option_map, is_some, inl, inr, refl, sym, ◌∙◌, ap, arith, append_assoc, length-append}
use Rattle.std.proofs.lemmas.Bool.{false≢true, and_parts, leb-true, le-leb, eqb-true}
use Rattle.std.proofs.lemmas.List.{take_at, drop_at}
use Rattle.std.specs.Int.{w32, to_be_bytes, from_be_bytes}
use Rattle.std.specs.List.{AllByRecursion}
use Rattle.fluid_disk.specs.Disk.{Stored}
use Rattle.fluid_disk.specs.Records.{IsShort, framed, spelled, IsEnd, Finds}
use Rattle.fluid_disk.specs.Files.{FindsAgain, StaysFound}
use Rattle.fluid_disk.proofs.Endings.{first_length}
use Rattle.fluid_disk.proofs.Rows.{length_framed}
use Rattle.fluid_disk_keeper.specs.Keepers.{Texts}
use Rattle.fluid_disk_shelves.specs.Found.{found_by, found, found_on}

-- ---- where no record begins

found_end : (most : ℕ) (end : List ℕ) → IsEnd end → found_by most end ≡ []
found_end zero end ends = refl
found_end (suc most) [] ends = refl
found_end (suc most) (gate ∷ behind) ends =
    let count = from_be_bytes w32 (take 4 behind) in
    elim (nat_eq gate 1 && nat_le (4 + count) (length behind)) as (λ b. (nat_eq gate 1 && nat_le (4 + count) (length behind)) ≡ b → cond b (take count (drop 4 behind) ∷ found_by most (drop (4 + count) behind)) [] ≡ []) [
      | true ↦ λ is.
          let both = and_parts _ _ is in
          let fits : 4 + count ≤ length behind = leb-true (4 + count) (length behind) both.1 in
          absurd (ends (eqb-true gate 1 both.0) (record { length_stands = omega (arith, fits); bytes_stand = fits }))
      | false ↦ λ is. refl
    ] refl

-- ---- where one begins

-- what is found where this length stands behind an open gate
abbrev behind_open : ℕ → ℕ → List ℕ → Texts
behind_open most count behind = cond (nat_le (4 + count) (length behind)) (take count (drop 4 behind) ∷ found_by most (drop (4 + count) behind)) []

found_first : (most : ℕ) (first rest : List ℕ) → IsShort first → found_by (suc most) (1 ∷ (framed first ++ rest)) ≡ first ∷ found_by most rest
found_first most first rest short =
    let behind = framed first ++ rest in
    let fits : nat_le (4 + length first) (length behind) ≡ true = le-leb (4 + length first) (length behind) (omega (arith, length-append (framed first) rest, length_framed first)) in
    let bytes : take (length first) (drop 4 behind) ≡ first =
    ap (λ (l : List ℕ). take (length first) (drop 4 l)) (append_assoc (to_be_bytes w32 (length first)) first rest)
    ∙ ap (λ (l : List ℕ). take (length first) l) (drop_at (to_be_bytes w32 (length first)) (first ++ rest) 4 refl)
    ∙ take_at first rest (length first) refl in
    let after : drop (4 + length first) behind ≡ rest = drop_at (framed first) rest (4 + length first) (omega (arith, length_framed first)) in
    ap (λ (n : ℕ). behind_open most n behind) (first_length first rest short)
    ∙ ap (λ b. cond b (take (length first) (drop 4 behind) ∷ found_by most (drop (4 + length first) behind)) []) fits
    ∙ ap (λ (l : List ℕ). l ∷ found_by most (drop (4 + length first) behind)) bytes
    ∙ ap (λ (l : List ℕ). first ∷ found_by most l) after

found_all : (most : ℕ) (records : Texts) (bytes end : List ℕ) → AllByRecursion IsShort records → IsEnd end → bytes ≡ spelled records ++ end → length bytes ≤ most → found_by most bytes ≡ records
found_all most [] bytes end short ends is within = ap (found_by most) is ∙ found_end most end ends
found_all zero (first ∷ records) bytes end short ends is within =
    absurd (omega (arith, within, ap length is, length-append ((1 ∷ framed first) ++ spelled records) end, length-append (1 ∷ framed first) (spelled records)))
found_all (suc most) (first ∷ records) bytes end short ends is within =
    let rest = spelled records ++ end in
    let split : bytes ≡ 1 ∷ (framed first ++ rest) = is ∙ append_assoc (1 ∷ framed first) (spelled records) end in
    let fewer : length rest ≤ most = omega (arith, within, ap length split, length-append (framed first) rest) in
    ap (found_by (suc most)) split ∙ found_first most first rest short.0 ∙ ap (λ (l : Texts). first ∷ l) (found_all most records rest end short.1 ends refl fewer)

pub found_is : (records : Texts) (bytes : List ℕ) → Finds records bytes → found bytes ≡ records
found_is records bytes finds = found_all (length bytes) records bytes finds.end finds.short finds.ends finds.splits (omega arith)

-- ---- what opening leaves to find

again : (before after : List ℕ) → FindsAgain before after → found after ≡ found before
again before after (inl same) = ap found same
again before after (inr (records, one, other)) = found_is records after other ∙ sym (found_is records before one)

told_again : (old new : Option (List ℕ)) → is_some new ≡ is_some old → ((before after : List ℕ) → old ≡ Some before → new ≡ Some after → FindsAgain before after) → option_map found new ≡ option_map found old
told_again None None same finds = refl
told_again None (Some after) same finds = absurd (false≢true (sym same))
told_again (Some before) None same finds = absurd (false≢true same)
told_again (Some before) (Some after) same finds = ap Some (again before after (finds before after refl refl))

pub found_again : (old new : Stored) → is_some new.bytes ≡ is_some old.bytes → StaysFound old new → found_on new ≡ found_on old
found_again old new same finds = told_again old.bytes new.bytes same finds
