-- What a crash of a disk in memory makes of the newest call.
use Rattle.std.proofs.Common.{◌≡◌, ◌⊎◌, inl, inr, Bool, true, false, cond, ℕ, ◌+◌, ◌-◌, ◌<◌, ◌≤◌, List, ◌∷◌, ◌++◌, length, take, drop, sym, ◌∙◌, ap, subst, arith, append_assoc, length-append, length-drop}
use Rattle.std.proofs.lemmas.List.{take_at, drop_at, drop_all, drop-drop, append-nil, length-take-le}
use Rattle.fluid_disk.specs.declared.call.Call.{Call}
use Rattle.fluid_disk.specs.declared.call.Call.TheVariants.{Wrote, CutOff}
use Rattle.fluid_disk.specs.Disk.{Torn}
use Rattle.fluid_disk.specs.Memory.{MayLeave, undone, Fits, leaves_held}
use Rattle.fluid_disk.proofs.Tears.{torn_same}

-- what a write replaced was put back over its range
pub put_back : (at n k : ℕ) (replaced held : List ℕ) → Fits (length held) at n (length replaced) → k ≡ length replaced → length replaced ≡ n
    → take at held ++ (replaced ++ drop k (drop at held)) ≡ undone (Wrote at n replaced) held
put_back at n k replaced held fits same all =
    let there : at + k ≡ at + n = omega (arith, same, all) in
    ap (λ (l : List ℕ). take at held ++ (replaced ++ l)) (drop-drop k at held ∙ ap (λ (i : ℕ). drop i held) there)
    ∙ sym (append_assoc (take at held) replaced (drop (at + n) held))

-- ones in the first bytes of a range are what a crash may leave of the write
pub torn_ones : (at n t k : ℕ) (replaced ones held : List ℕ) → Fits (length held) at n (length replaced) → length ones ≡ t → t ≤ n → k ≡ t
    → Torn at n (undone (Wrote at n replaced) held) (take at held ++ (ones ++ drop k (drop at held)))
torn_ones at n t k replaced ones held fits size within same =
    let rest = drop k (drop at held) in
    let new = take at held ++ (ones ++ rest) in
    let back = drop (at + n) held in
    let old = undone (Wrote at n replaced) held in
    let prefix : length (take at held) ≡ at = length-take-le at held (omega (arith, fits.within)) in
    let left : length rest ≡ length held - at - k = omega (arith, length-drop k (drop at held), length-drop at held) in
    let length_new : length new ≡ length held = omega (arith, length-append (take at held) (ones ++ rest), length-append ones rest, prefix, left, size, same, within, fits.within) in
    let length_old : length old ≡ at + length replaced + (length held - (at + n)) =
    omega (arith, length-append (take at held ++ replaced) back, length-append (take at held) replaced, prefix, length-drop (at + n) held) in
    let more : n ≡ t + (n - t) = omega (arith, within) in
    let after_new : drop (at + n) new ≡ back =
    ap (λ (m : ℕ). drop (at + m) new) more ∙ sym (drop-drop (t + (n - t)) at new) ∙ ap (λ (l : List ℕ). drop (t + (n - t)) l) (drop_at (take at held) (ones ++ rest) at prefix)
    ∙ sym (drop-drop (n - t) t (ones ++ rest)) ∙ ap (λ (l : List ℕ). drop (n - t) l) (drop_at ones rest t size)
    ∙ drop-drop (n - t) k (drop at held) ∙ drop-drop (k + (n - t)) at held ∙ ap (λ (i : ℕ). drop i held) (let is : at + (k + (n - t)) ≡ at + n = omega (arith, same, within) in is) in
    let after_old : drop (at + n) old ≡ back = elim fits.last [
      | inl all ↦ drop_at (take at held ++ replaced) back (at + n) (omega (arith, length-append (take at held) replaced, prefix, all))
      | inr whole ↦
          drop_all (at + n) old (omega (arith, length_old, fits.no_more, whole)) ∙ sym (drop_all (at + n) held (omega (arith, whole)))
    ] in
    record {
      before = take_at (take at held) (ones ++ rest) at prefix
          ∙ sym (ap (λ (l : List ℕ). take at l) (append_assoc (take at held) replaced back) ∙ take_at (take at held) (replaced ++ back) at prefix);
      after = after_new ∙ sym after_old;
      no_shorter = omega (arith, length_new, length_old, fits.within, fits.no_more);
      no_longer = elim fits.last [
        | inl all ↦ omega (arith, length_new, length_old, all, fits.within)
        | inr whole ↦ omega (arith, length_new, whole)
      ];
    }

-- the same, of bytes that are equal to these
pub torn_by : (new : List ℕ) (at n t k size : ℕ) (replaced ones held : List ℕ) → new ≡ take at held ++ (ones ++ drop k (drop at held)) → Fits size at n (length replaced) → size ≡ length held
    → length ones ≡ t → t ≤ n → k ≡ t → Torn at n (undone (Wrote at n replaced) held) new
torn_by new at n t k size replaced ones held is fits sized count within same =
    subst (λ (l : List ℕ). Torn at n (undone (Wrote at n replaced) held) l) (sym is)
    (torn_ones at n t k replaced ones held (subst (λ (s : ℕ). Fits s at n (length replaced)) sized fits) count within same)

-- a list that a call has made longer, or hasn't
pub one_of : (b : Bool) (new x y : List ℕ) → new ≡ cond b x y → (new ≡ y) ⊎ (new ≡ x)
one_of true new x y is = inr is
one_of false new x y is = inl is

-- ---- each kind of call

pub left_torn : (earlier : List Call) (at n : ℕ) (replaced held new : List ℕ) → (new ≡ held) ⊎ Torn at n (undone (Wrote at n replaced) held) new
    → MayLeave (Wrote at n replaced ∷ earlier) held new
left_torn earlier at n replaced held new (inl same) = inl same
left_torn earlier at n replaced held new (inr torn) = inr (undone (Wrote at n replaced) held, leaves_held earlier (undone (Wrote at n replaced) held), torn)

pub left_restored : (earlier : List Call) (at n : ℕ) (replaced held new : List ℕ) → (new ≡ held) ⊎ (new ≡ undone (Wrote at n replaced) held)
    → MayLeave (Wrote at n replaced ∷ earlier) held new
left_restored earlier at n replaced held new (inl same) = inl same
left_restored earlier at n replaced held new (inr back) =
    let old = undone (Wrote at n replaced) held in
    inr (old, leaves_held earlier old, subst (λ (l : List ℕ). Torn at n old l) (sym back) (torn_same at n old))

pub left_uncut : (earlier : List Call) (to : ℕ) (removed held new : List ℕ) → (new ≡ held) ⊎ (new ≡ held ++ removed) → MayLeave (CutOff to removed ∷ earlier) held new
left_uncut earlier to removed held new (inl same) = inl same
left_uncut earlier to removed held new (inr back) = inr (held ++ removed, leaves_held earlier (held ++ removed), inl back)
