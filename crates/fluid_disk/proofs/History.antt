-- What the calls of a disk in memory leave in its history.
use Rattle.std.proofs.Common.{◌≡◌, inl, inr, ℕ, ◌+◌, ◌-◌, ◌≤◌, min, List, [], ◌∷◌, ◌++◌, length, take, drop, reverse, sym, ◌∙◌, ap, subst, arith, append_assoc, length-append, length-drop, take-append-drop}
use Rattle.std.proofs.lemmas.List.{take_at, drop_at, take_all, drop_all, drop-drop, take-append-le, append-nil, length-take-le, reverse-append}
use Rattle.fluid_disk.specs.declared.call.Call.{Call}
use Rattle.fluid_disk.specs.declared.call.Call.TheVariants.{Wrote, CutOff}
use Rattle.fluid_disk.specs.Disk.{Torn, Cut, Follows, Elapses, overwritten}
use Rattle.fluid_disk.specs.Memory.{MayLeave, LeftSince, undone, leaves_held}
use Rattle.fluid_disk.proofs.Kept.{ordered}
use Rattle.fluid_disk.proofs.Pieces.{take_add}

-- ---- taking back

pub undone_written : (at : ℕ) (bytes held : List ℕ) → at ≤ length held → undone (Wrote at (length bytes) (take (length bytes) (drop at held))) (overwritten at bytes held) ≡ held
undone_written at bytes held le =
    let n = length bytes in
    let back = drop (at + n) held in
    let prefix : length (take at held) ≡ at = length-take-le at held le in
    let both : length (take at held ++ bytes) ≡ at + n = omega (arith, length-append (take at held) bytes, prefix) in
    let before : take at (overwritten at bytes held) ≡ take at held = ap (λ (l : List ℕ). take at l) (append_assoc (take at held) bytes back) ∙ take_at (take at held) (bytes ++ back) at prefix in
    let after : drop (at + n) (overwritten at bytes held) ≡ back = drop_at (take at held ++ bytes) back (at + n) both in
    ap (λ (l : List ℕ). (l ++ take n (drop at held)) ++ drop (at + n) (overwritten at bytes held)) before
    ∙ ap (λ (l : List ℕ). (take at held ++ take n (drop at held)) ++ l) after
    ∙ ap (λ (l : List ℕ). l ++ back) (sym (take_add at n held)) ∙ take-append-drop (at + n) held

-- what there was of it up to the end
pub taken : (n at w k : ℕ) (held : List ℕ) → w ≡ min n (length held - at) → k ≡ w → take k (drop at held) ≡ take n (drop at held)
taken n at w k held is same = elim (ordered n (length held - at)) [
  | inl inside ↦ let all : k ≡ n = omega (arith, is, same, inside) in ap (λ (i : ℕ). take i (drop at held)) all
  | inr past ↦ take_all k (drop at held) (omega (arith, is, same, past, length-drop at held)) ∙ sym (take_all n (drop at held) (omega (arith, past, length-drop at held)))
]

-- ---- one call more

pub newest : (calls : List Call) (call : Call) → reverse (calls ++ call ∷ []) ≡ call ∷ reverse calls
newest calls call = reverse-append calls (call ∷ [])

pub follows_write : (calls : List Call) (at n : ℕ) (replaced held new : List ℕ) → undone (Wrote at n replaced) new ≡ held → Torn at n held new
    → Follows (Torn at n) (MayLeave calls held) (MayLeave (Wrote at n replaced ∷ calls) new)
follows_write calls at n replaced held new back torn image (inl is) = (held, leaves_held calls held, subst (Torn at n held) (sym is) torn)
follows_write calls at n replaced held new back torn image (inr from) = (from.0, subst (λ (l : List ℕ). MayLeave calls l from.0) back from.1, from.2)

pub follows_cut : (calls : List Call) (to : ℕ) (removed held new : List ℕ) → undone (CutOff to removed) new ≡ held → new ≡ take to held
    → Follows (Cut to) (MayLeave calls held) (MayLeave (CutOff to removed ∷ calls) new)
follows_cut calls to removed held new back cut image (inl is) = (held, leaves_held calls held, inr (is ∙ cut))
follows_cut calls to removed held new back cut image (inr from) = (from.0, subst (λ (l : List ℕ). MayLeave calls l from.0) back from.1, from.2)

-- ---- writing in place
