-- Reading the entries of a tree's body, one after the other.
use Rattle.std.proofs.Common.{◌≡◌, ℕ, zero, suc, ◌-◌, ◌<◌, ◌≤◌, ◌||◌, ◌==◌, List, [], ◌∷◌, ◌++◌, length, drop, map, Bool, true, false, cond, Some, None, Result, Ok, Err, String, Global, refl, sym, ap, ◌∙◌, arith, length-drop, ne_eqb}
use Rattle.std.proofs.lemmas.List.{map-append}
use Rattle.std.specs.BTreeSet.{BTreeSet}
use Rattle.std.specs.List.{list_any}
use Rattle.std.specs.Str.{bytes_eq}
use Rattle.fluid_tree.specs.Names.{Knows}
use Rattle.fluid_tree.specs.Object.{entry_bytes, mode}
use Rattle.fluid_tree.specs.Reading.{entry_at, entry_or, fits_behind, entries_of}
use Rattle.fluid_tree.specs.declared.object.ObjectEntry.{ObjectEntry}
use Rattle.fluid_tree.specs.declared.fault.TreeFault.{TreeFault}
use Rattle.fluid_tree.specs.declared.fault.TreeFault.TheVariants.{BadObject}

-- what is left answers for the whole body
pub record IsReading (total : ℕ) (seen : BTreeSet (String Global)) (before : List ObjectEntry) (rest body : List ℕ) : Type 0 where
  pub turns : ℕ
  pub enough : length rest ≤ turns
  pub within : length rest ≤ length body
  pub knows : Knows seen (map (λ e. e.name) before)
  pub left : entries_of total (length body) [] body ≡ entries_of total turns before rest

pub nonempty : (xs : List ℕ) (b : Bool) → b ≡ (length xs == 0) → b ≡ false → 0 < length xs
nonempty [] b h k = cc
nonempty (x ∷ xs) b h k = omega arith

pub emptied : (xs : List ℕ) (b : Bool) → b ≡ (length xs == 0) → b ≡ true → xs ≡ []
emptied [] b h k = refl
emptied (x ∷ xs) b h k = let some : (suc (length xs) == 0) ≡ false = ne_eqb (suc (length xs)) 0 (λ e. omega arith) in cc

mode_long : (b : Bool) (more : List ℕ) → 0 < length (mode b ++ more)
mode_long true more = omega arith
mode_long false more = omega arith

pub entry_long : (e : ObjectEntry) → 0 < length (entry_bytes e)
unfolding entry_bytes
entry_long e = mode_long e.tree _

pub begins : (total : ℕ) (seen : BTreeSet (String Global)) (body : List ℕ) → Knows seen [] → IsReading total seen [] body body
begins total seen body h = record { turns = length body; enough = omega arith; within = omega arith; knows = h; left = refl }

pub reads : (total turns : ℕ) (before : List ObjectEntry) (rest : List ℕ) → 0 < length rest → length rest ≤ turns
    → (n : ℕ) × ((length rest ≤ suc n) × (entries_of total turns before rest ≡ entry_or (entries_of total n) (total - length rest) before rest (entry_at rest)))
unfolding entries_of
reads total turns before [] p q = absurd (omega arith)
reads total zero before (x ∷ xs) p q = absurd (omega arith)
reads total (suc n) before (x ∷ xs) p q = (n, (q, refl))

pub no_entry : (total : ℕ) (seen : BTreeSet (String Global)) (before : List ObjectEntry) (rest body : List ℕ) → IsReading total seen before rest body → 0 < length rest → entry_at rest ≡ None
    → entries_of total (length body) [] body ≡ Err (BadObject (total - length rest))
no_entry total seen before rest body r some none =
    let next = reads total r.turns before rest some r.enough in
    r.left ∙ next.1.1 ∙ ap (entry_or (entries_of total next.0) (total - length rest) before rest) none

unfit_or : (b : Bool) (x y : Result (List ObjectEntry) TreeFault) → b ≡ false → (cond b x y) ≡ y
unfit_or b x y h = rw h refl

fit_or : (b : Bool) (x y : Result (List ObjectEntry) TreeFault) → b ≡ true → (cond b x y) ≡ x
fit_or b x y h = rw h refl

pub unfit_entry : (total : ℕ) (seen : BTreeSet (String Global)) (before : List ObjectEntry) (rest body : List ℕ) (e : ObjectEntry) → IsReading total seen before rest body → 0 < length rest
    → entry_at rest ≡ Some e → fits_behind before e ≡ false → entries_of total (length body) [] body ≡ Err (BadObject (total - length rest))
unfit_entry total seen before rest body e r some is unfit =
    let next = reads total r.turns before rest some r.enough in
    r.left ∙ next.1.1 ∙ ap (entry_or (entries_of total next.0) (total - length rest) before rest) is
    ∙ unfit_or (fits_behind before e) (entries_of total next.0 (before ++ e ∷ []) (drop (length (entry_bytes e)) rest)) (Err (BadObject (total - length rest))) unfit

pub any_last : (p : List ℕ → Bool) (xs : List (List ℕ)) (y : List ℕ) → list_any p (xs ++ y ∷ []) ≡ p y || list_any p xs
any_last p [] y = refl
any_last p (x ∷ xs) y = ap (λ b. p x || b) (any_last p xs y) ∙ turned (p x) (p y) (list_any p xs)
  where
    turned : (a b c : Bool) → a || (b || c) ≡ b || (a || c)
    turned true true c = refl
    turned true false c = refl
    turned false b c = refl

pub knows_last : (seen : BTreeSet (String Global)) (before : List ObjectEntry) (e : ObjectEntry) → Knows seen (e.name ∷ map (λ f. f.name) before) → Knows seen (map (λ f. f.name) (before ++ e ∷ []))
knows_last seen before e h name =
    h name ∙ sym (ap (list_any (λ one. bytes_eq one name)) (map-append (λ (f : ObjectEntry). f.name) before (e ∷ [])) ∙ any_last (λ one. bytes_eq one name) (map (λ f. f.name) before) e.name)

pub goes_on : (total : ℕ) (seen seen' : BTreeSet (String Global)) (before : List ObjectEntry) (rest body : List ℕ) (e : ObjectEntry) → IsReading total seen before rest body → 0 < length rest
    → entry_at rest ≡ Some e → fits_behind before e ≡ true → Knows seen' (e.name ∷ map (λ f. f.name) before) → 0 < length (entry_bytes e)
    → IsReading total seen' (before ++ e ∷ []) (drop (length (entry_bytes e)) rest) body
goes_on total seen seen' before rest body e r some is fit knows long =
    let next = reads total r.turns before rest some r.enough in
    let size = length-drop (length (entry_bytes e)) rest in
    record {
      turns = next.0;
      enough = omega (arith, next.1.0, size);
      within = omega (arith, r.within, size);
      knows = knows_last seen' before e knows;
      left =
          r.left ∙ next.1.1 ∙ ap (entry_or (entries_of total next.0) (total - length rest) before rest) is
          ∙ fit_or (fits_behind before e) (entries_of total next.0 (before ++ e ∷ []) (drop (length (entry_bytes e)) rest)) (Err (BadObject (total - length rest))) fit;
    }

at_end : (total turns : ℕ) (before : List ObjectEntry) → entries_of total turns before [] ≡ Ok before
unfolding entries_of
at_end total zero before = refl
at_end total (suc n) before = refl

pub all_read : (total : ℕ) (seen : BTreeSet (String Global)) (before : List ObjectEntry) (rest body : List ℕ) → IsReading total seen before rest body → rest ≡ []
    → entries_of total (length body) [] body ≡ Ok before
all_read total seen before [] body r none = r.left ∙ at_end total r.turns before
all_read total seen before (x ∷ xs) body r none = cc
