-- Lists.
use Rattle.std.proofs.Common.{◌≡◌, ◌<◌, ◌≤◌, ◌+◌, ◌-◌, ℕ, Bool, true, false, List, [], ◌∷◌, length, take, find, reverse, get_or, slice_get, Some, None, Option, if◌then◌else◌, refl, sym, ap, ◌∙◌, add-one, arith}
use Rattle.std.proofs.lemmas.List.{reverse-append}
use Rattle.std.proofs.Math.Seq.{take-suc}
use Rattle.std.specs.List.{last_or}

last_at : {X : Type 0} (o : Option X) (xs : List X) (x : X) → last_or (Some x) xs ≡ slice_get (x ∷ xs) (length xs)
last_at o [] x = refl
last_at o (y ∷ xs) x = last_at (Some x) xs y

pub last_is : {X : Type 0} (xs : List X) → slice_get xs (length xs - 1) ≡ last_or None xs
last_is [] = refl
last_is (x ∷ xs) = let e : length (x ∷ xs) - 1 ≡ length xs = omega arith in rw e (sym (last_at None xs x))

-- ---- the last one that passes a test

-- one more at the end is looked at first
one_more : {A : Type 0} (p : A → Bool) (xs : List A) (n : ℕ) (x : A) → n < length xs
    → find p (reverse (take (n + 1) xs)) ≡ (if p (get_or xs n x) then Some (get_or xs n x) else find p (reverse (take n xs)))
one_more p xs n x lt =
    ap (λ ys. find p (reverse ys)) (ap (λ m. take m xs) (add-one n) ∙ take-suc xs n x lt)
    ∙ ap (find p) (reverse-append (take n xs) (get_or xs n x ∷ []))

-- the last one that is left
one_before : {A : Type 0} (p : A → Bool) (xs : List A) (n : ℕ) (x : A) → 0 < n → n ≤ length xs → x ≡ get_or xs (n - 1) x
    → find p (reverse (take n xs)) ≡ (if p x then Some x else find p (reverse (take (n - 1) xs)))
one_before p xs n x some within is =
    let e : n ≡ (n - 1) + 1 = omega arith in
    ap (λ m. find p (reverse (take m xs))) e
    ∙ one_more p xs (n - 1) x (omega (arith, within))
    ∙ ap (λ y. if p y then Some y else find p (reverse (take (n - 1) xs))) (sym is)

pub passes : {A : Type 0} (p : A → Bool) (xs : List A) (n : ℕ) (x : A) → 0 < n → n ≤ length xs → x ≡ get_or xs (n - 1) x → p x ≡ true
    → find p (reverse (take n xs)) ≡ Some x
passes p xs n x some within is so =
    one_before p xs n x some within is ∙ ap (λ b. if b then Some x else find p (reverse (take (n - 1) xs))) so

pub fails : {A : Type 0} (p : A → Bool) (xs : List A) (n : ℕ) (x : A) → 0 < n → n ≤ length xs → x ≡ get_or xs (n - 1) x → p x ≡ false
    → find p (reverse (take n xs)) ≡ find p (reverse (take (n - 1) xs))
fails p xs n x some within is so =
    one_before p xs n x some within is ∙ ap (λ b. if b then Some x else find p (reverse (take (n - 1) xs))) so

-- none is left
pub none_is_left : {A : Type 0} (p : A → Bool) (xs : List A) (n : ℕ) → n ≤ 0 → find p (reverse (take n xs)) ≡ None
none_is_left p xs n none = let e : n ≡ 0 = omega (arith, none) in ap (λ m. find p (reverse (take m xs))) e
