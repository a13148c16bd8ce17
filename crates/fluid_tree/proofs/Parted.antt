-- The names of a path, one after the other.
use Rattle.std.proofs.Common.{◌≡◌, ℕ, ◌<◌, ◌==◌, ◌||◌, List, [], ◌∷◌, ◌++◌, length, Bool, true, false, refl, sym, ap, ap₂, ◌∙◌, arith, append_assoc}
use Rattle.std.proofs.lemmas.List.Elements.{All-from_get_or}
use Rattle.std.proofs.lemmas.List.Folds.{list_any-append}
use Rattle.std.proofs.lemmas.List.Splits.{slice_split_first, slice_split_none}
use Rattle.std.proofs.lemmas.List.Sums.{fails_before_first}
use Rattle.std.specs.List.{list_any, slice_split, position_or_len, before_first, after_first}
use Rattle.fluid_tree.specs.Names.{is_bad}

pub next_is : (text rest name more : List ℕ) (done : List (List ℕ)) → done ++ slice_split (λ x. x == 47) rest ≡ slice_split (λ x. x == 47) text → position_or_len (λ x. x == 47) rest < length rest
    → name ≡ before_first (λ x. x == 47) rest → more ≡ after_first (λ x. x == 47) rest → done ++ name ∷ slice_split (λ x. x == 47) more ≡ slice_split (λ x. x == 47) text
next_is text rest name more done inv found n m =
    ap (λ l. done ++ l) (ap₂ (λ k l. k ∷ slice_split (λ x. x == 47) l) n m ∙ sym (slice_split_first (λ x. x == 47) rest 0 found)) ∙ inv

pub next_more : (text rest name more : List ℕ) (done : List (List ℕ)) → done ++ slice_split (λ x. x == 47) rest ≡ slice_split (λ x. x == 47) text → position_or_len (λ x. x == 47) rest < length rest
    → name ≡ before_first (λ x. x == 47) rest → more ≡ after_first (λ x. x == 47) rest → (done ++ name ∷ []) ++ slice_split (λ x. x == 47) more ≡ slice_split (λ x. x == 47) text
next_more text rest name more done inv found n m =
    append_assoc done (name ∷ []) (slice_split (λ x. x == 47) more) ∙ next_is text rest name more done inv found n m

pub last_is : (text rest : List ℕ) (done : List (List ℕ)) → done ++ slice_split (λ x. x == 47) rest ≡ slice_split (λ x. x == 47) text → position_or_len (λ x. x == 47) rest ≡ length rest
    → done ++ rest ∷ [] ≡ slice_split (λ x. x == 47) text
last_is text rest done inv none =
    let whole =
    slice_split_none (λ x. x == 47) rest (All-from_get_or (λ x. (x == 47) ≡ false) rest 0 (λ i lt. fails_before_first (λ x. x == 47) rest i 0 (omega (arith, none)))) in
    ap (λ l. done ++ l) (sym whole) ∙ inv

some_or : (a b c : Bool) → b ≡ true → a || (b || c) ≡ true
some_or true b c h = refl
some_or false b c h = rw h refl

pub bad_among : (done : List (List ℕ)) (n : List ℕ) (ns : List (List ℕ)) → is_bad n ≡ true → list_any is_bad (done ++ n ∷ ns) ≡ true
bad_among done n ns h = list_any-append is_bad done (n ∷ ns) ∙ some_or (list_any is_bad done) (is_bad n) (list_any is_bad ns) h

pub still_good : (done : List (List ℕ)) (n : List ℕ) → list_any is_bad done ≡ false → is_bad n ≡ false → list_any is_bad (done ++ n ∷ []) ≡ false
still_good done n h k = list_any-append is_bad done (n ∷ []) ∙ rw (h, k) refl
