-- Looking at names one after the other.
use Rattle.std.proofs.Common.{◌≡◌, ℕ, ◌+◌, ◌<◌, ◌≤◌, ◌||◌, List, [], ◌∷◌, length, get_or, drop, Bool, true, false, cond, not, Option, Some, None, refl, sym, ap, ◌∙◌}
use Rattle.std.proofs.lemmas.List.{at_drop_more, at_drop_all}
use Rattle.fluid_tree.specs.Names.{is_refused, first_refused}

pub not_refused : (a b : Bool) → a ≡ not b → a ≡ true → b ≡ false
not_refused a true h k = cc
not_refused a false h k = refl

pub is_so : (a b : Bool) → a ≡ not b → a ≡ false → b ≡ true
is_so a true h k = refl
is_so a false h k = cc

pub either_way : (a b : Bool) → cond a true b ≡ a || b
either_way true b = refl
either_way false b = refl

pub goes_on : (before : List (List ℕ)) (n : List ℕ) (ns : List (List ℕ)) → is_refused before n ≡ false → first_refused before (n ∷ ns) ≡ first_refused (n ∷ before) ns
unfolding first_refused
goes_on before n ns h = rw h refl

stops_here : (before : List (List ℕ)) (n : List ℕ) (ns : List (List ℕ)) → is_refused before n ≡ true → first_refused before (n ∷ ns) ≡ Some n
unfolding first_refused
stops_here before n ns h = rw h refl

pub none_left : (before : List (List ℕ)) → first_refused before [] ≡ None
unfolding first_refused
none_left before = refl

module _ {A : Type 0} (name : A → List ℕ) (names : List A → List (List ℕ)) (next : (a : A) (more : List A) → names (a ∷ more) ≡ name a ∷ names more) (last : names [] ≡ []) where
  at : (before : List (List ℕ)) (xs : List A) (i : ℕ) (x : A) → i < length xs → x ≡ get_or xs i x → first_refused before (names (drop i xs)) ≡ first_refused before (name x ∷ names (drop (i + 1) xs))
  at before xs i x lt is =
      at_drop_more (λ ys. first_refused before (names ys)) xs i x lt ∙ ap (λ y. first_refused before (names (y ∷ drop (i + 1) xs))) (sym is) ∙ ap (first_refused before) (next x (drop (i + 1) xs))

  pub admitted : (before : List (List ℕ)) (xs : List A) (i : ℕ) (x : A) (all : Option (List ℕ)) → i < length xs → x ≡ get_or xs i x → is_refused before (name x) ≡ false
      → first_refused before (names (drop i xs)) ≡ all → first_refused (name x ∷ before) (names (drop (i + 1) xs)) ≡ all
  admitted before xs i x all lt is good inv = sym (at before xs i x lt is ∙ goes_on before (name x) (names (drop (i + 1) xs)) good) ∙ inv

  pub refused : (before : List (List ℕ)) (xs : List A) (i : ℕ) (x : A) (all : Option (List ℕ)) → i < length xs → x ≡ get_or xs i x → is_refused before (name x) ≡ true
      → first_refused before (names (drop i xs)) ≡ all → Some (name x) ≡ all
  refused before xs i x all lt is bad inv = sym (at before xs i x lt is ∙ stops_here before (name x) (names (drop (i + 1) xs)) bad) ∙ inv

  pub all_admitted : (before : List (List ℕ)) (xs : List A) (i : ℕ) (all : Option (List ℕ)) → length xs ≤ i → first_refused before (names (drop i xs)) ≡ all → None ≡ all
  all_admitted before xs i all le inv = sym (at_drop_all (λ ys. first_refused before (names ys)) xs i le ∙ ap (first_refused before) last ∙ none_left before) ∙ inv
