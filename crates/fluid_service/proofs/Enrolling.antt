-- Rows of visits under the texts of their names.
use Rattle.std.proofs.Common.{◌≡◌, ℕ, Bool, true, false, ◌||◌, List, [], ◌∷◌, ◌++◌, map, Option, Some, None, bytes_eq, option_map, refl, sym, ap, ◌∙◌}
use Rattle.std.proofs.lemmas.List.{map-append}
use Rattle.std.proofs.lemmas.Bool.{false≢true}
use Rattle.std.specs.Prelude.{if◌then◌else◌}
use Rattle.std.specs.Map.{lookup, set_value}
use Rattle.fluid_service.specs.Visiting.{Visiting, Enrolled, name_of, visits_of, AreNamed, is_among, find_visit}

pub same_roll : (one other : List Visiting) (m n : ℕ) → one ≡ other → m ≡ n → ◌≡◌ {A = Enrolled} (record { visits = one; spare = m }) (record { visits = other; spare = n })
same_roll one other m n visits spare = λ i. record { visits = visits i; spare = spare i }

module _ {T : Type 0} (text : T → List ℕ) where
  abbrev pub Row : Type 0
  Row = T × (List ℕ × Visiting)

  abbrev pub test : List ℕ → T → Bool
  test q t = bytes_eq q (text t)

  pub lookup_visit : (q : List ℕ) (rows : List Row) → AreNamed text rows → option_map (λ (row : List ℕ × Visiting). row.1) (lookup (test q) rows) ≡ find_visit q (visits_of rows)
  lookup_visit q [] named = refl
  lookup_visit q (row ∷ rows) named = by (bytes_eq q (text row.0)) (bytes_eq q (name_of row.1.1)) (ap (bytes_eq q) (named.0.0 ∙ named.0.1)) (lookup_visit q rows named.1)
    where
      by : (b c : Bool) → b ≡ c → option_map (λ (row : List ℕ × Visiting). row.1) (lookup (test q) rows) ≡ find_visit q (visits_of rows)
          → option_map (λ (row : List ℕ × Visiting). row.1) (if b then Some row.1 else lookup (test q) rows) ≡ (if c then Some row.1.1 else find_visit q (visits_of rows))
      by true true same rest = refl
      by true false same rest = absurd (false≢true (sym same))
      by false true same rest = absurd (false≢true same)
      by false false same rest = rest

  left_false : (a b : Bool) → (a || b) ≡ false → a ≡ false
  left_false true b is = is
  left_false false b is = refl

  right_false : (a b : Bool) → (a || b) ≡ false → b ≡ false
  right_false true b is = absurd (false≢true (sym is))
  right_false false b is = is

  pub lookup_none : (q : List ℕ) (rows : List Row) → AreNamed text rows → is_among q (map name_of (visits_of rows)) ≡ false → lookup (test q) rows ≡ None
  lookup_none q [] named new = refl
  lookup_none q (row ∷ rows) named new =
      by (bytes_eq q (text row.0)) (ap (bytes_eq q) (named.0.0 ∙ named.0.1) ∙ left_false (bytes_eq q (name_of row.1.1)) (is_among q (map name_of (visits_of rows))) new)
      (lookup_none q rows named.1 (right_false (bytes_eq q (name_of row.1.1)) (is_among q (map name_of (visits_of rows))) new))
    where
      by : (b : Bool) → b ≡ false → lookup (test q) rows ≡ None → (if b then Some row.1 else lookup (test q) rows) ≡ None
      by true is rest = absurd (false≢true (sym is))
      by false is rest = rest

  some_same : (a b : List ℕ × Visiting) → ◌≡◌ {A = Option (List ℕ × Visiting)} (Some a) (Some b) → a ≡ b
  some_same a b same = cc

  -- a value that is written as it was changes nothing
  pub set_same : (check : T → Bool) (rows : List Row) (w : List ℕ × Visiting) → lookup check rows ≡ Some w → set_value check rows w ≡ rows
  set_same check [] w is = refl
  set_same check (row ∷ rows) w is = by (check row.0) is (set_same check rows w)
    where
      by : (b : Bool) → (if b then Some row.1 else lookup check rows) ≡ Some w → (lookup check rows ≡ Some w → set_value check rows w ≡ rows) → (if b then (row.0, w) ∷ rows else row ∷ set_value check rows w) ≡ row ∷ rows
      by true is rest = ap (λ v. (row.0, v) ∷ rows) (sym (some_same row.1 w is))
      by false is rest = ap (λ more. row ∷ more) (rest is)

  pub named_push : (rows : List Row) (row : Row) → AreNamed text rows → text row.0 ≡ row.1.0 → row.1.0 ≡ name_of row.1.1 → AreNamed text (rows ++ row ∷ [])
  named_push [] row named is own = ((is, own), tt)
  named_push (first ∷ rows) row named is own = (named.0, named_push rows row named.1 is own)

  pub named_init : (rows : List Row) (row : Row) → AreNamed text (rows ++ row ∷ []) → AreNamed text rows × (row.1.0 ≡ name_of row.1.1)
  named_init [] row named = (tt, named.0.1)
  named_init (first ∷ rows) row named = let rest = named_init rows row named.1 in ((named.0, rest.0), rest.1)

  pub visits_push : (rows : List Row) (row : Row) → visits_of (rows ++ row ∷ []) ≡ visits_of rows ++ row.1.1 ∷ []
  visits_push rows row = map-append (λ (row : Row). row.1.1) rows (row ∷ [])

  pub names_of : (rows : List Row) → AreNamed text rows → map (λ (row : List ℕ × Visiting). row.0) (map (λ (row : Row). row.1) rows) ≡ map name_of (visits_of rows)
  names_of [] named = refl
  names_of (row ∷ rows) named = (λ i. named.0.1 i ∷ names_of rows named.1 i)

  -- the row under a name, and its visit
  pub found_at : (q : List ℕ) (rows : List Row) (row : List ℕ × Visiting) → AreNamed text rows → Some row ≡ lookup (test q) rows → find_visit q (visits_of rows) ≡ Some row.1
  found_at q rows row named is = sym (lookup_visit q rows named) ∙ ap (option_map (λ (row : List ℕ × Visiting). row.1)) (sym is)

  pub none_at : (q : List ℕ) (rows : List Row) → AreNamed text rows → None ≡ lookup (test q) rows → find_visit q (visits_of rows) ≡ None
  none_at q rows named is = sym (lookup_visit q rows named) ∙ ap (option_map (λ (row : List ℕ × Visiting). row.1)) (sym is)
