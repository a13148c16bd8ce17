-- Names of visits, and visits by name.
use Rattle.std.proofs.Common.{◌≡◌, ℕ, Bool, true, false, ◌||◌, List, [], ◌∷◌, ◌++◌, map, Option, Some, None, is_some, bytes_eq, refl, sym, ap, subst, ◌∙◌}
use Rattle.std.proofs.lemmas.List.{map-append}
use Rattle.std.proofs.lemmas.List.Folds.{list_any-append}
use Rattle.std.proofs.lemmas.Bool.{false≢true}
use Rattle.std.specs.Prelude.{if◌then◌else◌}
use Rattle.fluid_rules.proofs.Ids.{own_id, same_id}
use Rattle.fluid_service.specs.declared.terms.ShelfTerms.{ShelfTerms}
use Rattle.fluid_service.specs.Visiting.{Visiting, name_of, is_among, find_visit}
use Rattle.fluid_service.specs.Shelved.{IsServed, AllServed, AreDistinct}

or_false : (b : Bool) → (b || false) ≡ b
or_false true = refl
or_false false = refl

left_false : (a b : Bool) → (a || b) ≡ false → a ≡ false
left_false true b is = is
left_false false b is = refl

right_false : (a b : Bool) → (a || b) ≡ false → b ≡ false
right_false true b is = absurd (false≢true (sym is))
right_false false b is = is

both_false : (a b : Bool) → a ≡ false → b ≡ false → (a || b) ≡ false
both_false true b is other = is
both_false false b is other = other

pub eq_turned : (x y : List ℕ) → bytes_eq x y ≡ bytes_eq y x
eq_turned x y = by (bytes_eq x y) refl (bytes_eq y x) refl
  where
    by : (a : Bool) → bytes_eq x y ≡ a → (b : Bool) → bytes_eq y x ≡ b → bytes_eq x y ≡ bytes_eq y x
    by true a true b = a ∙ sym b
    by false a false b = a ∙ sym b
    by true a false b = absurd (false≢true (sym b ∙ ap (λ z. bytes_eq y z) (same_id x y a) ∙ own_id y))
    by false a true b = absurd (false≢true (sym a ∙ ap (λ z. bytes_eq x z) (same_id y x b) ∙ own_id x))

-- ---- names

pub among_push : (q : List ℕ) (names : List (List ℕ)) (name : List ℕ) → is_among q (names ++ name ∷ []) ≡ (is_among q names || bytes_eq q name)
among_push q names name = list_any-append (bytes_eq q) names (name ∷ []) ∙ ap (λ b. is_among q names || b) (or_false (bytes_eq q name))

pub names_push : (visits : List Visiting) (visit : Visiting) → map name_of (visits ++ visit ∷ []) ≡ map name_of visits ++ name_of visit ∷ []
names_push visits visit = map-append name_of visits (visit ∷ [])

pub open_push : (q : List ℕ) (visits : List Visiting) (visit : Visiting) → is_among q (map name_of (visits ++ visit ∷ [])) ≡ (is_among q (map name_of visits) || bytes_eq q (name_of visit))
open_push q visits visit = ap (is_among q) (names_push visits visit) ∙ among_push q (map name_of visits) (name_of visit)

pub distinct_push : (names : List (List ℕ)) (name : List ℕ) → AreDistinct names → is_among name names ≡ false → AreDistinct (names ++ name ∷ [])
distinct_push [] name distinct new = (refl, tt)
distinct_push (x ∷ names) name distinct new = (
  among_push x names name ∙ both_false (is_among x names) (bytes_eq x name) distinct.0 (eq_turned x name ∙ left_false (bytes_eq name x) (is_among name names) new),
  distinct_push names name distinct.1 (right_false (bytes_eq name x) (is_among name names) new),
)

-- without the last one
pub distinct_init : (names : List (List ℕ)) (name : List ℕ) → AreDistinct (names ++ name ∷ []) → AreDistinct names × (is_among name names ≡ false)
distinct_init [] name distinct = (tt, refl)
distinct_init (x ∷ names) name distinct =
    let there = sym (among_push x names name) ∙ distinct.0 in
    let rest = distinct_init names name distinct.1 in (
      (left_false (is_among x names) (bytes_eq x name) there, rest.0),
      both_false (bytes_eq name x) (is_among name names) (eq_turned name x ∙ right_false (is_among x names) (bytes_eq x name) there) rest.1,
    )

-- ---- visits by name

pub found_among : (q : List ℕ) (visits : List Visiting) → is_some (find_visit q visits) ≡ is_among q (map name_of visits)
found_among q [] = refl
found_among q (visit ∷ visits) = by (bytes_eq q (name_of visit)) (found_among q visits)
  where
    by : (b : Bool) → is_some (find_visit q visits) ≡ is_among q (map name_of visits) → is_some (if b then Some visit else find_visit q visits) ≡ (b || is_among q (map name_of visits))
    by true rest = refl
    by false rest = rest

-- what holds of the one that is found
pub record IsIn (terms : ShelfTerms) (q : List ℕ) (visit : Visiting) : Type 0 where
  pub name_is : name_of visit ≡ q
  pub served : IsServed terms visit.door

some_same : (a b : Visiting) → ◌≡◌ {A = Option Visiting} (Some a) (Some b) → a ≡ b
some_same a b same = cc

none_some : (a : Visiting) → ◌≡◌ {A = Option Visiting} None (Some a) → ⊥
none_some a same = cc

pub found_in : (terms : ShelfTerms) (q : List ℕ) (visits : List Visiting) (found : Visiting) → AllServed terms visits → find_visit q visits ≡ Some found → IsIn terms q found
found_in terms q [] found served is = absurd (none_some found is)
found_in terms q (visit ∷ visits) found served is = by (bytes_eq q (name_of visit)) refl is (found_in terms q visits found served.1)
  where
    by : (b : Bool) → bytes_eq q (name_of visit) ≡ b → (if b then Some visit else find_visit q visits) ≡ Some found → (find_visit q visits ≡ Some found → IsIn terms q found) → IsIn terms q found
    by true same is rest = subst (IsIn terms q) (some_same visit found is) (record { name_is = sym (same_id q (name_of visit) same); served = served.0 })
    by false same is rest = rest is

pub served_push : (terms : ShelfTerms) (visits : List Visiting) (visit : Visiting) → AllServed terms visits → IsServed terms visit.door → AllServed terms (visits ++ visit ∷ [])
served_push terms [] visit served last = (last, tt)
served_push terms (x ∷ visits) visit served last = (served.0, served_push terms visits visit served.1 last)

pub served_init : (terms : ShelfTerms) (visits : List Visiting) (visit : Visiting) → AllServed terms (visits ++ visit ∷ []) → AllServed terms visits × IsServed terms visit.door
served_init terms [] visit served = (tt, served.0)
served_init terms (x ∷ visits) visit served = let rest = served_init terms visits visit served.1 in ((served.0, rest.0), rest.1)
