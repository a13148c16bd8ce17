-- The least of some numbers, each named by an id.
use Rattle.std.proofs.Common.{◌≡◌, ℕ, ◌≤◌, min, Bool, true, false, ◌||◌, List, [], ◌∷◌, map, refl, ◌∙◌, ap, bytes_eq, ◌⊎◌, inl, inr, arith, fold}
use Rattle.std.proofs.lemmas.Bool.{cases_lt}
use Rattle.fluid_rules.specs.Past.{has_id}
use Rattle.fluid_rules.proofs.Ids.{same_id, own_id}

-- a number is the least of a first one and of those of these ids
pub record IsLeastOf (f : List ℕ → ℕ) (ids : List (List ℕ)) (first least : ℕ) : Type 0 where
  pub at_first : least ≤ first
  pub at_each : (c : List ℕ) → has_id c ids ≡ true → least ≤ f c
  pub reached : (least ≡ first) ⊎ ((c : List ℕ) × ((has_id c ids ≡ true) × (least ≡ f c)))

least_nil : (f : List ℕ → ℕ) (first : ℕ) → IsLeastOf f [] first first
least_nil f first = record { at_first = omega arith; at_each = λ c h. absurd (cc); reached = inl refl }

at_each_cons : (f : List ℕ → ℕ) (id : List ℕ) (ids : List (List ℕ)) (first least : ℕ) → IsLeastOf f ids (min first (f id)) least →
    (c : List ℕ) (same : Bool) → bytes_eq c id ≡ same → (same || has_id c ids) ≡ true → least ≤ f c
at_each_cons f id ids first least rest c true h has =
    let here : c ≡ id = same_id c id h in
    let at : f c ≡ f id = ap f here in
    omega (arith, rest.at_first)
at_each_cons f id ids first least rest c false h has = rest.at_each c has

min_either : (a b : ℕ) → (min a b ≡ a) ⊎ (min a b ≡ b)
min_either a b = elim (cases_lt a b) [ inl h ↦ inl (omega arith) | inr h ↦ inr (omega arith) ]

pub own_among : (c : List ℕ) (ids : List (List ℕ)) → has_id c (c ∷ ids) ≡ true
own_among c ids = rw (own_id c) refl

or_more : (a b : Bool) → b ≡ true → (a || b) ≡ true
or_more true b h = refl
or_more false b h = h

pub more_among : (c id : List ℕ) (ids : List (List ℕ)) → has_id c ids ≡ true → has_id c (id ∷ ids) ≡ true
more_among c id ids h = or_more (bytes_eq c id) (has_id c ids) h

reached_cons : (f : List ℕ → ℕ) (id : List ℕ) (ids : List (List ℕ)) (first least : ℕ) → IsLeastOf f ids (min first (f id)) least →
    (least ≡ first) ⊎ ((c : List ℕ) × ((has_id c (id ∷ ids) ≡ true) × (least ≡ f c)))
reached_cons f id ids first least rest =
    elim rest.reached [
      | inl e ↦ elim (min_either first (f id)) [
        | inl at ↦ inl (e ∙ at)
        | inr at ↦ inr (id, (own_among id ids, e ∙ at))
      ]
      | inr found ↦ inr (found.0, (more_among found.0 id ids found.1.0, found.1.1))
    ]

pub least_of : (f : List ℕ → ℕ) (ids : List (List ℕ)) (first : ℕ) → IsLeastOf f ids first (fold min first (map f ids))
least_of f [] first = least_nil f first
least_of f (id ∷ ids) first =
    let rest = least_of f ids (min first (f id)) in
    record {
      at_first = omega (arith, rest.at_first);
      at_each = λ c h. at_each_cons f id ids first _ rest c (bytes_eq c id) refl h;
      reached = reached_cons f id ids first _ rest;
    }
