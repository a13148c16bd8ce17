-- What holds of the places of shelves in memory, and what a call makes of what they show.
use Rattle.std.proofs.Common.{◌≡◌, ℕ, ◌≤◌, true, false, cond, List, Option, Some, None, option_and_then, IsSome, unwrap_or, nat_le, max, refl, sym, ap, subst, ◌∙◌, arith}
use Rattle.std.specs.Option.{IfSome}
use Rattle.std.specs.Ordering.{eq_by_cmp}
use Rattle.std.specs.FinMap.{empty, get, insert, get-insert, get-empty}
use Rattle.std.proofs.lemmas.Bool.{false≢true, leb-true, leb-false}
use Rattle.std.proofs.lemmas.Option.{none-some}
use Rattle.fluid_io.specs.Causes.{one_more}
use Rattle.fluid_io.specs.Plan.{Planned}
use Rattle.fluid_log.specs.declared.place.Place.{Place}
use Rattle.fluid_log.specs.declared.place.Place.TheVariants.{In, Out}
use Rattle.fluid_log.specs.Keeping.{Keeping}
use Rattle.fluid_log.specs.Memory.{MemoryKeeping, memory_seen}
use Rattle.fluid_log.specs.Shelving.{byte_order, fresh, IsCovered, GivesKeeper, CountsSince, PutsBack}
use Rattle.fluid_log.specs.Places.{Places, keeper_in, given_with, values_where, IsBelow, AreBelow, shelves_seen, keeper_at, faults_back}
use Rattle.fluid_table.proofs.Places.{byte_order_total}
use Rattle.fluid_log.proofs.Values.{get-values_where, values_where-insert, values_where-remove}

-- ---- faults

held_covered : (o : Option Place) (faults : ℕ) → IfSome o (IsBelow faults) → IfSome (option_and_then keeper_in o) (λ keeper. keeper.faults ≤ faults)
held_covered None faults below = tt
held_covered (Some (In keeper)) faults below = below
held_covered (Some (Out given)) faults below = tt

out_covered : (o : Option Place) (faults : ℕ) → IfSome o (IsBelow faults) → IfSome (option_and_then given_with o) (λ given. given ≤ faults)
out_covered None faults below = tt
out_covered (Some (In keeper)) faults below = tt
out_covered (Some (Out given)) faults below = below

pub covers : (places : Places) (plan : Planned) (faults : ℕ) → AreBelow faults places → IsCovered (shelves_seen (record { places = places; plan = plan; faults = faults }))
covers places plan faults below = record {
  held = λ name. subst (λ o. IfSome o (λ (keeper : Keeping). keeper.faults ≤ faults)) (sym (get-values_where keeper_in places name)) (held_covered (get places name) faults (below name));
  out = λ name. subst (λ o. IfSome o (λ given. given ≤ faults)) (sym (get-values_where given_with places name)) (out_covered (get places name) faults (below name));
}

place_later : (o : Option Place) (before after : ℕ) → before ≤ after → IfSome o (IsBelow before) → IfSome o (IsBelow after)
place_later None before after le below = tt
place_later (Some (In keeper)) before after le below = let fact : keeper.plan.faults ≤ before = below in omega arith
place_later (Some (Out given)) before after le below = let fact : given ≤ before = below in omega arith

pub below_later : (places : Places) (before after : ℕ) → before ≤ after → AreBelow before places → AreBelow after places
below_later places before after le below = λ name. place_later (get places name) before after le (below name)

pub below_empty : (faults : ℕ) → AreBelow faults empty
below_empty faults = λ name. subst (λ o. IfSome o (IsBelow faults)) (sym (get-empty byte_order name)) tt

pub below_insert : (places : Places) (name : List ℕ) (place : Place) (before after : ℕ) → before ≤ after → AreBelow before places → IsBelow after place → AreBelow after (insert places name place)
below_insert places name place before after le below within = λ q.
    subst (λ o. IfSome o (IsBelow after)) (sym (get-insert byte_order_total places name place q))
    (elim (eq_by_cmp byte_order q name) as (λ b. IfSome (cond b (Some place) (get places q)) (IsBelow after)) [
      | true ↦ within
      | false ↦ below_later places before after le below q
    ])

kept_below : (o : Option Place) (faults : ℕ) → IfSome o (IsBelow faults) → (keeper_at o).plan.faults ≤ faults
kept_below None faults below = omega arith
kept_below (Some (In keeper)) faults below = below
kept_below (Some (Out given)) faults below = omega arith

-- ---- a keeper is given

keeper_is : (o : Option Place) → option_and_then given_with o ≡ None → memory_seen (keeper_at o) ≡ unwrap_or (option_and_then keeper_in o) fresh
keeper_is None inside = refl
keeper_is (Some (In keeper)) inside = refl
keeper_is (Some (Out given)) inside = absurd (none-some _ (sym inside))

pub gives_below : (places : Places) (name : List ℕ) (keeper : MemoryKeeping) (faults : ℕ) → AreBelow faults places → keeper ≡ keeper_at (get places name) → keeper.plan.faults ≤ faults
gives_below places name keeper faults below is = rw is (kept_below (get places name) faults (below name))

pub gives : (places new : Places) (plan later : Planned) (faults : ℕ) (name : List ℕ) (keeper : MemoryKeeping) → AreBelow faults places → option_and_then given_with (get places name) ≡ None
    → keeper ≡ keeper_at (get places name) → new ≡ insert places name (Out keeper.plan.faults)
    → GivesKeeper name (shelves_seen (record { places = places; plan = plan; faults = faults })) (shelves_seen (record { places = new; plan = later; faults = faults })) (memory_seen keeper)
gives places new plan later faults name keeper below inside is after = record {
  is = ap memory_seen is ∙ keeper_is (get places name) inside ∙ ap (λ o. unwrap_or o fresh) (sym (get-values_where keeper_in places name));
  held = ap Some (ap (values_where keeper_in) after ∙ values_where-remove keeper_in places name (Out keeper.plan.faults) refl);
  out = ap (values_where given_with) after ∙ values_where-insert given_with places name (Out keeper.plan.faults) keeper.plan.faults refl;
  covered = gives_below places name keeper faults below is;
}

-- ---- a keeper comes back

given_there : (o : Option Place) → IsSome (option_and_then given_with o) → IsSome o
given_there None is = is
given_there (Some place) is = refl

pub out_there : (places : Places) (name : List ℕ) → IsSome (get (values_where given_with places) name) → IsSome (get places name)
out_there places name is = given_there (get places name) (subst (λ o. IsSome o) (get-values_where given_with places name) is)

given_is : (place : Place) → IsSome (given_with place) → (given : ℕ) × (place ≡ Out given)
given_is (In keeper) is = absurd (false≢true is)
given_is (Out given) is = (given, refl)

-- the place of a keeper that is out has the count with which it was given
pub is_out : (places : Places) (name : List ℕ) (place : Place) → IsSome (get (values_where given_with places) name) → get places name ≡ Some place → (given : ℕ) × (place ≡ Out given)
is_out places name place is there =
    given_is place (subst (λ o. IsSome (option_and_then given_with o)) there (subst (λ o. IsSome o) (get-values_where given_with places name) is))

back_counts : (given back faults : ℕ) → CountsSince given back faults (faults_back given back faults)
back_counts given back faults =
    elim (nat_le (one_more given) back) as (λ b. nat_le (one_more given) back ≡ b → CountsSince given back faults (cond b (max (one_more faults) back) faults)) [
      | true ↦ λ rose. let le = leb-true (one_more given) back rose in record { more = λ is. (omega arith, omega arith); no_more = λ lt. absurd (omega (arith, le, lt)) }
      | false ↦ λ same. let lt = leb-false (one_more given) back same in record { more = λ is. absurd (omega (arith, lt, is)); no_more = λ is. refl }
    ] refl

back_within : (given back faults : ℕ) → given ≤ faults → back ≤ faults_back given back faults
back_within given back faults le =
    elim (nat_le (one_more given) back) as (λ b. nat_le (one_more given) back ≡ b → back ≤ cond b (max (one_more faults) back) faults) [
      | true ↦ λ rose. omega arith
      | false ↦ λ same. let lt = leb-false (one_more given) back same in omega (arith, lt)
    ] refl

given_within : (places : Places) (name : List ℕ) (faults given : ℕ) → AreBelow faults places → get places name ≡ Some (Out given) → given ≤ faults
given_within places name faults given below there = subst (λ o. IfSome o (IsBelow faults)) there (below name)

pub puts_below : (places : Places) (name : List ℕ) (keeper : MemoryKeeping) (place : Place) (faults after : ℕ) → AreBelow faults places → IsSome (get (values_where given_with places) name) → get places name ≡ Some place
    → ((given : ℕ) → place ≡ Out given → after ≡ faults_back given keeper.plan.faults faults) → faults ≤ after → AreBelow after (insert places name (In keeper))
puts_below places name keeper place faults after below out there counted later =
    let given = is_out places name place out there in
    let within = given_within places name faults given.0 below (there ∙ ap Some given.1) in
    below_insert places name (In keeper) faults after later below (rw (counted given.0 given.1) (back_within given.0 keeper.plan.faults faults within))

pub puts_back : (places new : Places) (plan : Planned) (faults after : ℕ) (name : List ℕ) (keeper : MemoryKeeping) (place : Place) → get places name ≡ Some place
    → new ≡ insert places name (In keeper) → ((given : ℕ) → place ≡ Out given → after ≡ faults_back given keeper.plan.faults faults) → faults ≤ after
    → PutsBack name (shelves_seen (record { places = places; plan = plan; faults = faults })) (shelves_seen (record { places = new; plan = plan; faults = after })) (memory_seen keeper)
puts_back places new plan faults after name keeper place there is counted later = record {
  held = ap Some (ap (values_where keeper_in) is ∙ values_where-insert keeper_in places name (In keeper) (memory_seen keeper) refl);
  out = ap (values_where given_with) is ∙ values_where-remove given_with places name (In keeper) refl;
  counted = λ given found.
      let here : option_and_then given_with (Some place) ≡ Some given = ap (option_and_then given_with) (sym there) ∙ sym (get-values_where given_with places name) ∙ found in
      subst (λ n. CountsSince given keeper.plan.faults faults n) (sym (counted given (given_of place given here))) (back_counts given keeper.plan.faults faults);
  later = later;
}
  where
    given_of : (place : Place) (given : ℕ) → given_with place ≡ Some given → place ≡ Out given
    given_of (In keeper) given is = absurd (none-some _ is)
    given_of (Out n) given is = let same : n ≡ given = cc in ap Out same
