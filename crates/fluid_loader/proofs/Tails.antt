-- The messages of an order from a number on.
use Rattle.std.proofs.Common.{◌≡◌, ℕ, zero, suc, ◌+◌, ◌-◌, ◌<◌, ◌≤◌, ◌^◌, List, [], ◌∷◌, length, drop, Result, Ok, Err, IfOk, refl, sym, subst, ◌∙◌, arith, length-drop}
use Rattle.std.proofs.lemmas.List.{drop_all}
use Rattle.fluid_types.specs.Order.{AreNumberedFrom}
use Rattle.fluid_types.specs.declared.messages.Message.{Message}
use Rattle.fluid_loader.specs.Link.{IsOrder}
use Rattle.fluid_loader.specs.Listed.{IsTail}
use Rattle.fluid_loader.proofs.Orders.{drop_numbered}

tail_of : (from : ℕ) (order : List Message) → 0 < from → from ≤ 2 ^ 53 → IsOrder order → length order < 2 ^ 53 → IsTail from order (drop (from - 1) order)
tail_of from order above most is short =
    let same : 1 + (from - 1) ≡ from = omega (arith, above) in
    record {
      numbered = subst (λ k. AreNumberedFrom k (drop (from - 1) order)) same (drop_numbered 1 (from - 1) order is.numbered);
      fit = omega (arith, most, above, short, length-drop (from - 1) order);
      behind = refl;
    }

drop_least : (k n : ℕ) (xs : List Message) → k ≤ n → (k < n → length xs ≤ k) → drop k xs ≡ drop n xs
drop_least zero zero xs le f = refl
drop_least zero (suc n) xs le f = let none : length xs ≤ 0 = f (omega arith) in drop_all zero xs none ∙ sym (drop_all (suc n) xs (omega (arith, none)))
drop_least (suc k) zero xs le f = absurd (omega (arith, le))
drop_least (suc k) (suc n) [] le f = refl
drop_least (suc k) (suc n) (x ∷ xs) le f = drop_least k n xs (omega (arith, le)) (λ lt. omega (arith, f (omega (arith, lt))))

pub tail_copied : {A E : Type 0} (items : A → List Message) (r : Result A E) (from start : ℕ) (order slice : List Message) → 0 < from → from ≤ 2 ^ 53 → IsOrder order → length order < 2 ^ 53
    → start ≤ from - 1 → (start < from - 1 → length order ≤ start) → slice ≡ drop start order → IfOk r (λ a. items a ≡ slice) → IfOk r (λ a. IsTail from order (items a))
tail_copied items (Err e) from start order slice above most is short low high cut copied = tt
tail_copied items (Ok a) from start order slice above most is short low high cut copied =
    let same : drop (from - 1) order ≡ items a = sym (copied ∙ cut ∙ drop_least start (from - 1) order low high) in
    subst (IsTail from order) same (tail_of from order above most is short)
