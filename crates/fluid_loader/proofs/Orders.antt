-- Parts of an order.
use Rattle.std.proofs.Common.{◌≡◌, ℕ, zero, suc, ◌+◌, ◌-◌, ◌≤◌, List, [], ◌∷◌, ◌++◌, length, take, drop, refl, sym, ap, subst, ◌∙◌, arith, length-drop}
use Rattle.std.proofs.Math.Seq.{take-append_seam}
use Rattle.std.proofs.lemmas.List.{take-append-le, drop-append-le, take_all}
use Rattle.fluid_readback.proofs.Each.{Each}
use Rattle.fluid_types.specs.Order.{AreNumberedFrom}
use Rattle.fluid_types.specs.declared.messages.Message.{Message}
use Rattle.fluid_loader.specs.Container.{AContainer, taken_by, behind}
use Rattle.fluid_loader.specs.Laws.{between}

-- ---- lists

abbrev none : List Message
none = []

none_taken : (k : ℕ) → take k none ≡ none
none_taken zero = refl
none_taken (suc k) = refl

none_dropped : (k : ℕ) → drop k none ≡ none
none_dropped zero = refl
none_dropped (suc k) = refl

nothing_more : (k : ℕ) → 0 + k ≡ k
nothing_more k = omega arith

one_more : (a k : ℕ) → suc a + k ≡ suc (a + k)
one_more a k = omega arith

pub take_sum : (a k : ℕ) (xs : List Message) → take (a + k) xs ≡ take a xs ++ take k (drop a xs)
take_sum zero k xs = ap (λ n. take n xs) (nothing_more k)
take_sum (suc a) k [] = none_taken (suc a + k) ∙ sym (none_taken k)
take_sum (suc a) k (x ∷ xs) = ap (λ n. take n (x ∷ xs)) (one_more a k) ∙ ap (λ l. x ∷ l) (take_sum a k xs)

pub drop_sum : (a k : ℕ) (xs : List Message) → drop k (drop a xs) ≡ drop (a + k) xs
drop_sum zero k xs = ap (λ n. drop n xs) (sym (nothing_more k))
drop_sum (suc a) k [] = none_dropped k ∙ sym (none_dropped (suc a + k))
drop_sum (suc a) k (x ∷ xs) = drop_sum a k xs ∙ ap (λ n. drop n (x ∷ xs)) (sym (one_more a k))

-- ---- numbers

pub prefix_numbered : (n : ℕ) (xs ys : List Message) → AreNumberedFrom n (xs ++ ys) → AreNumberedFrom n xs
prefix_numbered n [] ys h = tt
prefix_numbered n (x ∷ xs) ys h = (h.0, prefix_numbered (suc n) xs ys h.1)

pub drop_numbered : (k n : ℕ) (xs : List Message) → AreNumberedFrom k xs → AreNumberedFrom (k + n) (drop n xs)
drop_numbered k zero xs h = let same : k ≡ k + 0 = omega arith in subst (λ j. AreNumberedFrom j xs) same h
drop_numbered k (suc n) [] h = tt
drop_numbered k (suc n) (x ∷ xs) h = let same : suc k + n ≡ k + suc n = omega arith in subst (λ j. AreNumberedFrom j (drop n xs)) same (drop_numbered (suc k) n xs h.1)

pub behind_number : (client : List ℕ) (ms : List Message) (c : AContainer) (k : ℕ) → k ≡ c.number → AreNumberedFrom (suc k) ms → (behind client c ms).number ≡ k + length ms
behind_number client [] c k is h = omega (arith, is)
behind_number client (m ∷ ms) c k is h = omega (arith, behind_number client ms (taken_by client c m) (suc k) (sym h.0) h.1)

-- ---- what each has

pub each_prefix : (P : Message → Type 0) (xs ys : List Message) → Each P (xs ++ ys) → Each P xs
each_prefix P [] ys h = tt
each_prefix P (x ∷ xs) ys h = (h.0, each_prefix P xs ys h.1)

pub each_drop : (P : Message → Type 0) (n : ℕ) (xs : List Message) → Each P xs → Each P (drop n xs)
each_drop P zero xs h = h
each_drop P (suc n) [] h = tt
each_drop P (suc n) (x ∷ xs) h = each_drop P n xs h.1

-- ---- between two numbers

pub take_between : (low n : ℕ) (order : List Message) → low ≤ n → take low order ++ between low n order ≡ take n order
take_between low n order le = let same : low + (n - low) ≡ n = omega (arith, le) in sym (take_sum low (n - low) order) ∙ ap (λ k. take k order) same

pub between_more : (low n : ℕ) (order prefix ahead : List Message) → low ≤ n → drop n order ≡ prefix ++ ahead → between low (n + length prefix) order ≡ between low n order ++ prefix
between_more low n order prefix ahead le is =
    let far : n + length prefix - low ≡ (n - low) + length prefix = omega (arith, le) in
    let same : low + (n - low) ≡ n = omega (arith, le) in
    ap (λ k. take k (drop low order)) far ∙ take_sum (n - low) (length prefix) (drop low order)
    ∙ ap (λ l. take (n - low) (drop low order) ++ take (length prefix) l) (drop_sum low (n - low) order ∙ ap (λ k. drop k order) same ∙ is)
    ∙ ap (λ l. take (n - low) (drop low order) ++ l) (take-append_seam prefix ahead)

pub between_longer : (low n : ℕ) (order more : List Message) → low ≤ n → n ≤ length order → between low n (order ++ more) ≡ between low n order
between_longer low n order more le within =
    ap (take (n - low)) (drop-append-le low order more (omega (arith, le, within))) ∙ take-append-le (n - low) (drop low order) more (omega (arith, le, within, length-drop low order))
