-- Lists of numbers: those that rise, and what is taken from them in turns.
use Rattle.std.proofs.Common.{◌≡◌, ℕ, zero, suc, length, drop, ◌+◌, ◌<◌, ◌≤◌, ◌==◌, Bool, true, false, not, ◌&&◌, ◌||◌, cond, List, [], ◌∷◌, ◌++◌, refl, sym, ◌∙◌, ap, ap₂, subst, arith, append-nil, inl, inr}
use Rattle.std.specs.Prelude.{filter, flat_map}
use Rattle.std.specs.List.{list_any, AllByRecursion}
use Rattle.std.proofs.lemmas.Grind.{flat_map-append}
use Rattle.std.proofs.lemmas.List.Elements.{filter-append}
use Rattle.std.proofs.lemmas.Bool.{eqb-true, eq-eqb, false_from_ne_true, cases_Bool}

pub no_test : (a : Bool) → a ≡ true → a ≡ false → ⊥
no_test a so not_so = let wrong : true ≡ false = sym so ∙ not_so in cc

-- ---- all of a list

pub all-append : {X : Type 0} (P : X → Type 0) (xs ys : List X) → AllByRecursion P xs → AllByRecursion P ys → AllByRecursion P (xs ++ ys)
all-append P [] ys one two = two
all-append P (x ∷ xs) ys one two = (one.0, all-append P xs ys one.1 two)

pub all-weaker : {X : Type 0} (P Q : X → Type 0) → ((x : X) → P x → Q x) → (xs : List X) → AllByRecursion P xs → AllByRecursion Q xs
all-weaker P Q step [] all = tt
all-weaker P Q step (x ∷ xs) all = (step x all.0, all-weaker P Q step xs all.1)

pub all-any : {X : Type 0} (P : X → Type 0) → ((x : X) → P x) → (xs : List X) → AllByRecursion P xs
all-any P step [] = tt
all-any P step (x ∷ xs) = (step x, all-any P step xs)

pub all-filter : {X : Type 0} (P Q : X → Type 0) (p : X → Bool) → ((x : X) → P x → p x ≡ true → Q x) → (xs : List X) → AllByRecursion P xs → AllByRecursion Q (filter p xs)
all-filter P Q p step [] all = tt
all-filter P Q p step (x ∷ xs) all = of (p x) refl (all-filter P Q p step xs all.1)
  where
    of : (b : Bool) → p x ≡ b → AllByRecursion Q (filter p xs) → AllByRecursion Q (cond b (x ∷ filter p xs) (filter p xs))
    of true is rest = (step x all.0 is, rest)
    of false is rest = rest

-- ---- filters

pub filter-same : {X : Type 0} (p r : X → Bool) (xs : List X) → AllByRecursion (λ x. r x ≡ p x) xs → filter r xs ≡ filter p xs
filter-same p r [] all = refl
filter-same p r (x ∷ xs) all = ap₂ (λ b rest. cond b (x ∷ rest) rest) all.0 (filter-same p r xs all.1)

pub filter-none : {X : Type 0} (p : X → Bool) (xs : List X) → AllByRecursion (λ x. p x ≡ false) xs → filter p xs ≡ []
filter-none p [] all = refl
filter-none p (x ∷ xs) all = ap₂ (λ b rest. cond b (x ∷ rest) rest) all.0 (filter-none p xs all.1)

pub filter-all : {X : Type 0} (p : X → Bool) (xs : List X) → AllByRecursion (λ x. p x ≡ true) xs → filter p xs ≡ xs
filter-all p [] all = refl
filter-all p (x ∷ xs) all = ap₂ (λ b rest. cond b (x ∷ rest) rest) all.0 (filter-all p xs all.1)

-- one test behind another
pub filter-both : {X : Type 0} (p r : X → Bool) (xs : List X) → filter (λ x. p x && r x) xs ≡ filter r (filter p xs)
filter-both p r [] = refl
filter-both p r (x ∷ xs) = of (p x) (filter-both p r xs)
  where
    of : (a : Bool) → filter (λ y. p y && r y) xs ≡ filter r (filter p xs)
        → cond (a && r x) (x ∷ filter (λ y. p y && r y) xs) (filter (λ y. p y && r y) xs) ≡ filter r (cond a (x ∷ filter p xs) (filter p xs))
    of true rest = ap (λ l. cond (r x) (x ∷ l) l) rest
    of false rest = rest

-- ---- a number among others

abbrev pub mem : ℕ → List ℕ → Bool
mem i xs = list_any (λ j. j == i) xs

or_assoc : (a b c : Bool) → (a || (b || c)) ≡ ((a || b) || c)
or_assoc true b c = refl
or_assoc false b c = refl

pub mem-append : (i : ℕ) (xs ys : List ℕ) → mem i (xs ++ ys) ≡ (mem i xs || mem i ys)
mem-append i [] ys = refl
mem-append i (x ∷ xs) ys = ap (λ b. (x == i) || b) (mem-append i xs ys) ∙ or_assoc (x == i) (mem i xs) (mem i ys)

-- ---- rising numbers

abbrev pub Below : ℕ → List ℕ → Type 0
Below n xs = AllByRecursion (λ x. x < n) xs

abbrev pub Ascends : List ℕ → Type 0
Ascends [] = Unit {0}
Ascends (x ∷ xs) = AllByRecursion (λ y. x < y) xs × Ascends xs

pub below-more : (n k : ℕ) (xs : List ℕ) → n ≤ k → Below n xs → Below k xs
below-more n k xs le all = all-weaker (λ x. x < n) (λ x. x < k) (λ x lt. omega (arith, lt, le)) xs all

pub ascends-push : (xs : List ℕ) (n : ℕ) → Ascends xs → Below n xs → Ascends (xs ++ n ∷ [])
ascends-push [] n rise below = (tt, tt)
ascends-push (x ∷ xs) n rise below = (all-append (λ y. x < y) xs (n ∷ []) rise.0 (below.0, tt), ascends-push xs n rise.1 below.1)

pub ascends-filter : (p : ℕ → Bool) (xs : List ℕ) → Ascends xs → Ascends (filter p xs)
ascends-filter p [] rise = tt
ascends-filter p (x ∷ xs) rise = of (p x) (ascends-filter p xs rise.1)
  where
    of : (b : Bool) → Ascends (filter p xs) → Ascends (cond b (x ∷ filter p xs) (filter p xs))
    of true rest = (all-filter (λ y. x < y) (λ y. x < y) p (λ y lt is. lt) xs rise.0, rest)
    of false rest = rest

-- none of the numbers above this one is it
pub above_other : (x : ℕ) (xs : List ℕ) → AllByRecursion (λ y. x < y) xs → AllByRecursion (λ y. (x == y) ≡ false) xs
above_other x xs above = all-weaker (λ y. x < y) (λ y. (x == y) ≡ false) (λ y lt. false_from_ne_true (x == y) (λ same. let is = eqb-true x y same in omega (arith, lt, is))) xs above

-- the one of rising numbers that is this one
pub filter-one : (x : ℕ) (xs : List ℕ) → Ascends xs → mem x xs ≡ true → filter (λ y. x == y) xs ≡ x ∷ []
filter-one x [] rise among = absurd (cc)
filter-one x (y ∷ ys) rise among = elim (cases_Bool (x == y)) [
  | inl same ↦
      let is : x ≡ y = eqb-true x y same in
      ap₂ (λ b rest. cond b (y ∷ rest) rest) same (filter-none (λ z. x == z) ys (subst (λ w. AllByRecursion (λ z. (w == z) ≡ false) ys) (sym is) (above_other y ys rise.0)))
      ∙ ap (λ z. z ∷ []) (sym is)
  | inr other ↦
      let not_here : (y == x) ≡ false = false_from_ne_true (y == x) (λ same. no_test (x == y) (eq-eqb x y (sym (eqb-true y x same))) other) in
      ap₂ (λ b rest. cond b (y ∷ rest) rest) other (filter-one x ys rise.1 (sym (ap (λ b. b || mem x ys) not_here) ∙ among))
]

-- ---- rising lists that have the same numbers are one

pub not_above : (x : ℕ) (xs : List ℕ) → AllByRecursion (λ y. x < y) xs → mem x xs ≡ false
not_above x [] above = refl
not_above x (y ∷ ys) above = ap₂ (λ a b. a || b) (false_from_ne_true (y == x) (λ same. let is = eqb-true y x same in omega (arith, is, above.0))) (not_above x ys above.1)

pub or_left : (a b : Bool) → a ≡ true → (a || b) ≡ true
or_left true b is = refl
or_left false b is = absurd (cc)

pub self : (x : ℕ) → (x == x) ≡ true
self x = eq-eqb x x refl

pub above_of : (y : ℕ) (ys : List ℕ) → AllByRecursion (λ z. y < z) ys → (x : ℕ) → mem x ys ≡ true → y < x
above_of y [] above x among = absurd (cc)
above_of y (z ∷ zs) above x among = elim (cases_Bool (z == x)) [
  | inl here ↦ let is = eqb-true z x here in omega (arith, is, above.0)
  | inr other ↦ above_of y zs above.1 x (sym (ap (λ b. b || mem x zs) other) ∙ among)
]

heads : (x y : ℕ) (xs ys : List ℕ) → Ascends (x ∷ xs) → Ascends (y ∷ ys) → ((n : ℕ) → mem n (x ∷ xs) ≡ mem n (y ∷ ys)) → x ≡ y
heads x y xs ys one two same = elim (cases_Bool (y == x)) [
  | inl is ↦ sym (eqb-true y x is)
  | inr other ↦
      let there : mem x (y ∷ ys) ≡ true = sym (same x) ∙ or_left (x == x) (mem x xs) (self x) in
      let back : mem y (x ∷ xs) ≡ true = same y ∙ or_left (y == y) (mem y ys) (self y) in
      let other_too : (x == y) ≡ false = false_from_ne_true (x == y) (λ is. no_test (y == x) (eq-eqb y x (sym (eqb-true x y is))) other) in
      let above_y = above_of y ys two.0 x (sym (ap (λ b. b || mem x ys) other) ∙ there) in
      let above_x = above_of x xs one.0 y (sym (ap (λ b. b || mem y xs) other_too) ∙ back) in
      absurd (omega (arith, above_y, above_x))
]

tails : (x y : ℕ) (xs ys : List ℕ) → Ascends (x ∷ xs) → Ascends (y ∷ ys) → ((n : ℕ) → mem n (x ∷ xs) ≡ mem n (y ∷ ys)) → x ≡ y → (n : ℕ) → mem n xs ≡ mem n ys
tails x y xs ys one two same is n = elim (cases_Bool (x == n)) [
  | inl here ↦
      let at : x ≡ n = eqb-true x n here in
      let none : mem x xs ≡ mem x ys = not_above x xs one.0 ∙ sym (not_above x ys (subst (λ z. AllByRecursion (λ w. z < w) ys) (sym is) two.0)) in
      subst (λ z. mem z xs ≡ mem z ys) at none
  | inr other ↦
      let other_y : (y == n) ≡ false = ap (λ z. z == n) (sym is) ∙ other in
      sym (ap (λ b. b || mem n xs) other) ∙ same n ∙ ap (λ b. b || mem n ys) other_y
]

pub same_ascending : (xs ys : List ℕ) → Ascends xs → Ascends ys → ((n : ℕ) → mem n xs ≡ mem n ys) → xs ≡ ys
same_ascending [] [] one two same = refl
same_ascending [] (y ∷ ys) one two same = absurd (let is : false ≡ true = same y ∙ or_left (y == y) (mem y ys) (self y) in cc)
same_ascending (x ∷ xs) [] one two same = absurd (let is : true ≡ false = sym (or_left (x == x) (mem x xs) (self x)) ∙ same x in cc)
same_ascending (x ∷ xs) (y ∷ ys) one two same =
    let is = heads x y xs ys one two same in
    ap₂ (λ z zs. z ∷ zs) is (same_ascending xs ys one.1 two.1 (tails x y xs ys one two same is))

-- ---- in turns: for each of some numbers those of others that belong to it

abbrev pub turns : (ℕ → ℕ → Bool) → List ℕ → List ℕ → List ℕ
turns p ns xs = flat_map (λ s. filter (p s) xs) ns

-- one turn more
pub turns-push : (p : ℕ → ℕ → Bool) (ns xs : List ℕ) (n : ℕ) → turns p (ns ++ n ∷ []) xs ≡ turns p ns xs ++ filter (p n) xs
turns-push p ns xs n = flat_map-append (λ s. filter (p s) xs) ns (n ∷ []) ∙ ap (λ l. turns p ns xs ++ l) (append-nil (filter (p n) xs))

pub turns-same : (p r : ℕ → ℕ → Bool) (n : ℕ) (ns xs : List ℕ) → Below n ns → Below n xs → ((s x : ℕ) → s < n → x < n → r s x ≡ p s x) → turns r ns xs ≡ turns p ns xs
turns-same p r n [] xs below all same = refl
turns-same p r n (s ∷ ns) xs below all same =
    ap₂ (λ a b. a ++ b) (filter-same (p s) (r s) xs (all-weaker (λ x. x < n) (λ x. r s x ≡ p s x) (λ x lt. same s x below.0 lt) xs all))
    (turns-same p r n ns xs below.1 all same)

-- one number more that belongs to none of them
pub turns-extra : (p : ℕ → ℕ → Bool) (ns xs : List ℕ) (x : ℕ) → AllByRecursion (λ s. p s x ≡ false) ns → turns p ns (xs ++ x ∷ []) ≡ turns p ns xs
turns-extra p [] xs x none = refl
turns-extra p (s ∷ ns) xs x none =
    ap₂ (λ a b. a ++ b)
    (filter-append (p s) xs (x ∷ []) ∙ ap (λ l. filter (p s) xs ++ l) (filter-none (p s) (x ∷ []) (none.0, tt)) ∙ append-nil (filter (p s) xs))
    (turns-extra p ns xs x none.1)

pub turns-all : (R Q : ℕ → Type 0) (p : ℕ → ℕ → Bool) → ((s x : ℕ) → R s → p s x ≡ true → Q x) → (ns xs : List ℕ) → AllByRecursion R ns → AllByRecursion Q (turns p ns xs)
turns-all R Q p step [] xs all = tt
turns-all R Q p step (s ∷ ns) xs all =
    all-append Q (filter (p s) xs) (turns p ns xs) (all-filter (λ x. Unit {0}) Q (p s) (λ x u is. step s x all.0 is) xs (all-any (λ x. Unit {0}) (λ x. tt) xs))
    (turns-all R Q p step ns xs all.1)

-- leaving some out in each turn is leaving them out
pub turns-without : (p : ℕ → ℕ → Bool) (r : ℕ → Bool) (ns xs : List ℕ) → turns (λ s x. p s x && r x) ns xs ≡ filter r (turns p ns xs)
turns-without p r [] xs = refl
turns-without p r (s ∷ ns) xs =
    ap₂ (λ a b. a ++ b) (filter-both (p s) r xs) (turns-without p r ns xs) ∙ sym (filter-append r (filter (p s) xs) (turns p ns xs))

-- a number that belongs to one turn alone stands once: the first of them isn't among the rest
pub turns-once : (p : ℕ → ℕ → Bool) → ((s t x : ℕ) → p s x ≡ true → p t x ≡ true → s ≡ t) → (ns xs : List ℕ) → Ascends ns → Ascends xs → (x : ℕ) (rest : List ℕ) → turns p ns xs ≡ x ∷ rest
    → AllByRecursion (λ y. (x == y) ≡ false) rest
turns-once p single [] xs rise all x rest is = absurd (cc)
turns-once p single (s ∷ ns) xs rise all x rest is =
    of (λ h. turns-once p single ns xs rise.1 all x rest h) (filter (p s) xs) (ascends-filter (p s) xs all)
    (all-filter (λ y. Unit {0}) (λ y. p s y ≡ true) (p s) (λ y u h. h) xs (all-any (λ y. Unit {0}) (λ y. tt) xs)) is
  where
    later : p s x ≡ true → AllByRecursion (λ y. (x == y) ≡ false) (turns p ns xs)
    later own = turns-all (λ t. s < t) (λ y. (x == y) ≡ false) p
        (λ t y lt its. false_from_ne_true (x == y) (λ same.
        let y_is : x ≡ y = eqb-true x y same in
        let one : s ≡ t = single s t x own (subst (λ z. p t z ≡ true) (sym y_is) its) in
        omega (arith, one, lt)))
        ns xs rise.0

    of : (turns p ns xs ≡ x ∷ rest → AllByRecursion (λ y. (x == y) ≡ false) rest) → (f : List ℕ) → Ascends f → AllByRecursion (λ y. p s y ≡ true) f → f ++ turns p ns xs ≡ x ∷ rest
        → AllByRecursion (λ y. (x == y) ≡ false) rest
    of again [] up own h = again h
    of again (y ∷ f) up own h =
        let y_is : y ≡ x = cc in
        let rest_is : f ++ turns p ns xs ≡ rest = cc in
        subst (AllByRecursion (λ z. (x == z) ≡ false)) rest_is
        (all-append (λ z. (x == z) ≡ false) f (turns p ns xs) (subst (λ w. AllByRecursion (λ z. (w == z) ≡ false) f) y_is (above_other y f up.0)) (later (subst (λ w. p s w ≡ true) y_is own.0)))

-- taking the first out
pub turns-taken : (p : ℕ → ℕ → Bool) → ((s t x : ℕ) → p s x ≡ true → p t x ≡ true → s ≡ t) → (ns xs : List ℕ) → Ascends ns → Ascends xs → (x : ℕ) (rest : List ℕ) → turns p ns xs ≡ x ∷ rest
    → turns (λ s y. p s y && not (x == y)) ns xs ≡ rest
turns-taken p single ns xs rise all x rest is =
    turns-without p (λ y. not (x == y)) ns xs ∙ ap (filter (λ y. not (x == y))) is
    ∙ ap (λ b. cond (not b) (x ∷ filter (λ y. not (x == y)) rest) (filter (λ y. not (x == y)) rest)) (self x)
    ∙ filter-all (λ y. not (x == y)) rest (all-weaker (λ y. (x == y) ≡ false) (λ y. not (x == y) ≡ true) (λ y other. ap not other) rest (turns-once p single ns xs rise all x rest is))

-- ---- the rest of a list

pub drop_none : {X : Type 0} (xs : List X) → drop 0 xs ≡ xs
drop_none [] = refl
drop_none (x ∷ xs) = refl

-- the rest from a place within a list: the element there, and the rest behind it
pub rest_at : (xs : List ℕ) (start next : ℕ) → start < length xs → next ≡ start + 1 → (x : ℕ) × (drop start xs ≡ x ∷ drop next xs)
rest_at [] start next lt is = absurd (omega (arith, lt))
rest_at (x ∷ xs) zero next lt is =
    let one : next ≡ suc zero = omega (arith, is) in
    (x, sym (ap (λ n. x ∷ drop n (x ∷ xs)) one ∙ ap (λ l. x ∷ l) (drop_none xs)))
rest_at (x ∷ xs) (suc start) zero lt is = absurd (omega (arith, is))
rest_at (x ∷ xs) (suc start) (suc next) lt is = rest_at xs start next (omega (arith, lt)) (omega (arith, is))
