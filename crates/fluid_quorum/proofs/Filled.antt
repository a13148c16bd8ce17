-- Proposals whose keys have places.
use Rattle.std.proofs.Common.{◌≡◌, ℕ, zero, suc, ◌+◌, ◌<◌, ◌≤◌, arith, List, [], ◌∷◌, ◌++◌, length, take, drop, fold, Option, Some, None, refl, sym, ap, subst}
use Rattle.std.specs.Prelude.{option_to_list, slice_index_or, IfSome}
use Rattle.std.proofs.lemmas.List.Elements.{All-append}
use Rattle.fluid_types.specs.declared.quorum.Member.{Member}
use Rattle.fluid_types.specs.declared.quorum.Proposal.{Proposal}
use Rattle.fluid_quorum.specs.Places.{Places, HasPlace, HavePlaces, KeepsPlaces}

-- ---- places

module _ {V : Type 0} where
  pub first_place : (m : Places V) (p : Proposal) (ps rest : List Proposal) → ps ≡ p ∷ rest → HavePlaces m ps → HasPlace m p.key
  first_place m p ps rest is places = subst (HavePlaces m) is places 0 p (omega arith)

  pub rest_places : (m n : Places V) (p : Proposal) (ps rest : List Proposal) → ps ≡ p ∷ rest → KeepsPlaces m n → HavePlaces m ps → HavePlaces n rest
  rest_places m n p ps rest is keeps places = λ k d lt. keeps _ (subst (HavePlaces m) is places (suc k) d (omega (arith, lt)))

  pub same_places : (m n : Places V) (ps : List Proposal) → KeepsPlaces m n → HavePlaces m ps → HavePlaces n ps
  same_places m n ps keeps places = λ k d lt. keeps _ (places k d lt)

  one_place : (n : Places V) (o : Option Proposal) → IfSome o (λ p. HasPlace n p.key) → HavePlaces n (option_to_list o)
  one_place n None made = λ k d lt. absurd (omega (arith, lt))
  one_place n (Some p) made = λ k d lt. at k d lt
    where
      at : HavePlaces n (p ∷ [])
      at zero d lt = made
      at (suc k) d lt = absurd (omega (arith, lt))

  pub with_place_for : (m n : Places V) (ps : List Proposal) (o : Option Proposal) → KeepsPlaces m n → HavePlaces m ps → IfSome o (λ p. HasPlace n p.key) → HavePlaces n (ps ++ option_to_list o)
  with_place_for m n ps o keeps places made = All-append (λ p. HasPlace n p.key) ps (option_to_list o) (same_places m n ps keeps places) (one_place n o made)

-- who joins keeps the place where nobody leaves
pub still_seated : (m n : Places Member) (o : Option Member) (l : Option (List ℕ)) → IfSome o (λ _. l ≡ None) → (l ≡ None → n ≡ m) → IfSome o (λ x. HasPlace m x.id) → IfSome o (λ x. HasPlace n x.id)
still_seated m n None l alone idle seat = tt
still_seated m n (Some x) l alone idle seat = subst (λ p. HasPlace p x.id) (sym (idle alone)) seat

-- ---- one after another

module _ {A B : Type 0} (f : B → A → B) where
  pub fold-more : (b : B) (i : ℕ) (xs : List A) → fold f (fold f b (take i xs)) (take 1 (drop i xs)) ≡ fold f b (take (i + 1) xs)
  fold-more b zero xs = refl
  fold-more b (suc i) [] = let e : suc i + 1 ≡ suc (i + 1) = omega arith in rw e refl
  fold-more b (suc i) (x ∷ xs) = let e : suc i + 1 ≡ suc (i + 1) = omega arith in rw e (fold-more (f b x) i xs)

pub drop-more : {A : Type 0} (i : ℕ) (xs : List A) → drop 1 (drop i xs) ≡ drop (i + 1) xs
drop-more zero xs = refl
drop-more (suc i) [] = let e : suc i + 1 ≡ suc (i + 1) = omega arith in rw e refl
drop-more (suc i) (x ∷ xs) = let e : suc i + 1 ≡ suc (i + 1) = omega arith in rw e (drop-more i xs)

-- one of a list, at the front of what is left
pub drop-at : {A : Type 0} (i : ℕ) (xs : List A) (x : A) → i < length xs → x ≡ slice_index_or xs i x → drop i xs ≡ x ∷ drop (i + 1) xs
drop-at i [] x lt is = absurd (omega (arith, lt))
drop-at zero (y ∷ xs) x lt is = ap (λ z. z ∷ xs) (sym is)
drop-at (suc i) (y ∷ xs) x lt is =
    let e : suc i + 1 ≡ suc (i + 1) = omega arith in
    rw e (drop-at i xs x (omega (arith, lt)) is)

pub drop-past : {A : Type 0} (i : ℕ) (xs : List A) → length xs ≤ i → drop i xs ≡ []
drop-past zero [] le = refl
drop-past zero (x ∷ xs) le = absurd (omega (arith, le))
drop-past (suc i) [] le = refl
drop-past (suc i) (x ∷ xs) le = drop-past i xs (omega (arith, le))

pub take-at : {A : Type 0} (i : ℕ) (xs : List A) (x : A) → i < length xs → x ≡ slice_index_or xs i x → take (i + 1) xs ≡ take i xs ++ x ∷ []
take-at i [] x lt is = absurd (omega (arith, lt))
take-at zero (y ∷ xs) x lt is = ap (λ z. z ∷ []) (sym is)
take-at (suc i) (y ∷ xs) x lt is =
    let e : suc i + 1 ≡ suc (i + 1) = omega arith in
    rw e (ap (λ l. y ∷ l) (take-at i xs x (omega (arith, lt)) is))

-- one more of them has a place
pub placed-on : {V : Type 0} (m n : Places V) (i : ℕ) (ps : List Proposal) (p : Proposal) → i < length ps → p ≡ slice_index_or ps i p → KeepsPlaces m n → HavePlaces m (take i ps)
    → HasPlace n p.key → HavePlaces n (take (i + 1) ps)
placed-on m n i ps p lt is keeps places made = subst (HavePlaces n) (sym (take-at i ps p lt is)) (with_place_for m n (take i ps) (Some p) keeps places made)
