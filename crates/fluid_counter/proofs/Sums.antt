-- Sums of amounts, and of their sizes.
use Rattle.std.proofs.Common.{◌≡◌, ap, ◌∙◌, ℕ, ◌+◌, ◌^◌, ◌<◌, ◌≤◌, ℤ, ◌+ℤ◌, unsigned_abs, ◌-◌, ◌-ℤ◌, FitsSigned, List, [], ◌∷◌, ◌++◌, map, length, All, ◌*◌, suc, arith}
use Rattle.std.specs.Prelude.{sum}
use Rattle.std.specs.Int.{w64, w128}
use Rattle.std.proofs.lemmas.Int.{ints, fits_signed_from_abs}
use Rattle.std.proofs.lemmas.List.Sums.{sum-map, sum_by-cons, sum_by_push}
use Rattle.fluid_counter.specs.Counter.{sum_of, replay, greatest_size}
use Rattle.fluid_counter.specs.Laws.{IsReplayedOn, IsIncrement, IsRoomy}
use Rattle.fluid_counter.specs.Totals.{AreTotals}

pub sum_of-append : (before behind : List ℤ) → sum_of (before ++ behind) ≡ sum_of before +ℤ sum_of behind
sum_of-append [] behind = omega (arith, ints)
sum_of-append (amount ∷ before) behind = omega (arith, ints, sum_of-append before behind)

pub sum_of-push : (amounts : List ℤ) (amount : ℤ) → sum_of (amounts ++ amount ∷ []) ≡ sum_of amounts +ℤ amount
sum_of-push amounts amount = omega (arith, ints, sum_of-append amounts (amount ∷ []))

pub sizes-cons : (amount : ℤ) (amounts : List ℤ) → sum (map unsigned_abs (amount ∷ amounts)) ≡ unsigned_abs amount + sum (map unsigned_abs amounts)
sizes-cons amount amounts = omega (arith, sum-map unsigned_abs (amount ∷ amounts), sum-map unsigned_abs amounts, sum_by-cons unsigned_abs amount amounts)

pub sizes-push : (amounts : List ℤ) (amount : ℤ) → sum (map unsigned_abs (amounts ++ amount ∷ [])) ≡ sum (map unsigned_abs amounts) + unsigned_abs amount
sizes-push amounts amount = omega (arith, sum-map unsigned_abs (amounts ++ amount ∷ []), sum-map unsigned_abs amounts, sum_by_push unsigned_abs amounts amount)

pub size-add : (a b : ℤ) → unsigned_abs (a +ℤ b) ≤ unsigned_abs a + unsigned_abs b
size-add a b = grind (arith, ints)

pub size-sum_of : (amounts : List ℤ) → unsigned_abs (sum_of amounts) ≤ sum (map unsigned_abs amounts)
size-sum_of [] = omega arith
size-sum_of (amount ∷ amounts) = omega (arith, size-add amount (sum_of amounts), sizes-cons amount amounts, size-sum_of amounts)

pub fits : (z : ℤ) → unsigned_abs z < 2 ^ 127 → FitsSigned w128 z
fits z small = fits_signed_from_abs w128 z small

-- ---- what is kept

module _ {total : ℤ} {pending : List ℤ} {sum_kept : ℤ} {size_kept : ℕ} (kept : AreTotals total pending sum_kept size_kept) where
  pub size-sum_kept : unsigned_abs sum_kept ≤ size_kept
  size-sum_kept = rw (kept.sum_is, kept.size_is) (size-sum_of pending)

  pub total-fits : FitsSigned w128 total
  total-fits = fits total (omega (arith, kept.bounded, kept.size_is))

  pub sum_kept-fits : FitsSigned w128 sum_kept
  sum_kept-fits = fits sum_kept (omega (arith, kept.bounded, kept.size_is, size-sum_kept))

  pub shown-fits : FitsSigned w128 (total +ℤ sum_kept)
  shown-fits = fits (total +ℤ sum_kept) (omega (arith, kept.bounded, kept.size_is, size-sum_kept, size-add total sum_kept))

module _ {total : ℤ} {pending : List ℤ} {sum_kept : ℤ} {size_kept : ℕ} (kept : AreTotals total pending sum_kept size_kept) (amount : ℤ)
    (room : (unsigned_abs total + sum (map unsigned_abs pending)) + unsigned_abs amount ≤ greatest_size) where
  pub remote-fits : FitsSigned w128 (total +ℤ amount)
  remote-fits = fits (total +ℤ amount) (omega (arith, room, size-add total amount))

  pub local-fits : FitsSigned w128 (sum_kept +ℤ amount)
  local-fits = fits (sum_kept +ℤ amount) (omega (arith, room, kept.size_is, size-sum_kept kept, size-add sum_kept amount))

  pub kept-local : AreTotals total (pending ++ amount ∷ []) (sum_kept +ℤ amount) (size_kept + unsigned_abs amount)
  kept-local = record {
    sum_is = omega (arith, ints, kept.sum_is, sum_of-push pending amount);
    size_is = omega (arith, kept.size_is, sizes-push pending amount);
    bounded = omega (arith, room, sizes-push pending amount);
  }

module _ {total : ℤ} {pending : List ℤ} {sum_kept : ℤ} {size_kept : ℕ} (amount : ℤ) (rest : List ℤ) (is : pending ≡ amount ∷ rest)
    (kept : AreTotals total pending sum_kept size_kept) where
  sizes : size_kept ≡ unsigned_abs amount + sum (map unsigned_abs rest)
  sizes = kept.size_is ∙ ap (λ l. sum (map unsigned_abs l)) is ∙ sizes-cons amount rest

  sums : sum_kept ≡ amount +ℤ sum_of rest
  sums = kept.sum_is ∙ ap sum_of is

  left : sum_kept -ℤ amount ≡ sum_of rest
  left = omega (arith, ints, sums)

  pub acknowledged-fits : FitsSigned w128 (total +ℤ amount)
  acknowledged-fits = fits (total +ℤ amount) (omega (arith, sizes, kept.bounded, kept.size_is, size-add total amount))

  pub left-fits : FitsSigned w128 (sum_kept -ℤ amount)
  left-fits = rw left (fits (sum_of rest) (omega (arith, sizes, kept.bounded, kept.size_is, size-sum_of rest)))

  pub kept-acknowledged : AreTotals (total +ℤ amount) rest (sum_kept -ℤ amount) (size_kept - unsigned_abs amount)
  kept-acknowledged = record {
    sum_is = left;
    size_is = omega (arith, sizes);
    bounded = omega (arith, sizes, kept.bounded, kept.size_is, size-add total amount);
  }

  -- an amount that is counted in the total in place of the pending ones is shown as before
  pub shown-acknowledged : (total +ℤ amount) +ℤ sum_of rest ≡ total +ℤ sum_of pending
  shown-acknowledged = omega (arith, ints, ap sum_of is)

-- a number of 64 bits is one of 128 bits
pub amount-fits : {z : ℤ} → FitsSigned w64 z → FitsSigned w128 z
amount-fits h = omega (arith, ints, h.sfits)

-- ---- over lists of amounts

pub replayed_on_law : IsReplayedOn
replayed_on_law total earlier later = omega (arith, ints, sum_of-append earlier later)

pub stands_after : (total : ℤ) (amounts : List ℤ) (amount acknowledged : ℤ) → acknowledged ≡ replay total amounts → acknowledged +ℤ amount ≡ replay total (amounts ++ amount ∷ [])
stands_after total amounts amount acknowledged is = omega (arith, ints, is, sum_of-push amounts amount)

pub shown_behind : (total : ℤ) (amounts pending : List ℤ) (acknowledged : ℤ) → acknowledged ≡ replay total amounts → replay acknowledged pending ≡ replay total (amounts ++ pending)
shown_behind total amounts pending acknowledged is = omega (arith, ints, is, sum_of-append amounts pending)

sizes-append : (before behind : List ℤ) → sum (map unsigned_abs (before ++ behind)) ≡ sum (map unsigned_abs before) + sum (map unsigned_abs behind)
sizes-append [] behind = omega (arith, sum-map unsigned_abs [])
sizes-append (amount ∷ before) behind = omega (arith, sizes-cons amount (before ++ behind), sizes-cons amount before, sizes-append before behind)

-- amounts of the protocol are together at most so great
few : (amounts : List ℤ) → All IsIncrement amounts → sum (map unsigned_abs amounts) ≤ length amounts * (2 ^ 53 - 1)
few [] each = omega (arith, sum-map unsigned_abs [])
few (amount ∷ amounts) each =
    let first : IsIncrement amount = each 0 amount (omega arith) in
    omega (arith, first, sizes-cons amount amounts, few amounts (λ k d lt. each (suc k) d (omega arith)))

pub roomy_law : IsRoomy
roomy_law total amounts shared amount storable stands number each increment =
    let all : sum (map unsigned_abs (amounts ++ shared.pending)) ≤ length (amounts ++ shared.pending) * (2 ^ 53 - 1) = few (amounts ++ shared.pending) each in
    let total_size : unsigned_abs shared.acknowledged ≤ unsigned_abs total + sum (map unsigned_abs amounts) = omega (arith, ap unsigned_abs stands, size-add total (sum_of amounts), size-sum_of amounts) in
    omega (arith, all, total_size, storable, number, increment, sizes-append amounts shared.pending)

first_or : ℤ → List ℤ → ℤ
first_or default [] = default
first_or default (amount ∷ amounts) = amount

pub same_first : {one other : ℤ} {ones others : List ℤ} → one ∷ ones ≡ other ∷ others → one ≡ other
unfolding first_or
same_first {one = one} is = ap (first_or one) is
