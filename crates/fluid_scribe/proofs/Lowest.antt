-- The references behind which none is less.
use Rattle.std.proofs.Common.{◌≡◌, ℕ, zero, suc, ◌+◌, ◌-◌, ◌<◌, ◌≤◌, arith, Bool, true, false, not, ◌==◌, nat_lt, nat_le, if◌then◌else◌, List, [], ◌∷◌, ◌++◌, length, take, drop, filter, min, Some, refl, sym, ap, ◌∙◌}
use Rattle.std.specs.Prelude.{slice_index_or}
use Rattle.fluid_types.specs.declared.messages.Message.{Message}
use Rattle.fluid_rules.specs.Scribe.{reference_of}
use Rattle.fluid_scribe.specs.State.{least_with}
use Rattle.fluid_scribe.specs.Scribing.{unanswered_at}
use Rattle.fluid_scribe.specs.Waiting.{with_first, lows, least_low, without_first, unless_above, cut, AreAbove, AreUpTo, AreRising, IsOf, StartsWith}
use Rattle.fluid_scribe.specs.declared.lows.Lows.{Lows}

-- ---- the first is the least

first-of : (n r : ℕ) (ls : List ℕ) → least_low (min n r) ls ≡ least_low n (with_first r ls)
first-of n r [] = refl
first-of n r (l ∷ ls) = by (nat_le r l) refl
  where
    by : (b : Bool) → nat_le r l ≡ b → min (min n r) l ≡ least_low n (if b then r ∷ l ∷ ls else l ∷ ls)
    by true is = let le : r ≤ l = grind arith in omega (arith, le)
    by false is = let lt : l < r = grind arith in omega (arith, lt)

pub least-is : (ms : List Message) (n : ℕ) → least_with n ms ≡ least_low n (lows ms)
least-is [] n = refl
least-is (m ∷ ms) n = least-is ms (min n (reference_of m)) ∙ first-of n (reference_of m) (lows ms)

-- ---- the first message leaves

left : (r : ℕ) (ls : List ℕ) → without_first r (with_first r ls) ≡ ls
left r [] = rw (same r) refl
  where
    same : (a : ℕ) → (a == a) ≡ true
    same a = grind arith
left r (l ∷ ls) = by (nat_le r l) refl
  where
    by : (b : Bool) → nat_le r l ≡ b → without_first r (if b then r ∷ l ∷ ls else l ∷ ls) ≡ l ∷ ls
    by true is = let same : (r == r) ≡ true = grind arith in rw same refl
    by false is = let other : (r == l) ≡ false = grind arith in rw other refl

-- ---- one is put at the end

cut-none : (r q : ℕ) → with_first q (r ∷ []) ≡ unless_above r q [] ++ r ∷ []
cut-none r q = by (nat_le q r) refl
  where
    by : (b : Bool) → nat_le q r ≡ b → (if b then q ∷ r ∷ [] else r ∷ []) ≡ (if nat_lt r q then [] else q ∷ []) ++ r ∷ []
    by true is = let other : nat_lt r q ≡ false = grind arith in rw other refl
    by false is = let above : nat_lt r q ≡ true = grind arith in rw above refl

-- what a cut leaves, behind one more in front
cut-low : (r q l : ℕ) (rest : List ℕ) → nat_le q l ≡ true → with_first q (unless_above r l rest ++ r ∷ []) ≡ unless_above r q (unless_above r l rest) ++ r ∷ []
cut-low r q l [] le = by (nat_lt r l)
  where
    by : (b : Bool) → with_first q ((if b then [] else l ∷ []) ++ r ∷ []) ≡ unless_above r q (if b then [] else l ∷ []) ++ r ∷ []
    by true = cut-none r q
    by false = rw le refl
cut-low r q l (k ∷ ks) le = rw le refl

cut-high : (r q l : ℕ) (rest : List ℕ) → nat_le q l ≡ false → with_first q (unless_above r l rest ++ r ∷ []) ≡ unless_above r l rest ++ r ∷ []
cut-high r q l [] lt = by (nat_lt r l) refl
  where
    by : (b : Bool) → nat_lt r l ≡ b → with_first q ((if b then [] else l ∷ []) ++ r ∷ []) ≡ (if b then [] else l ∷ []) ++ r ∷ []
    by true is = let other : nat_le q r ≡ false = grind arith in rw other refl
    by false is = rw lt refl
cut-high r q l (k ∷ ks) lt = rw lt refl

cut-first : (r q : ℕ) (ls : List ℕ) → with_first q (cut r ls ++ r ∷ []) ≡ cut r (with_first q ls) ++ r ∷ []
cut-first r q [] = cut-none r q
cut-first r q (l ∷ ls) = by (nat_le q l) refl
  where
    by : (b : Bool) → nat_le q l ≡ b → with_first q (unless_above r l (cut r ls) ++ r ∷ []) ≡ cut r (if b then q ∷ l ∷ ls else l ∷ ls) ++ r ∷ []
    by true is = cut-low r q l (cut r ls) is
    by false is = cut-high r q l (cut r ls) is

pushed-lows : (ms : List Message) (m : Message) → lows (ms ++ m ∷ []) ≡ cut (reference_of m) (lows ms) ++ reference_of m ∷ []
pushed-lows [] m = refl
pushed-lows (x ∷ ms) m = ap (with_first (reference_of x)) (pushed-lows ms m) ∙ cut-first (reference_of m) (reference_of x) (lows ms)

above-push : (n : ℕ) (ms : List Message) (m : Message) → n < m.number → AreAbove n ms → AreAbove n (ms ++ m ∷ [])
above-push n [] m lt are = (lt, tt)
above-push n (x ∷ ms) m lt are = (are.0, above-push n ms m lt are.1)

newest-push : (n : ℕ) (ms : List Message) (m : Message) → n < m.number → AreUpTo n ms → AreUpTo m.number (ms ++ m ∷ [])
newest-push n [] m lt are = (omega arith, tt)
newest-push n (x ∷ ms) m lt are = (omega (arith, lt, are.0), newest-push n ms m lt are.1)

rising-push : (n : ℕ) (ms : List Message) (m : Message) → n < m.number → AreUpTo n ms → AreRising ms → AreRising (ms ++ m ∷ [])
rising-push n [] m lt upto are = (tt, tt)
rising-push n (x ∷ ms) m lt upto are = (above-push x.number ms m (omega (arith, lt, upto.0)) are.0, rising-push n ms m lt upto.1 are.1)

pub pushed : (ms : List Message) (m : Message) (before behind : Lows) → before.newest < m.number → IsOf ms before →
    behind.list.items ≡ cut (reference_of m) before.list.items ++ reference_of m ∷ [] → behind.newest ≡ m.number → IsOf (ms ++ m ∷ []) behind
pushed ms m before behind lt of list newest = record {
  rising = rising-push before.newest ms m lt of.newest of.rising;
  newest = rw newest (newest-push before.newest ms m lt of.newest);
  lows = list ∙ ap (λ l. cut (reference_of m) l ++ reference_of m ∷ []) of.lows ∙ sym (pushed-lows ms m);
}

-- ---- what is cut away, one after another

module _ (r : ℕ) where
  keeps : (l : ℕ) (ls : List ℕ) (x : ℕ) → unless_above r l (ls ++ x ∷ []) ≡ l ∷ (ls ++ x ∷ [])
  keeps l [] x = refl
  keeps l (k ∷ ks) x = refl

  above-last : (ls : List ℕ) (x : ℕ) → r < x → cut r (ls ++ x ∷ []) ≡ cut r ls
  above-last [] x lt = let above : nat_lt r x ≡ true = grind arith in rw above refl
  above-last (l ∷ ls) x lt = ap (unless_above r l) (above-last ls x lt)

  below-last : (ls : List ℕ) (x : ℕ) → x ≤ r → cut r (ls ++ x ∷ []) ≡ ls ++ x ∷ []
  below-last [] x le = let other : nat_lt r x ≡ false = grind arith in rw other refl
  below-last (l ∷ ls) x le = ap (unless_above r l) (below-last ls x le) ∙ keeps l ls x

-- the last of a list
last-part : (ls : List ℕ) (x : ℕ) → 0 < length ls → x ≡ slice_index_or ls (length ls - 1) x → ls ≡ take (length ls - 1) ls ++ x ∷ []
last-part [] x lt is = absurd (omega (arith, lt))
last-part (y ∷ []) x lt is = ap (λ z. z ∷ []) (sym is)
last-part (y ∷ (z ∷ zs)) x lt is =
    let e : length (y ∷ (z ∷ zs)) - 1 ≡ suc (length (z ∷ zs) - 1) = omega arith in
    rw e (ap (λ l. y ∷ l) (last-part (z ∷ zs) x (omega arith) (rw e at is)))

pub cut-on : (r : ℕ) (ls : List ℕ) (x : ℕ) → 0 < length ls → x ≡ slice_index_or ls (length ls - 1) x → r < x → cut r (take (length ls - 1) ls) ≡ cut r ls
cut-on r ls x there is lt = sym (ap (cut r) (last-part ls x there is) ∙ above-last r (take (length ls - 1) ls) x lt)

pub cut-end : (r : ℕ) (ls : List ℕ) (x : ℕ) → 0 < length ls → x ≡ slice_index_or ls (length ls - 1) x → x ≤ r → ls ≡ cut r ls
cut-end r ls x there is le = let whole = last-part ls x there is in whole ∙ sym (below-last r (take (length ls - 1) ls) x le) ∙ ap (cut r) (sym whole)

-- ---- what is answered

none-equal : (n : ℕ) (ms : List Message) → AreAbove n ms → filter (λ s. not (n == s.number)) ms ≡ ms
none-equal n [] are = refl
none-equal n (m ∷ ms) are =
    let other : (n == m.number) ≡ false = above n m.number are.0 in
    rw other (ap (λ l. m ∷ l) (none-equal n ms are.1))
  where
    above : (a b : ℕ) → a < b → (a == b) ≡ false
    above a b lt = grind arith

pub first-answered : (n : ℕ) (ms : List Message) → StartsWith n ms → AreRising ms → drop 1 ms ≡ unanswered_at (Some n) ms
first-answered n [] starts are = absurd starts
first-answered n (m ∷ ms) starts are =
    let same : (n == m.number) ≡ true = own n m.number starts in
    rw same (sym (none-equal n ms (rw starts at are.0)))
  where
    own : (a b : ℕ) → b ≡ a → (a == b) ≡ true
    own a b h = grind arith

-- ---- how many they are

first-short : (r : ℕ) (ls : List ℕ) → length (with_first r ls) ≤ suc (length ls)
first-short r [] = omega arith
first-short r (l ∷ ls) = by (nat_le r l)
  where
    by : (b : Bool) → length (if b then r ∷ l ∷ ls else l ∷ ls) ≤ suc (length (l ∷ ls))
    by true = omega arith
    by false = omega arith

pub short : (ms : List Message) → length (lows ms) ≤ length ms
short [] = omega arith
short (m ∷ ms) = let rest = short ms in omega (arith, rest, first-short (reference_of m) (lows ms))

pub few : (ms : List Message) (l : Lows) → IsOf ms l → length l.list.items ≤ length ms
few ms l of = rw of.lows (short ms)

-- ---- read one after another

pub take-at : {A : Type 0} (i : ℕ) (xs : List A) (x : A) → i < length xs → x ≡ slice_index_or xs i x → take (i + 1) xs ≡ take i xs ++ x ∷ []
take-at i [] x lt is = absurd (omega (arith, lt))
take-at zero (y ∷ xs) x lt is = ap (λ z. z ∷ []) (sym is)
take-at (suc i) (y ∷ xs) x lt is =
    let e : suc i + 1 ≡ suc (i + 1) = omega arith in
    rw e (ap (λ l. y ∷ l) (take-at i xs x (omega (arith, lt)) is))
