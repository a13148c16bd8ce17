-- Quorums behind a base.
use Rattle.std.proofs.Common.{◌≡◌, ℕ, zero, suc, ◌+◌, ◌-◌, ◌<◌, ◌≤◌, arith, Bool, true, false, cond, ◌==◌, nat_lt, nat_le, if◌then◌else◌, List, [], ◌∷◌, ◌++◌, length, take, drop, fold, refl, sym, ap, ap₂, ◌∙◌}
use Rattle.std.proofs.lemmas.Bool.{le-leb}
use Rattle.fluid_types.specs.declared.messages.Kind.{Kind}
use Rattle.fluid_types.specs.declared.messages.Kind.TheVariants.{Op, Noop, Propose, Reject, Summarize, Join, Leave, SummaryAck, SummaryNack}
use Rattle.fluid_types.specs.declared.messages.Message.{Message}
use Rattle.fluid_types.specs.Quorum.{Quorum, member_of, left_by, proposal_of}
use Rattle.fluid_quorum.specs.After.{after, is_due}
use Rattle.fluid_quorum.specs.Noops.{noop, advanced}
use Rattle.fluid_quorum.proofs.Advanced.{IsSettled, idle-run, are_noops, stays-later, none_left, idle, same_after, after-number}
use Rattle.fluid_scribe.specs.Waiting.{AreAbove}
use Rattle.fluid_scribe.specs.State.{is_heard, heard, Minima, changes, Reached, risen, reached, with_next, brought}
use Rattle.fluid_scribe.proofs.Sequenced.{IsNext, AreSequenced, sequenced-same}

if_both : {A : Type 0} (test : Bool) {a b c d : A} → a ≡ c → b ≡ d → (if test then a else b) ≡ (if test then c else d)
if_both true one other = one
if_both false one other = other

-- ---- a settled quorum

pub after-settled : (q : Quorum) (m : Message) → IsSettled (after q m)
unfolding after
after-settled q m = let left = none_left (is_due m.minimum) _ in record { none = left.0; rest = left.1 }

pub after-minimum : (q : Quorum) (m : Message) → (after q m).minimum ≡ m.minimum
unfolding after
after-minimum q m = refl

-- it is advanced as by one noop
pub advanced-once : (q : Quorum) (number minimum : ℕ) → IsSettled q → q.number < number → q.minimum ≤ minimum → advanced q number minimum ≡ after q (noop number minimum)
unfolding advanced
advanced-once q number minimum settled lt le =
    ap (fold after q) (are_noops q number minimum lt le) ∙ idle-run (number - q.number - 1) (q.number + 1) number minimum q settled

-- a message that a quorum doesn't hear is to it as a noop
by_kind : (kind : Kind) (q : Quorum) (m : Message) → m.kind ≡ kind → is_heard kind ≡ false → after q m ≡ after q (noop m.number m.minimum)
unfolding after member_of left_by proposal_of
by_kind Op q m is h = rw is refl
by_kind Noop q m is h = rw is refl
by_kind Propose q m is h = absurd (cc)
by_kind Reject q m is h = rw is refl
by_kind Summarize q m is h = rw is refl
by_kind Join q m is h = absurd (cc)
by_kind Leave q m is h = absurd (cc)
by_kind SummaryAck q m is h = rw is refl
by_kind SummaryNack q m is h = rw is refl

pub unheard : (q : Quorum) (m : Message) → is_heard m.kind ≡ false → after q m ≡ after q (noop m.number m.minimum)
unheard q m h = by_kind m.kind q m refl h

-- ---- what is kept lies behind

-- and the minimum doesn't fall
abbrev pub AreRisen : ℕ → ℕ → Minima → Type 0
AreRisen n low [] = Unit {0}
AreRisen n low (c ∷ cs) = (n < c.0) × ((low ≤ c.1) × AreRisen n low cs)

above-less : (n k : ℕ) (ms : List Message) → n ≤ k → AreAbove k ms → AreAbove n ms
above-less n k [] le are = tt
above-less n k (m ∷ ms) le are = (omega (arith, le, are.0), above-less n k ms le are.1)

risen-less : (n k low high : ℕ) (cs : Minima) → n ≤ k → low ≤ high → AreRisen k high cs → AreRisen n low cs
risen-less n k low high [] le up are = tt
risen-less n k low high (c ∷ cs) le up are = (omega (arith, le, are.0), (omega (arith, up, are.1.0), risen-less n k low high cs le up are.1.1))

heard_if : (b : Bool) (n : ℕ) (m : Message) (ms : List Message) → n < m.number → AreAbove n ms → AreAbove n (cond b (m ∷ ms) ms)
heard_if true n m ms lt are = (lt, are)
heard_if false n m ms lt are = are

pub heard-above : (ms : List Message) (n low : ℕ) → AreSequenced n low ms → AreAbove n (heard ms)
heard-above [] n low are = tt
heard-above (m ∷ ms) n low are =
    heard_if (is_heard m.kind) n m (heard ms) (omega (arith, are.0.number)) (above-less n (suc n) (heard ms) (omega arith) (heard-above ms (suc n) m.minimum are.1))

changed_if : (b : Bool) (n low : ℕ) (c : ℕ × ℕ) (cs : Minima) → n < c.0 → low ≤ c.1 → AreRisen n low cs → AreRisen n low ((if b then [] else c ∷ []) ++ cs)
changed_if true n low c cs lt le are = are
changed_if false n low c cs lt le are = (lt, (le, are))

pub changes-risen : (ms : List Message) (n low : ℕ) → AreSequenced n low ms → AreRisen n low (changes low ms)
changes-risen [] n low are = tt
changes-risen (m ∷ ms) n low are =
    changed_if (m.minimum == low) n low (m.number, m.minimum) (changes m.minimum ms) (omega (arith, are.0.number)) are.0.risen
    (risen-less n (suc n) low m.minimum (changes m.minimum ms) (omega arith) are.0.risen (changes-risen ms (suc n) m.minimum are.1))

-- ---- what isn't reached stays

not_le : (a b : ℕ) → b < a → nat_le a b ≡ false
not_le a b lt = grind arith

pub risen-none : (number low : ℕ) (q : Quorum) (cs : Minima) → AreRisen number low cs → risen number q cs ≡ record { quorum = q; minima = cs }
risen-none number low q [] are = refl
risen-none number low q (c ∷ cs) are = rw (not_le c.0 number are.0) refl

reached-none : (number low : ℕ) (q : Quorum) (cs : Minima) → number ≤ q.number → AreRisen number low cs → reached number q cs ≡ record { quorum = q; minima = cs }
reached-none number low q cs le are =
    ap (λ (r : Reached). record { quorum = advanced r.quorum number r.quorum.minimum; minima = r.minima }) (risen-none number low q cs are)
    ∙ ap (λ p. record { quorum = p; minima = cs }) (stays-later q number q.minimum le).same

brought-none : (number low : ℕ) (q : Quorum) (ms : List Message) (cs : Minima) → number ≤ q.number → AreAbove number ms → AreRisen number low cs →
    brought number q ms cs ≡ record { quorum = q; behind = ms; minima = cs }
brought-none number low q [] cs le above are =
    ap (λ (r : Reached). record { quorum = r.quorum; behind = []; minima = r.minima }) (reached-none number low q cs le are)
brought-none number low q (m ∷ ms) cs le above are =
    rw (not_le m.number number above.0) (ap (λ (r : Reached). record { quorum = r.quorum; behind = m ∷ ms; minima = r.minima }) (reached-none number low q cs le are))

-- ---- a first change of the minimum

-- that is reached: it is taken in first
first-reached : (number : ℕ) (q : Quorum) (c : ℕ × ℕ) (cs : Minima) → c.0 ≤ number → reached number q (c ∷ cs) ≡ reached number (advanced q c.0 c.1) cs
first-reached number q c cs le = rw (le-leb c.0 number le) refl

first-brought : (number : ℕ) (q : Quorum) (ms : List Message) (c : ℕ × ℕ) (cs : Minima) → c.0 ≤ number → AreAbove c.0 ms →
    brought number q ms (c ∷ cs) ≡ brought number (advanced q c.0 c.1) ms cs
first-brought number q [] c cs le above =
    ap (λ (r : Reached). record { quorum = r.quorum; behind = []; minima = r.minima }) (first-reached number q c cs le)
first-brought number q (m ∷ ms) c cs le above =
    if_both (nat_le m.number number)
    (ap (λ (r : Reached). brought number (with_next r.quorum m) ms r.minima) (first-reached (m.number - 1) q c cs (omega (arith, above.0))))
    (ap (λ (r : Reached). record { quorum = r.quorum; behind = m ∷ ms; minima = r.minima }) (first-reached number q c cs le))

-- ---- a message that changes nothing

-- one number later, with nothing between
module _ (q : Quorum) (settled : IsSettled q) where
  abbrev later : Quorum
  later = record q { number = q.number + 1 }

  later-advanced : (number minimum : ℕ) → q.number + 1 < number → q.minimum ≤ minimum → advanced q number minimum ≡ advanced later number minimum
  later-advanced number minimum lt le =
      advanced-once q number minimum settled (omega (arith, lt)) le
      ∙ sym (same_after q (q.number + 1) (noop number minimum))
      ∙ sym (advanced-once later number minimum (record { none = settled.none; rest = settled.rest }) lt le)

  later-same : (number : ℕ) (b : Bool) → nat_lt (q.number + 1) number ≡ b → q.number < number → advanced q number q.minimum ≡ advanced later number q.minimum
  later-same number true is lt = later-advanced number q.minimum (less _ _ is) (omega arith)
    where
      less : (a b : ℕ) → nat_lt a b ≡ true → a < b
      less a b h = grind arith
  later-same number false is lt =
      advanced-once q number q.minimum settled lt (omega arith)
      ∙ idle q number settled
      ∙ ap (λ n. record q { number = n }) (same _ _ is lt)
      ∙ sym (stays-later later number q.minimum (within _ _ is)).same
    where
      same : (a b : ℕ) → nat_lt (a + 1) b ≡ false → a < b → b ≡ a + 1
      same a b h lt = grind arith

      within : (a b : ℕ) → nat_lt (a + 1) b ≡ false → b ≤ a + 1
      within a b h = grind arith

  later-reached : (number : ℕ) (cs : Minima) → q.number < number → AreRisen (q.number + 1) q.minimum cs → reached number q cs ≡ reached number later cs
  later-reached number [] lt are = ap (λ p. record { quorum = p; minima = [] }) (later-same number _ refl lt)
  later-reached number (c ∷ cs) lt are = by (nat_le c.0 number) refl
    where
      within : nat_le c.0 number ≡ true → c.0 ≤ number
      within h = grind arith

      by : (b : Bool) → nat_le c.0 number ≡ b → reached number q (c ∷ cs) ≡ reached number later (c ∷ cs)
      by true is =
          first-reached number q c cs (within is) ∙ ap (λ p. reached number p cs) (later-advanced c.0 c.1 are.0 are.1.0)
          ∙ sym (first-reached number later c cs (within is))
      by false is = rw is (ap (λ p. record { quorum = p; minima = c ∷ cs }) (later-same number _ refl lt))

  later-brought : (number : ℕ) (ms : List Message) (cs : Minima) → q.number < number → AreAbove (q.number + 1) ms → AreRisen (q.number + 1) q.minimum cs →
      brought number q ms cs ≡ brought number later ms cs
  later-brought number [] cs lt above are = ap (λ (r : Reached). record { quorum = r.quorum; behind = []; minima = r.minima }) (later-reached number cs lt are)
  later-brought number (m ∷ ms) cs lt above are =
      if_both (nat_le m.number number)
      (ap (λ (r : Reached). brought number (with_next r.quorum m) ms r.minima) (later-reached (m.number - 1) cs (omega (arith, above.0)) are))
      (ap (λ (r : Reached). record { quorum = r.quorum; behind = m ∷ ms; minima = r.minima }) (later-reached number cs lt are))

-- ---- along an order

next-is : (q : Quorum) (m : Message) → m.number ≡ q.number + 1 → with_next q m ≡ after q m
unfolding with_next
next-is q m is = rw (same m.number (q.number + 1) is) refl
  where
    same : (a b : ℕ) → a ≡ b → (a == b) ≡ true
    same a b h = grind arith

module _ (q : Quorum) (settled : IsSettled q) (number : ℕ) (x : Message) (xs : List Message) (lt : q.number < number) (next : IsNext q.number q.minimum x)
    (are : AreSequenced (suc q.number) x.minimum xs) where
  abbrev rest : Minima
  rest = changes x.minimum xs

  rest-above : AreAbove x.number (heard xs)
  rest-above = above-less x.number (suc q.number) (heard xs) (omega (arith, next.number)) (heard-above xs (suc q.number) x.minimum are)

  rest-risen : (n low : ℕ) → n ≤ q.number + 1 → low ≤ x.minimum → AreRisen n low rest
  rest-risen n low le up = risen-less n (suc q.number) low x.minimum rest (omega (arith, le)) up (changes-risen xs (suc q.number) x.minimum are)

  -- a message that is heard
  heard-step : (cs : Minima) → AreRisen (x.number - 1) q.minimum cs → brought number q (x ∷ heard xs) cs ≡ brought number (after q x) (heard xs) cs
  heard-step cs risen_cs =
      rw (le-leb x.number number (omega (arith, next.number, lt)))
      (ap (λ (r : Reached). brought number (with_next r.quorum x) (heard xs) r.minima) (reached-none (x.number - 1) q.minimum q cs (omega (arith, next.number)) risen_cs)
      ∙ ap (λ p. brought number p (heard xs) cs) (next-is q x next.number))

  -- with its own change of the minimum
  own-change : brought number (after q x) (heard xs) ((x.number, x.minimum) ∷ rest) ≡ brought number (after q x) (heard xs) rest
  own-change =
      first-brought number (after q x) (heard xs) (x.number, x.minimum) rest (omega (arith, next.number, lt)) rest-above
      ∙ ap (λ p. brought number p (heard xs) rest) (stays-later (after q x) x.number x.minimum (omega (arith, after-number q x))).same

  step : (listens same : Bool) → is_heard x.kind ≡ listens → (x.minimum == q.minimum) ≡ same →
      brought number q (cond listens (x ∷ heard xs) (heard xs)) ((if same then [] else (x.number, x.minimum) ∷ []) ++ rest) ≡ brought number (after q x) (heard xs) rest
  step true true is same_is = heard-step rest (rest-risen (x.number - 1) q.minimum (omega (arith, next.number)) next.risen)
  step true false is same_is =
      heard-step ((x.number, x.minimum) ∷ rest) (omega (arith, next.number), (next.risen, rest-risen (x.number - 1) q.minimum (omega (arith, next.number)) next.risen)) ∙ own-change
  step false true is same_is =
      later-brought q settled number (heard xs) rest lt (above-less (q.number + 1) (suc q.number) (heard xs) (omega arith) (heard-above xs (suc q.number) x.minimum are))
      (rest-risen (q.number + 1) q.minimum (omega arith) next.risen)
      ∙ ap (λ p. brought number p (heard xs) rest) (sym (unheard q x is ∙ ap₂ (λ n v. after q (noop n v)) next.number (equal x.minimum q.minimum same_is) ∙ idle q (q.number + 1) settled))
    where
      equal : (a b : ℕ) → (a == b) ≡ true → a ≡ b
      equal a b h = grind arith
  step false false is same_is =
      first-brought number q (heard xs) (x.number, x.minimum) rest (omega (arith, next.number, lt)) rest-above
      ∙ ap (λ p. brought number p (heard xs) rest) (advanced-once q x.number x.minimum settled (omega (arith, next.number)) next.risen ∙ sym (unheard q x is))

-- from a settled quorum on, what is kept of the messages behind it gives the quorums behind them
pub brought-along : (k : ℕ) (ms : List Message) (q : Quorum) (number : ℕ) → number ≡ q.number + k → IsSettled q → AreSequenced q.number q.minimum ms → k ≤ length ms →
    brought number q (heard ms) (changes q.minimum ms)
    ≡ record { quorum = fold after q (take k ms); behind = heard (drop k ms); minima = changes (fold after q (take k ms)).minimum (drop k ms) }
brought-along zero ms q number is settled are le =
    brought-none number q.minimum q (heard ms) (changes q.minimum ms) (omega (arith, is)) (above-less number q.number (heard ms) (omega (arith, is)) (heard-above ms q.number q.minimum are))
    (risen-less number q.number q.minimum q.minimum (changes q.minimum ms) (omega (arith, is)) (omega arith) (changes-risen ms q.number q.minimum are))
brought-along (suc k) [] q number is settled are le = absurd (omega (arith, le))
brought-along (suc k) (x ∷ xs) q number is settled are le =
    step q settled number x xs (omega (arith, is)) are.0 are.1 (is_heard x.kind) (x.minimum == q.minimum) refl refl
    ∙ ap (λ low. brought number (after q x) (heard xs) (changes low xs)) (sym (after-minimum q x))
    ∙ brought-along k xs (after q x) number (omega (arith, is, after-number q x, are.0.number)) (after-settled q x)
    (sequenced-same xs (suc q.number) (after q x).number x.minimum (after q x).minimum (omega (arith, after-number q x, are.0.number)) (sym (after-minimum q x)) are.1)
    (omega (arith, le))
