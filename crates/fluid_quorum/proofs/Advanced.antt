-- A quorum behind noop messages.
use Rattle.std.proofs.Common.{◌≡◌, ℕ, zero, suc, ◌+◌, ◌-◌, ◌<◌, ◌≤◌, arith, Bool, true, false, cond, not, nat_lt, nat_le, ◌&&◌, List, [], ◌∷◌, ◌++◌, take, drop, length, length-append, filter, fold, refl, sym, ap, ap₂, subst, ◌∙◌, append_assoc, append-nil}
use Rattle.std.proofs.lemmas.Bool.{le-leb, lt-ltb}
use Rattle.std.proofs.lemmas.List.Elements.{filter-append}
use Rattle.std.proofs.lemmas.List.Sums.{fold-append}
use Rattle.std.proofs.lemmas.List.{take-append-drop}
use Rattle.fluid_types.specs.declared.messages.Message.{Message}
use Rattle.fluid_types.specs.declared.quorum.Proposal.{Proposal}
use Rattle.fluid_types.specs.Quorum.{Quorum, member_of, left_by, proposal_of}
use Rattle.fluid_types.specs.Order.{AreNumberedFrom}
use Rattle.fluid_types.proofs.Numbers.{numbered_same}
use Rattle.fluid_quorum.specs.Order.{StandsFor}
use Rattle.fluid_quorum.specs.After.{after, is_due, with_accepted}
use Rattle.fluid_quorum.specs.Noops.{noop, noops, noops_to, advanced}
use Rattle.fluid_quorum.proofs.Taken.{stands-after, counted}

-- ---- a noop

abbrev Behind : Quorum → ℕ → ℕ → Quorum
Behind q number minimum = record {
  number = number;
  minimum = minimum;
  members = q.members;
  pending = filter (λ p. not (is_due minimum p)) q.pending;
  values = fold (with_accepted number) q.values (filter (is_due minimum) q.pending);
}

pub after-noop : (q : Quorum) (number minimum : ℕ) → after q (noop number minimum) ≡ Behind q number minimum
unfolding after member_of left_by proposal_of
after-noop q number minimum = rw (append-nil q.pending) refl

-- none of the pending proposals is due
pub record IsSettled (q : Quorum) : Type 0 where
  pub none : filter (is_due q.minimum) q.pending ≡ []
  pub rest : filter (λ p. not (is_due q.minimum p)) q.pending ≡ q.pending

pub none_left : {X : Type 0} (p : X → Bool) (xs : List X) → (filter p (filter (λ x. not (p x)) xs) ≡ []) × (filter (λ x. not (p x)) (filter (λ x. not (p x)) xs) ≡ filter (λ x. not (p x)) xs)
none_left p [] = (refl, refl)
none_left p (x ∷ xs) = by (p x) refl (none_left p xs)
  where
    by : (b : Bool) → p x ≡ b → (filter p (filter (λ x. not (p x)) xs) ≡ []) × (filter (λ x. not (p x)) (filter (λ x. not (p x)) xs) ≡ filter (λ x. not (p x)) xs) →
        (filter p (filter (λ x. not (p x)) (x ∷ xs)) ≡ []) × (filter (λ x. not (p x)) (filter (λ x. not (p x)) (x ∷ xs)) ≡ filter (λ x. not (p x)) (x ∷ xs))
    by true is rest = rw is rest
    by false is rest = (rw (is, is) rest.0, rw (is, is) (ap (λ l. x ∷ l) rest.1))

behind-settled : (q : Quorum) (number minimum : ℕ) → IsSettled (Behind q number minimum)
behind-settled q number minimum = let left = none_left (is_due minimum) q.pending in record { none = left.0; rest = left.1 }

pub idle : (q : Quorum) (number : ℕ) → IsSettled q → after q (noop number q.minimum) ≡ record q { number = number }
idle q number settled =
    after-noop q number q.minimum
    ∙ ap₂ (λ (ps : List Proposal) (due : List Proposal). record q { number = number; pending = ps; values = fold (with_accepted number) q.values due }) settled.rest settled.none

pub same_after : (q : Quorum) (n : ℕ) (m : Message) → after (record q { number = n }) m ≡ after q m
unfolding after
same_after q n m = refl

-- noops with the present minimum change the number alone
pub idle-run : (count first number minimum : ℕ) (q : Quorum) → IsSettled q →
    fold after q (noops count first q.minimum ++ noop number minimum ∷ []) ≡ after q (noop number minimum)
idle-run zero first number minimum q settled = refl
idle-run (suc count) first number minimum q settled =
    ap (λ p. fold after p (noops count (suc first) q.minimum ++ noop number minimum ∷ [])) (idle q first settled)
    ∙ idle-run count (suc first) number minimum (record q { number = first }) (record { none = settled.none; rest = settled.rest })
    ∙ same_after q first (noop number minimum)

-- ---- proposals that are due at two minima

due_up : (low high : ℕ) (p : Proposal) → low ≤ high → is_due low p ≡ true → is_due high p ≡ true
due_up low high p le h = grind arith

low_first : (low high : ℕ) (ps : List Proposal) → low ≤ high → filter (is_due high) (filter (is_due low) ps) ≡ filter (is_due low) ps
low_first low high [] le = refl
low_first low high (p ∷ ps) le = by (is_due low p) refl (low_first low high ps le)
  where
    by : (b : Bool) → is_due low p ≡ b → filter (is_due high) (filter (is_due low) ps) ≡ filter (is_due low) ps →
        filter (is_due high) (filter (is_due low) (p ∷ ps)) ≡ filter (is_due low) (p ∷ ps)
    by true is rest = rw (is, due_up low high p le is) (ap (λ l. p ∷ l) rest)
    by false is rest = rw is rest

high_left : (low high : ℕ) (ps : List Proposal) → low ≤ high →
    filter (λ p. not (is_due high p)) (filter (λ p. not (is_due low p)) ps) ≡ filter (λ p. not (is_due high p)) ps
high_left low high [] le = refl
high_left low high (p ∷ ps) le = by (is_due low p) refl (high_left low high ps le)
  where
    by : (b : Bool) → is_due low p ≡ b → filter (λ p. not (is_due high p)) (filter (λ p. not (is_due low p)) ps) ≡ filter (λ p. not (is_due high p)) ps →
        filter (λ p. not (is_due high p)) (filter (λ p. not (is_due low p)) (p ∷ ps)) ≡ filter (λ p. not (is_due high p)) (p ∷ ps)
    by true is rest = rw (is, due_up low high p le is) rest
    by false is rest = rw is (ap (λ l. cond (not (is_due high p)) (p ∷ l) l) rest)

-- those that are due at the lower one stand first
pub record IsParted (minimum k : ℕ) (ps : List Proposal) : Type 0 where
  pub due : take k ps ≡ filter (is_due minimum) ps
  pub rest : drop k ps ≡ filter (λ p. not (is_due minimum p)) ps

high_parted : (low high k : ℕ) (ps : List Proposal) → low ≤ high → IsParted low k ps →
    filter (is_due high) ps ≡ filter (is_due low) ps ++ filter (is_due high) (filter (λ p. not (is_due low p)) ps)
high_parted low high k ps le parted =
    ap (filter (is_due high)) (sym (take-append-drop k ps) ∙ ap₂ (λ a b. a ++ b) parted.due parted.rest)
    ∙ filter-append (is_due high) (filter (is_due low) ps) (filter (λ p. not (is_due low p)) ps)
    ∙ ap (λ l. l ++ filter (is_due high) (filter (λ p. not (is_due low p)) ps)) (low_first low high ps le)

pub no_more : (low high k j : ℕ) (ps : List Proposal) → low ≤ high → k ≤ length ps → IsParted low k ps → j ≤ length ps → take j ps ≡ filter (is_due high) ps → k ≤ j
no_more low high k j ps le k_le parted j_le j_is =
    omega (
      arith,
      counted (is_due low) ps k k_le parted.due,
      counted (is_due high) ps j j_le j_is,
      ap length (high_parted low high k ps le parted),
      length-append (filter (is_due low) ps) (filter (is_due high) (filter (λ p. not (is_due low p)) ps)),
    )

-- ---- to a later number

abbrev Both : Quorum → ℕ → ℕ → Quorum
Both q number minimum = Behind (Behind q (q.number + 1) q.minimum) number minimum

to_next : (q : Quorum) (number minimum k : ℕ) → number ≡ q.number + 1 → q.minimum ≤ minimum → IsParted q.minimum k q.pending →
    Behind q number minimum ≡ Both q number minimum
to_next q number minimum k is le parted =
    ap₂ (λ (left : List Proposal) values. record q { number = number; minimum = minimum; pending = left; values = values })
    (sym (high_left q.minimum minimum q.pending le))
    (ap (fold (with_accepted number) q.values) (high_parted q.minimum minimum k q.pending le parted)
    ∙ fold-append (with_accepted number) q.values (filter (is_due q.minimum) q.pending) (filter (is_due minimum) (filter (λ p. not (is_due q.minimum p)) q.pending))
    ∙ ap (λ n. fold (with_accepted number) (fold (with_accepted n) q.values (filter (is_due q.minimum) q.pending)) (filter (is_due minimum) (filter (λ p. not (is_due q.minimum p)) q.pending))) is)

by_count : (q : Quorum) (number minimum k count : ℕ) → number ≡ q.number + 1 + count → q.minimum ≤ minimum → IsParted q.minimum k q.pending →
    fold after q (noops count (q.number + 1) q.minimum ++ noop number minimum ∷ []) ≡ Both q number minimum
by_count q number minimum k zero is le parted = after-noop q number minimum ∙ to_next q number minimum k (omega (arith, is)) le parted
by_count q number minimum k (suc count) is le parted =
    ap (λ p. fold after p (noops count (suc (q.number + 1)) q.minimum ++ noop number minimum ∷ [])) (after-noop q (q.number + 1) q.minimum)
    ∙ idle-run count (suc (q.number + 1)) number minimum (Behind q (q.number + 1) q.minimum) (behind-settled q (q.number + 1) q.minimum)
    ∙ after-noop (Behind q (q.number + 1) q.minimum) number minimum

pub are_noops : (q : Quorum) (number minimum : ℕ) → q.number < number → q.minimum ≤ minimum →
    noops_to q number minimum ≡ noops (number - q.number - 1) (q.number + 1) q.minimum ++ noop number minimum ∷ []
unfolding noops_to
are_noops q number minimum lt le = rw (lt-ltb q.number number lt, le-leb q.minimum minimum le) refl

pub advanced-is : (q : Quorum) (number minimum k : ℕ) → q.number < number → q.minimum ≤ minimum → IsParted q.minimum k q.pending →
    advanced q number minimum ≡ Both q number minimum
unfolding advanced
advanced-is q number minimum k lt le parted =
    ap (fold after q) (are_noops q number minimum lt le) ∙ by_count q number minimum k (number - q.number - 1) (omega (arith, lt)) le parted

-- not to one that isn't later, nor with a lower minimum
no_noops : (q : Quorum) (number minimum : ℕ) → nat_lt q.number number && nat_le q.minimum minimum ≡ false → noops_to q number minimum ≡ []
unfolding noops_to
no_noops q number minimum none = rw none refl

not_later : (a b : ℕ) (c : Bool) → b ≤ a → nat_lt a b && c ≡ false
not_later a b c le = grind arith

not_lower : (a b : ℕ) (c : Bool) → b < a → c && nat_le a b ≡ false
not_lower a b true lt = grind arith
not_lower a b false lt = refl

-- the quorum then stays, and there is no noop
pub record Stays (q : Quorum) (number minimum : ℕ) : Type 0 where
  pub none : noops_to q number minimum ≡ []
  pub same : advanced q number minimum ≡ q

stays : (q : Quorum) (number minimum : ℕ) → nat_lt q.number number && nat_le q.minimum minimum ≡ false → Stays q number minimum
unfolding advanced
stays q number minimum none = record { none = no_noops q number minimum none; same = ap (fold after q) (no_noops q number minimum none) }

pub stays-later : (q : Quorum) (number minimum : ℕ) → number ≤ q.number → Stays q number minimum
stays-later q number minimum le = stays q number minimum (not_later q.number number (nat_le q.minimum minimum) le)

pub stays-lower : (q : Quorum) (number minimum : ℕ) → minimum < q.minimum → Stays q number minimum
stays-lower q number minimum lt = stays q number minimum (not_lower q.minimum minimum (nat_lt q.number number) lt)

pub stands-same : (ms : List Message) (q : Quorum) (number minimum : ℕ) → Stays q number minimum → StandsFor ms q → StandsFor (ms ++ noops_to q number minimum) q
stands-same ms q number minimum same stands = subst (λ l. StandsFor l q) (sym (ap (λ xs. ms ++ xs) same.none ∙ append-nil ms)) stands

-- ---- along an order

pub after-number : (q : Quorum) (m : Message) → (after q m).number ≡ m.number
unfolding after
after-number q m = refl

pub stands-all : (xs ms : List Message) (q : Quorum) → AreNumberedFrom (q.number + 1) xs → StandsFor ms q → StandsFor (ms ++ xs) (fold after q xs)
stands-all [] ms q numbered stands = subst (λ l. StandsFor l q) (sym (append-nil ms)) stands
stands-all (x ∷ xs) ms q numbered stands =
    subst (λ l. StandsFor l (fold after (after q x) xs)) (append_assoc ms (x ∷ []) xs)
    (stands-all xs (ms ++ x ∷ []) (after q x) (numbered_same xs _ _ (omega (arith, after-number q x, numbered.0)) numbered.1) (stands-after ms q x numbered.0 stands))

noops-numbered : (count first minimum number last : ℕ) → number ≡ first + count → AreNumberedFrom first (noops count first minimum ++ noop number last ∷ [])
noops-numbered zero first minimum number last is = (omega (arith, is), tt)
noops-numbered (suc count) first minimum number last is = (refl, noops-numbered count (suc first) minimum number last (omega (arith, is)))

noops_to-numbered : (q : Quorum) (number minimum : ℕ) (b : Bool) → nat_lt q.number number && nat_le q.minimum minimum ≡ b → AreNumberedFrom (q.number + 1) (noops_to q number minimum)
unfolding noops_to
noops_to-numbered q number minimum false is = rw is tt
noops_to-numbered q number minimum true is = rw is (noops-numbered (number - q.number - 1) (q.number + 1) q.minimum number minimum (later _ _ _ is))
  where
    later : (b : Bool) (n k : ℕ) → nat_lt n k && b ≡ true → k ≡ n + 1 + (k - n - 1)
    later b n k h = grind arith

pub advanced-stands : (ms : List Message) (q : Quorum) (number minimum : ℕ) → StandsFor ms q → StandsFor (ms ++ noops_to q number minimum) (advanced q number minimum)
unfolding advanced
advanced-stands ms q number minimum stands = stands-all (noops_to q number minimum) ms q (noops_to-numbered q number minimum _ refl) stands

-- it has the number
last-number : (xs : List Message) (q : Quorum) (m : Message) → (fold after q (xs ++ m ∷ [])).number ≡ m.number
last-number [] q m = after-number q m
last-number (x ∷ xs) q m = last-number xs (after q x) m

pub advanced-at : (q : Quorum) (number minimum : ℕ) → q.number < number → q.minimum ≤ minimum → (advanced q number minimum).number ≡ number
unfolding advanced
advanced-at q number minimum lt le =
    ap (λ (p : Quorum). p.number) (ap (fold after q) (are_noops q number minimum lt le))
    ∙ last-number (noops (number - q.number - 1) (q.number + 1) q.minimum) q (noop number minimum)
