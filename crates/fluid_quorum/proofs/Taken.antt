-- What a quorum keeps, behind one more message.
use Rattle.std.proofs.Common.{◌≡◌, ℕ, zero, suc, ◌+◌, ◌<◌, ◌≤◌, arith, Bool, true, false, cond, not, List, [], ◌∷◌, ◌++◌, length, take, filter, fold, Option, Some, None, refl, sym, ap, subst, ◌∙◌, append-nil}
use Rattle.std.specs.Prelude.{option_to_list}
use Rattle.std.specs.FinMap.{empty}
use Rattle.std.proofs.lemmas.List.{length-take-le, length-append}
use Rattle.std.proofs.lemmas.List.Elements.{All-append, All-filter, filter-append}
use Rattle.std.proofs.lemmas.List.Kept.{AllPairs-filter}
use Rattle.std.proofs.lemmas.List.Quantifiers.{all_pairs_push}
use Rattle.fluid_types.specs.declared.messages.Message.{Message}
use Rattle.fluid_types.specs.declared.quorum.Member.{Member}
use Rattle.fluid_types.specs.declared.quorum.Proposal.{Proposal}
use Rattle.fluid_types.specs.declared.quorum.Accepted.{Accepted}
use Rattle.fluid_types.specs.Quorum.{Table, Quorum, quorum_of, members, pending, proposals, values, standing, latest, member_of, left_by, proposal_of}
use Rattle.fluid_types.proofs.Numbers.{numbered_more, last_number}
use Rattle.fluid_quorum.specs.Order.{StandsFor}
use Rattle.fluid_quorum.specs.After.{without, with_member, with_accepted, is_due, waiting, after}
use Rattle.fluid_quorum.specs.Lists.{AreRising, AreUpTo}
use Rattle.fluid_quorum.proofs.Approvals.{numbered}
use Rattle.fluid_quorum.proofs.Pushed.{goes_on}

-- ---- the pending proposals

module _ (ps : List Proposal) (last : ℕ) (m : Message) (next : m.number ≡ last + 1) (rising : AreRising ps) (bounded : AreUpTo last ps) where
  with_rising : (o : Option Proposal) → proposal_of m ≡ o → AreRising (ps ++ option_to_list o)
  with_rising None is = subst AreRising (sym (append-nil ps)) rising
  with_rising (Some p) is = all_pairs_push (λ a b. a.number < b.number) ps p rising (λ k d lt. omega (arith, bounded k d lt, numbered m p is, next))

  one_bounded : (o : Option Proposal) → proposal_of m ≡ o → AreUpTo m.number (option_to_list o)
  one_bounded None is = λ k d lt. absurd (omega arith)
  one_bounded (Some p) is = λ k d lt. first k d lt
    where
      first : AreUpTo m.number (p ∷ [])
      first zero d lt = omega (arith, numbered m p is)
      first (suc k) d lt = absurd (omega arith)

  pub waiting-rising : AreRising (ps ++ option_to_list (proposal_of m))
  waiting-rising = with_rising (proposal_of m) refl

  pub waiting-bounded : AreUpTo m.number (ps ++ option_to_list (proposal_of m))
  waiting-bounded =
      All-append (λ p. p.number ≤ m.number) ps (option_to_list (proposal_of m)) (λ k d lt. omega (arith, bounded k d lt, next)) (one_bounded (proposal_of m) refl)

pub left-rising : (p : Proposal → Bool) (ps : List Proposal) → AreRising ps → AreRising (filter p ps)
left-rising p ps h = AllPairs-filter (λ a b. a.number < b.number) p ps h

pub left-bounded : (p : Proposal → Bool) (last : ℕ) (ps : List Proposal) → AreUpTo last ps → AreUpTo last (filter p ps)
left-bounded p last ps h = All-filter p (λ q. q.number ≤ last) ps h

-- ---- how many are due

pub counted : (p : Proposal → Bool) (ps : List Proposal) (k : ℕ) → k ≤ length ps → take k ps ≡ filter p ps → k ≡ length (filter p ps)
counted p ps k le is = sym (length-take-le k ps le) ∙ ap length is

few : (p : Proposal → Bool) (o : Option Proposal) → length (filter p (option_to_list o)) ≤ 1
few p None = omega arith
few p (Some q) = elim (p q) as (λ b. length (cond b (q ∷ []) []) ≤ 1) [ true ↦ omega arith | false ↦ omega arith ]

pub one_more : (p : Proposal → Bool) (ps : List Proposal) (o : Option Proposal) (k j : ℕ) → k ≤ length ps → take k ps ≡ filter p ps
    → j ≤ length (ps ++ option_to_list o) → take j (ps ++ option_to_list o) ≡ filter p (ps ++ option_to_list o) → j ≤ k + 1
one_more p ps o k j k_le k_is j_le j_is =
    omega (
      arith,
      counted p ps k k_le k_is,
      counted p (ps ++ option_to_list o) j j_le j_is,
      ap length (filter-append p ps (option_to_list o)),
      length-append (filter p ps) (filter p (option_to_list o)),
      few p o,
    )

-- ---- the quorum

pub taken : (q : Quorum) (m : Message) (its_members : Table Member) (its_pending : List Proposal) (its_values : Table Accepted)
    → its_members ≡ with_member (member_of m) (without (left_by m) q.members)
    → its_pending ≡ filter (λ p. not (is_due m.minimum p)) (waiting q m)
    → its_values ≡ fold (with_accepted m.number) q.values (filter (is_due m.minimum) (waiting q m))
    → ◌≡◌ {A = Quorum} (record { number = m.number; minimum = m.minimum; members = its_members; pending = its_pending; values = its_values }) (after q m)
unfolding after
taken q m its_members its_pending its_values a b c = rw (a, b, c) refl

pub stands-after : (ms : List Message) (q : Quorum) (m : Message) → m.number ≡ q.number + 1 → StandsFor ms q → StandsFor (ms ++ m ∷ []) (after q m)
unfolding quorum_of
stands-after ms q m next stands = record {
  order = numbered_more ms m 1 stands.order (omega (arith, next, ap (λ r. r.number) stands.quorum, last_number ms stands.order));
  quorum = ap (λ r. after r m) stands.quorum ∙ sym (goes_on ms m stands.order);
}

-- before the first message nothing is kept
pub of_nothing : (q : Quorum) → q.number ≡ 0 → q.minimum ≡ 0 → q.members ≡ empty → q.pending ≡ [] → q.values ≡ empty → StandsFor [] q
unfolding quorum_of members pending proposals values standing latest
of_nothing q number minimum members_are pending_are values_are = record { order = tt; quorum = rw (number, minimum, members_are, pending_are, values_are) refl }
