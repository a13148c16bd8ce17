-- What is kept of the parts of a quorum: members, proposals, values.
use Rattle.std.proofs.Common.{◌≡◌, ℕ, suc, ◌+◌, ◌<◌, ◌≤◌, arith, Bool, true, false, cond, nat_le, nat_lt, List, [], ◌∷◌, ◌++◌, length, map, filter_map, Option, Some, None, option_map, IfSome, refl, sym, subst, ◌∙◌}
use Rattle.std.specs.Prelude.{option_to_list, unwrap_or, find}
use Rattle.std.specs.List.{list_any, last_or, cons_option}
use Rattle.std.specs.Ordering.{nat_cmp}
use Rattle.std.specs.FinMap.{is_sorted}
use Rattle.std.specs.FinMap.Entries.{below_all}
use Rattle.fluid_types.specs.declared.messages.Message.{Message}
use Rattle.fluid_types.specs.declared.quorum.Member.{Member}
use Rattle.fluid_types.specs.declared.quorum.Proposal.{Proposal}
use Rattle.fluid_types.specs.declared.quorum.Accepted.{Accepted}
use Rattle.fluid_types.specs.Names.{IsName}
use Rattle.fluid_types.specs.Quorum.{leaves, unless_left, standing, member_of, proposal_of, approval, proposals, is_pending, is_accepted}
use Rattle.fluid_quorum.specs.Order.{AreNumberedFrom}
use Rattle.fluid_quorum.specs.Stored.{IsNumber}
use Rattle.fluid_readback.specs.Quorums.{IsReadAsItself}
use Rattle.fluid_readback.proofs.Each.{Each, each-append}
use Rattle.fluid_readback.proofs.Said.{IsDeep, in_range, member_kept, proposal_kept}

-- a message among the first ones up to this number
pub record IsAmong (last : ℕ) (m : Message) : Type 0 where
  pub number : IsNumber last m.number
  pub contents : IsDeep m.contents

pub among : (last n : ℕ) (ms : List Message) → 1 ≤ n → n + length ms ≤ suc last → AreNumberedFrom n ms → Each IsReadAsItself ms → Each (IsAmong last) ms
among last n [] low high order h = tt
among last n (m ∷ ms) low high order h = (
  record { number = record { least = omega (arith, order.0, low); most = omega (arith, order.0, high) }; contents = (in_range m h.0).contents },
  among last (suc n) ms (omega (arith, low)) (omega (arith, high)) order.1 h.1,
)

-- what the last message says is below a bound of what each says
pub last_below : (f : Message → ℕ) (bound : ℕ) (o : Option ℕ) (ms : List Message) → unwrap_or o 0 ≤ bound → Each (λ m. f m ≤ bound) ms → unwrap_or (last_or o (map f ms)) 0 ≤ bound
last_below f bound o [] le h = le
last_below f bound o (m ∷ ms) le h = last_below f bound (Some (f m)) ms h.0 h.1

-- ---- members

-- a member under its id
pub record IsMemberAt (last : ℕ) (e : List ℕ × Member) : Type 0 where
  pub key : e.0 ≡ e.1.id
  pub name : IsName e.1.id
  pub number : IsNumber last e.1.number
  pub detail : IsDeep e.1.detail

standing_kept : (last : ℕ) (m : Message) (behind : List Message) (o : Option Member) → IsAmong last m → member_of m ≡ o → Each (IsMemberAt last) (unless_left behind o)
standing_kept last m behind None h is = tt
standing_kept last m behind (Some j) h is = of (list_any (leaves j.id) behind)
  where
    of : (b : Bool) → Each (IsMemberAt last) (cond b [] ((j.id, j) ∷ []))
    of true = tt
    of false =
        let its = member_kept m j is in
        (record { key = refl; name = its.name; number = record { least = omega (arith, its.number, h.number.least); most = omega (arith, its.number, h.number.most) }; detail = its.detail }, tt)

pub members_kept : (last : ℕ) (ms : List Message) → Each (IsAmong last) ms → Each (IsMemberAt last) (standing ms)
unfolding standing
members_kept last [] h = tt
members_kept last (m ∷ ms) h = each-append (IsMemberAt last) (unless_left ms (member_of m)) (standing ms) (standing_kept last m ms (member_of m) h.0 refl) (members_kept last ms h.1)

-- ---- proposals, each with its approval number

pub record IsOutcome (last : ℕ) (o : Proposal × Option ℕ) : Type 0 where
  pub number : IsNumber last o.0.number
  pub approval : IfSome o.1 (IsNumber last)
  pub value : IsDeep o.0.value

approved : (last number : ℕ) (ms : List Message) → Each (IsAmong last) ms → IfSome (approval number ms) (IsNumber last)
approved last number [] h = tt
approved last number (m ∷ ms) h = of (nat_le number m.minimum) (approved last number ms h.1)
  where
    of : (b : Bool) → IfSome (approval number ms) (IsNumber last) → IfSome (option_map (λ n. n.number) (cond b (Some m) (find (λ n. nat_le number n.minimum) ms))) (IsNumber last)
    of true rest = h.0.number
    of false rest = rest

made_kept : (last : ℕ) (m : Message) (behind : List Message) (o : Option Proposal) → Each (IsAmong last) (m ∷ behind) → proposal_of m ≡ o
    → Each (IsOutcome last) (map (λ p. (p, approval p.number (m ∷ behind))) (option_to_list o))
made_kept last m behind None h is = tt
made_kept last m behind (Some p) h is =
    let its = proposal_kept m p h.0.contents is in
    let number : IsNumber last p.number = record { least = omega (arith, its.number, h.0.number.least); most = omega (arith, its.number, h.0.number.most) } in
    (record { number = number; approval = approved last p.number (m ∷ behind) h; value = its.value }, tt)

pub proposals_kept : (last : ℕ) (ms : List Message) → Each (IsAmong last) ms → Each (IsOutcome last) (proposals ms)
unfolding proposals
proposals_kept last [] h = tt
proposals_kept last (m ∷ ms) h = each-append (IsOutcome last) (map (λ p. (p, approval p.number (m ∷ ms))) (option_to_list (proposal_of m))) (proposals ms) (made_kept last m ms (proposal_of m) h refl) (proposals_kept last ms h.1)

-- a proposal that is kept
pub record IsProposalKept (last : ℕ) (p : Proposal) : Type 0 where
  pub number : IsNumber last p.number
  pub value : IsDeep p.value

pub pending_kept : (last : ℕ) (qs : List (Proposal × Option ℕ)) → Each (IsOutcome last) qs → Each (IsProposalKept last) (filter_map is_pending qs)
pending_kept last [] h = tt
pending_kept last ((p, Some a) ∷ qs) h = pending_kept last qs h.1
pending_kept last ((p, None) ∷ qs) h = (record { number = h.0.number; value = h.0.value }, pending_kept last qs h.1)

-- the value of a key
pub record IsValueAt (last : ℕ) (e : List ℕ × Accepted) : Type 0 where
  pub approval : IsNumber last e.1.approval
  pub number : IsNumber last e.1.number
  pub value : IsDeep e.1.value

pub accepted_kept : (last : ℕ) (qs : List (Proposal × Option ℕ)) → Each (IsOutcome last) qs → Each (IsValueAt last) (filter_map is_accepted qs)
accepted_kept last [] h = tt
accepted_kept last ((p, None) ∷ qs) h = accepted_kept last qs h.1
accepted_kept last ((p, Some a) ∷ qs) h = (record { approval = h.0.approval; number = h.0.number; value = h.0.value }, accepted_kept last qs h.1)

-- ---- pending proposals in the order of their numbers

abbrev pub by_number : List Proposal → List (ℕ × Proposal)
by_number ps = map (λ p. (p.number, p)) ps

less_than : (a b : ℕ) → a < b → nat_lt a b ≡ true
less_than a b h = grind arith

below : (n : ℕ) (ps : List Proposal) → Each (λ p. n < p.number) ps → below_all nat_cmp n (by_number ps) ≡ true
below n [] h = refl
below n (p ∷ ps) h = rw (less_than n p.number h.0, below n ps h.1) refl

-- they rise, and none is below this number
pub record AreFrom (n : ℕ) (ps : List Proposal) : Type 0 where
  pub rising : is_sorted nat_cmp (by_number ps) ≡ true
  pub least : Each (λ p. n ≤ p.number) ps

weaker : (n : ℕ) (ps : List Proposal) → Each (λ p. suc n ≤ p.number) ps → Each (λ p. n ≤ p.number) ps
weaker n [] h = tt
weaker n (p ∷ ps) h = (omega (arith, h.0), weaker n ps h.1)

above : (n : ℕ) (ps : List Proposal) → Each (λ p. suc n ≤ p.number) ps → Each (λ p. n < p.number) ps
above n [] h = tt
above n (p ∷ ps) h = (omega (arith, h.0), above n ps h.1)

one_more : (n : ℕ) (p : Proposal) (a : Option ℕ) (ps : List Proposal) → p.number ≡ n → AreFrom (suc n) ps → AreFrom n (cons_option (is_pending (p, a)) ps)
one_more n p (Some a) ps is h = record { rising = h.rising; least = weaker n ps h.least }
one_more n p None ps is h =
    let first = below p.number ps (subst (λ k. Each (λ q. k < q.number) ps) (sym is) (above n ps h.least)) in
    record { rising = rw (first, h.rising) refl; least = (omega (arith, is), weaker n ps h.least) }

pub pending_rising : (last n : ℕ) (ms : List Message) → AreNumberedFrom n ms → Each (IsAmong last) ms → AreFrom n (filter_map is_pending (proposals ms))
unfolding proposals
pending_rising last n [] order h = record { rising = refl; least = tt }
pending_rising last n (m ∷ ms) order h = of (proposal_of m) refl (pending_rising last (suc n) ms order.1 h.1)
  where
    of : (o : Option Proposal) → proposal_of m ≡ o → AreFrom (suc n) (filter_map is_pending (proposals ms)) →
        AreFrom n (filter_map is_pending (map (λ p. (p, approval p.number (m ∷ ms))) (option_to_list o) ++ proposals ms))
    of None is rest = record { rising = rest.rising; least = weaker n (filter_map is_pending (proposals ms)) rest.least }
    of (Some p) is rest = one_more n p (approval p.number (m ∷ ms)) (filter_map is_pending (proposals ms)) ((proposal_kept m p h.0.contents is).number ∙ order.0) rest
