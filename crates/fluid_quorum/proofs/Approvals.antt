-- The proposals behind one more message: those whose number its minimum reaches are accepted.
use Rattle.std.proofs.Common.{◌≡◌, ℕ, suc, ◌≤◌, arith, Bool, true, false, cond, not, nat_le, List, [], ◌∷◌, ◌++◌, map, filter, filter_map, fold, Option, Some, None, option_map, refl, sym, ap, ap₂, ◌∙◌, append_assoc, append-nil}
use Rattle.std.specs.Prelude.{option_to_list, option_and_then, unwrap_or}
use Rattle.std.specs.Option.{option_or}
use Rattle.std.specs.List as list
use Rattle.std.specs.FinMap.{insert}
use Rattle.std.proofs.lemmas.List.{map-append}
use Rattle.std.proofs.lemmas.List.Elements.{filter_map-append}
use Rattle.std.proofs.lemmas.List.Folds.{find-append}
use Rattle.fluid_json.specs.Tree as json
use Rattle.fluid_json.specs.Tree.{Tree, as_text}
use Rattle.fluid_types.specs.Contents.{body}
use Rattle.fluid_types.specs.Texts.{name_of}
use Rattle.fluid_types.specs.declared.fault.Field.TheVariants as field
use Rattle.fluid_types.specs.declared.messages.Kind.{Kind}
use Rattle.fluid_types.specs.declared.messages.Kind.TheVariants as kind
use Rattle.fluid_types.specs.declared.messages.Message.{Message}
use Rattle.fluid_types.specs.declared.quorum.Proposal.{Proposal}
use Rattle.fluid_types.specs.declared.quorum.Accepted.{Accepted}
use Rattle.fluid_types.specs.Quorum.{latest, of_propose, proposing, proposal_of, approval, proposals, is_pending, pending, is_accepted, values}
use Rattle.fluid_quorum.specs.Order.{AreNumberedFrom, AreFirst}
use Rattle.fluid_quorum.specs.After.{is_due, with_accepted}
use Rattle.fluid_quorum.proofs.Standing.{latest-append}

-- a proposal with its approval number, if it has one
abbrev Outcome : Type 0
Outcome = Proposal × Option ℕ

mapped_or : (a b : Option Message) → option_map (λ m. m.number) (option_or a b) ≡ option_or (option_map (λ m. m.number) a) (option_map (λ m. m.number) b)
mapped_or None b = refl
mapped_or (Some m) b = refl

approval-push : (number : ℕ) (ms : List Message) (m : Message) → approval number (ms ++ m ∷ []) ≡ option_or (approval number ms) (approval number (m ∷ []))
approval-push number ms m =
    ap (option_map (λ n. n.number)) (find-append (λ n. nat_le number n.minimum) ms (m ∷ []))
    ∙ mapped_or (list.find (λ n. nat_le number n.minimum) ms) (list.find (λ n. nat_le number n.minimum) (m ∷ []))

module _ (m : Message) where
  abbrev approve : Outcome → Outcome
  approve q = (q.0, option_or q.1 (approval q.0.number (m ∷ [])))

  abbrev unapproved : Proposal → Outcome
  unapproved p = (p, None)

  first_approved : (ps : List Proposal) → map (λ p. (p, approval p.number (m ∷ []))) ps ++ [] ≡ map approve (map unapproved ps)
  first_approved [] = refl
  first_approved (p ∷ ps) = ap (λ l. (p, approval p.number (m ∷ [])) ∷ l) (first_approved ps)

  later_approved : (behind : List Message) (ps : List Proposal) → map (λ p. (p, approval p.number (behind ++ m ∷ []))) ps ≡ map approve (map (λ p. (p, approval p.number behind)) ps)
  later_approved behind [] = refl
  later_approved behind (p ∷ ps) = ap₂ (λ q l. (p, q) ∷ l) (approval-push p.number behind m) (later_approved behind ps)

  pub proposals-push : (ms : List Message) → proposals (ms ++ m ∷ []) ≡ map approve (proposals ms ++ map unapproved (option_to_list (proposal_of m)))
  unfolding proposals
  proposals-push [] = first_approved (option_to_list (proposal_of m))
  proposals-push (n ∷ ms) =
      let made = option_to_list (proposal_of n) in
      let new = map unapproved (option_to_list (proposal_of m)) in
      let old = map (λ p. (p, approval p.number (n ∷ ms))) made in
      ap₂ (λ a b. a ++ b) (later_approved (n ∷ ms) made) (proposals-push ms)
      ∙ sym (map-append approve old (proposals ms ++ new))
      ∙ ap (map approve) (sym (append_assoc old (proposals ms) new))

  -- ---- what is pending

  abbrev due : Proposal → Bool
  due p = is_due m.minimum p

  decided : (p : Proposal) (b : Bool) (rest : List Proposal) → list.cons_option (is_pending (p, option_map (λ n. n.number) (cond b (Some m) None))) rest ≡ cond (not b) (p ∷ rest) rest
  decided p true rest = refl
  decided p false rest = refl

  pub pending-approve : (qs : List Outcome) → filter_map is_pending (map approve qs) ≡ filter (λ p. not (due p)) (filter_map is_pending qs)
  pending-approve [] = refl
  pending-approve ((p, Some a) ∷ qs) = pending-approve qs
  pending-approve ((p, None) ∷ qs) =
      decided p (due p) (filter_map is_pending (map approve qs)) ∙ ap (λ l. cond (not (due p)) (p ∷ l) l) (pending-approve qs)

  pub pending_unapproved : (ps : List Proposal) → filter_map is_pending (map unapproved ps) ≡ ps
  pending_unapproved [] = refl
  pending_unapproved (p ∷ ps) = ap (λ l. p ∷ l) (pending_unapproved ps)

  pub accepted_unapproved : (ps : List Proposal) → filter_map is_accepted (map unapproved ps) ≡ []
  accepted_unapproved [] = refl
  accepted_unapproved (p ∷ ps) = accepted_unapproved ps

  pub pending-push : (ms : List Message) → pending (ms ++ m ∷ []) ≡ filter (λ p. not (due p)) (pending ms ++ option_to_list (proposal_of m))
  unfolding pending
  pending-push ms =
      let new = option_to_list (proposal_of m) in
      ap (filter_map is_pending) (proposals-push ms) ∙ pending-approve (proposals ms ++ map unapproved new)
      ∙ ap (filter (λ p. not (due p))) (filter_map-append is_pending (proposals ms) (map unapproved new) ∙ ap (λ l. filter_map is_pending (proposals ms) ++ l) (pending_unapproved new))

  -- ---- what is accepted

  abbrev accepted_now : Proposal → List ℕ × Accepted
  accepted_now p = (p.key, record { number = p.number; approval = m.number; value = p.value })

  accepted_if : (p : Proposal) (b : Bool) (rest : List (List ℕ × Accepted)) (ps : List Proposal) → rest ≡ map accepted_now ps
      → list.cons_option (is_accepted (p, option_map (λ n. n.number) (cond b (Some m) None))) rest ≡ map accepted_now (cond b (p ∷ ps) ps)
  accepted_if p true rest ps is = ap (λ l. accepted_now p ∷ l) is
  accepted_if p false rest ps is = is

  -- where none is accepted, the due ones are, and no other
  newly : (qs : List Outcome) → filter_map is_accepted qs ≡ [] → filter_map is_accepted (map approve qs) ≡ map accepted_now (filter due (filter_map is_pending qs))
  newly [] none = refl
  newly ((p, Some a) ∷ qs) none = cc
  newly ((p, None) ∷ qs) none = accepted_if p (due p) (filter_map is_accepted (map approve qs)) (filter due (filter_map is_pending qs)) (newly qs none)

  -- none is accepted behind a pending one
  abbrev pub IsSplit : List Outcome → Type 0
  IsSplit [] = Unit {0}
  IsSplit ((p, Some a) ∷ qs) = IsSplit qs
  IsSplit ((p, None) ∷ qs) = filter_map is_accepted qs ≡ []

  accepted-approve : (qs : List Outcome) → IsSplit qs → filter_map is_accepted (map approve qs) ≡ filter_map is_accepted qs ++ map accepted_now (filter due (filter_map is_pending qs))
  accepted-approve [] split = refl
  accepted-approve ((p, Some a) ∷ qs) split = ap (λ l. (p.key, record { number = p.number; approval = a; value = p.value }) ∷ l) (accepted-approve qs split)
  accepted-approve ((p, None) ∷ qs) split = newly ((p, None) ∷ qs) split ∙ ap (λ l. l ++ map accepted_now (filter due (filter_map is_pending ((p, None) ∷ qs)))) (sym split)

-- ---- along an order none is accepted behind a pending one

nat_le_up : (a b c : ℕ) → a ≤ b → nat_le a c ≡ false → nat_le b c ≡ false
nat_le_up a b c le h = grind arith

none_first : {X : Type 0} (b : Bool) (x : X) (o : Option X) → cond b (Some x) o ≡ None → (b ≡ false) × (o ≡ None)
none_first true x o is = cc
none_first false x o is = (refl, is)

never : (s t : ℕ) (ms : List Message) → s ≤ t → list.find (λ m. nat_le s m.minimum) ms ≡ None → list.find (λ m. nat_le t m.minimum) ms ≡ None
never s t [] le none = refl
never s t (m ∷ ms) le none =
    let parts = none_first (nat_le s m.minimum) m (list.find (λ n. nat_le s n.minimum) ms) none in
    rw (nat_le_up s t m.minimum le parts.0) (never s t ms le parts.1)

of_propose-some : {A : Type 0} (k : Kind) (o : Option A) (a : A) → of_propose k o ≡ Some a → o ≡ Some a
of_propose-some kind.Propose o a is = is
of_propose-some kind.Op o a is = cc
of_propose-some kind.Noop o a is = cc
of_propose-some kind.Reject o a is = cc
of_propose-some kind.Summarize o a is = cc
of_propose-some kind.Join o a is = cc
of_propose-some kind.Leave o a is = cc
of_propose-some kind.SummaryAck o a is = cc
of_propose-some kind.SummaryNack o a is = cc

with_value : (number : ℕ) (key : List ℕ) (v : Option Tree) (p : Proposal) → option_and_then (λ value. Some (record { number = number; key = key; value = value })) v ≡ Some p → p.number ≡ number
with_value number key None p is = cc
with_value number key (Some value) p is = ap (λ o. unwrap_or (option_map (λ (q : Proposal). q.number) o) number) (sym is)

with_key : (number : ℕ) (k : Option (List ℕ)) (v : Option Tree) (p : Proposal)
    → option_and_then (λ key. option_and_then (λ value. Some (record { number = number; key = key; value = value })) v) k ≡ Some p → p.number ≡ number
with_key number None v p is = cc
with_key number (Some key) v p is = with_value number key v p is

with_named : (number : ℕ) (n v : Option Tree) (p : Proposal)
    → option_and_then (λ named. option_and_then (λ key. option_and_then (λ value. Some (record { number = number; key = key; value = value })) v) (as_text named)) n ≡ Some p → p.number ≡ number
with_named number None v p is = cc
with_named number (Some named) v p is = with_key number (as_text named) v p is

-- a proposal has the number of its message
pub numbered : (m : Message) (p : Proposal) → proposal_of m ≡ Some p → p.number ≡ m.number
unfolding proposal_of
numbered m p is =
    with_named m.number (json.find (name_of field.Key) (body m.contents)) (json.find (name_of field.Value) (body m.contents)) p (of_propose-some m.kind (proposing m.number (body m.contents)) p is)

-- the proposals of one message
abbrev made : Message → List Message → Option Proposal → List Outcome
made m behind o = map (λ p. (p, approval p.number (m ∷ behind))) (option_to_list o)

refused : (p : Proposal) (o : Option Message) (rest : List (List ℕ × Accepted)) → o ≡ None → list.cons_option (is_accepted (p, option_map (λ n. n.number) o)) rest ≡ rest
refused p o rest is = rw is refl

unaccepted : (s n : ℕ) (ms : List Message) → s ≤ n → AreNumberedFrom n ms → list.find (λ m. nat_le s m.minimum) ms ≡ None → filter_map is_accepted (proposals ms) ≡ []
unfolding proposals
unaccepted s n [] le order none = refl
unaccepted s n (m ∷ ms) le order none =
    let parts = none_first (nat_le s m.minimum) m (list.find (λ k. nat_le s k.minimum) ms) none in
    filter_map-append is_accepted (made m ms (proposal_of m)) (proposals ms)
    ∙ ap₂ (λ a b. a ++ b) (own (proposal_of m) refl) (unaccepted s (suc n) ms (omega arith) order.1 parts.1)
  where
    own : (o : Option Proposal) → proposal_of m ≡ o → filter_map is_accepted (made m ms o) ≡ []
    own None is = refl
    own (Some p) is =
        refused p (list.find (λ k. nat_le p.number k.minimum) (m ∷ ms)) [] (never s p.number (m ∷ ms) (omega (arith, le, numbered m p is, order.0)) none)

map_none : (o : Option Message) → option_map (λ m. m.number) o ≡ None → o ≡ None
map_none None is = refl
map_none (Some m) is = cc

split_unapproved : (m : Message) (ps : List Proposal) → IsSplit m (map (unapproved m) ps)
split_unapproved m [] = tt
split_unapproved m (p ∷ ps) = accepted_unapproved m ps

split : (last : Message) (n : ℕ) (ms : List Message) (ps : List Proposal) → AreNumberedFrom n ms → IsSplit last (proposals ms ++ map (unapproved last) ps)
unfolding proposals
split last n [] ps order = split_unapproved last ps
split last n (m ∷ ms) ps order = by_proposal (split last (suc n) ms ps order.1) (proposal_of m) refl
  where
    Rest : Type 0
    Rest = IsSplit last (proposals ms ++ map (unapproved last) ps)

    by_approval : Rest → (p : Proposal) (a : Option ℕ) → p.number ≡ n → approval p.number (m ∷ ms) ≡ a → IsSplit last ((p, a) ∷ (proposals ms ++ map (unapproved last) ps))
    by_approval rest p (Some a) same is = rest
    by_approval rest p None same is =
        let parts = none_first (nat_le p.number m.minimum) m (list.find (λ k. nat_le p.number k.minimum) ms) (map_none _ is) in
        filter_map-append is_accepted (proposals ms) (map (unapproved last) ps)
        ∙ ap₂ (λ a b. a ++ b) (unaccepted p.number (suc n) ms (omega (arith, same)) order.1 parts.1) (accepted_unapproved last ps)

    by_proposal : Rest → (o : Option Proposal) → proposal_of m ≡ o → IsSplit last ((made m ms o ++ proposals ms) ++ map (unapproved last) ps)
    by_proposal rest None is = rest
    by_proposal rest (Some p) is = by_approval rest p (approval p.number (m ∷ ms)) (numbered m p is ∙ order.0) refl

fold-mapped : {A B C : Type 0} (f : C → B → C) (g : A → B) (c : C) (xs : List A) → fold f c (map g xs) ≡ fold (λ d x. f d (g x)) c xs
fold-mapped f g c [] = refl
fold-mapped f g c (x ∷ xs) = fold-mapped f g (f c (g x)) xs

module _ (m : Message) where
  accepted-append : (ms : List Message) (ps : List Proposal) → filter_map is_accepted (proposals ms ++ map (unapproved m) ps) ≡ filter_map is_accepted (proposals ms)
  accepted-append ms ps =
      filter_map-append is_accepted (proposals ms) (map (unapproved m) ps) ∙ ap (λ l. filter_map is_accepted (proposals ms) ++ l) (accepted_unapproved m ps)
      ∙ append-nil (filter_map is_accepted (proposals ms))

  waiting-append : (ms : List Message) (ps : List Proposal) → filter_map is_pending (proposals ms ++ map (unapproved m) ps) ≡ pending ms ++ ps
  unfolding pending
  waiting-append ms ps =
      filter_map-append is_pending (proposals ms) (map (unapproved m) ps) ∙ ap (λ l. filter_map is_pending (proposals ms) ++ l) (pending_unapproved m ps)

  pub values-push : (ms : List Message) → AreFirst ms
      → values (ms ++ m ∷ []) ≡ fold (with_accepted m.number) (values ms) (filter (is_due m.minimum) (pending ms ++ option_to_list (proposal_of m)))
  unfolding values
  values-push ms order =
      let new = option_to_list (proposal_of m) in
      let qs = proposals ms ++ map (unapproved m) new in
      ap (λ l. latest (filter_map is_accepted l)) (proposals-push m ms)
      ∙ ap latest (accepted-approve m qs (split m 1 ms new order))
      ∙ latest-append (filter_map is_accepted qs) (map (accepted_now m) (filter (is_due m.minimum) (filter_map is_pending qs)))
      ∙ fold-mapped (λ t p. insert t p.0 p.1) (accepted_now m) (latest (filter_map is_accepted qs)) (filter (is_due m.minimum) (filter_map is_pending qs))
      ∙ ap₂ (λ t l. fold (with_accepted m.number) (latest t) (filter (is_due m.minimum) l)) (accepted-append ms new) (waiting-append ms new)
