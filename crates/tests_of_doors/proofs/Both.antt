-- What callers of a document have entered, and what they have seen of one another.
use Rattle.std.proofs.Common.{◌≡◌, ℕ, List, [], ◌∷◌, ◌++◌, Result, Ok, refl, sym, ap, ◌∙◌, append_assoc, append-nil}
use Rattle.std.proofs.lemmas.List.{map-append, append_cancel_left}
use Rattle.fluid_types.specs.declared.entries.Raw.{Raw}
use Rattle.fluid_types.specs.declared.verdicts.Verdict.{Verdict}
use Rattle.fluid_types.specs.Ledger.{Ledger, raws}
use Rattle.fluid_turn.specs.declared.view.Numbered.{Numbered}
use Rattle.fluid_turn.specs.Entries.{IsPrefix, made_by}
use Rattle.fluid_turn.proofs.Lists.{made_by-append, nil_of_append}
use Rattle.fluid_lane.specs.declared.fault.LaneFault.{LaneFault}
use Rattle.fluid_lane.specs.declared.steps.Step.{Step}
use Rattle.fluid_lane.specs.declared.steps.Step.TheVariants.{Entered}
use Rattle.fluid_lane.specs.Steps.{ledger, steps_of, entered_by}
use Rattle.fluid_lane.proofs.Listed.{ledger-append}
use Rattle.fluid_doors.specs.Laws.{IsLegalHistory}
use Rattle.fluid_doors.specs.Passing.{APass}
use Rattle.tests_of_doors.specs.Meeting.{HasEntered, HasBoth}

-- ---- entries

raws-append : (l more : Ledger) → raws (l ++ more) ≡ raws l ++ raws more
unfolding raws
raws-append l more = map-append (λ entry. entry.0) l more

raws_one : (raw : Raw) (verdict : Verdict) → raws ((raw, verdict) ∷ []) ≡ raw ∷ []
unfolding raws
raws_one raw verdict = refl

-- an entry more, with the verdict that was answered
pub one_more : (mine new : List Step) (raw : Raw) (answer : Result Verdict LaneFault) (verdict : Verdict) → new ≡ mine ++ steps_of (entered_by raw) answer → answer ≡ Ok verdict
    → raws (ledger new) ≡ raws (ledger mine) ++ raw ∷ []
one_more mine new raw answer verdict is ok =
    ap (λ l. raws (ledger l)) (is ∙ ap (λ a. mine ++ steps_of (entered_by raw) a) ok)
    ∙ ap raws (ledger-append mine (Entered raw verdict ∷ []))
    ∙ raws-append (ledger mine) ((raw, verdict) ∷ [])
    ∙ ap (λ l. raws (ledger mine) ++ l) (raws_one raw verdict)

pub none_entered : (p : APass) → HasEntered [] p p
none_entered p = record { turn = refl; number = refl; mine = sym (append-nil (raws (ledger p.mine))) }

-- one entry, and then others
pub one_then : (raw : Raw) (rest : List Raw) (p m q : APass) → HasEntered (raw ∷ []) p m → HasEntered rest m q → HasEntered (raw ∷ rest) p q
one_then raw rest p m q one others = record {
  turn = others.turn ∙ one.turn;
  number = others.number ∙ one.number;
  mine = others.mine ∙ ap (λ l. l ++ rest) one.mine ∙ append_assoc (raws (ledger p.mine)) (raw ∷ []) rest;
}

-- ---- lists that were seen

same_prefix : {X : Type 0} (l a b : List X) → (l ++ a) ++ b ≡ l → l ++ a ≡ l
same_prefix l a b is =
    let none = append_cancel_left l (a ++ b) [] (sym (append_assoc l a b) ∙ is ∙ sym (append-nil l)) in
    ap (λ x. l ++ x) (nil_of_append a b none) ∙ append-nil l

-- who has entered as much in a longer list as in a shorter one has entered so much in each list between them
pub between : (number : ℕ) (a b c : List (Numbered Step)) (mine : List Step) → IsPrefix a b → IsPrefix b c → mine ≡ made_by number a → mine ≡ made_by number c
    → made_by number b ≡ mine
between number a b c mine prefix back short long =
    let of_b : made_by number b ≡ mine ++ made_by number prefix.0 =
    ap (made_by number) prefix.1 ∙ made_by-append number a prefix.0 ∙ ap (λ l. l ++ made_by number prefix.0) (sym short) in
    let of_c : (mine ++ made_by number prefix.0) ++ made_by number back.0 ≡ mine =
    sym (long ∙ ap (made_by number) back.1 ∙ made_by-append number b back.0 ∙ ap (λ l. l ++ made_by number back.0) of_b) in
    of_b ∙ same_prefix mine (made_by number prefix.0) (made_by number back.0) of_c

-- who knows its own steps in a list
abbrev pub KnowsOwn : APass → Type 0
KnowsOwn p = p.mine ≡ made_by p.number p.seen

-- the same pass, which has entered nothing since
pub record IsLater (p later : APass) (seen : List (Numbered Step)) : Type 0 where
  pub number : later.number ≡ p.number
  pub mine : later.mine ≡ p.mine
  pub prefix : IsPrefix p.seen seen
  pub back : IsPrefix seen later.seen

own_between : (p later : APass) (seen : List (Numbered Step)) → KnowsOwn p → KnowsOwn later → IsLater p later seen → made_by p.number seen ≡ p.mine
own_between p later seen short long is =
    between p.number p.seen seen later.seen p.mine is.prefix is.back short (sym is.mine ∙ long ∙ ap (λ n. made_by n later.seen) is.number)

-- what both had seen when they met
pub both : (p q p_later q_later : APass) (seen : List (Numbered Step)) → IsLegalHistory seen → KnowsOwn p → KnowsOwn q → KnowsOwn p_later → KnowsOwn q_later
    → IsLater p p_later seen → IsLater q q_later seen → HasBoth p q seen
both p q p_later q_later seen legal p_own q_own p_later_own q_later_own p_is q_is = record {
  legal = legal;
  first = own_between p p_later seen p_own p_later_own p_is;
  second = own_between q q_later seen q_own q_later_own q_is;
}
