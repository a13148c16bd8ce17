-- A full document stays full.
use Rattle.std.proofs.Common.{◌≡◌, ℕ, Bool, true, false, nat_le, List, [], ◌∷◌, All, if◌then◌else◌, refl, sym, ap, subst, append-nil, arith}
use Rattle.std.proofs.lemmas.List.Elements.{All-nil, All-cons}
use Rattle.std.proofs.lemmas.Bool.Decides.{nat_tests}
use Rattle.fluid_types.specs.Ledger.{Ledger}
use Rattle.fluid_types.specs.declared.entries.Submission.{Submission}
use Rattle.fluid_types.specs.declared.entries.Raw.TheVariants.{Submit}
use Rattle.fluid_rules.specs.Rules.{verdict}
use Rattle.fluid_rules.specs.Counted.{counted, is_full}
use Rattle.fluid_voice.specs.declared.actions.Act.TheVariants as act
use Rattle.fluid_voice.specs.declared.ends.ActEnd.TheVariants.{Entered, FullNow}
use Rattle.fluid_voice.specs.Heard.{submission_acts}
use Rattle.fluid_voice.specs.Ends.{Found, Outcome, outcome, outcomes, found_after}
use Rattle.fluid_voice.specs.Ends.Outcome.{ends}
use Rattle.fluid_voice.specs.Laws.{FullGoesOn, StayFull, FullStaysFull}

pub full_goes_on : FullGoesOn
full_goes_on entries l m raw other full more counts = grind (arith, nat_tests)

-- a submission to a full document
is_at : (f : Found) (moment : ℕ) (id : List ℕ) (s : Submission) → is_full f.limits.entries f.ledger (Submit id s moment) ≡ true
    → outcome f (act.Enter (Submit id s moment)) ≡ ends FullNow
is_at f moment id s full = rw full

-- it leaves the ledger as it was
stays_at : (f : Found) (moment : ℕ) (id : List ℕ) (s : Submission) → is_full f.limits.entries f.ledger (Submit id s moment) ≡ true
    → found_after f (act.Enter (Submit id s moment)) ≡ f
stays_at f moment id s full = rw (is_at f moment id s full) (ap (λ (l : Ledger). record f { ledger = l }) (append-nil f.ledger))

-- all of them are refused
all_full : (f : Found) (moment : ℕ) (id : List ℕ) (submissions : List Submission) → nat_le f.limits.entries (counted f.ledger) ≡ true
    → All (λ o. o ≡ ends FullNow) (outcomes f (submission_acts moment id submissions))
unfolding outcomes
all_full f moment id [] full = All-nil (λ o. o ≡ ends FullNow)
all_full f moment id (s ∷ ss) full =
    All-cons (λ o. o ≡ ends FullNow) _ _ (is_at f moment id s full)
    (subst (λ (g : Found). All (λ o. o ≡ ends FullNow) (outcomes g (submission_acts moment id ss))) (sym (stays_at f moment id s full)) (all_full f moment id ss full))

-- the first of some
first : (f : Found) (moment : ℕ) (id : List ℕ) (s : Submission) (b : Bool) (rest : List Outcome)
    → (b ≡ true → All (λ o. o ≡ ends FullNow) rest) → StayFull rest
    → StayFull (ends (if b then FullNow else Entered (verdict f.ledger (Submit id s moment))) ∷ rest)
first f moment id s true rest full h = full refl
first f moment id s false rest full h = h

pub full_stays_full : FullStaysFull
unfolding outcomes
full_stays_full f moment id [] = tt
full_stays_full f moment id (s ∷ ss) =
    first f moment id s (nat_le f.limits.entries (counted f.ledger)) _
    (λ full. subst (λ (g : Found). All (λ o. o ≡ ends FullNow) (outcomes g (submission_acts moment id ss))) (sym (stays_at f moment id s full)) (all_full f moment id ss full))
    (full_stays_full (found_after f (act.Enter (Submit id s moment))) moment id ss)
