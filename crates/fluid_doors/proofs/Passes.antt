-- What a door's call makes of a pass, from what its parts say.
use Rattle.std.proofs.Common.{◌≡◌, ℕ, suc, ◌+◌, ◌≤◌, Bool, List, [], ◌∷◌, ◌++◌, length, map, is_some, Option, Some, None, Result, Ok, Err, refl, sym, ap, subst, ◌∙◌, append-nil, append_assoc, arith}
use Rattle.std.specs.Prelude.{IfOk, filter, not}
use Rattle.std.proofs.lemmas.List.Filters.{length-filter_both}
use Rattle.fluid_types.specs.declared.entries.Raw.{Raw}
use Rattle.fluid_types.specs.declared.entries.Scopes.{Scopes}
use Rattle.fluid_types.specs.declared.messages.Message.{Message}
use Rattle.fluid_types.specs.declared.verdicts.Verdict.TheVariants.{Sequenced}
use Rattle.fluid_json.specs.Tree.{Tree}
use Rattle.fluid_rules.specs.declared.limits.Limits.{Limits}
use Rattle.fluid_turn.specs.declared.view.Numbered.{Numbered}
use Rattle.fluid_turn.specs.Entries.{IsPrefix, by_seat, entries, made_by, is_number}
use Rattle.fluid_turn.specs.Seats.{seeing}
use Rattle.fluid_types.specs.Forms.{largest}
use Rattle.fluid_lane.specs.declared.fault.LaneFault.{LaneFault}
use Rattle.fluid_lane.specs.declared.steps.Step.{Step}
use Rattle.fluid_lane.specs.declared.steps.Step.TheVariants.{Entered}
use Rattle.fluid_lane.specs.Standing.{Standing, LaneStands, Goes}
use Rattle.fluid_lane.specs.Steps.{steps_of, joined_by, swept_by}
use Rattle.fluid_doors.specs.declared.bench.Terms.{Terms}
use Rattle.fluid_doors.specs.Passing.{APass, adding, Grows, Continues}
use Rattle.fluid_doors.specs.Entering.{joined_as, swept_as, with_id, with_left, verdict_left, IsJoinOf, IsLeaveAt}

-- ---- the bench

abbrev terms : Limits → ℕ → Bool → Terms
terms limits opened told = record { limits = limits; opened = opened; told = told }

pub continues : (old new : Standing) (added : List Step) → Goes old new added → Continues old new added
continues old new added goes = record {
  terms =
      ap (λ x. terms x new.opened (is_some new.keeping.content)) goes.limits
      ∙ ap (λ x. terms old.limits x (is_some new.keeping.content)) goes.opened
      ∙ ap (λ x. terms old.limits old.opened x) goes.told;
  later = goes.later;
  list = goes.list;
}

-- ---- the pass

entries_length : (l : List (Numbered Step)) → length (entries l) ≡ length l
entries_length [] = refl
entries_length (x ∷ xs) = ap suc (entries_length xs)

-- the list that a pass has seen is no longer than the steps for which a lane stands
pub few_seen : (s : Standing) (l : List (Numbered Step)) → LaneStands s (entries l) → s.entries.entered + s.sides ≤ largest → length l ≤ largest
few_seen s l stands few = let e = stands.number in let n = entries_length l in omega (arith, e, n, few)

-- as many of them bear a number as there are, or fewer
made_few : (number : ℕ) (l : List (Numbered Step)) → length (made_by number l) ≤ length l
made_few number l =
    let both = length-filter_both (λ x. is_number number x.number) (λ x. not (is_number number x.number)) (λ x. refl) l in
    let same = entries_length (filter (λ x. is_number number x.number) l) in omega (arith, both, same)

pub own_few : (p : APass) → p.mine ≡ made_by p.number p.seen → length p.mine ≤ length p.seen
own_few p is = subst (λ m. length m ≤ length p.seen) (sym is) (made_few p.number p.seen)

pub grows_by : (p q seat : APass) (list : List (Numbered Step)) (added : List Step) (holds : List Step → Type 0) → seat ≡ seeing list p → q ≡ adding added seat → length q.seen ≤ largest → IsPrefix p.seen list → holds (entries list) → Grows p q added holds
grows_by p q seat list added holds saw is few begins says =
    let same : q ≡ adding added (seeing list p) = is ∙ ap (adding added) saw in record {
      turn = ap (λ k. k.turn) same;
      number = ap (λ k. k.number) same;
      before = list;
      begins = begins;
      seen = ap (λ k. k.seen) same;
      mine = ap (λ k. k.mine) same;
      more = (begins.0 ++ map (by_seat p.number) added, ap (λ k. k.seen) same ∙ ap (λ l. l ++ map (by_seat p.number) added) begins.1 ∙ append_assoc p.seen begins.0 (map (by_seat p.number) added));
      few = few;
      says = says;
    }

pub adding_none : (k : APass) → k ≡ adding [] k
adding_none k = ap (λ l. record k { seen = l }) (sym (append-nil k.seen)) ∙ ap (λ m. record k { seen = k.seen ++ []; mine = m }) (sym (append-nil k.mine))

-- ---- steps by the answer

pub joined_steps : (scopes : Scopes) (detail : Tree) (moment : ℕ) (result : Result (Raw × Message) LaneFault) → IfOk result (IsJoinOf scopes detail moment) → steps_of joined_by result ≡ steps_of (joined_as scopes detail moment) (with_id result)
joined_steps scopes detail moment (Ok (raw, message)) join = ap (λ r. Entered r (Sequenced message) ∷ []) join
joined_steps scopes detail moment (Err fault) join = refl

pub swept_steps : (moment : ℕ) (result : Result (Option (Raw × Message)) LaneFault) → IfOk result (IsLeaveAt moment) → steps_of swept_by result ≡ steps_of (swept_as moment (verdict_left result)) (with_left result)
swept_steps moment (Ok None) leave = refl
swept_steps moment (Ok (Some (raw, message))) leave = ap (λ r. Entered r (Sequenced message) ∷ []) leave
swept_steps moment (Err fault) leave = refl
