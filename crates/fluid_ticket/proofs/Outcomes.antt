-- Which case of the table fits a submission.
use Rattle.std.proofs.Common.{◌≡◌, ℕ, ◌+◌, ◌-◌, ◌<◌, ◌≤◌, Bool, true, false, cond, pos, List, Some, None, refl, arith}
use Rattle.std.specs.Prelude.{int_lt}
use Rattle.std.proofs.lemmas.Bool.{ltb-false, le-leb, lt-leb, lt-ltb, le-ltb}
use Rattle.fluid_types.specs.declared.entries.Submission.{Submission}
use Rattle.fluid_types.specs.declared.nacks.NackRule.{NackRule}
use Rattle.fluid_types.specs.declared.nacks.NackRule.TheVariants.{Gap, Nonexistent, Below, Ahead, Scope}
use Rattle.fluid_clients.specs.declared.table.Row.{Row}
use Rattle.fluid_ticket.specs.declared.outcome.Outcome.{Outcome}
use Rattle.std.specs.FinMap.{get}
use Rattle.fluid_ticket.specs.declared.outcome.Outcome.TheVariants.{Duplicate, Refused, Admitted}
use Rattle.fluid_ticket.specs.State.{State, minimum, is_below_minimum, lacks_scope, outcome_by, outcome_at, outcome}

module _ (sequence least : ℕ) (row : Row) (submission : Submission) where
  pub duplicate : submission.client_number ≤ row.last → outcome_by sequence least row submission ≡ Duplicate
  unfolding outcome_by
  duplicate counted = rw (le-leb _ _ counted)

  pub gap : row.last < submission.client_number → row.last < submission.client_number - 1 → outcome_by sequence least row submission ≡ Refused Gap
  unfolding outcome_by
  gap new beyond = rw (lt-leb submission.client_number row.last new, lt-ltb (row.last + 1) submission.client_number (omega arith))

  module _ (new : row.last < submission.client_number) (next : submission.client_number - 1 ≤ row.last) where
    pub marked : row.nacked ≡ true → outcome_by sequence least row submission ≡ Refused Nonexistent
    unfolding outcome_by
    marked is = rw (lt-leb submission.client_number row.last new, le-ltb (row.last + 1) submission.client_number (omega arith), is)

    module _ (in_order : row.nacked ≡ false) where
      pub below : is_below_minimum least submission.reference ≡ true → outcome_by sequence least row submission ≡ Refused Below
      unfolding outcome_by
      below is = rw (lt-leb submission.client_number row.last new, le-ltb (row.last + 1) submission.client_number (omega arith), in_order, is)

      module _ (high : is_below_minimum least submission.reference ≡ false) where
        pub ahead : int_lt (pos sequence) submission.reference ≡ true → outcome_by sequence least row submission ≡ Refused Ahead
        unfolding outcome_by
        ahead is = rw (lt-leb submission.client_number row.last new, le-ltb (row.last + 1) submission.client_number (omega arith), in_order, high, is)

        module _ (seen : int_lt (pos sequence) submission.reference ≡ false) where
          pub scope : lacks_scope submission row ≡ true → outcome_by sequence least row submission ≡ Refused Scope
          unfolding outcome_by
          scope is = rw (lt-leb submission.client_number row.last new, le-ltb (row.last + 1) submission.client_number (omega arith), in_order, high, seen, is)

          pub admitted : lacks_scope submission row ≡ false → outcome_by sequence least row submission ≡ Admitted
          unfolding outcome_by
          admitted is = rw (lt-leb submission.client_number row.last new, le-ltb (row.last + 1) submission.client_number (omega arith), in_order, high, seen, is)

-- what an admitted submission is
pub record IsAdmitted (sequence least : ℕ) (row : Row) (submission : Submission) : Type 0 where
  pub next : submission.client_number ≤ row.last + 1
  pub in_order : row.nacked ≡ false
  pub high : is_below_minimum least submission.reference ≡ false
  pub seen : int_lt (pos sequence) submission.reference ≡ false

-- a case that isn't the answer does not fit
passes : (b : Bool) (o rest r : Outcome) → (o ≡ r → ⊥) → cond b o rest ≡ r → (b ≡ false) × (rest ≡ r)
passes true o rest r other is = absurd (other is)
passes false o rest r other is = (refl, is)

duplicate_isn't : Duplicate ≡ Admitted → ⊥
duplicate_isn't e = cc

refused_isn't : (rule : NackRule) → Refused rule ≡ Admitted → ⊥
refused_isn't rule e = cc

pub admitted-is : (sequence least : ℕ) (row : Row) (submission : Submission) → outcome_by sequence least row submission ≡ Admitted → IsAdmitted sequence least row submission
unfolding outcome_by
admitted-is sequence least row submission is =
    let duplicate = passes _ _ _ _ duplicate_isn't is in
    let gap = passes _ _ _ _ (refused_isn't Gap) duplicate.1 in
    let marked = passes _ _ _ _ (refused_isn't Nonexistent) gap.1 in
    let low = passes _ _ _ _ (refused_isn't Below) marked.1 in
    let ahead = passes _ _ _ _ (refused_isn't Ahead) low.1 in
    record { next = ltb-false _ _ gap.0; in_order = marked.0; high = low.0; seen = ahead.0 }

-- a submission is admitted, or refused as below the minimum, only of a joined client
pub admitted_row : (s : State) (id : List ℕ) (submission : Submission) → outcome s id submission ≡ Admitted →
    (row : Row) × (get s.rows id ≡ Some row) × IsAdmitted s.sequence (minimum s) row submission
admitted_row s id submission is =
    elim (get s.rows id) as (λ o. get s.rows id ≡ o → outcome_at s o submission ≡ Admitted → (row : Row) × (get s.rows id ≡ Some row) × IsAdmitted s.sequence (minimum s) row submission) [
      | None ↦ λ there is. absurd (let no : Refused Nonexistent ≡ Admitted = is in cc)
      | Some row ↦ λ there is. (row, there, admitted-is s.sequence (minimum s) row submission is)
    ] refl is

pub below_row : (s : State) (id : List ℕ) (submission : Submission) → outcome s id submission ≡ Refused Below → (row : Row) × (get s.rows id ≡ Some row)
below_row s id submission is =
    elim (get s.rows id) as (λ o. get s.rows id ≡ o → outcome_at s o submission ≡ Refused Below → (row : Row) × (get s.rows id ≡ Some row)) [
      | None ↦ λ there is. absurd (let no : Refused Nonexistent ≡ Refused Below = is in cc)
      | Some row ↦ λ there is. (row, there)
    ] refl is
