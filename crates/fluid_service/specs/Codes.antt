-- Visits, shelves and services as tuples of their parts, for the proofs that tell values apart.
use Rattle.std.specs.Prelude.{ℕ, List, Option, refl}
use Rattle.std.specs.Coded.{Coded, code_by, coded×, coded_ℕ, coded_list, coded_option}
use Rattle.atomic_table.specs.Seated.{TableId, table_id_coded}
use Rattle.fluid_turn.specs.declared.view.Numbered.{Numbered}
use Rattle.fluid_turn.specs.Seats.{Turning}
use Rattle.fluid_log.specs.Shelving.{Shelving}
use Rattle.fluid_log.specs.Codes.{shelving_code}
use Rattle.fluid_rules.specs.declared.limits.Limits.{Limits}
use Rattle.fluid_rules.specs.contracts.limits.Limits as limits
use Rattle.fluid_lane.specs.declared.steps.Step.{Step}
use Rattle.fluid_lane.specs.contracts.steps.Step as steps
use Rattle.fluid_doors.specs.declared.bench.Terms.{Terms}
use Rattle.fluid_doors.specs.contracts.bench.Terms as terms
use Rattle.fluid_doors.specs.Terms.{Doorway}
use Rattle.fluid_doors.specs.Passing.{APass}
use Rattle.fluid_opening.specs.declared.fault.DoorFault.{DoorFault}
use Rattle.fluid_opening.specs.contracts.fault.DoorFault as faults
use Rattle.fluid_opening.specs.contracts.shelf.ShelfStep as shelf_steps
use Rattle.fluid_service.specs.contracts.terms.ShelfTerms as shelf_terms
use Rattle.fluid_service.specs.Visiting.{Visiting, Enrolled}
use Rattle.fluid_service.specs.Shelved.{Shelved}
use Rattle.fluid_service.specs.Keys.{Serving}

-- the turn of a value with such entries
abbrev pub turning_code : {E F : Type 0} → Coded E → Coded F → Coded (Turning E F)
turning_code {E} {F} entry fixed =
    code_by (TableId × (List E × F)) (coded× table_id_coded (coded× (coded_list entry) fixed))
    (λ t. (t.id, (t.began, t.fixed))) (λ p. record { id = p.0; began = p.1.0; fixed = p.1.1 }) (λ _. refl)

abbrev pub numbered_code : {E : Type 0} → Coded E → Coded (Numbered E)
numbered_code {E} entry =
    code_by (Option ℕ × E) (coded× (coded_option coded_ℕ) entry) (λ n. (n.number, n.entry)) (λ p. record { number = p.0; entry = p.1 }) (λ _. refl)

abbrev pub document_code : Coded (Turning Step Terms)
document_code = turning_code steps.the_row.coded terms.the_row.coded

abbrev pub door_code : Coded Doorway
door_code =
    code_by (List ℕ × Turning Step Terms) (coded× (coded_list coded_ℕ) document_code) (λ d. (d.name, d.turn))
    (λ p. record { name = p.0; turn = p.1 }) (λ _. refl)

abbrev pub pass_code : Coded APass
pass_code =
    code_by (Turning Step Terms × (ℕ × (List (Numbered Step) × List Step)))
    (coded× document_code (coded× coded_ℕ (coded× (coded_list (numbered_code steps.the_row.coded)) (coded_list steps.the_row.coded))))
    (λ k. (k.turn, (k.number, (k.seen, k.mine))))
    (λ p. record { turn = p.0; number = p.1.0; seen = p.1.1.0; mine = p.1.1.1 })
    (λ _. refl)

abbrev pub visiting_code : Coded Visiting
visiting_code =
    code_by (Doorway × APass) (coded× door_code pass_code) (λ v. (v.door, v.pass)) (λ p. record { door = p.0; pass = p.1 }) (λ _. refl)

abbrev pub enrolled_code : Coded Enrolled
enrolled_code =
    code_by (List Visiting × ℕ) (coded× (coded_list visiting_code) coded_ℕ) (λ e. (e.visits, e.spare))
    (λ p. record { visits = p.0; spare = p.1 }) (λ _. refl)

abbrev pub shelved_code : Coded Shelved
shelved_code =
    code_by (Shelving × (List Visiting × (Limits × (ℕ × Option (List ℕ × DoorFault)))))
    (coded× shelving_code (coded× (coded_list visiting_code) (coded× limits.the_row.coded (coded× coded_ℕ (coded_option (coded× (coded_list coded_ℕ) faults.the_row.coded))))))
    (λ s. (s.shelving, (s.visits, (s.limits, (s.failed, s.last)))))
    (λ p. record { shelving = p.0; visits = p.1.0; limits = p.1.1.0; failed = p.1.1.1.0; last = p.1.1.1.1 })
    (λ _. refl)

abbrev pub serving_code : Coded Serving
serving_code = turning_code shelf_steps.the_row.coded shelf_terms.the_row.coded
