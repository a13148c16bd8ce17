-- A door as a tuple of its parts, for the proofs that tell values apart.
use Rattle.std.specs.Prelude.{ℕ, List, refl}
use Rattle.std.specs.Coded.{Coded, code_by, coded×, coded_ℕ, coded_list}
use Rattle.atomic_table.specs.Seated.{TableId, table_id_coded}
use Rattle.fluid_lane.specs.declared.steps.Step.{Step}
use Rattle.fluid_lane.specs.contracts.steps.Step as steps
use Rattle.fluid_doors.specs.declared.bench.Terms.{Terms}
use Rattle.fluid_doors.specs.contracts.bench.Terms as terms
use Rattle.fluid_doors.specs.Terms.{Doorway}

abbrev pub doorway_code : Coded Doorway
doorway_code =
    code_by (List ℕ × (TableId × (List Step × Terms))) (coded× (coded_list coded_ℕ) (coded× table_id_coded (coded× (coded_list steps.the_row.coded) terms.the_row.coded)))
    (λ d. (d.name, (d.turn.id, (d.turn.began, d.turn.fixed))))
    (λ p. record { name = p.0; turn = record { id = p.1.0; began = p.1.1.0; fixed = p.1.1.1 } })
    (λ _. refl)
