-- A container as a tuple of its parts.
use Rattle.std.specs.Prelude.{ℕ, List, Bool, Option, refl}
use Rattle.std.specs.Coded.{Coded, code_by, coded×, coded_ℕ, coded_bool, coded_list, coded_option}
use Rattle.fluid_table.specs.Table as table
use Rattle.fluid_types.specs.Quorum.{Quorum}
use Rattle.fluid_quorum.specs.Codes.{quorum_code}
use Rattle.fluid_edits.specs.declared.edit.Edit.{Edit}
use Rattle.fluid_edits.specs.Codes.{channels_code}
use Rattle.fluid_edits.specs.Replay.{Channels}
use Rattle.fluid_runtime.specs.Codes.{edit_code}
use Rattle.fluid_loader.specs.Container.{AContainer}

abbrev pub Parts : Type 0
Parts = Channels × (table.Values Bool × (List Edit × (Quorum × (ℕ × (ℕ × (Option (List ℕ) × Option (List ℕ)))))))

abbrev pub container_code : Coded AContainer
container_code =
    code_by Parts
    (coded× channels_code (coded× (table.values_code Bool coded_bool) (coded× (coded_list edit_code) (coded× quorum_code
    (coded× coded_ℕ (coded× coded_ℕ (coded× (coded_option (coded_list coded_ℕ)) (coded_option (coded_list coded_ℕ)))))))))
    (λ c. (c.channels, (c.changed, (c.pending, (c.quorum, (c.number, (c.last, (c.head, c.base))))))))
    (λ p. record { channels = p.0; changed = p.1.0; pending = p.1.1.0; quorum = p.1.1.1.0; number = p.1.1.1.1.0; last = p.1.1.1.1.1.0; head = p.1.1.1.1.1.1.0; base = p.1.1.1.1.1.1.1 })
    (λ _. refl)
