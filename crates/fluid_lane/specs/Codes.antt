-- A lane's standing as a tuple of its parts, for the proofs that tell values apart.
use Rattle.std.specs.Prelude.{ℕ, Bool, Option, refl}
use Rattle.std.specs.Coded.{Coded, code_by, coded×, coded_ℕ, coded_bool, coded_option}
use Rattle.fluid_log.specs.Keeping.{Keeping}
use Rattle.fluid_log.specs.Codes.{keeping_code}
use Rattle.fluid_deltas.specs.Pushed.{Pushed, pushed_code}
use Rattle.fluid_document.specs.Entries.{Entries, entries_code}
use Rattle.fluid_rules.specs.declared.limits.Limits.{Limits}
use Rattle.fluid_rules.specs.contracts.limits.Limits as limits
use Rattle.fluid_lane.specs.declared.steps.Side.{Side}
use Rattle.fluid_lane.specs.contracts.steps.Side as sides
use Rattle.fluid_lane.specs.Standing.{Standing}

abbrev pub standing_code : Coded Standing
standing_code =
    code_by (Keeping × (Entries × (Pushed × (Limits × (ℕ × (ℕ × (Option Side × Bool)))))))
    (coded× keeping_code (coded× entries_code (coded× pushed_code (coded× limits.the_row.coded (coded× coded_ℕ (coded× coded_ℕ (coded× (coded_option sides.the_row.coded) coded_bool)))))))
    (λ s. (s.keeping, (s.entries, (s.messages, (s.limits, (s.opened, (s.sides, (s.last, s.owed))))))))
    (λ p. record { keeping = p.0; entries = p.1.0; messages = p.1.1.0; limits = p.1.1.1.0; opened = p.1.1.1.1.0; sides = p.1.1.1.1.1.0; last = p.1.1.1.1.1.1.0; owed = p.1.1.1.1.1.1.1 })
    (λ _. refl)
