-- What is known of a store as a tuple of its parts, for the proofs that tell values apart.
use Rattle.std.specs.Prelude.{ℕ, Option, refl}
use Rattle.std.specs.Coded.{Coded, code_by, coded×, coded_ℕ, coded_option}
use Rattle.fluid_store.specs.Held.{Held}
use Rattle.fluid_store.specs.Memory.{held_code}
use Rattle.fluid_store.specs.Storing.{Storing}

abbrev pub storing_code : Coded Storing
storing_code =
    code_by (Option Held × (ℕ × ℕ)) (coded× (coded_option held_code) (coded× coded_ℕ coded_ℕ)) (λ s. (s.content, (s.faults, s.gets)))
    (λ p. record { content = p.0; faults = p.1.0; gets = p.1.1 }) (λ _. refl)
