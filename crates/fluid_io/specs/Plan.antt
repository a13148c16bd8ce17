-- The plan by which an object in memory fails.
use Rattle.std.specs.Prelude.{ℕ, ◌==◌, Bool, List, if◌then◌else◌, refl}
use Rattle.std.specs.Coded.{Coded, code_by, coded×, coded_ℕ, coded_list}
use Rattle.std.specs.List.{list_any}
use Rattle.fluid_io.specs.Causes.{one_more}

-- the calls that are to fail, how many were made, and how many faults were counted
pub record Planned : Type 0 where
  pub failing : List ℕ
  pub calls : ℕ
  pub faults : ℕ

-- a plan as the tuple of its parts
abbrev pub plan_code : Coded Planned
plan_code =
    code_by (List ℕ × (ℕ × ℕ)) (coded× (coded_list coded_ℕ) (coded× coded_ℕ coded_ℕ)) (λ p. (p.failing, (p.calls, p.faults)))
    (λ parts. record { failing = parts.0; calls = parts.1.0; faults = parts.1.1 }) (λ _. refl)

-- whether the next call is one of those that are to fail; the first call has number 1
abbrev pub next_fails : Planned → Bool
next_fails p = list_any (λ number. number == one_more p.calls) p.failing

-- one more call was made
abbrev pub called : Planned → Planned
called p = record p { calls = one_more p.calls }

-- one more fault was counted
abbrev pub faulted : Planned → Planned
faulted p = record p { faults = one_more p.faults }

-- the next call was made, and its fault counted where it is to fail
abbrev pub called_by_plan : Planned → Planned
called_by_plan p = if next_fails p then faulted (called p) else called p
