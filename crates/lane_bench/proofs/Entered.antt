-- A lane that entered an entry has one more.
use Rattle.std.proofs.Common.{◌≡◌, ◌+◌, List, length, Result, Ok, Err, IfOk, ap, ◌∙◌}
use Rattle.std.specs.Prelude.{is_err}
use Rattle.fluid_lane.specs.declared.fault.LaneFault.{LaneFault}
use Rattle.fluid_lane.specs.declared.steps.Step.{Step}
use Rattle.fluid_lane.specs.Steps.{ledger, steps_of}
use Rattle.fluid_lane.specs.Standing.{Standing, Goes}

pub entered_one : {A B F : Type 0} (old new : Standing) (says : A → List Step) (lane : Result A LaneFault) (answer : Result B F) → is_err answer ≡ is_err lane → ((a : A) → length (ledger (says a)) ≡ 1) → Goes old new (steps_of says lane)
    → IfOk answer (λ b. new.entries.entered ≡ old.entries.entered + 1)
entered_one old new says (Ok a) (Ok b) same one goes = goes.entered ∙ ap (λ n. old.entries.entered + n) (one a)
entered_one old new says (Err fault) (Ok b) same one goes = absurd (cc)
entered_one old new says lane (Err f) same one goes = tt
