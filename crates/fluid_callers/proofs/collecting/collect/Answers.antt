use Rattle.std.proofs.Common.{ap, sym, ◌∙◌, Some}
use Rattle.fluid_transcript.specs.World.{connection}
use Rattle.fluid_callers.proofs.collecting.collect.Goals as goal

pub returns-in-Ok-clause-does : goal.returns-in-Ok-clause-does
returns-in-Ok-clause-does g c = λ w desk sound is at.
    let has = c.in-Ok.ensures.does w desk sound is at in
    record { stands = has.stands; name = has.name ∙ ap (λ v. Some (connection v)) (sym c.advance.ensures); says = has.says }

pub returns-in-Err-clause-does : goal.returns-in-Err-clause-does
returns-in-Err-clause-does g c = λ w desk sound is at. c.in-Err.ensures.does w desk sound is at
