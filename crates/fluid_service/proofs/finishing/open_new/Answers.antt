use Rattle.std.proofs.Common.{sym, ◌∙◌}
use Rattle.fluid_turn.specs.Entries.{entries}
use Rattle.fluid_opening.specs.Steps.{refusal}
use Rattle.fluid_service.specs.Shelved.{terms_of}
use Rattle.fluid_service.proofs.Standings.{has_room}
use Rattle.fluid_service.proofs.Passages.{refused_steps, refused_new, no_memory_steps}
use Rattle.fluid_service.proofs.finishing.open_new.Goals as goal

pub returns-in-Some-clause-key : goal.returns-in-Some-clause-key
returns-in-Some-clause-key g c =
    c.close.ensures.key ∙ refused_steps (terms_of c.args.held.value) c.args.name.now (refusal (entries c.args.held.place.list)) c.in-Some.fault c.args.held.place.seat (sym c.in-Some.is ∙ c.refusal.ensures (entries c.args.held.place.list) c.requires.stands)

pub returns-in-Some-clause-answer : goal.returns-in-Some-clause-answer
returns-in-Some-clause-answer g c =
    refused_new (terms_of c.args.held.value) c.args.name.now (refusal (entries c.args.held.place.list)) c.in-Some.fault (sym c.in-Some.is ∙ c.refusal.ensures (entries c.args.held.place.list) c.requires.stands)

pub open-answer-requires-clause-few : goal.open-answer-requires-clause-few
open-answer-requires-clause-few g c =
    (has_room c.args.held.value (entries c.args.held.place.list) c.requires.stands (sym (c.refusal.ensures (entries c.args.held.place.list) c.requires.stands) ∙ c.in-None.is)).1

pub close_opened-requires-clause-stands : goal.close_opened-requires-clause-stands
close_opened-requires-clause-stands g c =
    rw c.in-Ok.ensures (c.open-answer.ensures.goes.list (entries c.args.held.place.list) c.requires.stands)

pub returns-in-Err-clause-key : goal.returns-in-Err-clause-key
returns-in-Err-clause-key g c =
    c.close-in-Err.ensures.key ∙ no_memory_steps (terms_of c.args.held.value) c.args.name.now (refusal (entries c.args.held.place.list)) c.args.held.place.seat (sym c.in-None.is ∙ c.refusal.ensures (entries c.args.held.place.list) c.requires.stands)
