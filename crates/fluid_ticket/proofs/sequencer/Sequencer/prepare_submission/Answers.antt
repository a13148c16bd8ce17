use Rattle.std.proofs.Common.{sym, ◌∙◌}
use Rattle.fluid_ticket.proofs.Prepares.{answered_by, submit_dropped}
use Rattle.fluid_ticket.proofs.sequencer.Sequencer.prepare_submission.Goals as goal

pub returns-in-Duplicate : goal.returns-in-Duplicate
returns-in-Duplicate c = λ answer.
    answered_by c.dropped.result _ _ c.dropped.ensures (sym (submit_dropped _ c.args.id.now c.args.moment c.args.submission.now answer (sym c.in-Duplicate.ensures)))
