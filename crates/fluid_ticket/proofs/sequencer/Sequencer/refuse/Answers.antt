use Rattle.std.proofs.Common.{sym, arith}
use Rattle.fluid_ticket.proofs.Sound.{minimum-le-sequence}
use Rattle.fluid_ticket.proofs.Prepares.{submit_refused}
use Rattle.fluid_ticket.proofs.sequencer.Sequencer.refuse.Goals as goal

pub nack-refusal-requires : goal.nack-refusal-requires
nack-refusal-requires c =
    let small = minimum-le-sequence _ c.self.invariant.sound in
    omega (arith, c.self.invariant.is_minimum, small, c.self.invariant.sound.few)

pub returns : goal.returns
returns c = λ answer.
    let outcome = rw (← c.self.view_is) at c.requires in
    rw (← c.self.view_is, c.new.ensures, c.nack-refusal.ensures, c.in_ok-operation.ensures, c.in_ok-change.ensures, c.self.invariant.is_minimum)
    (sym (submit_refused _ c.args.id.now c.args.moment c.args.submission.now answer c.args.rule outcome))
