use Rattle.std.proofs.Common.{◌≡◌, ◌-◌, rules}
use Rattle.fluid_scribe.proofs.Walked.{take-way}
use Rattle.fluid_scribe.proofs.tail.take.Goals as goal

pub returns-clause-way : goal.returns-clause-way
returns-clause-way c =
    let number : c.saturating_sub.result ≡ c.args.message.now.number - 1 = search rules in
    rw (← number) (take-way c.take_next.result _ _ _ _ _ _ c.take_next.ensures.unchanged c.in_ok-reach.ensures.done.quorum c.in_ok-reach.ensures.done.left)
