use Rattle.std.proofs.Common.{sym, ap, ◌∙◌}
use Rattle.fluid_scribe.specs.Waiting.{least_low}
use Rattle.fluid_scribe.proofs.Lowest.{least-is}
use Rattle.fluid_scribe.proofs.waiting.Waiting.least.Goals as goal

pub returns-then-self : goal.returns-then-self
returns-then-self c =
    rw (← c.self.view_is)
    (c.least.ensures ∙ ap (least_low c.args.minimum) (c.self.invariant c.if-self.true).lows ∙ sym (least-is c.self.inside.queue.items c.args.minimum))
