use Rattle.std.proofs.Common.{ap, ◌∙◌}
use Rattle.fluid_runtime.specs.App.{left}
use Rattle.fluid_runtime.proofs.Laid.{stands_on}
use Rattle.fluid_runtime.proofs.app.App.apply.Goals as goal

pub returns-clause-stands : goal.returns-clause-stands
returns-clause-stands c base messages edits stands =
    stands_on base messages c.args.message.now edits c.args.own c.args.self.now c.take_off.new.self
    (ap (λ a. a.channels) c.take_off.ensures ∙ c.in_ok-count.ensures.channels)
    (ap (λ a. a.pending) c.take_off.ensures ∙ ap (left c.args.own c.args.message.now) c.in_ok-count.ensures.pending) stands
