use Rattle.fluid_hosting.proofs.Cycled.{comes_further}
use Rattle.fluid_hosting.proofs.hosted.Hosted.cycle.Goals as goal

pub returns-clause-session : goal.returns-clause-session
returns-clause-session g c =
    rw (← c.self.view_is)
    (λ key visit before old come.
    comes_further key visit before (g.O.Objects.seen c.args.objects.now) (g.O.Objects.seen c.cycle_once-report.new.objects) old (g.W.Wire.seen c.args.wire.now) (g.W.Wire.seen c.cycle_once-report.new.wire)
    c.self.inside.talk c.cycle_once-report.new.talk c.self.inside.tally c.cycle_once-report.new.tally c.cycle_once-report.result come c.cycle_once-report.ensures.does)
