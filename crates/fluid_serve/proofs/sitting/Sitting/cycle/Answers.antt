use Rattle.std.proofs.Common.{ap, ◌∙◌}
use Rattle.fluid_serve.specs.Sittings.{Sat}
use Rattle.fluid_serve.proofs.Sat.{goes_on, is_session}
use Rattle.fluid_serve.proofs.sitting.Sitting.cycle.Goals as goal

pub invariant_of-self : goal.invariant_of-self
invariant_of-self g c =
    let s : Sat = record { hosting = c.self.inside.hosted; wire = c.self.inside.wire; counts = c.self.inside.counts; key = c.self.inside.key.value; first = c.self.inside.first.value } in
    goes_on s c.cycle-report.new.self c.counts-self-inside.result c.behind-store.result c.cycle-report.new.objects c.cycle-report.new.wire c.self.invariant (ap (λ (a : Sat). a.hosting.is_over) c.self.view_is ∙ c.requires)
    c.cycle-report.ensures.service c.behind-store.ensures c.counts-self-inside.ensures c.cycle-report.result c.cycle-report.ensures.over c.cycle-report.ensures.session

pub returns-clause-session : goal.returns-clause-session
returns-clause-session g c =
    let s : Sat = record { hosting = c.self.inside.hosted; wire = c.self.inside.wire; counts = c.self.inside.counts; key = c.self.inside.key.value; first = c.self.inside.first.value } in
    is_session s c.cycle-report.new.self c.counts-self-inside.result c.behind-store.result c.cycle-report.new.objects c.cycle-report.new.wire c.self.invariant (ap (λ (a : Sat). a.hosting.is_over) c.self.view_is ∙ c.requires)
    c.cycle-report.ensures.service c.behind-store.ensures c.counts-self-inside.ensures c.cycle-report.result c.cycle-report.ensures.session
