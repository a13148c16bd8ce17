use Rattle.std.proofs.Common.{◌≡◌, true, ap, sym, subst}
use Rattle.fluid_transcript.specs.World.{document, is_open}
use Rattle.fluid_turns.specs.Figuring.{AreFigures}
use Rattle.fluid_load.proofs.working.Working.figures.Goals as goal

pub returns-clause-same : goal.returns-clause-same
returns-clause-same g c = rw (← c.self.view_is) (ap (λ lanes. record { lanes = lanes; store = c.self.inside.objects; names = c.self.inside.names.table.values; sent = c.self.inside.sent.table.values; tally = c.self.inside.tally; good = c.self.inside.may.value }) c.figures_of.ensures.same)

pub returns-clause-are : goal.returns-clause-are
returns-clause-are g c = rw (← c.self.view_is) (λ w desk at opened.
    subst (λ n. AreFigures c.figures_of.result (document w n)) at (c.figures_of.ensures.are w desk (subst (λ n. is_open w n ≡ true) (sym at) opened)))
