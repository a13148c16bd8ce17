use Rattle.std.proofs.Common.{◌∙◌, sym, ap, Some, option_map}
use Rattle.fluid_world.specs.Ending.{end_for}
use Rattle.fluid_world.specs.Taking.{Scripting}
use Rattle.fluid_world.proofs.running.halt.Goals as goal

pub returns-clause-same : goal.returns-clause-same
returns-clause-same g c = (ap (λ (s : Scripting). s.lanes) c.take_stop.ensures.rest, ap (λ (s : Scripting). s.store) c.take_stop.ensures.rest)

pub returns-clause-end : goal.returns-clause-end
returns-clause-end g c = ap (option_map end_for) (sym c.take_stop.ensures.stop ∙ c.in-Some.is) ∙ ap Some (sym c.end_for.ensures)
