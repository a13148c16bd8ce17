use Rattle.std.proofs.Common.{sym, ◌∙◌}
use Rattle.fluid_transcript.specs.World.{document}
use Rattle.fluid_desk.proofs.Doing.{lane_of_desk, left_same}
use Rattle.fluid_turns.proofs.Figured.{never_shut, are_figures}
use Rattle.fluid_turns.proofs.figures.figures_of.Goals as goal

pub returns-then-not-is_open-clause-are : goal.returns-then-not-is_open-clause-are
returns-then-not-is_open-clause-are g c = λ w desk opened. never_shut _ c.args.lanes.now w c.args.name.now desk opened (sym c.is_open.ensures ∙ c.if-not-is_open.true)

pub returns-clause-are : goal.returns-clause-are
returns-clause-are g c = λ w desk opened.
    are_figures c.args.lanes.now.limits c.lent.result.now (document w c.args.name.now) (lane_of_desk c.args.lanes.now w c.args.name.now c.lent.result.now desk c.lent.ensures.value).1 c.figures_on.result c.figures_on.ensures.reads

pub returns-clause-same : goal.returns-clause-same
returns-clause-same g c = left_same c.args.lanes.now c.args.name.now c.lent.result.now c.lent.ensures.value
