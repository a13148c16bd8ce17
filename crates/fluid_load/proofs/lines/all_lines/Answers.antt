use Rattle.fluid_load.proofs.Summed.{seven_lines}
use Rattle.fluid_load.proofs.lines.all_lines.Goals as goal

pub returns : goal.returns
returns c =
    seven_lines c.args.figures c.args.tally c.args.first.now c.args.last.now c.none.result c.in_ok-messages.messages c.in_ok-dropped.dropped c.in_ok-absorbed.absorbed c.in_ok-nacked.nacked c.in_ok-summaries.summaries c.in_ok-state.state c.with_sameness.result
    c.count_dropped.result c.none.ensures c.in_ok-messages.ensures c.count_dropped.ensures c.in_ok-dropped.ensures c.in_ok-absorbed.ensures c.in_ok-nacked.ensures c.in_ok-summaries.ensures c.in_ok-state.ensures c.with_sameness.ensures
