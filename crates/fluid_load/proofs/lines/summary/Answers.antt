use Rattle.std.proofs.Common.{sym, ◌∙◌}
use Rattle.fluid_workload.specs.Working.{p, q}
use Rattle.fluid_load.proofs.Summed.{summary_told, named_one}
use Rattle.fluid_load.proofs.lines.summary.Goals as goal

pub returns-clause-lines : goal.returns-clause-lines
returns-clause-lines g c = λ w goes.
    let named = named_one c.args.working.now c.figures-figures.new.self w c.figures-figures.ensures.same goes in
    summary_told c.args.working.now w c.figures-figures.result c.tally.result c.in_ok-one.one c.in_ok-other.other c.all_lines.result goes
    (c.figures-figures.ensures.are w.world goes.stands.stands.desk c.in_ok-document.ensures goes.open_is)
    (c.tally.ensures ∙ sym (named.tally))
    (named.state p c.in_ok-first_name.first_name c.in_ok-one.one c.in_ok-first_name.ensures c.in_ok-one.ensures)
    (named.state q c.in_ok-last_name.last_name c.in_ok-other.other c.in_ok-last_name.ensures c.in_ok-other.ensures)
    c.all_lines.ensures
