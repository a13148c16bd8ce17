use Rattle.std.proofs.Common.{[], unwrap_or, ap, ◌∙◌}
use Rattle.fluid_io.proofs.Answered.{finished_answer, finished_line}
use Rattle.fluid_io.proofs.lines.Lines.read_next.Goals as goal

pub returns-clause-answer : goal.returns-clause-answer
returns-clause-answer g c =
    finished_answer _ _ _ _ _ _ _ _ _ c.self.view_is
    (c.in_ok-chunk.ensures.held ∙ ap (λ o. unwrap_or o []) c.take.ensures.value)
    c.requires c.in_ok-ending.ensures.plain c.in_ok-ending.ensures.does c.finish.ensures

pub returns-clause-line : goal.returns-clause-line
returns-clause-line g c =
    finished_line _ _ (g.S.Source.seen c.args.source.now)
    (record { held = c.take_line-ending.new.self; count = c.self.inside.count; failed = c.self.inside.failed; limit = c.self.inside.limit })
    (g.S.Source.seen c.take_line-ending.new.source) _ _ _ _ c.self.view_is
    (c.in_ok-chunk.ensures.held ∙ ap (λ o. unwrap_or o []) c.take.ensures.value)
    c.in_ok-ending.ensures.plain c.in_ok-ending.ensures.does c.finish.ensures
