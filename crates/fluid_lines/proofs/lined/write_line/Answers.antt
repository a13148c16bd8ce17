use Rattle.std.proofs.Common.{[], ◌∷◌, ◌∙◌}
use Rattle.fluid_io.proofs.Options.{appends_both}
use Rattle.fluid_lines.proofs.Parts.{prefix_of_first, prefix_of_second, failed_write, flushed_write}
use Rattle.fluid_lines.proofs.lined.write_line.Goals as goal

pub returns-in_err-write_all-clause-does : goal.returns-in_err-write_all-clause-does
returns-in_err-write_all-clause-does g c =
    failed_write _ (g.K.Sink.seen c.args.sink.now) (g.K.Sink.seen c.write_all.new.sink) _ c.from_residual.ensures.0 (prefix_of_first c.args.text.now (10 ∷ []) _ _ c.in_err-write_all.ensures.does)

pub returns-in_err-write_all-2-clause-does : goal.returns-in_err-write_all-2-clause-does
returns-in_err-write_all-2-clause-does g c =
    failed_write _ (g.K.Sink.seen c.args.sink.now) (g.K.Sink.seen c.write_all-2.new.sink) _ c.from_residual-in_err-write_all-2.ensures.0
    (prefix_of_second c.args.text.now (10 ∷ []) _ _ _ c.in_ok-write_all.ensures.does c.in_err-write_all-2.ensures.does)

pub returns-clause-does : goal.returns-clause-does
returns-clause-does g c =
    flushed_write _ (g.K.Sink.seen c.args.sink.now) (g.K.Sink.seen c.flush.new.self) _
    (c.flush.ensures.same ∙ appends_both c.args.text.now (10 ∷ []) _ _ _ c.in_ok-write_all.ensures.does c.in_ok-write_all-2.ensures.does)
