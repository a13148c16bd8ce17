use Rattle.std.proofs.Common.{refl, ap, ◌∙◌}
use Rattle.std.proofs.lemmas.Result.{err_from_is_err_and}
use Rattle.fluid_transcript.specs.Lines.{turned_away_line}
use Rattle.fluid_roamers.proofs.stepping.refused.Goals as goal

pub returns-in_err-line : goal.returns-in_err-line
returns-in_err-line c = let e = err_from_is_err_and c.from_residual.result c.from_residual.ensures.1 in rw (e.1, e.2) (c.in_err-line.ensures _ c.turned_away_line.ensures)

pub returns : goal.returns
returns c = (c.in_ok-line.ensures _ c.turned_away_line.ensures ∙ ap (λ n. turned_away_line n c.args.refusal) c.as_str.ensures.bytes, refl)
