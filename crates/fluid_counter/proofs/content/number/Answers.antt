use Rattle.std.proofs.Common.{sym, ap, subst, ◌∙◌, IsUtf8}
use Rattle.std.specs.Result.{result_ok}
use Rattle.fluid_counter.proofs.Decimals.{parsed, utf8}
use Rattle.fluid_counter.proofs.content.number.Goals as goal

pub returns-in_default : goal.returns-in_default
returns-in_default c total small is = absurd (c.in_default.ensures.cases.0 (subst IsUtf8 (sym is) (utf8 total small)))

pub returns : goal.returns
returns c total small is =
    c.ok.ensures.value ∙ ap result_ok (parsed total c.in-Ok.text.now c.parse.result small (c.in-Ok.ensures.cases.0 ∙ is) c.parse.ensures.value.0)
