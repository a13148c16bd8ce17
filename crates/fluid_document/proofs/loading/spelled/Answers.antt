use Rattle.std.proofs.Common.{rules}
use Rattle.fluid_document.proofs.Records.{short_spelled}
use Rattle.fluid_document.proofs.loading.spelled.Goals as goal

pub returns-in-Ok : goal.returns-in-Ok
returns-in-Ok c = short_spelled c.args.text.now c.in-Ok.raw c.if-text-le-SHORT_TEXT.true (search rules)
