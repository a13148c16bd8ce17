use Rattle.std.proofs.Common.{sym, ◌∙◌, arith}
use Rattle.fluid_counter.proofs.Decimals.{equal}
use Rattle.fluid_counter.proofs.Contents.{read_whole}
use Rattle.fluid_counter.proofs.content.read.Goals as goal

pub returns-clause-total : goal.returns-clause-total
returns-clause-total c =
    let same = sym (equal c.as_slice.result.now c.args.blob.now c.if-ne.ensures) ∙ c.as_slice.ensures ∙ c.in_ok-written.ensures.content in
    read_whole c.args.blob.now _ same (omega (arith, c.unsigned_abs.ensures.value, c.if-unsigned_abs-gt-GREATEST_TOTAL.false))
