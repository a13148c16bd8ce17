use Rattle.std.proofs.Common.{refl}
use Rattle.std.proofs.lemmas.Result.{err_from_is_err_and}
use Rattle.clap.specs.Walk.{texts}
use Rattle.fluid_words.specs.Words.{script, sequence}
use Rattle.fluid_words.specs.declared.command.Command.TheVariants.{Script, Sequence}
use Rattle.fluid_words.proofs.Asked.{asks, asks-none}
use Rattle.fluid_words.proofs.read.read_command.Goals as goal

pub returns-in_err-find_none-in-Sequence : goal.returns-in_err-find_none-in-Sequence
returns-in_err-find_none-in-Sequence c =
    let e = err_from_is_err_and c.from_residual.result c.from_residual.ensures.1 in
    rw (e.1, e.2, c.in-Sequence.is)
    (asks-none Sequence sequence (texts c.args.words.now) _ (c.in_err-find_none-in-Sequence.ensures sequence c.command.ensures refl refl))

pub returns-in_err-find_none-in-Script : goal.returns-in_err-find_none-in-Script
returns-in_err-find_none-in-Script c =
    let e = err_from_is_err_and c.from_residual-in_err-find_none-in-Script.result c.from_residual-in_err-find_none-in-Script.ensures.1 in
    rw (e.1, e.2, c.in-Script.is)
    (asks-none Script script (texts c.args.words.now) _ (c.in_err-find_none-in-Script.ensures script c.command-in-Script.ensures refl refl))

pub returns-in_ok-find_none-in-Sequence : goal.returns-in_ok-find_none-in-Sequence
returns-in_ok-find_none-in-Sequence c =
    rw c.in-Sequence.is (asks Sequence sequence (texts c.args.words.now) (c.in_ok-find_none-in-Sequence.ensures sequence c.command.ensures refl refl))

pub returns-in_ok-find_none-in-Script : goal.returns-in_ok-find_none-in-Script
returns-in_ok-find_none-in-Script c =
    rw c.in-Script.is (asks Script script (texts c.args.words.now) (c.in_ok-find_none-in-Script.ensures script c.command-in-Script.ensures refl refl))
