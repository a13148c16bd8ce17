use Rattle.std.proofs.Common.{refl}
use Rattle.std.proofs.lemmas.Result.{err_from_is_err_and}
use Rattle.fluid_words.specs.Words.{load, load_by}
use Rattle.fluid_words.proofs.Asked.{reads, reads-none}
use Rattle.fluid_words.proofs.read.read_load.Goals as goal

pub returns-in_err-matches : goal.returns-in_err-matches
returns-in_err-matches c =
    let e = err_from_is_err_and c.from_residual-in_err-matches.result c.from_residual-in_err-matches.ensures.1 in
    rw (e.1, e.2) (reads-none load_by load _ _ (c.in_err-matches.ensures load c.in_ok-load.ensures refl refl))

pub returns : goal.returns
returns c = reads load_by load _ _ _ (c.in_ok-matches.ensures load c.in_ok-load.ensures refl refl) c.load_by.ensures
