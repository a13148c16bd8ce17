use Rattle.std.proofs.Common.{refl}
use Rattle.std.proofs.lemmas.Result.{err_from_is_err_and}
use Rattle.fluid_words.specs.Words.{workload, workload_by}
use Rattle.fluid_words.proofs.Asked.{reads-exactly, reads-none}
use Rattle.fluid_words.proofs.read.read_workload.Goals as goal

pub returns-in_err-matches : goal.returns-in_err-matches
returns-in_err-matches c =
    let e = err_from_is_err_and c.from_residual-in_err-matches.result c.from_residual-in_err-matches.ensures.1 in
    rw (e.1, e.2) (reads-none workload_by workload _ _ (c.in_err-matches.ensures workload c.in_ok-workload.ensures refl refl))

pub returns : goal.returns
returns c = reads-exactly workload_by workload _ _ _ (c.in_ok-matches.ensures workload c.in_ok-workload.ensures refl refl) c.workload_by.ensures
