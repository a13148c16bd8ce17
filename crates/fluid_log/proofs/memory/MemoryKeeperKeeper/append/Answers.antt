use Rattle.std.proofs.Common.{rules, ◌∙◌}
use Rattle.std.proofs.lemmas.Bool.{false≢true}
use Rattle.std.proofs.lemmas.Result.{err_from_is_err_and}
use Rattle.fluid_log.proofs.memory.MemoryKeeperKeeper.append.Goals.{then-not-fails-via-then-not-fails, then-not-fails-via-else-not-fails+then-adds}
use Rattle.fluid_log.proofs.memory.MemoryKeeperKeeper.append.Goals as goal

-- memory was wanted for a record that no plan kept away, or for one that was to be added all the same
pub returns-in_err-push-clause-fails : goal.returns-in_err-push-clause-fails
returns-in_err-push-clause-fails c =
    let e = err_from_is_err_and c.from_residual.result c.from_residual.ensures.1 in
    rw (← c.self.view_is, e.1, e.2, c.in_err-push.ensures.memory)
    (λ fails.
    elim c.then-not-fails.branch [
      | then-not-fails-via-then-not-fails w ↦ absurd (false≢true (w.if-not-fails.ensures.answer ∙ fails))
      | then-not-fails-via-else-not-fails+then-adds w ↦ search rules
    ])
