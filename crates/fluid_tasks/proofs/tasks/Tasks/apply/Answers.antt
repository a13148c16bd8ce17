use Rattle.std.proofs.Common.{◌+◌, ◌∙◌, sym, ap, subst, arith}
use Rattle.fluid_tasks.specs.Past.{past_of}
use Rattle.fluid_tasks.specs.Kept.{Stands}
use Rattle.fluid_tasks.proofs.Names.{when_err}
use Rattle.fluid_tasks.proofs.Calls.{past-push}
use Rattle.fluid_tasks.proofs.tasks.Tasks.apply.Goals as goal

pub returns-clause-applied : goal.returns-clause-applied
returns-clause-applied c = λ messages stands.
    let number = c.requires ∙ ap (λ n. n + 1) stands.heard in
    subst (Stands _) (sym (past-push messages c.args.message.now)) (record {
      numbered = (number, stands.numbered);
      heard = (let is = number in omega (arith, is));
      keeps = c.in_ok-take.ensures.behind (past_of messages) (number, stands.numbered) stands.keeps;
    })

pub returns-in_err-take-clause-unchanged : goal.returns-in_err-take-clause-unchanged
returns-in_err-take-clause-unchanged c = λ messages stands. when_err c.from_residual.result (record {
  numbered = stands.numbered;
  heard = c.take.ensures.heard ∙ stands.heard;
  keeps = c.in_err-take.ensures.still (past_of messages) (c.requires ∙ ap (λ n. n + 1) stands.heard, stands.numbered) stands.keeps;
})
