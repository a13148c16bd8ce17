use Rattle.std.proofs.Common.{rules, sym, ◌∙◌, subst}
use Rattle.std.proofs.lemmas.List.{nil_from_length}
use Rattle.tests_of_doors.specs.Meeting.{HasEntered}
use Rattle.tests_of_doors.proofs.Both.{none_entered, one_then}
use Rattle.tests_of_doors.proofs.meeting.submit_all.Goals as goal

pub loop-operation-init : goal.loop-operation-init
loop-operation-init g c = record {
  len = search rules;
  turn = c.requires;
  all = λ q h. subst (λ os. HasEntered os c.args.pass q) c.into_iter-operation-iterator.ensures.into_iter_gives.0 h;
}

pub submit-pass-requires : goal.submit-pass-requires
submit-pass-requires g c = c.loop-operation.invariant.turn

pub loop-operation-preserved : goal.loop-operation-preserved
loop-operation-preserved g c = record {
  len = search rules;
  turn = c.submit-pass.ensures.turn ∙ c.loop-operation.invariant.turn;
  all = λ q h. c.loop-operation.invariant.all q (subst (λ os. HasEntered os c.loop-operation.pass q) (sym c.in-Some.ensures.steps.0) (one_then _ _ _ _ _ c.submit-pass.ensures h));
}

pub returns : goal.returns
returns g c =
    c.loop-operation.invariant.all _ (subst (λ os. HasEntered os c.loop-operation.pass c.loop-operation.pass) (sym (nil_from_length _ (sym c.loop-operation.invariant.len ∙ c.in-None.ensures.steps.0))) (none_entered _))
