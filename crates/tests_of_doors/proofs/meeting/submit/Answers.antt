use Rattle.std.proofs.Common.{[], ◌∷◌, ◌++◌, ap, ◌∙◌}
use Rattle.fluid_types.specs.Ledger.{raws}
use Rattle.fluid_lane.specs.Steps.{ledger}
use Rattle.tests_of_doors.proofs.Both.{one_more}
use Rattle.tests_of_doors.proofs.meeting.submit.Goals as goal

pub returns : goal.returns
returns g c = record {
  turn = c.submit-pass.ensures.turn;
  number = c.submit-pass.ensures.number;
  mine = one_more _ _ _ _ _ c.submit-pass.ensures.mine c.in-Ok-Sequenced.is ∙ ap (λ raw. raws (ledger c.args.pass.mine) ++ raw ∷ []) c.into_raw.ensures.is;
}
