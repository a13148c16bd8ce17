use Rattle.std.proofs.Common.{inr}
use Rattle.fluid_document.proofs.Progress.{decodes_outside, left_behind}
use Rattle.fluid_document.proofs.Handed.{handed_on}
use Rattle.fluid_document.proofs.loading.take_next.Goals as goal

pub returns-in_err-take_up-clause-takes : goal.returns-in_err-take_up-clause-takes
returns-in_err-take_up-clause-takes g c =
    let read = c.in_ok-raw.ensures in
    let took = c.in_err-take_up.ensures in
    rw (handed_on c.from_residual-in_err-take_up.result _ c.from_residual-in_err-take_up.ensures.1) (
      decodes_outside c.args.place _ c.in_err-take_up.field-0.0 took.outside,
      inr (left_behind c.args.place _ (g.K.Keeper.seen c.read_record.new.keeper) _ c.args.document.now c.take_up.new.document c.in_ok-raw.raw c.in_err-take_up.field-0.0 read.same read.decodes took.stands),
    )
