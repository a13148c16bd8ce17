use Rattle.std.proofs.Common.{Ok, Err, ◌∙◌}
use Rattle.fluid_document.proofs.Entering.{enters_by, enters_nowhere}
use Rattle.fluid_document.proofs.Handed.{handed_on}
use Rattle.fluid_document.proofs.entry.take_in.Goals as goal

pub returns-in_err-record : goal.returns-in_err-record
returns-in_err-record g c =
    let none = c.in_err-record.ensures in
    rw (handed_on c.from_residual.result _ c.from_residual.ensures.1)
    (enters_nowhere c.args.raw.now _ _ c.args.document.now c.prepared.new.document c.in_err-record.field-0.0 none.later none.reads none.cause none.entries none.room none.reached none.lacked none.stands)

pub returns-in_err-finish : goal.returns-in_err-finish
returns-in_err-finish g c =
    let done = c.in_ok-record.ensures in
    let finish = c.in_err-finish.ensures in
    rw (handed_on c.from_residual-in_err-finish.result _ c.from_residual-in_err-finish.ensures.1)
    (enters_by c.args.raw.now c.as_str.result.now _ (g.K.Keeper.seen c.prepared.new.keeper) _ c.args.document.now c.prepared.new.document c.finish.new.document (Err c.in_err-finish.field-0.0) (c.as_str.ensures ∙ done.record)
    (record { later = done.later; reads = done.reads; entries = done.entries; room = done.room; reached = done.reached; stands = done.stands; early = done.early; lacked = done.lacked })
    finish.later finish.reads finish.cause finish.log (finish.does c.args.raw.now done.ready))

pub returns : goal.returns
returns g c =
    let done = c.in_ok-record.ensures in
    let finish = c.in_ok-finish.ensures in
    enters_by c.args.raw.now c.as_str.result.now _ (g.K.Keeper.seen c.prepared.new.keeper) _ c.args.document.now c.prepared.new.document c.finish.new.document (Ok tt) (c.as_str.ensures ∙ done.record)
    (record { later = done.later; reads = done.reads; entries = done.entries; room = done.room; reached = done.reached; stands = done.stands; early = done.early; lacked = done.lacked })
    finish.later finish.reads finish.cause finish.log (finish.does c.args.raw.now done.ready)
