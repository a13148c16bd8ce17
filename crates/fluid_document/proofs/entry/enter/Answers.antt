use Rattle.std.proofs.Common.{is_some, Ok, Err, ap, ◌∙◌}
use Rattle.fluid_core.specs.Entering.{verdict_in}
use Rattle.fluid_document.specs.declared.fault.EnterFault.TheVariants.{NoMemory}
use Rattle.fluid_document.proofs.Levels.{verdict_prepared}
use Rattle.fluid_document.proofs.Entering.{whole_some, enters_by, enters_nowhere, all_of, given_back}
use Rattle.fluid_document.proofs.Handed.{handed_on}
use Rattle.fluid_document.proofs.entry.enter.Goals as goal

pub returns-in_err-record-clause-enters : goal.returns-in_err-record-clause-enters
returns-in_err-record-clause-enters g c =
    let none = c.in_err-record.ensures in
    rw (handed_on c.from_residual.result _ c.from_residual.ensures.1)
    (enters_nowhere c.args.raw.now _ _ c.args.document.now c.prepared.new.document c.in_err-record.field-0.0 none.later none.reads none.cause none.entries none.room none.reached none.lacked none.stands)

pub returns-in_err-copy-clause-enters : goal.returns-in_err-copy-clause-enters
returns-in_err-copy-clause-enters g c =
    let done = c.in_ok-record.ensures in
    rw (handed_on c.from_residual-in_err-copy.result _ c.from_residual-in_err-copy.ensures.1)
    (enters_nowhere c.args.raw.now _ _ c.args.document.now c.prepared.new.document NoMemory done.later done.reads tt done.entries (whole_some _ _ _ done.room) done.reached done.lacked done.stands)

pub returns-in_err-left-clause-enters : goal.returns-in_err-left-clause-enters
returns-in_err-left-clause-enters g c =
    let done = c.in_ok-record.ensures in
    let finish = c.in_err-left.ensures in
    rw (handed_on c.from_residual-in_err-left.result _ c.from_residual-in_err-left.ensures.1)
    (enters_by c.args.raw.now c.as_str.result.now _ (g.K.Keeper.seen c.prepared.new.keeper) _ c.args.document.now c.prepared.new.document c.finish.new.document (Err c.in_err-left.field-0.0) (c.as_str.ensures ∙ done.record)
    (record { later = done.later; reads = done.reads; entries = done.entries; room = done.room; reached = done.reached; stands = done.stands; early = done.early; lacked = done.lacked })
    finish.later finish.reads finish.cause finish.log (finish.does c.args.raw.now done.ready))

pub returns-clause-enters : goal.returns-clause-enters
returns-clause-enters g c =
    let done = c.in_ok-record.ensures in
    let finish = c.in_ok-left.ensures in
    enters_by c.args.raw.now c.as_str.result.now _ (g.K.Keeper.seen c.prepared.new.keeper) _ c.args.document.now c.prepared.new.document c.finish.new.document (Ok c.either.result) (c.as_str.ensures ∙ done.record)
    (record { later = done.later; reads = done.reads; entries = done.entries; room = done.room; reached = done.reached; stands = done.stands; early = done.early; lacked = done.lacked })
    finish.later finish.reads finish.cause finish.log (finish.does c.args.raw.now done.ready)

pub either-requires : goal.either-requires
either-requires g c = ap is_some (all_of _ _ _ c.in_ok-copy.ensures c.in_ok-left.ensures.left)

pub returns-clause-said : goal.returns-clause-said
returns-clause-said g c =
    let done = c.in_ok-record.ensures in
    let raw = c.args.raw.now in
    given_back _ _ _ _ c.in_ok-copy.ensures c.in_ok-left.ensures.left c.either.ensures ∙ verdict_prepared _ raw _ done.ready.ready ∙ ap (λ e. verdict_in e.state raw) done.entries
