use Rattle.std.proofs.Common.{Err, subst}
use Rattle.std.proofs.lemmas.Result.{err_from_is_err_and}
use Rattle.fluid_opening.specs.declared.fault.DoorFault.TheVariants.{ShelfFailed, Lane}
use Rattle.fluid_service.specs.Opening.{FailsToStart, KeepsRest, StartsVisit}
use Rattle.fluid_service.proofs.Standings.{rest_continues, opens_continues, fails_continues, opens_visit}
use Rattle.fluid_service.proofs.Answering.{lost_continues}
use Rattle.fluid_service.proofs.shelf.Shelf.open.Goals as goal

pub returns-in_err-keep-in-Err-ShelfFailed-clause-goes : goal.returns-in_err-keep-in-Err-ShelfFailed-clause-goes
returns-in_err-keep-in-Err-ShelfFailed-clause-goes g c =
    let e = err_from_is_err_and c.from_residual.result c.from_residual.ensures.1 in
    let fails : FailsToStart c.args.name.now c.args.moment c.args.self.now c.start.new.self (ShelfFailed c.in-Err-ShelfFailed.note) = subst (λ f. StartsVisit c.args.name.now c.args.moment c.args.self.now c.start.new.self (Err f)) c.in-Err-ShelfFailed.field-0-is c.in-Err-ShelfFailed.ensures.starts in
    rw (e.1, e.2) (lost_continues c.args.name.now c.args.moment (ShelfFailed c.in-Err-ShelfFailed.note) c.args.self.now c.start.new.self c.keep.new.self fails c.start.ensures.goes c.in_err-keep-in-Err-ShelfFailed.ensures.same)

pub returns-in_ok-keep-in-Err-ShelfFailed-clause-goes : goal.returns-in_ok-keep-in-Err-ShelfFailed-clause-goes
returns-in_ok-keep-in-Err-ShelfFailed-clause-goes g c =
    let fails : FailsToStart c.args.name.now c.args.moment c.args.self.now c.start.new.self (ShelfFailed c.in-Err-ShelfFailed.note) = subst (λ f. StartsVisit c.args.name.now c.args.moment c.args.self.now c.start.new.self (Err f)) c.in-Err-ShelfFailed.field-0-is c.in-Err-ShelfFailed.ensures.starts in
    fails_continues c.args.name.now c.args.moment (ShelfFailed c.in-Err-ShelfFailed.note) c.args.self.now c.start.new.self c.keep.new.self c.start.ensures.goes fails c.in_ok-keep-in-Err-ShelfFailed.ensures.kept

pub returns-in_err-keep-in-Err-Lane-clause-goes : goal.returns-in_err-keep-in-Err-Lane-clause-goes
returns-in_err-keep-in-Err-Lane-clause-goes g c =
    let e = err_from_is_err_and c.from_residual-in_err-keep-in-Err-Lane.result c.from_residual-in_err-keep-in-Err-Lane.ensures.1 in
    let fails : FailsToStart c.args.name.now c.args.moment c.args.self.now c.start.new.self (Lane c.in-Err-Lane.fault) = subst (λ f. StartsVisit c.args.name.now c.args.moment c.args.self.now c.start.new.self (Err f)) c.in-Err-Lane.field-0-is c.in-Err-Lane.ensures.starts in
    rw (e.1, e.2) (lost_continues c.args.name.now c.args.moment (Lane c.in-Err-Lane.fault) c.args.self.now c.start.new.self c.keep-in-Err-Lane.new.self fails c.start.ensures.goes c.in_err-keep-in-Err-Lane.ensures.same)

pub returns-in_ok-keep-in-Err-Lane-clause-goes : goal.returns-in_ok-keep-in-Err-Lane-clause-goes
returns-in_ok-keep-in-Err-Lane-clause-goes g c =
    let fails : FailsToStart c.args.name.now c.args.moment c.args.self.now c.start.new.self (Lane c.in-Err-Lane.fault) = subst (λ f. StartsVisit c.args.name.now c.args.moment c.args.self.now c.start.new.self (Err f)) c.in-Err-Lane.field-0-is c.in-Err-Lane.ensures.starts in
    fails_continues c.args.name.now c.args.moment (Lane c.in-Err-Lane.fault) c.args.self.now c.start.new.self c.keep-in-Err-Lane.new.self c.start.ensures.goes fails c.in_ok-keep-in-Err-Lane.ensures.kept

pub returns-in-Ok-clause-goes : goal.returns-in-Ok-clause-goes
returns-in-Ok-clause-goes g c = opens_continues c.args.name.now c.args.moment c.args.self.now c.start.new.self c.in-Ok.visit c.requires.room c.in-Ok.ensures.goes c.in-Ok.ensures.starts

pub returns-in-Ok-clause-does : goal.returns-in-Ok-clause-does
returns-in-Ok-clause-does g c = opens_visit c.args.name.now c.args.moment c.args.self.now c.start.new.self c.in-Ok.visit c.in-Ok.ensures.starts

pub returns-in-Err-NoMemory-clause-goes : goal.returns-in-Err-NoMemory-clause-goes
returns-in-Err-NoMemory-clause-goes g c =
    let rest : KeepsRest c.args.self.now c.start.new.self = subst (λ f. StartsVisit c.args.name.now c.args.moment c.args.self.now c.start.new.self (Err f)) c.in-Err-NoMemory.field-0-is c.in-Err-NoMemory.ensures.starts in
    rest_continues c.args.self.now c.start.new.self c.start.ensures.goes rest
