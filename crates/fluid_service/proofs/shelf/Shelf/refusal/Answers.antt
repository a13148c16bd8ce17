use Rattle.std.proofs.Common.{ap, sym, arith, length}
use Rattle.fluid_service.specs.Shelved.{Shelved}
use Rattle.fluid_service.proofs.Standings.{refusal-none, opened_is}
use Rattle.fluid_service.proofs.shelf.Shelf.refusal.Goals as goal

pub returns : goal.returns
returns g c = λ l stands.
    let number = c.number.ensures.steps l stands in
    let visits = ap (λ (s : Shelved). length s.visits) c.self.view_is in
    let opened = opened_is c.args.self.now l stands in
    let len = c.len.ensures in
    let few = c.if-number-ge-LARGEST.false in
    let room = c.if-len-ge-MOST_DOCUMENTS.false in
    sym (refusal-none l (omega (arith, number, few)) (omega (arith, visits, opened, len, room)))
