use Rattle.std.proofs.Common.{subst}
use Rattle.fluid_door_link.specs.Coursing.{IsAlong}
use Rattle.fluid_door_link.proofs.Told.{is_document}
use Rattle.fluid_door_link.proofs.Walked.{known}
use Rattle.fluid_door_link.proofs.door_link.DoorLinkLink.id.Goals as goal

pub returns-clause-document : goal.returns-clause-document
returns-clause-document g c =
    let w = g.W.Begun in
    let now = c.args.self.now in
    let along = subst (IsAlong w.good w.began w.before) now.at c.know.ensures in
    is_document c.orders_are_told.ensures w.good now.lane.now (known w.good w.began w.before _ along) now.objects.now c.know-2.ensures
