-- A service may be shared between threads, and a visit and a key may be sent to another.
use denote.RattleType.{RattleType}
use denote.Struct.Field.{row_field}
use denote.Param.Send.{IsSend, IsSync, sendable, view_send, view_sync}
use denote.Param.SendFields.{declared_send, declared_sync, as_row_send, as_row_sync}
use Rattle.std.proofs.Crossing.{crosses}
use Rattle.std.proofs.MapsCrossing.{String-send}
use Rattle.fluid_log.specs.declared.keeper.Keeper as keeper
use Rattle.fluid_log.specs.declared.shelves.Shelves.{Ghosts}
use Rattle.indexmap.proofs.map.IndexMap.TheSendSync as index
use Rattle.fluid_turn.specs.contracts.seat.Seat as Seat
use Rattle.fluid_service.specs.contracts.visit.Visit as Visit
use Rattle.fluid_service.specs.contracts.visit.Visit.TheInside as VisitInside
use Rattle.fluid_service.specs.contracts.roll.Roll as Roll
use Rattle.fluid_service.specs.contracts.roll.Roll.TheInside as RollInside
use Rattle.fluid_opening.specs.contracts.shelf.ShelfStep as ShelfStep
use Rattle.fluid_service.specs.contracts.shelf.Shelf as Shelf
use Rattle.fluid_service.specs.contracts.shelf.ShelfChronicle.TheImpl as shelf
use Rattle.fluid_service.specs.contracts.terms.ShelfTerms as ShelfTerms
use Rattle.fluid_service.specs.contracts.shelf.Shelf.TheInside as ShelfInside
use Rattle.fluid_service.specs.contracts.service.Service as Service
use Rattle.fluid_service.specs.contracts.service.Service.TheInside as ServiceInside
use Rattle.fluid_crossing.proofs.Values.{document-send}
use Rattle.fluid_crossing.proofs.Doors.{pass-send, door-send, door-sync, seat-send, turn-send, turn-sync}

module _ (K : RattleType) (k : keeper.Ghosts K.Denot) (s : IsSend K) where
  pub visit-send : IsSend (Visit.the_row K k)
  visit-send = view_send _ _ _ _ _ (declared_send (VisitInside.the_type K k) (
    search (as_row_send, crosses, door-send, door-sync) depth 10,
    (search (as_row_send, pass-send) depth 10, tt),
  ))

  pub roll-send : IsSend (Roll.the_row K k)
  roll-send = view_send _ _ _ _ _ (declared_send (RollInside.the_type K k) (search (as_row_send, index.the_send, String-send, document-send, visit-send, crosses, sendable) depth 30, tt))

module _ (B K : RattleType) (b : Ghosts B.Denot K.Denot) (k : keeper.Ghosts K.Denot) (s : IsSend B) (t : IsSend K) where
  pub shelf-send : IsSend (Shelf.the_row B K b k)
  shelf-send = view_send _ _ _ _ _ (declared_send (ShelfInside.the_type B K b k) (
    as_row_send (row_field B) s,
    (
      as_row_send (Roll.the_field K k) (roll-send K k t),
      (
        search (crosses, sendable) depth 30,
        (search sendable depth 20, (search (crosses, document-send, sendable) depth 60 fits 20000, tt)),
      ),
    ),
  ))

  pub service-send : IsSend (Service.the_row B K b k)
  service-send = view_send _ _ _ _ _ (declared_send (ServiceInside.the_type B K b k) (search (as_row_send, turn-send, shelf-send) depth 10, tt))

  pub service-sync : IsSync (Service.the_row B K b k)
  service-sync = view_sync _ _ _ _ _ (declared_sync (ServiceInside.the_type B K b k) (search (as_row_sync, turn-sync, shelf-send) depth 10, tt))

  pub key-send : IsSend (Seat.the_row (Shelf.the_row B K b k) ShelfStep.the_row ShelfTerms.the_row (shelf.ghosts B K b shelf.no_dict k shelf.no_dict))
  key-send = seat-send (Shelf.the_row B K b k) ShelfStep.the_row ShelfTerms.the_row (shelf.ghosts B K b shelf.no_dict k shelf.no_dict) shelf-send
