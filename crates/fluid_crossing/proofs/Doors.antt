-- A door may be shared between threads, and a pass may be sent to another.
use denote.RattleType.{RattleType}
use denote.Param.Send.{IsSend, IsSync, sendable, view_send, view_sync}
use denote.Param.SendFields.{declared_send, declared_sync, as_row_send, as_row_sync}
use Rattle.std.proofs.Crossing.{crosses}
use Rattle.std.specs.contracts.option.Option as Option
use Rattle.fluid_log.specs.declared.keeper.Keeper as keeper
use Rattle.fluid_types.specs.contracts.names.DocName as DocName
use Rattle.fluid_turn.specs.declared.chronicle.Chronicle.{Ghosts}
use Rattle.fluid_turn.specs.contracts.turn.Turn as Turn
use Rattle.fluid_turn.specs.contracts.seat.Seat as Seat
use Rattle.fluid_turn.specs.contracts.seat.Seat.TheInside as SeatInside
use Rattle.fluid_turn.proofs.turn.Turn.TheSendSync as turn
use Rattle.atomic_table.proofs.shared.Seat.TheSendSync as token
use Rattle.fluid_lane.specs.contracts.steps.Step as Step
use Rattle.fluid_doors.specs.contracts.bench.Bench as Bench
use Rattle.fluid_doors.specs.contracts.bench.BenchChronicle.TheImpl as bench
use Rattle.fluid_doors.specs.contracts.bench.Terms as Terms
use Rattle.fluid_doors.specs.contracts.door.Door as Door
use Rattle.fluid_doors.specs.contracts.door.Door.TheInside as DoorInside
use Rattle.fluid_crossing.proofs.Values.{document-send}
use Rattle.fluid_crossing.proofs.Documents.{bench-send}

document-sync : IsSync DocName.the_row
document-sync = search (crosses, sendable) depth 20 fits 20000

option-send : (T : RattleType) → IsSend T → IsSend (Option.the_row T)
option-send T s = search (crosses, sendable) depth 20

module _ (T E F : RattleType) (g : Ghosts T.Denot E.Denot F.Denot) (s : IsSend T) where
  pub turn-send : IsSend (Turn.the_row T E F g)
  turn-send = turn.the_send T E F g s

  pub turn-sync : IsSync (Turn.the_row T E F g)
  turn-sync = turn.the_sync T E F g s

  pub seat-send : IsSend (Seat.the_row T E F g)
  seat-send = view_send _ _ _ _ _ (declared_send (SeatInside.the_type T E F g) (search (token.the_send, option-send) depth 10, (search crosses depth 10, tt)))

module _ (K : RattleType) (k : keeper.Ghosts K.Denot) (s : IsSend K) where
  pub pass-send : IsSend (Seat.the_row (Bench.the_row K k) Step.the_row Terms.the_row (bench.ghosts K k bench.no_dict))
  pass-send = seat-send (Bench.the_row K k) Step.the_row Terms.the_row (bench.ghosts K k bench.no_dict) (bench-send K k s)

  pub door-sync : IsSync (Door.the_row K k)
  door-sync = view_sync _ _ _ _ _ (declared_sync (DoorInside.the_type K k) (as_row_sync DocName.the_field document-sync, (search (as_row_sync, turn-sync, bench-send) depth 10, (search (crosses, sendable) depth 30, (search sendable depth 20, tt)))))

  pub door-send : IsSend (Door.the_row K k)
  door-send = view_send _ _ _ _ _ (declared_send (DoorInside.the_type K k) (as_row_send DocName.the_field document-send, (search (as_row_send, turn-send, bench-send) depth 10, (search (crosses, sendable) depth 30, (search sendable depth 20, tt)))))
