-- The state of a document may cross threads.
use denote.RattleType.{RattleType}
use denote.Struct.Field.{row_field}
use denote.Param.Send.{IsSend, sendable, view_send}
use denote.Param.SendFields.{declared_send, as_row_send}
use Rattle.std.proofs.Crossing.{crosses}
use Rattle.fluid_log.specs.declared.keeper.Keeper.{Ghosts}
use Rattle.fluid_document.specs.contracts.document.Document as Document
use Rattle.fluid_lane.specs.contracts.lane.Lane as Lane
use Rattle.fluid_lane.specs.contracts.lane.Lane.TheInside as Inside
use Rattle.fluid_feed.specs.contracts.tail.Tail as Tail
use Rattle.fluid_doors.specs.contracts.bench.Bench as Bench
use Rattle.fluid_crossing.proofs.Values.{text-send, core-send, deltas-send}

pub document-send : IsSend Document.the_row
document-send = search (crosses, core-send, deltas-send, sendable) depth 60 fits 20000

tail-send : IsSend Tail.the_row
tail-send = search (crosses, text-send, sendable) depth 60 fits 20000

module _ (K : RattleType) (k : Ghosts K.Denot) (s : IsSend K) where
  inside-send : IsSend (Inside.the_row K k)
  inside-send = declared_send (Inside.the_type K k) (
    as_row_send (row_field K) s,
    (
      as_row_send Document.the_field document-send,
      (
        search (crosses, sendable) depth 30,
        (search sendable depth 20, (search sendable depth 20, (search (crosses, sendable) depth 30, (search sendable depth 20, tt)))),
      ),
    ),
  )

  pub lane-send : IsSend (Lane.the_row K k)
  lane-send = view_send _ _ _ _ _ inside-send

  pub bench-send : IsSend (Bench.the_row K k)
  bench-send = declared_send (Bench.the_type K k) (as_row_send (Lane.the_field K k) lane-send, (as_row_send Tail.the_field tail-send, tt))
