-- A session of `serve` between two of its cycles may be sent to another thread.
use denote.RattleType.{RattleType}
use denote.Ref.{NamedLft}
use denote.Struct.Field.{row_field}
use denote.Param.Send.{IsSend, IsSync, sendable, view_send}
use denote.Param.SendFields.{declared_send, as_row_send}
use Rattle.std.proofs.Crossing.{crosses}
use Rattle.std.proofs.MapsCrossing.{String-send}
use Rattle.crossbeam_channel.proofs.channel.Sender.TheSendSync as sender
use Rattle.fluid_hints.proofs.bell.Bell.TheSendSync as bell
use Rattle.fluid_hints.specs.contracts.wire.HintWire as HintWire
use Rattle.fluid_hints.specs.contracts.wire.HintWire.TheInside as HintInside
use Rattle.fluid_log.specs.declared.keeper.Keeper as keeper
use Rattle.fluid_log.specs.declared.shelves.Shelves as shelves
use Rattle.fluid_lines.specs.declared.wire.Wire as wires
use Rattle.fluid_voice.specs.contracts.voices.Voice as Voice
use Rattle.fluid_connection.specs.contracts.talk.Talk as Talk
use Rattle.fluid_connection.specs.contracts.talk.Talk.TheInside as TalkInside
use Rattle.fluid_hosting.specs.contracts.hosted.Hosted as Hosted
use Rattle.fluid_hosting.specs.contracts.hosted.Hosted.TheInside as HostedInside
use Rattle.fluid_crossing.proofs.Values.{text-send, document-send, client-send}
use Rattle.fluid_crossing.proofs.Services.{key-send, service-sync, visit-send}
use Rattle.fluid_serve.specs.contracts.sitting.Sitting as Sitting
use Rattle.fluid_serve.specs.contracts.sitting.Sitting.TheInside as SittingInside

voice-send : IsSend Voice.the_row
voice-send = search (crosses, String-send, text-send, document-send, client-send, sendable) depth 60 fits 20000

module _ (ℓ : NamedLft) (B W K : RattleType) (b : shelves.Ghosts B.Denot K.Denot) (k : keeper.Ghosts K.Denot) (w : wires.Ghosts W.Denot) (sb : IsSend B) (sk : IsSend K) (sw : IsSend W) where
  talk-send : IsSend (Talk.the_row B K b k)
  talk-send = view_send _ _ _ _ _ (declared_send (TalkInside.the_type B K b k) (
    search (as_row_send, voice-send, crosses) depth 10,
    (
      search (as_row_send, key-send) depth 10,
      (search (as_row_send, visit-send, crosses, sendable) depth 20, (search (as_row_send, visit-send, crosses, sendable) depth 20, (search (crosses, sendable) depth 20, tt))),
    ),
  ))

  hosted-send : IsSend (Hosted.the_row ℓ B K b k)
  hosted-send = view_send _ _ _ _ _ (declared_send (HostedInside.the_type ℓ B K b k) (
    search (as_row_send, service-sync, sendable) depth 20,
    (search (as_row_send, talk-send) depth 10, (search (crosses, sendable) depth 20, (search sendable depth 20, tt))),
  ))

  hint-send : IsSend (HintWire.the_row ℓ W w)
  hint-send = view_send _ _ _ _ _ (declared_send (HintInside.the_type ℓ W w) (
    as_row_send (row_field W) sw,
    (search (as_row_send, bell.the_send, crosses, sendable) depth 20, (search (as_row_send, sender.the_sync, crosses, sendable) depth 20, (search sendable depth 10, tt))),
  ))

  pub sitting-send : IsSend (Sitting.the_row ℓ B W K b k w)
  sitting-send = view_send _ _ _ _ _ (declared_send (SittingInside.the_type ℓ B W K b k w) (
    search (as_row_send, hosted-send) depth 10,
    (search (as_row_send, hint-send) depth 10, (search (crosses, sendable) depth 20, (search crosses depth 10, (search crosses depth 10, tt)))),
  ))
