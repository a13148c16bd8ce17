-- The sessions of `serve` may be shared between threads.
use denote.RattleType.{RattleType}
use denote.Ref.{NamedLft}
use denote.Param.Send.{IsSend, IsSync, sendable}
use denote.Param.SendFields.{declared_sync, as_row_sync}
use Rattle.std.proofs.Crossing.{crosses}
use Rattle.crossbeam_channel.proofs.channel.Sender.TheSendSync as sender
use Rattle.fluid_hints.proofs.bell.Bell.TheSendSync as bell
use Rattle.fluid_log.specs.declared.keeper.Keeper as keeper
use Rattle.fluid_log.specs.declared.shelves.Shelves as shelves
use Rattle.fluid_crossing.proofs.Services.{service-sync}
use Rattle.fluid_serve.specs.contracts.sessions.Sessions as Sessions

module _ (ℓ : NamedLft) (B O C K : RattleType) (b : shelves.Ghosts B.Denot K.Denot) (k : keeper.Ghosts K.Denot) (sb : IsSend B) (so : IsSend O) (sc : IsSync C) (sk : IsSend K) where
  pub sessions-sync : IsSync (Sessions.the_row ℓ B O C K b k)
  sessions-sync = declared_sync (Sessions.the_type ℓ B O C K b k) (
    search (crosses, sendable) depth 20,
    (
      search (as_row_sync, service-sync, sendable) depth 20,
      (
        search (as_row_sync, crosses, sendable) depth 20,
        (
          search (as_row_sync, sendable) depth 20,
          (
            search (as_row_sync, bell.the_send, crosses, sendable) depth 20,
            (search (as_row_sync, sender.the_sync, crosses, sendable) depth 20, tt),
          ),
        ),
      ),
    ),
  )
