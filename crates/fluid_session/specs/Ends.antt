-- Why a session ends.
use Rattle.std.specs.Prelude.{ℕ, nat_le, if◌then◌else◌, Option, Some, None, Result, Ok, Err}
use Rattle.fluid_lines.specs.declared.wire.WireFault.{WireFault}
use Rattle.fluid_lines.specs.declared.wire.WireFault.TheVariants as wire
use Rattle.fluid_deltas.specs.declared.fault.DeltaFault.TheVariants as delta
use Rattle.fluid_store.specs.declared.fault.StoreFault.TheVariants as store
use Rattle.fluid_lane.specs.declared.fault.LaneFault.TheVariants as lane
use Rattle.fluid_ends.specs.declared.fault.TalkFault.{TalkFault}
use Rattle.fluid_ends.specs.declared.fault.TalkFault.TheVariants as talk
use Rattle.fluid_session.specs.declared.report.SessionEnd.{SessionEnd}
use Rattle.fluid_session.specs.declared.report.SessionEnd.TheVariants.{Closed, WireFault as WireFailed, LogFault, DeltaFault, StoreFault, Other, NoMemory, Abused}

-- a fault of the connection, as an end
abbrev pub end_of : TalkFault → SessionEnd
end_of (talk.Lane (lane.LogFailed note)) = LogFault note
end_of (talk.Lane (lane.DeltaFailed note)) = DeltaFault note
end_of (talk.Delta (delta.DeltaFailed note)) = DeltaFault note
end_of (talk.Store (store.StoreFailed note)) = StoreFault note
end_of talk.NoMemory = NoMemory
end_of fault = Other fault

-- a fault of the wire
abbrev pub wire_end : WireFault → SessionEnd
wire_end wire.Failed = WireFailed
wire_end wire.NoMemory = NoMemory

-- so many texts that were answered by a front's nack end a session
abbrev pub most_unread : ℕ
most_unread = 1000

-- behind a text: its own fault comes before one of sending its replies, and both before the count of what was unread
abbrev pub behind_text : Option TalkFault → Result (Unit {0}) WireFault → ℕ → Result (Unit {0}) SessionEnd
behind_text (Some fault) sent unread = Err (end_of fault)
behind_text None (Err fault) unread = Err (wire_end fault)
behind_text None (Ok done) unread = if nat_le most_unread unread then Err (Abused unread) else Ok tt

-- behind the leave: its fault is the end where no fault came before it, and want of memory in every case
abbrev pub unless_refused : SessionEnd → TalkFault → SessionEnd
unless_refused end talk.NoMemory = NoMemory
unless_refused end fault = end

abbrev pub with_fault : SessionEnd → TalkFault → SessionEnd
with_fault Closed fault = end_of fault
with_fault (Abused unread) fault = end_of fault
with_fault end fault = unless_refused end fault

abbrev pub behind_leave : SessionEnd → Result (Unit {0}) TalkFault → SessionEnd
behind_leave end (Ok done) = end
behind_leave end (Err fault) = with_fault end fault
