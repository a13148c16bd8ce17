-- What always holds of a connection, behind a text.
use Rattle.std.proofs.Common.{◌≡◌, ◌∙◌, ℕ, ◌+◌, ◌-◌, ◌<◌, ◌^◌, Bool, true, false, List, Option, Some, Ok, refl, sym, ap, arith}
use Rattle.std.proofs.Math.Nat.{le-min}
use Rattle.fluid_service.specs.Visiting.{Visiting}
use Rattle.fluid_service.specs.Keys.{AKey}
use Rattle.fluid_voice.specs.declared.states.VoiceState.{VoiceState}
use Rattle.fluid_voice.specs.declared.states.VoiceState.TheVariants.{Fresh, Reading, Writing, Used}
use Rattle.fluid_voice.specs.declared.ends.ActEnd.{ActEnd}
use Rattle.fluid_voice.specs.declared.ends.ActEnd.TheVariants as end
use Rattle.fluid_voice.specs.States.{is_connected, is_used, number_behind}
use Rattle.fluid_voice.specs.Replies.{connect_state}
use Rattle.fluid_connection.specs.Talked.{Talked, IsTalk}
use Rattle.fluid_connection.specs.Connecting.{MaySettle}

false_true : {A : Type 0} → false ≡ true → A
false_true same = cc

-- ---- one that isn't connected

-- ---- one that was connected
