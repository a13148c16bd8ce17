-- Which message a kept delta is.
use Rattle.std.specs.Prelude.{ℕ, ◌+◌, ◌==◌, List, [], ◌∷◌, ◌++◌, Result, Ok, Err, if◌then◌else◌}
use Rattle.std.specs.Str.{is_utf8}
use Rattle.fluid_types.specs.declared.messages.Message.{Message}
use Rattle.fluid_types.specs.declared.fault.CodecFault.{CodecFault}
use Rattle.fluid_types.specs.Messages.{message_spelled}
use Rattle.fluid_deltas.specs.declared.fault.DeltaFault.{DeltaFault}
use Rattle.fluid_deltas.specs.declared.fault.DeltaFault.TheVariants.{BadDelta}

-- the message that was read counts where it has the number of the delta
abbrev pub numbered_as : ℕ → Result Message CodecFault → Result Message DeltaFault
numbered_as number (Ok m) = if m.number == number then Ok m else Err (BadDelta number)
numbered_as number (Err fault) = Err (BadDelta number)

-- the message of the delta of this number: the one that its text spells
abbrev pub delta_message : ℕ → List ℕ → Result Message DeltaFault
delta_message number text = if is_utf8 text then numbered_as number (message_spelled text) else Err (BadDelta number)

-- messages before the answer for those behind them
abbrev pub in_front : List Message → Result (List Message) DeltaFault → Result (List Message) DeltaFault
in_front before (Ok behind) = Ok (before ++ behind)
in_front before (Err fault) = Err fault

abbrev pub then_others : Result Message DeltaFault → Result (List Message) DeltaFault → Result (List Message) DeltaFault
then_others (Ok m) others = in_front (m ∷ []) others
then_others (Err fault) others = Err fault

-- the messages of deltas that are numbered from this number on, or the fault of the first one that doesn't decode
abbrev pub delta_messages : ℕ → List (List ℕ) → Result (List Message) DeltaFault
delta_messages number [] = Ok []
delta_messages number (text ∷ texts) = then_others (delta_message number text) (delta_messages (number + 1) texts)
