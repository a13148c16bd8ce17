-- What a flush puts.
use Rattle.std.specs.Prelude.{◌≡◌, ℕ, ◌+◌, ◌-◌, ◌<◌, ◌≤◌, List, [], ◌∷◌, ◌++◌, length, take, drop, map, All, Result, Ok, Err, IfErr}
use Rattle.std.specs.Option.{option_map}
use Rattle.fluid_types.specs.declared.messages.Message.{Message}
use Rattle.fluid_types.specs.Printed.{message_printed}
use Rattle.fluid_log.specs.Keeping.{Content, Keeping, IsText}
use Rattle.fluid_log.specs.Calls.{KeepsSame}
use Rattle.fluid_deltas.specs.declared.fault.DeltaFault.{DeltaFault}
use Rattle.fluid_deltas.specs.Pushed.{Pushed}
use Rattle.fluid_deltas.specs.Ranges.{IsFaultOf, IsNotBad}

-- the messages in memory that a keeper with so many deltas lacks
abbrev pub lacking : Pushed → ℕ → List Message
lacking d deltas = drop (deltas - d.before) d.held

-- those of them that are among the first `end` of the order
abbrev pub lacking_up_to : Pushed → (deltas end : ℕ) → List Message
lacking_up_to d deltas end = take (end - deltas) (lacking d deltas)

-- the texts of these messages behind the deltas
abbrev pub put_behind : List Message → Content → Content
put_behind messages c = record c { deltas = c.deltas ++ map message_printed messages }

abbrev pub with_deltas : List Message → Keeping → Keeping
with_deltas messages k = record k { content = option_map (put_behind messages) k.content; deltas = k.deltas + length messages }

-- the messages were put, each as the text that is printed for it
pub record Puts (messages : List Message) (old new : Keeping) : Type 0 where
  pub kept : KeepsSame (with_deltas messages old) new
  pub texts : All (λ m. IsText (message_printed m)) messages

-- the message was put, or after a fault nothing
abbrev pub PutsOne : Message → Keeping → Keeping → Result (Unit {0}) DeltaFault → Type 0
PutsOne message old new (Ok done) = Puts (message ∷ []) old new
PutsOne message old new (Err fault) = KeepsSame old new

-- some of the messages from the front were put, maybe none, and not all
pub record PutsPrefix (messages : List Message) (old new : Keeping) : Type 0 where
  pub count : ℕ
  pub within : count < length messages
  pub puts : Puts (take count messages) old new

-- all were put, or after a fault some from the front
abbrev pub PutsAll : List Message → Keeping → Keeping → Result (Unit {0}) DeltaFault → Type 0
PutsAll messages old new (Ok done) = Puts messages old new
PutsAll messages old new (Err fault) = PutsPrefix messages old new

-- what putting messages leaves beside the deltas: a fault is one of the keeper that failed, or want of memory
pub record Writes (old new : Keeping) (result : Result (Unit {0}) DeltaFault) : Type 0 where
  pub later : old.faults ≤ new.faults
  pub reads : new.reads ≡ old.reads
  pub cause : IfErr result (IsFaultOf old.faults new.faults)
  pub never_bad : IfErr result IsNotBad

-- the keeper's deltas are the texts of the whole order
abbrev pub AreAll : List Message → Content → Type 0
AreAll order content = content.deltas ≡ map message_printed order
