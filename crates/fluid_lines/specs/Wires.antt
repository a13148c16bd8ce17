-- The history of a wire, and what each call adds to it.
use Rattle.std.specs.Prelude.{◌≡◌, ℕ, ◌<◌, ◌≤◌, List, [], ◌∷◌, ◌++◌, length, Option, Result, Ok, Err, is_some}
use Rattle.std.specs.Option.{option_map}
use Rattle.fluid_io.specs.Causes.{Rose, Tells}
use Rattle.fluid_io.specs.declared.lines.TheConstants.{LONGEST_TEXT}
use Rattle.fluid_lines.specs.declared.wire.WireText.{WireText}
use Rattle.fluid_lines.specs.declared.wire.WireText.TheVariants.{In, Out}
use Rattle.fluid_lines.specs.declared.wire.Recv.{Recv}
use Rattle.fluid_lines.specs.declared.wire.Recv.TheVariants.{Text, Quiet, End, TooLong}
use Rattle.fluid_lines.specs.declared.wire.WireFault.{WireFault}
use Rattle.fluid_lines.specs.declared.wire.WireFault.TheVariants.{Failed, NoMemory}

pub record Wiring : Type 0 where
  -- the texts that came in and went out, oldest first, where the wire tells them
  pub history : Option (List WireText)
  -- the texts that are still to come in, where the wire tells them
  pub texts : Option (List (List ℕ))
  -- how many answers were quiet, and how many faults were counted
  pub quiets : ℕ
  pub faults : ℕ

-- neither count falls, and whether the wire tells its history and its texts stays
pub record Stays (old new : Wiring) : Type 0 where
  pub quiets : old.quiets ≤ new.quiets
  pub faults : old.faults ≤ new.faults
  pub history : is_some new.history ≡ is_some old.history
  pub texts : is_some new.texts ≡ is_some old.texts

-- a text was added at the end of the history
abbrev pub Adds : WireText → Wiring → Wiring → Type 0
Adds text old new = new.history ≡ option_map (λ history. history ++ text ∷ []) old.history

-- nothing was added to the history
abbrev pub AddsNothing : Wiring → Wiring → Type 0
AddsNothing old new = new.history ≡ old.history

-- there is a next text, it is longer than a text may be, and it has at least so many bytes
pub record IsLongNext (size : ℕ) (texts : List (List ℕ)) : Type 0 where
  pub next : List ℕ
  pub more : List (List ℕ)
  pub are : texts ≡ next ∷ more
  pub long : size ≤ length next

-- what one `recv` did, by its answer
pub record ReceivesText (old new : Wiring) (text : List ℕ) : Type 0 where
  pub adds : Adds (In text) old new
  pub short : length text ≤ LONGEST_TEXT
  pub next : old.texts ≡ option_map (λ more. text ∷ more) new.texts

pub record ReceivesEnd (old new : Wiring) : Type 0 where
  pub same : AddsNothing old new
  pub texts : new.texts ≡ old.texts
  pub ended : Tells old.texts (λ texts. texts ≡ [])

pub record ReceivesQuiet (old new : Wiring) : Type 0 where
  pub same : AddsNothing old new
  pub texts : new.texts ≡ old.texts
  pub rose : Rose old.quiets new.quiets

pub record ReceivesTooLong (old new : Wiring) (size : ℕ) : Type 0 where
  pub same : AddsNothing old new
  pub above : LONGEST_TEXT < size
  pub next : Tells old.texts (IsLongNext size)

pub record ReceivesFault (old new : Wiring) : Type 0 where
  pub same : AddsNothing old new
  pub rose : Rose old.faults new.faults

abbrev pub Receives : Wiring → Wiring → Result Recv WireFault → Type 0
Receives old new (Ok (Text text)) = ReceivesText old new text
Receives old new (Ok Quiet) = ReceivesQuiet old new
Receives old new (Ok End) = ReceivesEnd old new
Receives old new (Ok (TooLong size)) = ReceivesTooLong old new size
Receives old new (Err Failed) = ReceivesFault old new
Receives old new (Err NoMemory) = AddsNothing old new

-- what one `send` did, by its answer
abbrev pub Sends : Wiring → Wiring → List ℕ → Result (Unit {0}) WireFault → Type 0
Sends old new text (Ok done) = Adds (Out text) old new
Sends old new text (Err Failed) = ReceivesFault old new
Sends old new text (Err NoMemory) = AddsNothing old new
