-- What is written for an input, and how a run ends.
use Rattle.std.specs.Prelude.{◌≡◌, ◌⊎◌, ℕ, ◌+◌, ◌≤◌, List, [], ◌∷◌, ◌++◌, length, Option, Some, None, Result, Ok, Err}
use Rattle.std.specs.Str.Lines.{lines}
use Rattle.fluid_io.specs.Causes.{Rose, Tells}
use Rattle.fluid_io.specs.Lines.{EndsInLineFeed, IsPlain}
use Rattle.fluid_io.specs.Streams.{Reading, Writing, Appends}
use Rattle.fluid_io.specs.declared.lines.TheConstants.{LONGEST_TEXT}
use Rattle.fluid_pipe.specs.Meaning.{Meaning, refusal, Accepts, bad_line}
use Rattle.fluid_pipe.specs.declared.refusal.Refusal.{Refusal}
use Rattle.fluid_pipe.specs.declared.stop.Stop.{Stop}
use Rattle.fluid_pipe.specs.declared.stop.Stop.TheVariants as stop

-- no line of the input is refused, and the output is that for all of them
pub record IsWhole {W : Type 0} (m : Meaning W) (input output : List ℕ) : Type 0 where
  pub accepted : Accepts m [] (lines input)
  pub text : output ≡ m.output (lines input)

-- the first line that is refused stands behind these; the output is that for them, and then the line of its fault
pub record IsRefused {W : Type 0} (m : Meaning W) (input output : List ℕ) : Type 0 where
  pub before : List (List ℕ)
  pub line : List ℕ
  pub behind : List (List ℕ)
  pub why : Refusal W
  pub split : lines input ≡ before ++ line ∷ behind
  pub accepted : Accepts m [] before
  pub refused : refusal m before line ≡ Some why
  pub text : output ≡ m.output before ++ bad_line m (length before + 1) why

-- the same of the line of this number, for this reason
pub record IsRefusedFor {W : Type 0} (m : Meaning W) (number : ℕ) (why : Refusal W) (input output : List ℕ) : Type 0 where
  pub is : IsRefused m input output
  pub its_number : number ≡ length is.before + 1
  pub its_reason : is.why ≡ why

-- the output is that for the first lines of the input, none of which is refused
pub record IsBegun {W : Type 0} (m : Meaning W) (input output : List ℕ) : Type 0 where
  pub before : List (List ℕ)
  pub behind : List (List ℕ)
  pub split : lines input ≡ before ++ behind
  pub accepted : Accepts m [] before
  pub text : output ≡ m.output before

-- these bytes are whole lines: there are none, a line feed stands at their end, or no byte is behind them
abbrev pub AreWhole : List ℕ → (behind : List ℕ) → Type 0
AreWhole bytes behind = (bytes ≡ []) ⊎ (EndsInLineFeed bytes ⊎ (behind ≡ []))

-- all of the input but for what is left was read: these whole lines, none of which is refused, and then a part of a line,
-- which has no line feed and is at most one byte longer than a line may be. The output is that for these lines
pub record IsInterrupted {W : Type 0} (m : Meaning W) (left : Option (List ℕ)) (input output : List ℕ) : Type 0 where
  pub whole : List ℕ
  pub part : List ℕ
  pub rest : List ℕ
  pub are_left : left ≡ Some rest
  pub split : input ≡ whole ++ (part ++ rest)
  pub are_whole : AreWhole whole (part ++ rest)
  pub plain : IsPlain part
  pub few : length part ≤ LONGEST_TEXT + 1
  pub accepted : Accepts m [] (lines whole)
  pub text : output ≡ m.output (lines whole)

-- the output is a beginning of one of those
pub record IsCut {W : Type 0} (m : Meaning W) (input output : List ℕ) : Type 0 where
  pub rest : List ℕ
  pub goes_on : IsBegun m input (output ++ rest) ⊎ IsRefused m input (output ++ rest)

-- what was written between two moments of a sink is of this sort for the input, where the source tells its bytes
abbrev pub Wrote : (List ℕ → List ℕ → Type 0) → Option (List ℕ) → Option (List ℕ) → Option (List ℕ) → Type 0
Wrote Sort None old new = Unit {0}
Wrote Sort (Some input) old new = (output : List ℕ) × Appends output old new × Sort input output

-- a line of the input is refused
pub record HasRefused {W : Type 0} (m : Meaning W) (input : List ℕ) : Type 0 where
  pub before : List (List ℕ)
  pub line : List ℕ
  pub behind : List (List ℕ)
  pub why : Refusal W
  pub split : lines input ≡ before ++ line ∷ behind
  pub refused : refusal m before line ≡ Some why

-- ---- why a run ended, over every source and every sink

-- no call of the source and none of the sink failed
pub record NoFault (input : Reading) (output : Writing) (source : Reading) (sink : Writing) : Type 0 where
  pub read : source.faults ≡ input.faults
  pub written : sink.faults ≡ output.faults

-- a call of the source failed, and none of the sink
pub record ReadFailed (input : Reading) (output : Writing) (source : Reading) (sink : Writing) : Type 0 where
  pub read : Rose input.faults source.faults
  pub written : sink.faults ≡ output.faults

abbrev pub HasEndCause : {W F : Type 0} → Reading → Writing → Reading → Writing → Result (Unit {0}) (Stop W F) → Type 0
HasEndCause input output source sink (Ok done) = NoFault input output source sink
HasEndCause input output source sink (Err (stop.Refused number why)) = NoFault input output source sink
HasEndCause input output source sink (Err stop.ReadFault) = ReadFailed input output source sink
HasEndCause input output source sink (Err stop.WriteFault) = Rose output.faults sink.faults
HasEndCause input output source sink (Err stop.NoMemory) = NoFault input output source sink
HasEndCause input output source sink (Err (stop.Failed fault)) = NoFault input output source sink

-- ---- what was written, and what the taker stands for then

-- the taker took all lines of the input
pub record TookAll (Keeps : List (List ℕ) → Type 0) (input : Option (List ℕ)) : Type 0 where
  pub before : List (List ℕ)
  pub keeps : Keeps before
  pub are_all : Tells input (λ bytes. lines bytes ≡ before)

-- the taker took the lines before the one of this number
pub record TookBefore (Keeps : List (List ℕ) → Type 0) (number : ℕ) (input : Option (List ℕ)) : Type 0 where
  pub before : List (List ℕ)
  pub keeps : Keeps before
  pub its_number : number ≡ length before + 1
  pub are_first : Tells input (λ bytes. (behind : List (List ℕ)) × (lines bytes ≡ before ++ behind))

-- the taker failed at the last of these lines, which are the first ones of the input
pub record FailedAt (Fails : List (List ℕ) → Type 0) (input : Option (List ℕ)) : Type 0 where
  pub taken : List (List ℕ)
  pub fails : Fails taken
  pub are_first : Tells input (λ bytes. (behind : List (List ℕ)) × (lines bytes ≡ taken ++ behind))

-- at the end all was read and written; at a refused line that line's fault is the last one; at a fault of the source no whole line
-- that was read is refused; at all ends but a fault of the sink the output ends at a line's end
abbrev pub Finished : {W F : Type 0} → Meaning W → (List (List ℕ) → Type 0) → Reading → Writing → Reading → Writing → Result (Unit {0}) (Stop W F) → Type 0
Finished m Keeps input output source sink (Ok done) =
    Wrote (IsWhole m) input.left output.written sink.written × Tells source.left (λ bytes. bytes ≡ []) × TookAll Keeps input.left
Finished m Keeps input output source sink (Err (stop.Refused number why)) =
    Wrote (IsRefusedFor m number why) input.left output.written sink.written × TookBefore Keeps number input.left
Finished m Keeps input output source sink (Err stop.ReadFault) = Wrote (IsInterrupted m source.left) input.left output.written sink.written
Finished m Keeps input output source sink (Err stop.WriteFault) = Wrote (IsCut m) input.left output.written sink.written
Finished m Keeps input output source sink (Err stop.NoMemory) = Wrote (IsBegun m) input.left output.written sink.written
Finished m Keeps input output source sink (Err (stop.Failed fault)) = Wrote (IsBegun m) input.left output.written sink.written

-- at a failure of the taker it failed so
abbrev pub HasFailed : {A W F : Type 0} → (F → Type 0) → Result A (Stop W F) → Type 0
HasFailed Failed (Err (stop.Failed fault)) = Failed fault
HasFailed Failed _ = Unit {0}
