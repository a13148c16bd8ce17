-- How far a run has come.
use Rattle.std.specs.Prelude.{◌≡◌, ℕ, ◌+◌, ◌≤◌, List, [], ◌∷◌, ◌++◌, length, Bool, true, false, Option, Some, Result, Ok, Err, option_map}
use Rattle.std.specs.Str.Lines.{lines}
use Rattle.fluid_io.specs.Causes.{Rose, Tells}
use Rattle.fluid_io.specs.Streams.{Reading, Writing, Appends}
use Rattle.fluid_io.specs.Reader.{Reader}
use Rattle.fluid_io.specs.Lines.{ahead, lines_ahead, IsCutOff, PassesLine}
use Rattle.fluid_io.specs.declared.lines.TheConstants.{LONGEST_TEXT, MOST_LINES}
use Rattle.fluid_pipe.specs.declared.refusal.Refusal.{Refusal}
use Rattle.fluid_pipe.specs.declared.stop.Stop.{Stop}
use Rattle.fluid_pipe.specs.declared.stop.Stop.TheVariants as stop
use Rattle.fluid_pipe.specs.Meaning.{Meaning, refusal, Accepts, bad_line}
use Rattle.fluid_pipe.specs.Output.{AreWhole, IsWhole, IsRefusedFor, IsBegun, IsInterrupted, IsCut, NoFault, TookAll, TookBefore, Wrote}

-- of what is written for these lines these bytes have gone, and these wait
abbrev pub IsWritten : {W : Type 0} → Meaning W → List (List ℕ) → (gone waiting : List ℕ) → Type 0
IsWritten m before gone waiting = gone ++ waiting ≡ m.output before

-- between two lines of a run: these lines came before, were accepted, and the taker took them
pub record Reached {W : Type 0} (m : Meaning W) (Keeps : List (List ℕ) → Type 0) (before : List (List ℕ)) (gone : List ℕ) (reader : Reader) (waiting : List ℕ) : Type 0 where
  pub number : reader.count ≡ length before
  pub limit : reader.limit ≡ LONGEST_TEXT
  pub reading : reader.failed ≡ false
  pub accepted : Accepts m [] before
  pub keeps : Keeps before
  pub written : IsWritten m before gone waiting

-- a line more was taken: it was passed over in the bytes that were ahead
pub record TakesLine {W : Type 0} (m : Meaning W) (Keeps : List (List ℕ) → Type 0) (before : List (List ℕ)) (gone : List ℕ) (old new : Option (List ℕ)) (reader : Reader) (waiting : List ℕ) : Type 0 where
  pub line : List ℕ
  pub passes : PassesLine line old new
  pub reached : Reached m Keeps (before ++ line ∷ []) gone reader waiting

-- the first line of those ahead is refused
pub record RefusesLine {W : Type 0} (m : Meaning W) (Keeps : List (List ℕ) → Type 0) (before : List (List ℕ)) (ahead : Option (List ℕ)) (number : ℕ) (why : Refusal W) : Type 0 where
  pub bytes : List ℕ
  pub told : Tells ahead (λ known. known ≡ bytes)
  pub line : List ℕ
  pub behind : List (List ℕ)
  pub split : lines bytes ≡ line ∷ behind
  pub its_number : number ≡ length before + 1
  pub refused : refusal m before line ≡ Some why
  pub keeps : Keeps before

-- the taker failed at the first line of those ahead
pub record FailsLine (Fails : List (List ℕ) → Type 0) (before : List (List ℕ)) (ahead : Option (List ℕ)) : Type 0 where
  pub bytes : List ℕ
  pub told : Tells ahead (λ known. known ≡ bytes)
  pub line : List ℕ
  pub behind : List (List ℕ)
  pub split : lines bytes ≡ line ∷ behind
  pub fails : Fails (before ++ line ∷ [])

-- no line is ahead, and no byte is left
pub record EndsInput {W : Type 0} (m : Meaning W) (Keeps : List (List ℕ) → Type 0) (before : List (List ℕ)) (gone : List ℕ) (old now : Option (List ℕ)) (waiting : List ℕ) : Type 0 where
  pub no_line : Tells old (λ bytes. lines bytes ≡ [])
  pub no_byte : Tells now (λ bytes. bytes ≡ [])
  pub keeps : Keeps before
  pub written : IsWritten m before gone waiting

-- what one step of a run did
abbrev pub Steps : {W F : Type 0} → Meaning W → (List (List ℕ) → Type 0) → List (List ℕ) → List ℕ → Reader → Reading → Reader → Reading → List ℕ → Result Bool (Stop W F) → Type 0
Steps m Keeps before gone r s r' s' waiting (Ok true) = TakesLine m Keeps before gone (ahead r s) (ahead r' s') r' waiting
Steps m Keeps before gone r s r' s' waiting (Ok false) = EndsInput m Keeps before gone (ahead r s) (ahead r' s') waiting
Steps m Keeps before gone r s r' s' waiting (Err (stop.Refused number why)) =
    RefusesLine m Keeps before (ahead r s) number why × IsWritten m before gone waiting
Steps m Keeps before gone r s r' s' waiting (Err stop.ReadFault) = IsCutOff r s s' × IsWritten m before gone waiting
Steps m Keeps before gone r s r' s' waiting (Err stop.WriteFault) = ⊥
Steps m Keeps before gone r s r' s' waiting (Err stop.NoMemory) = IsWritten m before gone waiting
Steps m Keeps before gone r s r' s' waiting (Err (stop.Failed fault)) = IsWritten m before gone waiting

-- a line more is counted by the reader and by the taker
pub record Counts (Within : ℕ → Type 0) (reader : Reader) : Type 0 where
  pub few : reader.count ≤ MOST_LINES
  pub within : Within reader.count

-- with each answer but a fault of reading the source's count of faults stays as it was, and with that fault it rose
abbrev pub ReadsQuietly : {A W F : Type 0} → (before now : ℕ) → Result A (Stop W F) → Type 0
ReadsQuietly before now (Ok value) = now ≡ before
ReadsQuietly before now (Err (stop.Refused number why)) = now ≡ before
ReadsQuietly before now (Err stop.ReadFault) = Rose before now
ReadsQuietly before now (Err stop.WriteFault) = ⊥
ReadsQuietly before now (Err stop.NoMemory) = now ≡ before
ReadsQuietly before now (Err (stop.Failed fault)) = now ≡ before

-- a sink's count of faults stays as it was, and at a failure it rose
abbrev pub HandsOn : {W F : Type 0} → (before now : ℕ) → Result (Unit {0}) (Stop W F) → Type 0
HandsOn before now (Ok done) = now ≡ before
HandsOn before now (Err stop.WriteFault) = Rose before now
HandsOn before now (Err _) = ⊥

-- the sink failed
abbrev pub has_write_fault : {W F : Type 0} → Result (Unit {0}) (Stop W F) → Bool
has_write_fault (Ok done) = false
has_write_fault (Err (stop.Refused number why)) = false
has_write_fault (Err stop.ReadFault) = false
has_write_fault (Err stop.WriteFault) = true
has_write_fault (Err stop.NoMemory) = false
has_write_fault (Err (stop.Failed fault)) = false

-- a part from the front of what waited was handed to the sink
pub record HandedOn (old new : List ℕ) (before now : Writing) : Type 0 where
  pub gone : List ℕ
  pub split : old ≡ gone ++ new
  pub appended : Appends gone before.written now.written

-- these lines are those of a part from the front of the bytes, which ends at a line's end, and the rest is ahead
pub record IsReadTo (bytes : List ℕ) (ahead : Option (List ℕ)) (before : List (List ℕ)) : Type 0 where
  pub whole : List ℕ
  pub rest : List ℕ
  pub are_ahead : ahead ≡ Some rest
  pub split : bytes ≡ whole ++ rest
  pub are_whole : AreWhole whole rest
  pub are_lines : lines whole ≡ before

-- a run between two lines, from the input and the output with which it began
pub record Progress {W : Type 0} (m : Meaning W) (Keeps : List (List ℕ) → Type 0) (input : Reading) (output : Writing) (reader : Reader) (waiting : List ℕ) (source : Reading) (sink : Writing) : Type 0 where
  pub before : List (List ℕ)
  pub gone : List ℕ
  pub reached : Reached m Keeps before gone reader waiting
  pub split : option_map lines input.left ≡ option_map (λ more. before ++ more) (lines_ahead reader source)
  pub read : Tells input.left (λ bytes. IsReadTo bytes (ahead reader source) before)
  pub appended : Appends gone output.written sink.written

-- the same over every source and sink, and every taker
pub record Going (Within : ℕ → Type 0) (input : Reading) (output : Writing) (reader : Reader) (source : Reading) (sink : Writing) : Type 0 where
  pub quiet : NoFault input output source sink
  pub counts : Counts Within reader

-- the same for each meaning for which the taker stood when it began
abbrev pub IsUnderWay : {W : Type 0} → (Stood Stands : Meaning W → List (List ℕ) → Type 0) → Reading → Writing → Reader → List ℕ → Reading → Writing → Type 0
IsUnderWay {W} Stood Stands input output reader waiting source sink =
    (m : Meaning W) → Stood m [] → Progress m (Stands m) input output reader waiting source sink

-- with these bytes the output will be of this sort for the input
pub record Owes (Sort : List ℕ → List ℕ → Type 0) (input : Option (List ℕ)) (old now : Option (List ℕ)) (waiting : List ℕ) : Type 0 where
  pub gone : List ℕ
  pub appended : Appends gone old now
  pub sort : Tells input (λ bytes. Sort bytes (gone ++ waiting))

-- how the reading of an input ended, and what is owed then
abbrev pub Ends : {W F : Type 0} → Meaning W → (List (List ℕ) → Type 0) → Reading → Writing → List ℕ → Reading → Writing → Result (Unit {0}) (Stop W F) → Type 0
Ends m Keeps input output waiting source sink (Ok done) =
    Owes (IsWhole m) input.left output.written sink.written waiting × Tells source.left (λ bytes. bytes ≡ []) × TookAll Keeps input.left
Ends m Keeps input output waiting source sink (Err (stop.Refused number why)) =
    Owes (λ bytes text. IsRefusedFor m number why bytes (text ++ bad_line m number why)) input.left output.written sink.written waiting
    × Owes (IsBegun m) input.left output.written sink.written waiting × TookBefore Keeps number input.left
Ends m Keeps input output waiting source sink (Err stop.ReadFault) = Owes (IsInterrupted m source.left) input.left output.written sink.written waiting
Ends m Keeps input output waiting source sink (Err stop.WriteFault) = Wrote (IsCut m) input.left output.written sink.written
Ends m Keeps input output waiting source sink (Err stop.NoMemory) = Owes (IsBegun m) input.left output.written sink.written waiting
Ends m Keeps input output waiting source sink (Err (stop.Failed fault)) = Owes (IsBegun m) input.left output.written sink.written waiting

-- what is owed by a run that will end so once these bytes are written
abbrev pub Settled : {W F : Type 0} → Meaning W → (List (List ℕ) → Type 0) → Reading → Writing → List ℕ → Reading → Writing → Result (Unit {0}) (Stop W F) → Type 0
Settled m Keeps input output waiting source sink (Ok done) =
    Owes (IsWhole m) input.left output.written sink.written waiting × Tells source.left (λ bytes. bytes ≡ []) × TookAll Keeps input.left
Settled m Keeps input output waiting source sink (Err (stop.Refused number why)) =
    Owes (IsRefusedFor m number why) input.left output.written sink.written waiting × TookBefore Keeps number input.left
Settled m Keeps input output waiting source sink (Err stop.ReadFault) = Owes (IsInterrupted m source.left) input.left output.written sink.written waiting
Settled m Keeps input output waiting source sink (Err stop.WriteFault) = Wrote (IsCut m) input.left output.written sink.written
Settled m Keeps input output waiting source sink (Err stop.NoMemory) = Owes (IsBegun m) input.left output.written sink.written waiting
Settled m Keeps input output waiting source sink (Err (stop.Failed fault)) = Owes (IsBegun m) input.left output.written sink.written waiting
