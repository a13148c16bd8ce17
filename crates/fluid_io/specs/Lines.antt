-- What a reader of lines answers, and what it and its source have before them then. The lines of bytes are those of
-- `str::lines`: a line feed ends a line and one carriage return before it goes, and a last part without a line
-- feed is a line where it has any byte, and keeps its carriage return.
use Rattle.std.specs.Prelude.{◌≡◌, ◌⊎◌, ℕ, ◌+◌, ◌≤◌, ◌==◌, false, ◌||◌, nat_lt, List, [], ◌∷◌, ◌++◌, length, All, Option, Result, Ok, Err, ⊤, is_err, if◌then◌else◌}
use Rattle.std.specs.Option.{option_map}
use Rattle.std.specs.Str.{is_utf8}
use Rattle.std.specs.Str.Lines.{lines}
use Rattle.fluid_io.specs.declared.lines.TheConstants.{MOST_LINES}
use Rattle.fluid_io.specs.declared.line.Line.{Line}
use Rattle.fluid_io.specs.declared.line.Line.TheVariants.{Text, End}
use Rattle.fluid_io.specs.declared.line.LineFault.{LineFault}
use Rattle.fluid_io.specs.declared.line.LineFault.TheVariants.{ReadFault, TooLong, NotUtf8, NoMemory, TooMany}
use Rattle.fluid_io.specs.Reader.{Reader}
use Rattle.fluid_io.specs.Causes.{Rose, Tells}
use Rattle.fluid_io.specs.Streams.{Reading, Gives}

-- no byte is a line feed
abbrev pub IsPlain : List ℕ → Type 0
IsPlain bytes = All (λ b. (b == 10) ≡ false) bytes

-- the last byte is a line feed
pub record EndsInLineFeed (bytes : List ℕ) : Type 0 where
  pub prefix : List ℕ
  pub is : bytes ≡ prefix ++ 10 ∷ []

-- the bytes before a reader over a source: those that it holds, and then those that the source has left
abbrev pub ahead : Reader → Reading → Option (List ℕ)
ahead r s = option_map (λ left. r.held ++ left) s.left

-- the lines before a reader over a source
abbrev pub lines_ahead : Reader → Reading → Option (List (List ℕ))
lines_ahead r s = option_map lines (ahead r s)

-- the answer for one line, by its number from 1
abbrev pub line_answer : (limit number : ℕ) → List ℕ → Result Line LineFault
line_answer limit number line =
    if nat_lt limit (length line) then Err (TooLong number)
    else (if is_utf8 line then (if nat_lt MOST_LINES number then Err (TooMany number) else Ok (Text line))
    else Err (NotUtf8 number))

-- the answer for the first of these lines
abbrev pub first_answer : (limit number : ℕ) → List (List ℕ) → Result Line LineFault
first_answer limit number [] = Ok End
first_answer limit number (line ∷ more) = line_answer limit number line

-- the next answer of a reader that has these lines before it
abbrev pub next_answer : Reader → List (List ℕ) → Result Line LineFault
next_answer r before = if r.failed then Ok End else first_answer r.limit (r.count + 1) before

-- an answer is the one for the lines of some bytes: where bytes are told, of these
pub record AnswersBytes (r : Reader) (told : Option (List ℕ)) (answer : Result Line LineFault) : Type 0 where
  pub bytes : List ℕ
  pub are_told : Tells told (λ known. known ≡ bytes)
  pub answered : answer ≡ next_answer r (lines bytes)

-- a source cut a reader off: its count of faults rose, and all that was before the reader, but for what the source has
-- left, is a part of a line. It has no line feed, and is at most one byte longer than a line may be, since that byte might
-- be a carriage return
pub record IsCutOff (r : Reader) (before now : Reading) : Type 0 where
  pub rose : Rose before.faults now.faults
  pub part : List ℕ
  pub gives : Gives part (ahead r before) now.left
  pub plain : IsPlain part
  pub few : length part ≤ r.limit + 1

-- why an answer came: a fault of reading where the source cut the reader off, want of memory at any time, and each other
-- answer by the bytes that were before the reader
abbrev pub IsNext : Reader → Reading → Reading → Result Line LineFault → Type 0
IsNext r before now (Ok line) = AnswersBytes r (ahead r before) (Ok line)
IsNext r before now (Err ReadFault) = IsCutOff r before now
IsNext r before now (Err (TooLong number)) = AnswersBytes r (ahead r before) (Err (TooLong number))
IsNext r before now (Err (NotUtf8 number)) = AnswersBytes r (ahead r before) (Err (NotUtf8 number))
IsNext r before now (Err NoMemory) = ⊤
IsNext r before now (Err (TooMany number)) = AnswersBytes r (ahead r before) (Err (TooMany number))

-- how many lines were given after an answer
abbrev pub count_after : ℕ → Result Line LineFault → ℕ
count_after count (Ok (Text text)) = count + 1
count_after count (Ok End) = count
count_after count (Err fault) = count

-- a reader after an answer: it counts each line that it gives, and has failed with its first fault
pub record IsReaderAfter (old new : Reader) (answer : Result Line LineFault) : Type 0 where
  pub limit : new.limit ≡ old.limit
  pub count : new.count ≡ count_after old.count answer
  pub failed : new.failed ≡ (old.failed || is_err answer)

-- the count of faults of the source stays as it was with each answer but the fault of reading
abbrev pub StaysQuiet : {A : Type 0} → (before now : ℕ) → Result A LineFault → Type 0
StaysQuiet before now (Ok value) = now ≡ before
StaysQuiet before now (Err ReadFault) = ⊤
StaysQuiet before now (Err (TooLong number)) = now ≡ before
StaysQuiet before now (Err (NotUtf8 number)) = now ≡ before
StaysQuiet before now (Err NoMemory) = now ≡ before
StaysQuiet before now (Err (TooMany number)) = now ≡ before

-- bytes were passed over from the front of those before a reader; none was lost or given twice
pub record Advances (old new : Option (List ℕ)) : Type 0 where
  pub passed : List ℕ
  pub gives : Gives passed old new

-- a line was passed over from the front of the bytes before a reader: it was the first of their lines, and the others are
-- those of the bytes behind. The bytes that were passed over are this line, and its line feed stands at their end or no
-- byte is behind them
pub record PassesLine (text : List ℕ) (old new : Option (List ℕ)) : Type 0 where
  pub first : option_map lines old ≡ option_map (λ more. text ∷ more) (option_map lines new)
  pub bytes : List ℕ
  pub gives : Gives bytes old new
  pub are : lines bytes ≡ text ∷ []
  pub ended : EndsInLineFeed bytes ⊎ Tells new (λ behind. behind ≡ [])

-- a line that is given was passed over; at the end there are no bytes before a reader that hasn't failed
abbrev pub GivesLine : Reader → Reading → Reader → Reading → Result Line LineFault → Type 0
GivesLine old before new now (Ok (Text text)) = PassesLine text (ahead old before) (ahead new now)
GivesLine old before new now (Ok End) = old.failed ≡ false → Tells (ahead new now) (λ bytes. bytes ≡ [])
GivesLine old before new now (Err fault) = ⊤

-- a reader that has failed answers the end, and neither it nor its source changes
pub record StaysEnded (old : Reader) (before : Reading) (new : Reader) (now : Reading) (answer : Result Line LineFault) : Type 0 where
  pub end : answer ≡ Ok End
  pub reader : new ≡ old
  pub source : now ≡ before
