-- What the buffer behind a reader of lines holds, and how the bytes of one line are taken from it.
use Rattle.std.specs.Prelude.{◌≡◌, ℕ, ◌+◌, ◌<◌, ◌≤◌, ◌==◌, Bool, false, List, [], ◌∷◌, ◌++◌, length, Option, Result, Ok, Err, if◌then◌else◌}
use Rattle.std.specs.Option.{option_map}
use Rattle.fluid_io.specs.declared.chunk.Ending.{Ending}
use Rattle.fluid_io.specs.declared.chunk.Ending.TheVariants.{LineFeed, Input, Excess}
use Rattle.fluid_io.specs.declared.line.LineFault.{LineFault}
use Rattle.fluid_io.specs.declared.line.LineFault.TheVariants.{ReadFault, TooLong, NotUtf8, NoMemory, TooMany}
use Rattle.fluid_io.specs.declared.line.Line.{Line}
use Rattle.fluid_io.specs.declared.line.Line.TheVariants.{End}
use Rattle.std.specs.Str.Lines.{strip_carriage_return}
use Rattle.fluid_io.specs.Lines.{line_answer, IsPlain}
use Rattle.fluid_io.specs.Causes.{Tells, Rose}
use Rattle.fluid_io.specs.Streams.{Reading, Gives}

-- the bytes that are held and then those that the source has left
abbrev pub behind_held : List ℕ → Reading → Option (List ℕ)
behind_held held s = option_map (λ left. held ++ left) s.left

-- bytes were moved from the front of those that are held to the end of the line: up to a line feed, which was taken
-- too, or all of them
pub record TakesPiece (old new before now : List ℕ) (whole : Bool) : Type 0 where
  pub piece : List ℕ
  pub added : now ≡ before ++ piece
  pub plain : IsPlain piece
  pub taken : old ≡ piece ++ (if whole then 10 ∷ new else new)
  pub rest : whole ≡ false → new ≡ []

-- the bytes of a line as far as they were taken, and those before the reader then
pub record Collects (old new : Option (List ℕ)) (line : List ℕ) : Type 0 where
  pub plain : IsPlain line
  pub gives : Gives line old new

-- how the bytes of a line came to their end: by a line feed, which was taken too; by the end of the input; or
-- by their number, which is above the limit though one more byte might be a carriage return
abbrev pub EndsLine : (limit : ℕ) → Option (List ℕ) → Option (List ℕ) → List ℕ → Ending → Type 0
EndsLine limit old new line LineFeed = Gives (line ++ 10 ∷ []) old new
EndsLine limit old new line Input = Gives line old new × Tells new (λ bytes. bytes ≡ [])
EndsLine limit old new line Excess = Gives line old new × (limit + 1 < length line)

-- the same of a search that may fail. Where the source fails no byte is held, and they aren't too many yet
abbrev pub SearchesLine : (limit : ℕ) → Reading → Reading → Option (List ℕ) → Option (List ℕ) → List ℕ → Result Ending LineFault → Type 0
SearchesLine limit before now old new line (Ok ending) = EndsLine limit old new line ending
SearchesLine limit before now old new line (Err ReadFault) =
    Gives line old new × (new ≡ now.left) × (length line ≤ limit + 1) × Rose before.faults now.faults
SearchesLine limit before now old new line (Err NoMemory) = Gives line old new
SearchesLine limit before now old new line (Err (TooLong number)) = ⊥
SearchesLine limit before now old new line (Err (NotUtf8 number)) = ⊥
SearchesLine limit before now old new line (Err (TooMany number)) = ⊥

-- the answer for the bytes of a line by how they came to their end
abbrev pub ended_answer : (limit number : ℕ) → List ℕ → Ending → Result Line LineFault
ended_answer limit number line Excess = Err (TooLong number)
ended_answer limit number line Input = if length line == 0 then Ok End else line_answer limit number line
ended_answer limit number line LineFeed = line_answer limit number (strip_carriage_return line)
