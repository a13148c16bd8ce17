-- What the lines of an input mean, and which of them is refused.
use Rattle.std.specs.Prelude.{◌≡◌, ℕ, ◌+◌, List, [], ◌∷◌, ◌++◌, length, Option, Some, None, Result, Ok, Err, codes, decimal, option_map}
use Rattle.fluid_io.specs.Lines.{line_answer}
use Rattle.fluid_io.specs.declared.line.Line.{Line}
use Rattle.fluid_io.specs.declared.line.LineFault.{LineFault}
use Rattle.fluid_io.specs.declared.line.LineFault.TheVariants as line
use Rattle.fluid_io.specs.declared.lines.TheConstants.{LONGEST_TEXT}
use Rattle.fluid_pipe.specs.declared.refusal.Refusal.{Refusal}
use Rattle.fluid_pipe.specs.declared.refusal.Refusal.TheVariants.{TooLong, NotUtf8, TooManyLines, Text}

-- what a command makes of lines: why a text is refused behind lines that were accepted, if it is, the words for that, and
-- what is written for lines that were accepted
pub record Meaning (W : Type 0) : Type 0 where
  pub refusal : List (List ℕ) → List ℕ → Option W
  pub words : W → List ℕ
  pub output : List (List ℕ) → List ℕ
  pub none : output [] ≡ []

-- ---- which line is refused

abbrev pub answer_refusal : {W : Type 0} → Result Line LineFault → Option (Refusal W)
answer_refusal (Ok line) = None
answer_refusal (Err line.ReadFault) = None
answer_refusal (Err (line.TooLong number)) = Some TooLong
answer_refusal (Err (line.NotUtf8 number)) = Some NotUtf8
answer_refusal (Err line.NoMemory) = None
answer_refusal (Err (line.TooMany number)) = Some TooManyLines

-- a line that a reader of lines doesn't give, by its number, is refused for that: it has more than 1,048,576 bytes, isn't
-- UTF-8 or is the line 16,777,217
abbrev pub line_refusal : {W : Type 0} → (number : ℕ) → List ℕ → Option (Refusal W)
line_refusal number line = answer_refusal (line_answer LONGEST_TEXT number line)

abbrev pub first_of : {A : Type 0} → Option A → Option A → Option A
first_of None second = second
first_of (Some first) second = Some first

-- why a line is refused behind these lines, if it is: for what it is as a line, and else for its text
unfoldable pub refusal : {W : Type 0} → Meaning W → List (List ℕ) → List ℕ → Option (Refusal W)
refusal m before line = first_of (line_refusal (length before + 1) line) (option_map Text (m.refusal before line))

-- each of these lines is accepted behind those before it
abbrev pub Accepts : {W : Type 0} → Meaning W → List (List ℕ) → List (List ℕ) → Type 0
Accepts m before [] = Unit {0}
Accepts m before (line ∷ lines) = (refusal m before line ≡ None) × Accepts m (before ++ line ∷ []) lines

-- ---- the line for a refused one

-- why a line is refused, in words
abbrev pub refusal_words : {W : Type 0} → Meaning W → Refusal W → List ℕ
refusal_words m TooLong = codes "too long"
refusal_words m NotUtf8 = codes "not UTF-8"
refusal_words m TooManyLines = codes "too many lines"
refusal_words m (Text why) = m.words why

-- the line for the refused line of this number, with its end
abbrev pub bad_line : {W : Type 0} → Meaning W → ℕ → Refusal W → List ℕ
bad_line m number why = codes "bad line " ++ (decimal number ++ (codes ": " ++ (refusal_words m why ++ 10 ∷ [])))
