-- The grammar of steps: a line is words with one blank between them, a space or a tab. Names, numbers and picks have no blank; the
-- last part of `send`, `edit` and `say` runs to the line's end, and may be empty behind its blank.
use Rattle.std.specs.Prelude.{ℕ, ◌==◌, nat_lt, List, length, Bool, ◌||◌, Option, Some, None, option_map, option_and_then, find, bytes_eq, codes, Result, Err, if◌then◌else◌}
use Rattle.std.specs.List.{position_or_len, before_first, after_first}
use Rattle.std.specs.Option.{ok_or}
use Rattle.fluid_json.specs.declared.value.TheConstants.{LARGEST}
use Rattle.fluid_types.specs.Names.{is_name}
use Rattle.fluid_tree.specs.Ids.{id_read}
use Rattle.fluid_loader.specs.declared.link.Pick.{Pick}
use Rattle.fluid_loader.specs.declared.link.Pick.TheVariants.{Empty, Latest, Handle}
use Rattle.fluid_words.specs.Numbers.{number_within}
use Rattle.fluid_steps.specs.Names.{is_script_name}
use Rattle.fluid_steps.specs.Words.{step_word, step_words}
use Rattle.fluid_steps.specs.Ops.{op_spelled}
use Rattle.fluid_steps.specs.declared.steps.Step.{Step}
use Rattle.fluid_steps.specs.declared.steps.Step.TheVariants as step
use Rattle.fluid_steps.specs.declared.steps.StepWord.{StepWord}
use Rattle.fluid_steps.specs.declared.steps.StepWord.TheVariants as word
use Rattle.fluid_steps.specs.declared.refusal.LineWhy.{LineWhy}
use Rattle.fluid_steps.specs.declared.refusal.LineWhy.TheVariants.{UnknownStep, BadStep}

-- one step after another: where the first gives nothing, nothing
infixl 1 ◌>>=◌
abbrev ◌>>=◌ : {A B : Type 0} → Option A → (A → Option B) → Option B
first >>= next = option_and_then next first

-- ---- words

abbrev pub is_blank : ℕ → Bool
is_blank byte = byte == 32 || byte == 9

-- what stands before the first blank, which is all of it where there is none
abbrev pub first_word : List ℕ → List ℕ
first_word text = before_first is_blank text

-- a text at its first blank, with what stands before it and behind it
abbrev pub cut : List ℕ → Option (List ℕ × List ℕ)
cut text = if nat_lt (position_or_len is_blank text) (length text) then Some (before_first is_blank text, after_first is_blank text) else None

-- the name of a connection, a container or a roamer
abbrev pub script_name : List ℕ → Option (List ℕ)
script_name text = if is_script_name text then Some text else None

abbrev pub document_name : List ℕ → Option (List ℕ)
document_name text = if is_name text then Some text else None

-- a number in decimal, without a sign or a leading zero
abbrev pub number : List ℕ → Option ℕ
number text = number_within 0 LARGEST text

-- `none`, `latest`, or a handle's 40 lower-case hexadecimal digits
abbrev pub pick : List ℕ → Option Pick
pick text =
    if bytes_eq text (codes "none") then Some Empty
    else (if bytes_eq text (codes "latest") then Some Latest
    else option_map Handle (id_read text))

-- ---- what stands behind a step's word

-- C TEXT
abbrev pub send : List ℕ → Option Step
send rest = do
  parts ← cut rest
  name ← script_name parts.0
  Some (step.Send name parts.1)

-- P OP
abbrev pub edit : List ℕ → Option Step
edit rest = do
  parts ← cut rest
  name ← script_name parts.0
  op ← op_spelled parts.1
  Some (step.Edit name op)

-- P D none, P D latest, P D HANDLE
abbrev pub load : List ℕ → Option Step
load rest = do
  parts ← cut rest
  others ← cut parts.1
  name ← script_name parts.0
  document ← document_name others.0
  picked ← pick others.1
  Some (step.Load name document picked)

-- D K
abbrev pub restart : List ℕ → Option Step
restart rest = do
  parts ← cut rest
  document ← document_name parts.0
  checkpoint ← number parts.1
  Some (step.Restart document checkpoint)

-- D MS
abbrev pub sweep : List ℕ → Option Step
sweep rest = do
  parts ← cut rest
  document ← document_name parts.0
  silence ← number parts.1
  Some (step.Sweep document silence)

-- R D
abbrev pub roam : List ℕ → Option Step
roam rest = do
  parts ← cut rest
  name ← script_name parts.0
  document ← document_name parts.1
  Some (step.Roam name document)

-- R OP
abbrev pub say : List ℕ → Option Step
say rest = do
  parts ← cut rest
  name ← script_name parts.0
  op ← op_spelled parts.1
  Some (step.Say name op)

-- the step of this word, by what stands behind the word's blank
abbrev pub form : StepWord → List ℕ → Option Step
form word.Send rest = send rest
form word.Collect rest = option_map step.Collect (script_name rest)
form word.Close rest = option_map step.Close (script_name rest)
form word.Scribe rest = option_map step.Scribe (document_name rest)
form word.Checkpoint rest = option_map step.Checkpoint (document_name rest)
form word.Restart rest = restart rest
form word.Reopen rest = option_map step.Reopen (document_name rest)
form word.Sweep rest = sweep rest
form word.Count rest = option_map step.Count (document_name rest)
form word.Tasks rest = option_map step.Tasks (document_name rest)
form word.Load rest = load rest
form word.Pump rest = option_map step.Pump (script_name rest)
form word.Edit rest = edit rest
form word.Beat rest = option_map step.Beat (script_name rest)
form word.Summarize rest = option_map step.Summarize (script_name rest)
form word.Show rest = option_map step.Show (script_name rest)
form word.Roam rest = roam rest
form word.Say rest = say rest
form word.Lose rest = option_map step.Lose (script_name rest)
form word.Back rest = option_map step.Back (script_name rest)
form word.Acked rest = option_map step.Acked (script_name rest)

-- ---- a whole line

-- the step whose word begins a line
abbrev pub word_in : List ℕ → Option StepWord
word_in line = find (λ w. bytes_eq (first_word line) (step_word w)) step_words

-- the step of this word that a line spells
abbrev pub step_of : List ℕ → StepWord → Option Step
step_of line w = do
  parts ← cut line
  form w parts.1

abbrev pub spelled : List ℕ → Option StepWord → Result Step LineWhy
spelled line None = Err UnknownStep
spelled line (Some w) = ok_or (step_of line w) BadStep

-- the step that a line spells, or why it spells none: its first word is none of a step, or the others are outside the step's form
abbrev pub step_spelled : List ℕ → Result Step LineWhy
step_spelled line = spelled line (word_in line)
