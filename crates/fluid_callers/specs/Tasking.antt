-- What is written of the queues and tasks of a document, by its messages.
use Rattle.std.specs.Prelude.{ℕ, List, ◌++◌, length, codes, decimal}
use Rattle.fluid_types.specs.declared.messages.Message.{Message}
use Rattle.fluid_tasks.specs.Past.{past_of}
use Rattle.fluid_tasks.specs.Printed.{print}
use Rattle.fluid_transcript.specs.Lines.{of_name}

-- tasks at S, with this text of them
abbrev pub line_at : (name : List ℕ) → (number : ℕ) → (shown : List ℕ) → List ℕ
line_at name number shown = of_name name (codes "tasks at " ++ (decimal number ++ (codes ": " ++ shown)))

-- what the first messages of an order make of them
abbrev pub line_behind : (name : List ℕ) → List Message → List ℕ
line_behind name messages = line_at name (length messages) (print (past_of messages))
