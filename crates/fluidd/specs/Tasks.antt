-- What the words ask of the program as it is built.
use Rattle.std.specs.Prelude.{◌≡◌, ◌⊎◌, ⊤, ℕ, List, Option, Some, None, Result, Ok, Err, codes, if◌then◌else◌}
use Rattle.fluid_pages.specs.Pages.{is_built, page, version_page}
use Rattle.fluid_words.specs.Words.{command_of}
use Rattle.fluid_words.specs.declared.command.Command.{Command}
use Rattle.fluid_words.specs.declared.command.Command.TheVariants.{Sequence, Script, Load, Workload, Serve, Help, Version}
use Rattle.fluid_words.specs.declared.command.CommandName.{CommandName}
use Rattle.fluid_words.specs.declared.command.CommandName.TheVariants as name
use Rattle.fluid_words.specs.declared.command.WordsFault.{WordsFault}
use Rattle.fluidd.specs.declared.status.Status.{Status}
use Rattle.fluidd.specs.declared.status.Status.TheVariants as status
use Rattle.fluidd.specs.declared.task.Task.{Task as Taken}
use Rattle.fluidd.specs.declared.task.Task.TheVariants as taken

-- what is written where the words ask for nothing
abbrev pub usage_line : List ℕ
usage_line = codes "usage: fluidd sequence | script | load DOC | workload N [--clients C] [--ops K] | serve PORT [--connections N] [--lines]\n"

-- what may be done: a command that is built, a page for a person, or the usage line
pub data Task : Type 0 where
  Doing : Command → Task
  Showing : (page : List ℕ) → Task
  Usage : Task

-- the page on what is built, and the usage line for what isn't
abbrev pub page_task : Option (List ℕ) → Task
page_task (Some text) = Showing text
page_task None = Usage

-- a command where the one of this name is built, and else the usage line
abbrev pub if_built : CommandName → Command → Task
if_built topic command = if is_built topic then Doing command else Usage

abbrev pub task_by : Command → Task
task_by Sequence = if_built name.Sequence Sequence
task_by Script = if_built name.Script Script
task_by (Load document) = if_built name.Load (Load document)
task_by (Workload number clients ops) = if_built name.Workload (Workload number clients ops)
task_by (Serve port connections lines) = if_built name.Serve (Serve port connections lines)
task_by (Help topic) = page_task (page topic)
task_by Version = Showing version_page

abbrev pub task_for : Result Command WordsFault → Task
task_for (Ok command) = task_by command
task_for (Err fault) = Usage

-- what the words behind the program's name ask for
abbrev pub task_of : List (List ℕ) → Task
task_of words = task_for (command_of words)

-- this text is shown, under this status
abbrev pub IsShown : Status → List ℕ → Taken → Type 0
IsShown status text taken.Sequence = ⊥
IsShown status text taken.Script = ⊥
IsShown status text (taken.Load document) = ⊥
IsShown status text (taken.Workload number clients ops) = ⊥
IsShown status text (taken.Serve port connections lines) = ⊥
IsShown status text (taken.Show its_status its_text) = (its_status ≡ status) × (its_text.now ≡ text)

-- what is done is what is asked for
abbrev pub IsTask : Task → Taken → Type 0
IsTask (Doing Sequence) done = done ≡ taken.Sequence
IsTask (Doing Script) done = done ≡ taken.Script
IsTask (Doing (Load document)) done = done ≡ taken.Load document
IsTask (Doing (Workload number clients ops)) done = done ≡ taken.Workload number clients ops
IsTask (Doing (Serve port connections lines)) done = done ≡ taken.Serve port connections lines
IsTask (Doing command) done = ⊥
IsTask (Showing text) done = IsShown status.Done text done
IsTask Usage done = IsShown status.Usage usage_line done

-- the words ask for `serve`
abbrev pub IsServing : Task → Type 0
IsServing (Doing (Serve port connections lines)) = ⊤
IsServing other = ⊥

-- the words ask for `script`, or for `load` of this document
abbrev pub scripting : Option (List ℕ) → Command
scripting None = Script
scripting (Some document) = Load document

abbrev pub IsScripting : Task → Type 0
IsScripting (Doing Script) = ⊤
IsScripting (Doing (Load document)) = ⊤
IsScripting other = ⊥

-- the words ask for `workload`
abbrev pub IsWorking : Task → Type 0
IsWorking (Doing (Workload number clients ops)) = ⊤
IsWorking other = ⊥

-- they ask for a command that reads the input, and for one that uses the desk
abbrev pub IsReading : Task → Type 0
IsReading (Doing Sequence) = ⊤
IsReading (Doing Script) = ⊤
IsReading (Doing (Load document)) = ⊤
IsReading other = ⊥

abbrev pub UsesDesk : Task → Type 0
UsesDesk (Doing Script) = ⊤
UsesDesk (Doing (Load document)) = ⊤
UsesDesk (Doing (Workload number clients ops)) = ⊤
UsesDesk (Doing (Serve port connections lines)) = ⊤
UsesDesk other = ⊥

-- a text is shown under one of two statuses: that it was asked for, or that the words ask for nothing
abbrev pub IsPage : (status : ℕ) → Type 0
IsPage status = (status ≡ 0) ⊎ (status ≡ 2)
