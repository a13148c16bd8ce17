-- Which commands are built, and the pages that are shown to a person.
use Rattle.std.specs.Prelude.{ℕ, Bool, List, Option, Some, None, is_some}
use Rattle.fluid_words.specs.declared.command.CommandName.{CommandName}
use Rattle.fluid_words.specs.declared.command.CommandName.TheVariants as name
use Rattle.fluid_pages.specs.declared.pages.TheConstants.{LOAD, PROGRAM, SCRIPT, SEQUENCE, SERVE, VERSION, WORKLOAD}

-- the commands that are built, each with its page
abbrev pub built : CommandName → Option (List ℕ)
built name.Sequence = Some SEQUENCE.now
built name.Script = Some SCRIPT.now
built name.Load = Some LOAD.now
built name.Workload = Some WORKLOAD.now
built name.Serve = Some SERVE.now

abbrev pub is_built : CommandName → Bool
is_built topic = is_some (built topic)

-- the page on the program, and the one on each command that is built
abbrev pub page : Option CommandName → Option (List ℕ)
page None = Some PROGRAM.now
page (Some topic) = built topic

-- the program's name and its version
abbrev pub version_page : List ℕ
version_page = VERSION.now
