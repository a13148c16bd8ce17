-- The values of a command that are found among words, as `clap` finds them: an option may stand before or behind what has
-- to be given, as `--clients 3` or `--clients=3` and at most once, and behind `--` nothing is an option.
use Rattle.std.specs.Prelude.{◌≡◌, true, List, [], ◌∷◌, Option, Some, None, Result, Ok, Err, if◌then◌else◌}
use Rattle.clap.specs.Walk.{Row, Rule, Text, is_empty, rows_of}
use Rattle.clap.specs.Simple.{App, matches_of, new_app, new_rule}
use Rattle.clap.specs.Faults.{fault_of}
use Rattle.clap.specs.Matches.{found_of}
use Rattle.clap.specs.declared.builder.action.ArgAction.TheVariants.{SetTrue}
use Rattle.clap.specs.declared.error.kind.ErrorKind.{ErrorKind}
use Rattle.clap.specs.declared.error.kind.ErrorKind.TheVariants as kind
use Rattle.clap.specs.declared.parser.matches.ArgMatches.{ArgMatches}
use Rattle.fluid_words.specs.declared.command.WordsFault.{WordsFault}
use Rattle.fluid_words.specs.declared.command.WordsFault.TheVariants.{Usage, NoMemory}

-- a value that has to be given, by its place
abbrev pub wanted : Text → Rule
wanted id = record (new_rule id) { required = true }

-- an option with a value, and the value that stands where it isn't given
abbrev pub option : (id default : Text) → Rule
option id default = record (new_rule id) { long = Some id; defaults = default ∷ [] }

-- an option without a value
abbrev pub flag : Text → Rule
flag id = record (new_rule id) { long = Some id; action = Some SetTrue }

-- a command whose words are those behind its name. It has no option of its own for help
abbrev pub command : Text → App
command name = let app = new_app name in
    record app { top = record app.top { no_binary_name = true; disable_help_flag = true } }

-- what is found for a command among the words behind its name, where they are words of this command
abbrev pub found : App → List Text → Option (List Row)
found app words = if is_empty (fault_of app words) then Some (matches_of app words) else None

-- the fault that stands for an error of `clap`
abbrev pub fault_by : ErrorKind → WordsFault
fault_by kind.OutOfMemory = NoMemory
fault_by _ = Usage

-- an answer is what is found, but for want of memory
abbrev pub IsFound : App → List Text → Result ArgMatches WordsFault → Type 0
IsFound app words (Ok matches) = found app words ≡ Some (rows_of (found_of matches))
IsFound app words (Err Usage) = found app words ≡ None
IsFound app words (Err NoMemory) = Unit {0}

-- the same of an answer that says only whether these are words of the command
abbrev pub AreWordsOf : App → List Text → Result (Unit {0}) WordsFault → Type 0
AreWordsOf app words (Ok done) = (rows : List Row) × (found app words ≡ Some rows)
AreWordsOf app words (Err Usage) = found app words ≡ None
AreWordsOf app words (Err NoMemory) = Unit {0}
