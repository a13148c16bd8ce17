-- Which words spell which command.
use Rattle.std.specs.Prelude.{ℕ, ◌^◌, Bool, false, List, [], ◌∷◌, Option, Some, None, Result, Ok, Err, codes, bytes_eq, option_map, option_and_then, if◌then◌else◌, ◌-◌}
use Rattle.std.specs.Option.{option_map_or}
use Rattle.clap.specs.Walk.{Row, Text, first_of}
use Rattle.clap.specs.Simple.{App, with_rule}
use Rattle.fluid_types.specs.Names.{is_name}
use Rattle.fluid_words.specs.Found.{command, wanted, option, flag, found}
use Rattle.fluid_words.specs.Numbers.{number_within}
use Rattle.fluid_words.specs.declared.command.Command.{Command}
use Rattle.fluid_words.specs.declared.command.Command.TheVariants as a
use Rattle.fluid_words.specs.declared.command.CommandName.{CommandName}
use Rattle.fluid_words.specs.declared.command.CommandName.TheVariants as name
use Rattle.fluid_words.specs.declared.command.WordsFault.{WordsFault}
use Rattle.fluid_words.specs.declared.command.WordsFault.TheVariants.{Usage}

-- ---- the words of the usage line

abbrev pub sequence : App
sequence = command (codes "sequence")

abbrev pub script : App
script = command (codes "script")

-- load DOC
abbrev pub load : App
load = with_rule (command (codes "load")) (wanted (codes "DOC"))

-- workload N [--clients C] [--ops K]
abbrev pub workload : App
workload = with_rule (with_rule (with_rule (command (codes "workload")) (wanted (codes "N")))
    (option (codes "clients") (codes "8"))) (option (codes "ops") (codes "20000"))

-- serve PORT [--connections N] [--lines]
abbrev pub serve : App
serve = with_rule (with_rule (with_rule (command (codes "serve")) (wanted (codes "PORT")))
    (option (codes "connections") (codes "4294967295"))) (flag (codes "lines"))

-- ---- what is asked by the values that were found

-- the value of this name, as a number from `least` to `most`
abbrev pub number_of : (id : Text) (least most : ℕ) → List Row → Option ℕ
number_of id least most rows = option_and_then (number_within least most) (first_of id rows)

-- DOC is a name of a document
abbrev pub load_of : Text → Option Command
load_of name = if is_name name then Some (a.Load name) else None

abbrev pub load_by : List Row → Option Command
load_by rows = option_and_then load_of (first_of (codes "DOC") rows)

-- N is a number of 64 bits; C is from 1 to 1,000, and K from 1 to 100,000
abbrev pub workload_by : List Row → Option Command
workload_by rows =
    option_and_then (λ number. option_and_then (λ clients. option_map (λ ops. a.Workload number clients ops)
    (number_of (codes "ops") 1 100000 rows))
    (number_of (codes "clients") 1 1000 rows))
    (number_of (codes "N") 0 (2 ^ 64 - 1) rows)

-- the option of this name, which takes no value, was given
abbrev pub is_flagged : (id : Text) → List Row → Bool
is_flagged id rows = option_map_or (λ text. bytes_eq text (codes "true")) (first_of id rows) false

-- PORT is a number of 16 bits, and N one of 32
abbrev pub serve_by : List Row → Option Command
serve_by rows =
    option_and_then (λ port. option_map (λ connections. a.Serve port connections (is_flagged (codes "lines") rows))
    (number_of (codes "connections") 0 (2 ^ 32 - 1) rows))
    (number_of (codes "PORT") 0 (2 ^ 16 - 1) rows)

-- ---- which words spell which command

abbrev pub named : Text → Option CommandName
named word =
    if bytes_eq word (codes "sequence") then Some name.Sequence
    else (if bytes_eq word (codes "script") then Some name.Script
    else (if bytes_eq word (codes "load") then Some name.Load
    else (if bytes_eq word (codes "workload") then Some name.Workload
    else (if bytes_eq word (codes "serve") then Some name.Serve else None))))

-- the command that the words behind a command's name spell
abbrev pub behind : CommandName → List Text → Option Command
behind name.Sequence words = option_map (λ rows. a.Sequence) (found sequence words)
behind name.Script words = option_map (λ rows. a.Script) (found script words)
behind name.Load words = option_and_then load_by (found load words)
behind name.Workload words = option_and_then workload_by (found workload words)
behind name.Serve words = option_and_then serve_by (found serve words)

-- the words are this one alone
abbrev pub is_word : Text → List Text → Bool
is_word word [] = false
is_word word (first ∷ []) = bytes_eq first word
is_word word (first ∷ second ∷ words) = false

-- the command that the words behind the program's name spell: `--help`, `--version`, a command's name and `--help`, or a command's
-- name and its words
abbrev pub spelled : List Text → Option Command
spelled [] = None
spelled (first ∷ words) =
    if is_word (codes "--help") (first ∷ words) then Some (a.Help None)
    else (if is_word (codes "--version") (first ∷ words) then Some a.Version
    else option_and_then (λ topic. if is_word (codes "--help") words then Some (a.Help (Some topic)) else behind topic words) (named first))

-- what there is, or the fault that there is nothing
abbrev pub or_usage : {A : Type 0} → Option A → Result A WordsFault
or_usage (Some value) = Ok value
or_usage None = Err Usage

-- what the words behind the program's name ask for
abbrev pub command_of : List Text → Result Command WordsFault
command_of words = or_usage (spelled words)
