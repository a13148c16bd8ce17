-- Worked examples: what some words behind the program's name ask for.
use Rattle.std.specs.Prelude.{◌≡◌, true, false, [], ◌∷◌, Some, None, Ok, Err, codes}
use Rattle.fluid_words.specs.Words.{command_of}
use Rattle.fluid_words.specs.declared.command.Command.TheVariants.{Load, Workload, Serve, Help, Version}
use Rattle.fluid_words.specs.declared.command.CommandName.TheVariants as name
use Rattle.fluid_words.specs.declared.command.WordsFault.TheVariants.{Usage}

-- an option that isn't given has its default
abbrev pub Defaults : Type 0
Defaults =
    (command_of (codes "workload" ∷ codes "7" ∷ []) ≡ Ok (Workload 7 8 20000))
    × (command_of (codes "serve" ∷ codes "80" ∷ []) ≡ Ok (Serve 80 4294967295 false))

-- an option stands before or behind the value that has to be given, and its own value behind it or behind `=`
abbrev pub OptionsGiven : Type 0
OptionsGiven =
    (command_of (codes "workload" ∷ codes "--ops" ∷ codes "5" ∷ codes "7" ∷ codes "--clients=2" ∷ []) ≡ Ok (Workload 7 2 5))
    × (command_of (codes "serve" ∷ codes "--lines" ∷ codes "80" ∷ []) ≡ Ok (Serve 80 4294967295 true))

-- an option is given once at most, and with its value, and a command has no word too many
abbrev pub WordsTooMany : Type 0
WordsTooMany =
    (command_of (codes "serve" ∷ codes "80" ∷ codes "--lines" ∷ codes "--lines" ∷ []) ≡ Err Usage)
    × (command_of (codes "workload" ∷ codes "7" ∷ codes "--ops" ∷ []) ≡ Err Usage)
    × (command_of (codes "sequence" ∷ codes "d" ∷ []) ≡ Err Usage)

-- a number lies in its range, and has no sign and no leading zero
abbrev pub Numbers : Type 0
Numbers =
    (command_of (codes "serve" ∷ codes "65536" ∷ []) ≡ Err Usage)
    × (command_of (codes "serve" ∷ codes "+80" ∷ []) ≡ Err Usage)
    × (command_of (codes "serve" ∷ codes "080" ∷ []) ≡ Err Usage)

-- `--help` is help where it stands alone or right behind a command's name; behind `--` nothing is an option
abbrev pub HelpAndVersion : Type 0
HelpAndVersion =
    (command_of (codes "--help" ∷ []) ≡ Ok (Help None))
    × (command_of (codes "load" ∷ codes "--help" ∷ []) ≡ Ok (Help (Some name.Load)))
    × (command_of (codes "load" ∷ codes "--" ∷ codes "--help" ∷ []) ≡ Ok (Load (codes "--help")))
    × (command_of (codes "--version" ∷ []) ≡ Ok Version)
    × (command_of (codes "--version" ∷ codes "--help" ∷ []) ≡ Err Usage)
