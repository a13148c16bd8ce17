use Rattle.std.specs.Prelude.{ℕ, List, Option, Some, None, Result, Ok, Err}
use Rattle.fluid_json.specs.Tree.{Tree, as_text}
use Rattle.fluid_json.specs.Spelled.{answer}
use Rattle.fluid_json.specs.declared.fault.JsonFault.{JsonFault}

-- what was read, and where nothing was, another value
abbrev pub read_or : Tree → Result Tree JsonFault → Tree
read_or other (Ok value) = value
read_or other (Err fault) = other

-- the value that a text spells, and where there is no text or it isn't JSON, the contents
abbrev pub body_of : Tree → Option (List ℕ) → Tree
body_of contents None = contents
body_of contents (Some spelling) = read_or contents (answer spelling)

-- the body of some contents: a text that is itself JSON stands for the value that it spells
unfoldable pub body : Tree → Tree
body contents = body_of contents (as_text contents)
