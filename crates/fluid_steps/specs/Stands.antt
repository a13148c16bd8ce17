-- The walk over a text, as `fluid_json` defines it.
use Rattle.fluid_json.specs.declared.nesting.Place.{Place}
use Rattle.fluid_json.specs.declared.nesting.Place.TheVariants.{Outside, Inside, Escaped}
use Rattle.fluid_steps.specs.declared.nesting.Stand.{Stand}
use Rattle.fluid_steps.specs.declared.nesting.Stand.TheVariants.{Plain, Quoted, Slashed}

abbrev pub place : Stand → Place
place Plain = Outside
place Quoted = Inside
place Slashed = Escaped
