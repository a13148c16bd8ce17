-- The worked examples, computed.
use Rattle.std.proofs.Common.{refl}
use Rattle.clap.proofs.OnLiterals.{clap_on_literals}
use Rattle.fluid_types.specs.Names.{is_name}
use Rattle.fluid_words.specs.Numbers.{is_decimal}
use Rattle.fluid_words.specs.Examples.{Defaults, OptionsGiven, WordsTooMany, Numbers, HelpAndVersion}

pub defaults : Defaults
unfolding clap_on_literals is_decimal
defaults = (refl, refl)

pub options_given : OptionsGiven
unfolding clap_on_literals is_decimal
options_given = (refl, refl)

pub words_too_many : WordsTooMany
unfolding clap_on_literals is_decimal
words_too_many = (refl, refl, refl)

pub numbers : Numbers
unfolding clap_on_literals is_decimal
numbers = (refl, refl, refl)

pub help_and_version : HelpAndVersion
unfolding clap_on_literals is_decimal is_name
help_and_version = (refl, refl, refl, refl, refl)
