use Rattle.fluid_words.proofs.Computed.{defaults, help_and_version, numbers, options_given, words_too_many}
use Rattle.fluid_words.proofs.examples.words_and_commands.Goals as goal

pub returns : goal.returns
returns c = record {
  defaults = defaults;
  options = options_given;
  too_many = words_too_many;
  numbers = numbers;
  help_and_version = help_and_version;
}
