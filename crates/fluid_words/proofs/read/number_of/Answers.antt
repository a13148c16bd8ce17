use Rattle.std.proofs.Common.{◌∙◌, ap}
use Rattle.std.specs.Prelude.{option_and_then}
use Rattle.clap.specs.Matches.{found_of}
use Rattle.clap.proofs.WalkLemmas.{first_value-rows}
use Rattle.fluid_words.specs.Numbers.{number_within}
use Rattle.fluid_words.specs.Words.{or_usage}
use Rattle.fluid_words.proofs.read.number_of.Goals as goal

pub returns-in_default-clause-number : goal.returns-in_default-clause-number
returns-in_default-clause-number c =
    ap (λ o. or_usage (option_and_then (number_within c.args.least c.args.most) o)) (c.in_default.ensures ∙ first_value-rows (found_of c.args.matches.now) c.args.id.now)

pub returns-in-Some-read_number-clause-number : goal.returns-in-Some-read_number-clause-number
returns-in-Some-read_number-clause-number c =
    ap or_usage c.in-Some-read_number.ensures
    ∙ ap (λ o. or_usage (option_and_then (number_within c.args.least c.args.most) o)) (c.in-Some.ensures ∙ first_value-rows (found_of c.args.matches.now) c.args.id.now)

pub returns-in-None-clause-number : goal.returns-in-None-clause-number
returns-in-None-clause-number c =
    ap or_usage c.in-None.ensures
    ∙ ap (λ o. or_usage (option_and_then (number_within c.args.least c.args.most) o)) (c.in-Some.ensures ∙ first_value-rows (found_of c.args.matches.now) c.args.id.now)
