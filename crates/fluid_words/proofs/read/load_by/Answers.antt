use Rattle.std.proofs.Common.{◌∙◌, ap, inr, codes}
use Rattle.std.specs.Prelude.{option_and_then}
use Rattle.clap.specs.Matches.{found_of}
use Rattle.clap.proofs.WalkLemmas.{first_value-rows}
use Rattle.fluid_words.specs.Words.{load_of, or_usage}
use Rattle.fluid_words.proofs.Asked.{loads, loads-none}
use Rattle.fluid_words.proofs.read.load_by.Goals as goal

pub returns-in_default : goal.returns-in_default
returns-in_default c = inr (ap (λ o. or_usage (option_and_then load_of o)) (c.in_default.ensures ∙ first_value-rows (found_of c.args.matches.now) (codes "DOC")))

pub returns-in-Ok : goal.returns-in-Ok
returns-in-Ok c =
    inr (loads _ _ c.in-Ok.ensures ∙ ap (λ o. or_usage (option_and_then load_of o)) (c.in-Some.ensures ∙ first_value-rows (found_of c.args.matches.now) (codes "DOC")))

pub returns-in-Err-BadName : goal.returns-in-Err-BadName
returns-in-Err-BadName c =
    let bad = rw c.in-Err-BadName.field-0-is at c.in-Err-BadName.ensures in
    inr (loads-none _ bad ∙ ap (λ o. or_usage (option_and_then load_of o)) (c.in-Some.ensures ∙ first_value-rows (found_of c.args.matches.now) (codes "DOC")))
