use Rattle.std.proofs.Common.{ap, ◌∙◌, ◌++◌, codes}
use Rattle.std.proofs.lemmas.Int.{to_z-of_z}
use Rattle.std.specs.Fmt.{signed_decimal}
use Rattle.fluid_counter.specs.Content.{content, answer}
use Rattle.fluid_counter.proofs.Contents.{content-answer}
use Rattle.fluid_counter.proofs.content.print.Goals as goal

pub returns-clause-content : goal.returns-clause-content
unfolding content
returns-clause-content c =
    c.new.ensures ∙ ap (λ v. v.items) c.into_bytes.ensures.value ∙ c.in_ok-text.ensures.ok
    ∙ ap (λ total. codes "{\"value\":\"" ++ (signed_decimal total ++ codes "\"}")) (to_z-of_z _ _ c.ranges.total)

pub returns-clause-reads_back : goal.returns-clause-reads_back
returns-clause-reads_back c = λ small. ap answer (returns-clause-content c) ∙ content-answer c.args.total small
