use Rattle.std.proofs.Common.{ap, ◌∙◌, ◌++◌, arith}
use Rattle.fluid_json.specs.Spelled.{answer}
use Rattle.fluid_json.specs.Tokens.{tokens_of}
use Rattle.fluid_json.proofs.ReadBack.{answers_itself}
use Rattle.fluid_json.proofs.printing.print.Goals as goal

pub returns-clause-reads_back : goal.returns-clause-reads_back
returns-clause-reads_back c shallow =
    let are = c.in_ok-value.ensures.tokens ∙ ap (λ ts. ts ++ tokens_of c.args.value.now) c.new-out.ensures.tokens in
    ap answer (c.into_text.ensures c.args.value.now are) ∙ answers_itself 101 c.args.value.now c.canonical.ensures (omega arith) (omega arith)
