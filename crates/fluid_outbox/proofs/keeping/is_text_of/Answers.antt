use Rattle.std.proofs.Common.{List, ℕ, sym, ap, ◌∙◌, bytes_eq}
use Rattle.fluid_json.specs.Tree.{text}
use Rattle.fluid_json.specs.Printed.{printed}
use Rattle.fluid_outbox.proofs.Quoted.{not_quoted, quoted}
use Rattle.fluid_outbox.proofs.keeping.is_text_of.Goals as goal

pub returns-in_default-strip_suffix : goal.returns-in_default-strip_suffix
returns-in_default-strip_suffix c =
    sym
    (ap (λ (s : List ℕ). bytes_eq s (printed (text c.args.id.now))) (sym c.as_bytes.ensures.value)
    ∙ not_quoted c.as_bytes.result.now c.in-Some.rest.now c.args.id.now c.in-Some.ensures.cases.0 c.in-Some.ensures.cases.1 c.in_default-strip_suffix.ensures.cases)

pub returns : goal.returns
returns c =
    c.eq.ensures
    ∙ ap (bytes_eq c.in-Some-strip_suffix.own.now) (c.as_bytes-2.ensures.value ∙ c.as_str.ensures.bytes)
    ∙ quoted c.as_bytes.result.now c.in-Some.rest.now c.in-Some-strip_suffix.own.now c.args.id.now c.as_str.ensures.name c.in-Some.ensures.cases.0 c.in-Some.ensures.cases.1
    c.in-Some-strip_suffix.ensures.cases.0 c.in-Some-strip_suffix.ensures.cases.1
    ∙ ap (λ (s : List ℕ). bytes_eq s (printed (text c.args.id.now))) c.as_bytes.ensures.value
