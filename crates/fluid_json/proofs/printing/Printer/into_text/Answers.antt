use Rattle.std.proofs.Common.{ap, ◌++◌, ◌≡◌, ◌∙◌, sym, subst}
use Rattle.std.proofs.lemmas.Result.{IfOk-at_ok}
use Rattle.std.specs.String.{string_vec}
use Rattle.std.specs.Str.{IsUtf8}
use Rattle.json.specs.Print.{print}
use Rattle.fluid_json.proofs.Texts.{print-tokens_of}
use Rattle.fluid_json.proofs.printing.Printer.into_text.Goals as goal

pub unwrap-requires : goal.unwrap-requires
unwrap-requires c =
    let nothing = ap (λ p. p.before) c.self.view_is ∙ c.requires in
    c.from_utf8.ensures.succeeds (subst IsUtf8 (sym (c.into_inner-bytes.ensures.items ∙ ap (λ b. b ++ print c.self.inside.out.tokens) nothing)) c.into_inner-bytes.ensures.utf8)

pub returns : goal.returns
returns c t are =
    let nothing = ap (λ p. p.before) c.self.view_is ∙ c.requires in
    let held = ap print (ap (λ p. p.tokens) c.self.view_is ∙ are) ∙ print-tokens_of t in
    let bytes = c.into_inner-bytes.ensures.items ∙ ap (λ b. b ++ print c.self.inside.out.tokens) nothing ∙ held in
    c.new.ensures ∙ ap (λ v. v.items) (IfOk-at_ok (λ s. string_vec s ≡ c.into_inner-bytes.result) c.unwrap.ensures c.from_utf8.ensures.ok) ∙ bytes
