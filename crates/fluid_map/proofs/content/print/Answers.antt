use Rattle.std.proofs.Common.{◌≡◌, rules, All, IsUtf8, string_bytes, ap, sym, subst, ◌∙◌}
use Rattle.std.specs.FinMap.{entries}
use Rattle.std.proofs.lemmas.Str.{IsUtf8-string_bytes}
use Rattle.fluid_json.specs.Tree.{object, members, IsCanonical}
use Rattle.fluid_json.specs.Printed.{printed}
use Rattle.fluid_table.proofs.Places.{same_pairs}
use Rattle.fluid_map.specs.Content.{content, answer}
use Rattle.fluid_map.proofs.Contents.{reads_back}
use Rattle.fluid_map.proofs.content.print.Goals as goal

pub returns-clause-content : goal.returns-clause-content
returns-clause-content c =
    c.new.ensures
    ∙ ap (λ bytes. bytes.items) c.into_bytes.ensures.value
    ∙ c.into_string.ensures
    ∙ c.in_ok-text.ensures.text
    ∙ ap (λ pairs. printed (object (members pairs))) (sym (same_pairs c.as_slice.result.now) ∙ c.as_slice.ensures)

pub returns-clause-reads_back : goal.returns-clause-reads_back
returns-clause-reads_back c = λ shallow.
    let pairs_are : c.as_slice.result.now ≡ entries c.args.entries.now.values = sym (same_pairs c.as_slice.result.now) ∙ c.as_slice.ensures in
    let bytes_are : string_bytes c.into_string.result ≡ content c.args.entries.now.values = c.into_string.ensures ∙ c.in_ok-text.ensures.text ∙ ap (λ pairs. printed (object (members pairs))) pairs_are in
    let blob_is : c.new.result ≡ content c.args.entries.now.values = search rules in
    let utf8 = subst IsUtf8 bytes_are (IsUtf8-string_bytes c.into_string.result) in
    let canonical = subst (λ pairs. All (λ pair. IsCanonical pair.1) pairs) pairs_are c.in_ok-text.ensures.canonical in
    ap answer blob_is ∙ reads_back c.printed_is_read_back.ensures c.args.entries.now.values utf8 canonical shallow
