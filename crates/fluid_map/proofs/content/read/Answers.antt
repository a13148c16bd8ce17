use Rattle.std.proofs.Common.{rules, ◌≡◌, ap, sym, subst, ◌∙◌, Ok, Err, true, false, bytes_eq}
use Rattle.std.specs.FinMap.{from_sorted}
use Rattle.fluid_table.proofs.Places.{AreInOrder, same_pairs}
use Rattle.fluid_json.specs.Printed.{printed}
use Rattle.fluid_json.specs.Spelled as json
use Rattle.fluid_map.proofs.Contents.{refused, not_utf8, not_json, not_object, not_printed, was_read, read_whole, canonical_in_order, members_canonical, object_is, differs, alike}
use Rattle.fluid_map.proofs.content.read.Goals as goal

pub returns-in_default-clause-fault : goal.returns-in_default-clause-fault
returns-in_default-clause-fault c = refused _ _ c.no_content.ensures (not_utf8 c.args.blob.now c.in_default.ensures.cases.0)

pub returns-in-Err : goal.returns-in-Err
returns-in-Err c =
    let fault : json.answer c.in-Ok.text.now ≡ Err c.in-Err.field-0 = search rules in
    record {
      entries = tt;
      fault = refused _ _ c.no_content-in-Err.ensures (not_json c.printed_is_read_back.ensures c.args.blob.now c.in-Err.field-0 (ap json.answer (sym c.in-Ok.ensures.cases.0) ∙ fault));
    }

pub returns-then-ne-clause-fault : goal.returns-then-ne-clause-fault
returns-then-ne-clause-fault c =
    let read = ap json.answer (sym c.in-Ok.ensures.cases.0) ∙ was_read _ _ c.in-Ok-read.ensures in
    let differ : bytes_eq c.as_str.result.now c.in-Ok.text.now ≡ false = search rules in
    refused _ _ c.no_content-then-ne.ensures
    (not_printed c.printed_is_read_back.ensures c.args.blob.now c.in-Ok-read.value read c.canonical.ensures
    (λ is. differs _ _ differ (c.in-Ok.ensures.cases.0 ∙ is ∙ sym (c.as_str.ensures ∙ c.in_ok-printed.ensures.text))))

pub of_sorted-requires : goal.of_sorted-requires
of_sorted-requires c = rw c.into_vec.ensures
    (subst AreInOrder (sym (same_pairs c.in-Some.pairs)) (canonical_in_order c.in-Some.pairs (members_canonical c.in-Ok-read.value c.in-Some.pairs c.in-Some.ensures c.canonical.ensures)))

pub returns-in-Some-clause-entries : goal.returns-in-Some-clause-entries
returns-in-Some-clause-entries c =
    let read = ap json.answer (sym c.in-Ok.ensures.cases.0) ∙ was_read _ _ c.in-Ok-read.ensures in
    let same : bytes_eq c.as_str.result.now c.in-Ok.text.now ≡ true = search rules in
    let object = object_is c.in-Ok-read.value c.in-Some.pairs c.in-Some.ensures in
    let is : c.of_sorted.result.values ≡ from_sorted c.in-Some.pairs = c.of_sorted.ensures ∙ ap from_sorted (same_pairs c.into_vec.result.items ∙ c.into_vec.ensures) in
    rw is
    (read_whole c.args.blob.now c.in-Some.pairs c.in-Ok.ensures.cases.1 (read ∙ ap Ok object)
    (sym c.in-Ok.ensures.cases.0 ∙ alike _ _ same ∙ c.as_str.ensures ∙ c.in_ok-printed.ensures.text ∙ ap printed object)
    (members_canonical c.in-Ok-read.value c.in-Some.pairs c.in-Some.ensures c.canonical.ensures))

pub returns-clause-fault : goal.returns-clause-fault
returns-clause-fault c =
    let read = ap json.answer (sym c.in-Ok.ensures.cases.0) ∙ was_read _ _ c.in-Ok-read.ensures in
    refused _ _ c.no_content-in-None.ensures (not_object c.printed_is_read_back.ensures c.args.blob.now c.in-Ok-read.value read (sym c.in-None.ensures))
