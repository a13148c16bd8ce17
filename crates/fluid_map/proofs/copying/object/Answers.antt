use Rattle.std.proofs.Common.{◌≡◌, sym, ap, ◌∙◌}
use Rattle.std.proofs.lemmas.List.{take_all}
use Rattle.std.specs.FinMap.{entries}
use Rattle.fluid_json.specs.Tree.{object, members}
use Rattle.fluid_table.proofs.Places.{same_pairs}
use Rattle.fluid_map.proofs.Contents.{ascending_pushed}
use Rattle.fluid_map.proofs.copying.object.Goals as goal

pub push-requires : goal.push-requires
push-requires c =
    let all : c.as_slice-slice.result.now ≡ entries c.args.entries.now.values = sym (same_pairs c.as_slice-slice.result.now) ∙ c.as_slice-slice.ensures in
    ascending_pushed c.args.entries.now.values c.as_slice-slice.result.now c.loop-key.pairs c.loop-key.key-index c.loop-key-item.result c.in_ok-key.key
    c.in_ok-value.value all c.loop-key.invariant c.loop-key-test.true c.loop-key-item.is c.in_ok-key.ensures c.in_ok-value.ensures

pub returns : goal.returns
returns c =
    let all : c.as_slice-slice.result.now ≡ entries c.args.entries.now.values = sym (same_pairs c.as_slice-slice.result.now) ∙ c.as_slice-slice.ensures in
    c.object.ensures
    ∙ ap (λ pairs. object (members pairs))
    (c.loop-key.invariant ∙ take_all _ c.as_slice-slice.result.now c.loop-key-test.false ∙ all)
