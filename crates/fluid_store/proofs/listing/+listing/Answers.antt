use Rattle.std.proofs.Common.{◌≡◌, suc, ◌-◌, Ok, Some, arith, ap, refl, ◌∙◌, option_map}
use Rattle.fluid_tree.specs.Summary.{children}
use Rattle.fluid_store.specs.Following.{known_all}
use Rattle.fluid_store.specs.Parts.{leads_in, part_within, parts_within, tree_within}
use Rattle.fluid_store.proofs.Fetched.{tells_all, tells_then, tells_of}
use Rattle.fluid_store.proofs.Lists.{Goes, lists_on, lists_stop, lists_handed, too_deep, deeper, handle_within, blob_within, blob_there, node_more, node_stops, nodes_end, tree_goes}
use Rattle.fluid_store.proofs.listing.+listing.Goals as goal

pub list_node-returns-then-levels-eq0-clause-says : goal.list_node-returns-then-levels-eq0-clause-says
list_node-returns-then-levels-eq0-clause-says g t c =
    tells_all (g.O.Objects.seen c.args.objects.now).content _
    (λ held. too_deep (leads_in held (option_map known_all c.args.earlier.now)) c.args.levels c.args.node.now (children c.in-Some.nodes.now) c.in-Some.ensures c.if-levels-eq0.true)

pub list_node-returns-in-Some-clause-says : goal.list_node-returns-in-Some-clause-says
list_node-returns-in-Some-clause-says g t c =
    let old = g.O.Objects.seen c.args.objects.now in
    let new = g.O.Objects.seen c.list_tree.new.objects in
    let nodes = children c.in-Some.nodes.now in
    let levels = c.args.levels in
    let less : levels ≡ suc (levels - 1) = omega arith in
    lists_on old old new refl (omega arith) (λ held. tree_within (leads_in held (option_map known_all c.args.earlier.now)) (levels - 1) nodes)
    (λ held. part_within (leads_in held (option_map known_all c.args.earlier.now)) levels c.args.node.now) c.list_tree.result
    (tells_all old.content _ (λ held. deeper (leads_in held (option_map known_all c.args.earlier.now)) levels (levels - 1) c.args.node.now nodes c.in-Some.ensures less)) c.list_tree.ensures.says

pub list_node-returns-in-Some-as_handle-clause-says : goal.list_node-returns-in-Some-as_handle-clause-says
list_node-returns-in-Some-as_handle-clause-says g t c =
    let old = g.O.Objects.seen c.args.objects.now in
    let new = g.O.Objects.seen c.list_handle.new.objects in
    let path = c.in-Some-as_handle.path.now in
    lists_on old old new refl (omega arith) (λ held. leads_in held (option_map known_all c.args.earlier.now) path)
    (λ held. part_within (leads_in held (option_map known_all c.args.earlier.now)) c.args.levels c.args.node.now) c.list_handle.result
    (tells_all old.content _ (λ held. handle_within (leads_in held (option_map known_all c.args.earlier.now)) c.args.levels c.args.node.now path c.in-Some-as_handle.ensures))
    c.list_handle.ensures.says

pub list_node-returns-clause-says : goal.list_node-returns-clause-says
list_node-returns-clause-says g t c =
    tells_all (g.O.Objects.seen c.args.objects.now).content _
    (λ held.
    ap Ok c.in_ok-part.ensures
    ∙ blob_within (leads_in held (option_map known_all c.args.earlier.now)) c.args.levels c.args.node.now c.unwrap_or.result.now
    (ap (λ b. Some b.now) c.unwrap_or.ensures ∙ blob_there (λ b. b.now) c.as_blob.result _ c.args.node.now c.in_default.ensures c.in_default-as_handle.ensures c.as_blob.ensures))

pub list_nodes-returns-in_err-part-clause-says : goal.list_nodes-returns-in_err-part-clause-says
list_nodes-returns-in_err-part-clause-says g t c =
    let old = g.O.Objects.seen c.args.objects.now in
    let mid = g.O.Objects.seen c.loop-name.objects in
    let new = g.O.Objects.seen c.list_node.new.objects in
    let before = c.loop-name.invariant.reads in
    let m = c.loop-name-item.result in
    lists_handed (λ held. parts_within (leads_in held (option_map known_all c.args.earlier.now)) c.args.levels (children c.args.nodes.now)) old new c.from_residual.result c.in_err-part.field-0.0
    c.from_residual.ensures.1
    (lists_stop old mid new before.content before.faults (λ held. part_within (leads_in held (option_map known_all c.args.earlier.now)) c.args.levels m.1)
    (λ held. parts_within (leads_in held (option_map known_all c.args.earlier.now)) c.args.levels (children c.args.nodes.now)) c.in_err-part.field-0.0
    (node_stops old.content (λ held. leads_in held (option_map known_all c.args.earlier.now)) c.args.levels c.args.nodes.now c.loop-name.name-index m c.loop-name.parts (omega arith)
    c.loop-name-item.is c.loop-name.invariant.goes) c.in_err-part.ensures.says)

pub list_nodes-loop-name-preserved : goal.list_nodes-loop-name-preserved
list_nodes-loop-name-preserved g t c =
    let old = g.O.Objects.seen c.args.objects.now in
    let mid = g.O.Objects.seen c.loop-name.objects in
    let before = c.loop-name.invariant.reads in
    let next = c.list_node.ensures.reads in
    record {
      reads = record { content = next.content ∙ before.content; faults = omega (arith, before.faults, next.faults); gets = omega (arith, before.gets, next.gets) };
      goes =
          node_more old.content (λ held. leads_in held (option_map known_all c.args.earlier.now)) c.args.levels c.args.nodes.now c.loop-name.name-index c.loop-name-item.result c.loop-name.parts c.push.new.self
          c.in_ok-name.name c.in_ok-part.part (omega arith) c.loop-name-item.is c.in_ok-name.ensures c.in_ok-push.ensures c.loop-name.invariant.goes
          (tells_of old.content mid.content _ before.content c.in_ok-part.ensures.says);
    }

pub list_nodes-returns-clause-says : goal.list_nodes-returns-clause-says
list_nodes-returns-clause-says g t c =
    let content = (g.O.Objects.seen c.args.objects.now).content in
    tells_then content (λ held. Goes (leads_in held (option_map known_all c.args.earlier.now)) c.args.levels c.args.nodes.now c.loop-name.name-index c.loop-name.parts) _
    (λ held inv. nodes_end (leads_in held (option_map known_all c.args.earlier.now)) c.args.levels c.args.nodes.now c.loop-name.name-index c.loop-name.parts (omega arith) inv) c.loop-name.invariant.goes

pub list_tree-returns-clause-says : goal.list_tree-returns-clause-says
list_tree-returns-clause-says g t c =
    let old = g.O.Objects.seen c.args.objects.now in
    tells_then old.content (λ held. Ok c.in_ok-parts.parts ≡ parts_within (leads_in held (option_map known_all c.args.earlier.now)) c.args.levels (children c.args.nodes.now)) _
    (λ held all. tree_goes (leads_in held (option_map known_all c.args.earlier.now)) c.args.levels (children c.args.nodes.now) _ c.in_ok-parts.parts c.in_ok-part.part c.in_ok-check_names.ensures all c.in_ok-part.ensures)
    c.in_ok-parts.ensures.says
