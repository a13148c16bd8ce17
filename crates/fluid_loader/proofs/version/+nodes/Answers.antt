use Rattle.std.proofs.Common.{rules, ◌≡◌, Some, suc, ◌-◌, Ok, refl, ap, ◌∙◌, arith}
use Rattle.fluid_tree.specs.declared.object.Object.TheVariants.{Tree}
use Rattle.fluid_store.specs.Standing.{object_at}
use Rattle.fluid_loader.specs.Version.{as_leaf, as_inner, node_within}
use Rattle.fluid_loader.proofs.Inside.{on_ok_so, alone_fetched, level_fetched, tree_fetched, entry_fetched}
use Rattle.fluid_loader.proofs.Seen.{tells_all, sees_same, too_deep, leaf, inner, node_pushed, tree_read}
use Rattle.fluid_loader.proofs.version.+nodes.Goals as goal

pub read_node-returns-then-levels-eq0-clause-sees : goal.read_node-returns-then-levels-eq0-clause-sees
read_node-returns-then-levels-eq0-clause-sees g t c =
    tells_all (g.L.Link.seen c.args.link.now).told _ (λ d. ap Ok (c.no_node.ensures ∙ too_deep d.held c.args.levels c.args.entry.now c.if-levels-eq0.true c.if-not-entry.false))

pub read_node-returns-then-not-entry-clause-sees : goal.read_node-returns-then-not-entry-clause-sees
read_node-returns-then-not-entry-clause-sees g t c =
    let e = c.args.entry.now in
    sees_same (λ held. Ok (as_leaf (object_at held e.id))) (λ held. Ok (node_within held c.args.levels e)) (g.L.Link.seen c.args.link.now) (g.L.Link.seen c.read_blob.new.link) c.read_blob.result
    (λ held. ap Ok (leaf held c.args.levels e (object_at held e.id) c.if-not-entry.true refl)) c.read_blob.ensures.sees

pub read_node-returns-clause-sees : goal.read_node-returns-clause-sees
read_node-returns-clause-sees g t c =
    let e = c.args.entry.now in
    let levels = c.args.levels in
    let less : levels ≡ suc (levels - 1) = omega arith in
    sees_same (λ held. Ok (as_inner (node_within held (levels - 1)) (object_at held e.id))) (λ held. Ok (node_within held levels e)) (g.L.Link.seen c.args.link.now)
    (g.L.Link.seen c.read_tree.new.link) c.read_tree.result
    (λ held. ap Ok (inner held levels (levels - 1) e (object_at held e.id) less c.if-not-entry.false refl)) c.read_tree.ensures.sees

pub read_tree-returns-in-Some-Tree-clause-sees : goal.read_tree-returns-in-Some-Tree-clause-sees
read_tree-returns-in-Some-Tree-clause-sees g t c =
    let found : c.in_ok-entries.field-0 ≡ Some (Tree c.in-Some-Tree.entries) = c.in-Some-Tree.is ∙ ap Some c.in-Some-Tree.field-0-is in
    tree_read (g.L.Link.seen c.args.link.now).told (g.L.Link.seen c.object_at.new.link).told c.args.levels c.args.id.now c.in-Some-Tree.entries c.as_slice.result.now
    c.in_ok-nodes-in-Some-Tree.nodes c.tree.result c.in_ok-entries.field-0 (ap (λ l. l.told) c.in_ok-entries.ensures.reads.same) found c.as_slice.ensures c.tree.ensures c.in_ok-entries.ensures.sees
    c.in_ok-nodes-in-Some-Tree.ensures.sees

pub read_node-returns-then-not-entry-clause-fetched : goal.read_node-returns-then-not-entry-clause-fetched
read_node-returns-then-not-entry-clause-fetched g t c =
    on_ok_so c.read_blob.result (alone_fetched c.args.levels c.args.entry.now.id (g.L.Link.seen c.args.link.now) (g.L.Link.seen c.read_blob.new.link)) c.read_blob.ensures.fetched

pub read_node-returns-clause-fetched : goal.read_node-returns-clause-fetched
read_node-returns-clause-fetched g t c =
    let levels = c.args.levels in
    let less : levels ≡ suc (levels - 1) = omega arith in
    on_ok_so c.read_tree.result (level_fetched levels (levels - 1) c.args.entry.now.id (g.L.Link.seen c.args.link.now) (g.L.Link.seen c.read_tree.new.link) less) c.read_tree.ensures.fetched

pub read_tree-returns-in-Some-Tree-clause-fetched : goal.read_tree-returns-in-Some-Tree-clause-fetched
read_tree-returns-in-Some-Tree-clause-fetched g t c =
    let found : c.in_ok-entries.field-0 ≡ Some (Tree c.in-Some-Tree.entries) = c.in-Some-Tree.is ∙ ap Some c.in-Some-Tree.field-0-is in
    tree_fetched c.args.levels c.args.id.now c.in-Some-Tree.entries c.as_slice.result.now c.in_ok-entries.field-0 (g.L.Link.seen c.args.link.now) (g.L.Link.seen c.object_at.new.link)
    (g.L.Link.seen c.read_nodes.new.link) (ap (λ l. l.told) c.in_ok-entries.ensures.reads.same) found c.as_slice.ensures c.in_ok-entries.ensures.sees c.in_ok-entries.ensures.fetched
    c.in_ok-nodes-in-Some-Tree.ensures.fetched

pub read_nodes-loop-entry-preserved : goal.read_nodes-loop-entry-preserved
read_nodes-loop-entry-preserved g t c = record {
  lent = search rules;
  reads = search rules;
  fetched =
      entry_fetched c.args.levels c.args.entries.now c.loop-entry.entry-index c.entry-item.result (g.L.Link.seen c.args.link.now) (g.L.Link.seen c.loop-entry.link) (g.L.Link.seen c.read_node.new.link)
      (ap (λ l. l.told) c.loop-entry.invariant.reads.same) c.loop-entry-test.true c.entry-item.is c.loop-entry.invariant.fetched c.in_ok-node.ensures.fetched;
  nodes =
      node_pushed (g.L.Link.seen c.args.link.now).told (g.L.Link.seen c.loop-entry.link).told c.args.levels c.loop-entry.entry-index c.args.entries.now c.entry-item.result c.loop-entry.nodes c.push.new.self
      c.in_ok-name.name c.in_ok-node.node (ap (λ l. l.told) c.loop-entry.invariant.reads.same) c.loop-entry-test.true c.entry-item.is c.in_ok-name.ensures c.in_ok-push.ensures c.loop-entry.invariant.nodes
      c.in_ok-node.ensures.sees;
}
