use Rattle.std.proofs.Common.{◌≡◌, suc, ◌-◌, Ok, arith, ap, sym, refl, ◌∙◌}
use Rattle.fluid_tree.specs.declared.object.Object.TheVariants.{Tree}
use Rattle.fluid_store.specs.Fetching.{child_by, node_within, tree_by}
use Rattle.fluid_store.proofs.Fetched.{Goes, tells_all, tells_then, tells_of, goes_on, entry_more, entries_end, blob_within, tree_too_deep, tree_within}
use Rattle.fluid_store.proofs.fetching.+nodes.Goals as goal

pub node_of-returns-in-Blob-clause-says : goal.node_of-returns-in-Blob-clause-says
node_of-returns-in-Blob-clause-says g t c =
    tells_all (g.O.Objects.seen c.args.objects.now).content _
    (λ held. ap Ok c.blob.ensures ∙ blob_within held c.args.levels c.in-Blob.content ∙ ap (node_within held c.args.levels) (sym c.in-Blob.is))

pub node_of-returns-then-levels-eq0-clause-says : goal.node_of-returns-then-levels-eq0-clause-says
node_of-returns-then-levels-eq0-clause-says g t c =
    tells_all (g.O.Objects.seen c.args.objects.now).content _
    (λ held. tree_too_deep held c.args.levels c.in-Tree.entries c.if-levels-eq0.true ∙ ap (node_within held c.args.levels) (sym c.in-Tree.is))

pub node_of-returns-else-levels-eq0-clause-says : goal.node_of-returns-else-levels-eq0-clause-says
node_of-returns-else-levels-eq0-clause-says g t c =
    let old = g.O.Objects.seen c.args.objects.now in
    let new = g.O.Objects.seen c.tree_of.new.objects in
    let entries = c.as_slice.result.now in
    let levels = c.args.levels in
    let is : c.args.object ≡ Tree entries = c.in-Tree.is ∙ ap Tree (sym c.as_slice.ensures) in
    let less : levels ≡ suc (levels - 1) = omega arith in
    goes_on old old new refl (omega arith) (λ held. tree_by (child_by held (node_within held (levels - 1))) entries) (λ held. node_within held levels c.args.object) c.tree_of.result
    (tells_all old.content _ (λ held. tree_within held levels (levels - 1) entries less ∙ ap (node_within held levels) (sym is))) c.tree_of.ensures.says

pub tree_of-loop-entry-preserved : goal.tree_of-loop-entry-preserved
tree_of-loop-entry-preserved g t c =
    let old = g.O.Objects.seen c.args.objects.now in
    let mid = g.O.Objects.seen c.loop-entry.objects in
    let before = c.loop-entry.invariant.reads in
    let next = c.child_of.ensures.reads in
    record {
      reads = record { content = next.content ∙ before.content; faults = omega (arith, before.faults, next.faults); gets = omega (arith, before.gets, next.gets) };
      goes =
          entry_more old.content (λ held. child_by held (node_within held c.args.levels)) c.args.entries.now c.loop-entry.entry-index c.entry-item.result c.loop-entry.nodes c.push.new.self c.in_ok-name.name c.in_ok-node.node (omega arith)
          c.entry-item.is c.in_ok-name.ensures c.in_ok-push.ensures c.loop-entry.invariant.goes (tells_of old.content mid.content _ before.content c.in_ok-node.ensures.says);
    }

pub tree_of-returns-clause-says : goal.tree_of-returns-clause-says
tree_of-returns-clause-says g t c =
    let content = (g.O.Objects.seen c.args.objects.now).content in
    tells_then content (λ held. Goes (child_by held (node_within held c.args.levels)) c.args.entries.now c.loop-entry.entry-index c.loop-entry.nodes) _
    (λ held inv.
    ap Ok c.tree.ensures ∙ entries_end (child_by held (node_within held c.args.levels)) c.args.entries.now c.loop-entry.entry-index c.loop-entry.nodes (omega arith) inv) c.loop-entry.invariant.goes
