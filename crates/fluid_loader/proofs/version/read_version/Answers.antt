use Rattle.std.proofs.Common.{◌≡◌, Some, ap, ◌∙◌}
use Rattle.fluid_tree.specs.declared.object.Object.TheVariants.{Tree}
use Rattle.fluid_loader.proofs.Inside.{tree_fetched}
use Rattle.fluid_loader.proofs.version.read_version.Goals as goal

pub returns-clause-fetched : goal.returns-clause-fetched
returns-clause-fetched g c =
    let found : c.in_ok-entries.field-0 ≡ Some (Tree c.in-Some-Tree.entries) = c.in-Some-Tree.is ∙ ap Some c.in-Some-Tree.field-0-is in
    tree_fetched 2 c.args.summary.now.handle c.in-Some-Tree.entries c.as_slice.result.now c.in_ok-entries.field-0 (g.L.Link.seen c.args.link.now) (g.L.Link.seen c.object_at.new.link)
    (g.L.Link.seen c.read_nodes.new.link) (ap (λ l. l.told) c.in_ok-entries.ensures.reads.same) found c.as_slice.ensures c.in_ok-entries.ensures.sees c.in_ok-entries.ensures.fetched
    c.in_ok-nodes.ensures.fetched
