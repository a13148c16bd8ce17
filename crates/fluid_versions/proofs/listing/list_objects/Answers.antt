use Rattle.std.proofs.Common.{ap, ◌∷◌, [], ◌++◌, ◌∙◌, map}
use Rattle.fluid_tree.specs.Object.{object_bytes}
use Rattle.fluid_tree.specs.declared.object.Object.TheVariants.{Blob, Tree}
use Rattle.fluid_rules.specs.Scribe.{blob_entry}
use Rattle.fluid_store.specs.Listed.{object_of}
use Rattle.fluid_versions.proofs.Nodes.{listed}
use Rattle.fluid_versions.proofs.listing.list_objects.Goals as goal

pub returns : goal.returns
returns c =
    let nodes = c.nodes_of-nodes.ensures in
    c.in_ok-push-2.ensures.items
    ∙ ap (λ os. os ++ c.in_ok-version.version ∷ []) c.in_ok-push.ensures.items
    ∙ listed c.args.app.now _ c.in_ok-own.own c.in_ok-version.version _
    (c.in_ok-objects.ensures ∙ ap (map (λ b. object_of (object_bytes (Blob b.1)))) nodes)
    (c.in_ok-own.ensures ∙ ap (λ es. object_of (object_bytes (Tree es))) (c.in_ok-entries_of.ensures ∙ ap (map blob_entry) nodes))
    (c.in_ok-version.ensures ∙ ap (λ es. object_of (object_bytes (Tree es))) c.in_ok-version_entries.ensures)
