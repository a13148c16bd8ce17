use Rattle.std.proofs.Common.{rules, ◌≡◌, [], ◌∷◌, IsUtf8, refl, ap, subst, ◌∙◌}
use Rattle.std.specs.FinMap.{entries}
use Rattle.std.specs.FinMap as table
use Rattle.fluid_json.specs.Printed.{printed}
use Rattle.fluid_tree.specs.Summary.{tree, children, blob}
use Rattle.fluid_types.specs.Words.{blob_word}
use Rattle.fluid_types.specs.declared.quorum.QuorumBlob.TheVariants.{Attributes, Members, Proposals, Values}
use Rattle.fluid_types.specs.Blobs.{attributes_tree, member_tree, proposal_tree, value_tree, list_tree, blobs_of, blob_text}
use Rattle.fluid_quorum.specs.Places.{table_at}
use Rattle.fluid_quorum.specs.Node.{node_of, AreTexts}
use Rattle.fluid_quorum.proofs.Written.{members_text, places_text, four_texts}
use Rattle.fluid_quorum.proofs.quorum.Quorum.to_blobs.Goals as goal

pub returns-clause-node : goal.returns-clause-node
unfolding node_of blobs_of blob_text
returns-clause-node c =
    let attributes : c.in_ok-attributes.attributes ≡ printed (attributes_tree c.self.inside.minimum c.self.inside.number) = search rules in
    let members : c.in_ok-members.members ≡ printed (list_tree member_tree (table.values (table_at c.self.inside.members))) =
    c.in_ok-members.ensures ∙ members_text c.self.inside.members c.self.invariant.0 in
    let proposals : c.in_ok-proposals.proposals ≡ printed (list_tree proposal_tree c.self.inside.pending.items) = search rules in
    let values : c.in_ok-values.values ≡ printed (list_tree value_tree (entries (table_at c.self.inside.values))) =
    c.in_ok-values.ensures ∙ places_text c.self.inside.values c.self.invariant.1.0 in
    let all : c.put_blob-4.new.entries ≡ (blob_word Attributes, blob c.in_ok-attributes.attributes) ∷ (blob_word Members, blob c.in_ok-members.members) ∷ (blob_word Proposals, blob c.in_ok-proposals.proposals) ∷ (blob_word Values, blob c.in_ok-values.values) ∷ [] =
    c.in_ok-put_blob-4.ensures.entries ∙ rw (c.in_ok-put_blob-3.ensures.entries, c.in_ok-put_blob-2.ensures.entries, c.in_ok-put_blob.ensures.entries, c.new-entries.ensures) refl in
    rw (← c.self.view_is) (c.tree.ensures ∙ ap (λ es. tree (children es)) all ∙ rw (attributes, members, proposals, values) refl)

pub returns-clause-texts : goal.returns-clause-texts
unfolding blob_text
returns-clause-texts c =
    let attributes : c.in_ok-attributes.attributes ≡ printed (attributes_tree c.self.inside.minimum c.self.inside.number) = search rules in
    let members : c.in_ok-members.members ≡ printed (list_tree member_tree (table.values (table_at c.self.inside.members))) =
    c.in_ok-members.ensures ∙ members_text c.self.inside.members c.self.invariant.0 in
    let proposals : c.in_ok-proposals.proposals ≡ printed (list_tree proposal_tree c.self.inside.pending.items) = search rules in
    let values : c.in_ok-values.values ≡ printed (list_tree value_tree (entries (table_at c.self.inside.values))) =
    c.in_ok-values.ensures ∙ places_text c.self.inside.values c.self.invariant.1.0 in
    subst AreTexts c.self.view_is
    (four_texts _ (subst IsUtf8 attributes c.in_ok-put_blob.ensures.text) (subst IsUtf8 members c.in_ok-put_blob-2.ensures.text) (subst IsUtf8 proposals c.in_ok-put_blob-3.ensures.text)
    (subst IsUtf8 values c.in_ok-put_blob-4.ensures.text))
