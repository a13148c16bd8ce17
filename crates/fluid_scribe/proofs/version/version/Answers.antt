use Rattle.std.proofs.Common.{ap, ◌∙◌}
use Rattle.sha1.specs.Sha1.{sha1}
use Rattle.fluid_scribe.proofs.Versions.{state_id, version_is, has_id, has_bytes, same_id}
use Rattle.fluid_scribe.proofs.version.version.Goals as goal

pub id_of_tree-requires : goal.id_of_tree-requires
id_of_tree-requires c = has_id _ c.requires

pub bytes_of-requires : goal.bytes_of-requires
bytes_of-requires c = has_bytes _ _ _ c.in_ok-entries.ensures

pub returns : goal.returns
returns c = λ q is.
    c.of.ensures ∙ ap sha1 c.as_slice.ensures
    ∙ version_is c.args.app _ q _ _ (same_id _ _ _ c.in_ok-state.ensures (state_id q _ is)) c.in_ok-entries.ensures c.in_ok-bytes.ensures
