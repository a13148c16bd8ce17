use Rattle.std.proofs.Common.{sym, ap, ◌∙◌}
use Rattle.std.specs.Prelude.{codes, string_bytes}
use Rattle.fluid_types.specs.declared.quorum.QuorumBlob.TheVariants as blob
use Rattle.fluid_checkpoint.specs.Written.{content}
use Rattle.fluid_checkpoint.proofs.Whole.{four_and_end, found, based}
use Rattle.fluid_checkpoint.proofs.printing.base_text.Goals as goal

pub returns : goal.returns
returns c =
    let q = c.args.base.now in
    let texts = c.in_ok-blobs.ensures.texts in
    let node = c.in_ok-blobs.ensures.node in
    let attributes = ap (λ t. content t blob.Attributes) node ∙ found q blob.Attributes (texts blob.Attributes) in
    let members = ap (λ t. content t blob.Members) node ∙ found q blob.Members (texts blob.Members) in
    let proposals = ap (λ t. content t blob.Proposals) node ∙ found q blob.Proposals (texts blob.Proposals) in
    let values = ap (λ t. content t blob.Values) node ∙ found q blob.Values (texts blob.Values) in
    let by = four_and_end (string_bytes c.new-out.result) _ _ _ _ _ (codes "{\"attributes\":") _ (codes ",\"quorumMembers\":") _ (codes ",\"quorumProposals\":") _ (codes ",\"quorumValues\":") _ (codes "}")
    (rw attributes at c.in_ok-put_blob.ensures) (rw members at c.in_ok-put_blob-2.ensures) (rw proposals at c.in_ok-put_blob-3.ensures) (rw values at c.in_ok-put_blob-4.ensures) c.in_ok-push_str.ensures.bytes in
    record { text = c.new.ensures ∙ by ∙ rw c.new-out.ensures.bytes (sym (based q)); blobs = texts }
