use Rattle.std.proofs.Common.{◌∙◌, ap}
use Rattle.fluid_types.specs.Blobs.{blobs_of}
use Rattle.fluid_rules.specs.Scribe.{protocol}
use Rattle.fluid_scribe.proofs.Judged.{job_is, quorum-at}
use Rattle.fluid_scribe.proofs.answering.job_of.Goals as goal

pub returns : goal.returns
returns c =
    job_is _ _ _ _ _ _ _ _ c.last_ack.ensures c.in_ok-proposed.ensures c.app_of.ensures c.reference_of-reference.ensures
    (c.in_ok-protocol.ensures ∙ ap (λ q. protocol (blobs_of q)) (quorum-at c.args.tail.now c.args.waiting.now.messages c.args.acks.now c.reference_of-reference.result))
    c.in_ok-needs_storage.ensures
