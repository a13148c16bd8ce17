use Rattle.std.proofs.Common.{ap₂, ◌++◌, ◌∙◌}
use Rattle.fluid_callers.proofs.Bytes.{pushed}
use Rattle.fluid_callers.proofs.written.Written.push.Goals as goal

pub returns : goal.returns
returns c =
    pushed c.args.self.now c.args.line.now c.extend_from_slice.new.self.items c.push.new.self.items
    (c.in_ok-extend_from_slice.ensures.items ∙ ap₂ (λ a b. a ++ b) c.self.view_is c.as_bytes.ensures.value) c.in_ok-push.ensures.items
