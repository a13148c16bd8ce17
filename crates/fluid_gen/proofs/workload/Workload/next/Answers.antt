use Rattle.std.proofs.Common.{◌∙◌, ap, drop, sym}
use Rattle.fluid_gen.specs.Left.{left}
use Rattle.fluid_gen.proofs.workload.Workload.next.Goals as goal

pub returns-in_err-act-clause-left : goal.returns-in_err-act-clause-left
returns-in_err-act-clause-left c =
    let ended = c.in_err-act.ensures in
    ap (λ x. left c.self.inside.clients c.self.inside.ops x c.self.inside.stage) ended.1 ∙ ended.0 ∙ sym (ap (drop 1) (sym c.self.view_is ∙ ended.0))
