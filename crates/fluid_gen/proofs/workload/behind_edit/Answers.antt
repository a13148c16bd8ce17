use Rattle.std.proofs.Common.{◌∙◌, sym, ap, ◌++◌}
use Rattle.fluid_gen.specs.Left.{behind_turn}
use Rattle.fluid_gen.proofs.Turns.{rounds-none}
use Rattle.fluid_gen.proofs.workload.behind_edit.Goals as goal

pub returns-else-turn-eq0 : goal.returns-else-turn-eq0
returns-else-turn-eq0 c =
    λ clients x.
    let next = c.behind_turn.ensures clients x in
    (next.0 ∙ sym (ap (λ l. l ++ behind_turn clients c.args.ops c.args.turn x) (rounds-none _ c.if-turn-eq0.false)), next.1)
