use Rattle.std.proofs.Common.{◌∙◌, sym, ap}
use Rattle.fluid_gen.specs.Drawing.{next_state, number_in}
use Rattle.fluid_gen.proofs.Turns.{turn-ends}
use Rattle.fluid_gen.proofs.workload.take_turn.Goals as goal

pub returns-else-draw-eq0 : goal.returns-else-draw-eq0
returns-else-draw-eq0 c =
    let chosen = c.choose-chosen.ensures in
    let next = c.behind_edit-stage.ensures c.args.clients c.draw.new.self.state in
    let state = c.draw.ensures.state ∙ ap next_state chosen.2 in
    let number = c.draw.ensures.number ∙ ap (λ x. number_in x 2) (sym c.draw.ensures.state) in
    (turn-ends _ _ _ _ _ _ _ c.requires.turn.0 c.requires.turn.1 chosen.1 state (λ e. c.if-draw-eq0.false (number ∙ e)) next.0, next.1)
