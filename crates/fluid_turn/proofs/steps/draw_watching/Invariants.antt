use Rattle.std.proofs.Common.{◌≡◌}
use Rattle.fluid_turn.proofs.steps.draw_watching.Given as goal

-- the token is as it was
abbrev pub invariant-loop-looks : goal.invariant-loop-looks
invariant-loop-looks g l = (l.token.table_id ≡ l.fn.token.table_id) × (l.token.id ≡ l.fn.token.id) × (l.token.me ≡ l.fn.token.me)
