use Rattle.std.proofs.Common.{Some, ap, ◌∙◌}
use Rattle.fluid_map.proofs.Laid.{said_by, word_laid, none_found, cleared_found}
use Rattle.fluid_map.proofs.pending.Pending.word.Goals as goal

pub returns-in-Some : goal.returns-in-Some
returns-in-Some c =
    rw (← c.self.view_is)
    (ap Some c.as_ref.ensures.value ∙ ap (λ kept. said_by kept c.self.inside.cleared) c.in-Some.ensures ∙ word_laid _ _ _ c.args.key.now c.self.invariant)

pub returns-then-self-gt0 : goal.returns-then-self-gt0
returns-then-self-gt0 c = rw (← c.self.view_is) (cleared_found _ _ _ c.args.key.now c.self.invariant c.in-None.ensures c.if-self-gt0.true)

pub returns-else-self-gt0 : goal.returns-else-self-gt0
returns-else-self-gt0 c = rw (← c.self.view_is) (none_found _ _ _ c.args.key.now c.self.invariant c.in-None.ensures c.if-self-gt0.false)
