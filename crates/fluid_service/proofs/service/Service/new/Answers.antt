use Rattle.std.proofs.Common.{subst, ap, ◌∙◌}
use Rattle.fluid_service.specs.Shelved.{Shelved, ShelfStands, terms_of}
use Rattle.fluid_service.proofs.Standings.{stands_nothing}
use Rattle.fluid_service.proofs.service.Service.new.Goals as goal

pub invariant_of-result : goal.invariant_of-result
invariant_of-result g c =
    stands_nothing (g.B.Shelves.seen c.args.shelves) c.args.limits c.in-Ok.turn.began (subst (λ (s : Shelved). ShelfStands s c.in-Ok.turn.began) c.new.ensures c.in-Ok.ensures.turn.0)

pub returns-in-Ok-clause-begins : goal.returns-in-Ok-clause-begins
returns-in-Ok-clause-begins g c = (
  stands_nothing (g.B.Shelves.seen c.args.shelves) c.args.limits c.in-Ok.turn.began (subst (λ (s : Shelved). ShelfStands s c.in-Ok.turn.began) c.new.ensures c.in-Ok.ensures.turn.0),
  c.in-Ok.ensures.turn.1 ∙ ap terms_of c.new.ensures,
)
