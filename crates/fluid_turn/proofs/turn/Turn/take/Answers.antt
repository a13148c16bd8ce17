use Rattle.std.proofs.Common.{rules, Some, sym, ap, ◌∙◌, ◌∷◌}
use Rattle.atomic_table.specs.Table.{rest}
use Rattle.fluid_turn.proofs.Seating.{taken_out}
use Rattle.fluid_turn.proofs.turn.Turn.take.Goals as goal

pub exchange-requires : goal.exchange-requires
exchange-requires g c =
    let value = c.wait.ensures.served.0 in
    let out = ap (λ m. m.1) c.wait.ensures.served.2 in
    (search rules, (Some value, out ∙ ap (λ l. (0, Some value) ∷ rest l) (sym out)))

pub returns-clause-fixed : goal.returns-clause-fixed
returns-clause-fixed g c =
    let served = c.wait.ensures.served in
    let fixed = g.T.Chronicle.fixed in
    let same = taken_out _ served.0 c.in-Some.value _ (ap (λ m. m.1) served.2) c.exchange.ensures.2 c.in-Some.is in
    ap fixed (sym same) ∙ served.3.1 ∙ ap (λ t. t.fixed) c.self.view_is
