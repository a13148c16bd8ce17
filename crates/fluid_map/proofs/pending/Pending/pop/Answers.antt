use Rattle.std.proofs.Common.{rules, ◌≡◌, ◌∷◌, subst, arith}
use Rattle.fluid_map.specs.Laid.{IsLaid}
use Rattle.fluid_map.proofs.Laid.{lifted-laid, says_of}
use Rattle.fluid_map.proofs.pending.Pending.pop.Goals as goal

pub invariant_of-self-in-Set : goal.invariant_of-self-in-Set
invariant_of-self-in-Set c =
    let taken : c.self.inside.changes.items ≡ c.unwrap-op.result ∷ c.pop_front.new.self.items = search rules in
    let says = says_of c.unwrap-op.result c.in-Set.key c.in-Set.is in
    let lifts = rw c.as_str.ensures at c.lift.ensures in
    lifted-laid c.unwrap-op.result c.pop_front.new.self.items c.self.inside.cleared c.self.inside.latest.values
    (subst (λ ops. IsLaid ops c.self.inside.cleared c.self.inside.latest.values) taken c.self.invariant) (omega (arith, c.if-self-gt0.false)) c.in-Set.key says.0 says.1 _ lifts.fewer lifts.gone
