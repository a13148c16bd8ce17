use Rattle.std.proofs.Common.{rules, ◌≡◌}
use Rattle.fluid_quorum.specs.Places.{table_at}
use Rattle.fluid_quorum.proofs.Placed.{alike}
use Rattle.fluid_quorum.proofs.quorum.Quorum.copy.Goals as goal

pub returns : goal.returns
returns c =
    let members : table_at c.in_ok-members.members ≡ table_at c.self.inside.members =
    alike c.self.inside.members c.in_ok-members.members c.self.invariant.0 c.in_ok-members.ensures.order c.in_ok-members.ensures.copied in
    let pending : c.in_ok-pending.pending.items ≡ c.self.inside.pending.items = search rules in
    let values : table_at c.in_ok-values.values ≡ table_at c.self.inside.values =
    alike c.self.inside.values c.in_ok-values.values c.self.invariant.1.0 c.in_ok-values.ensures.order c.in_ok-values.ensures.copied in
    rw (← c.self.view_is) (λ i. record { number = c.self.inside.number; minimum = c.self.inside.minimum; members = members i; pending = pending i; values = values i })
