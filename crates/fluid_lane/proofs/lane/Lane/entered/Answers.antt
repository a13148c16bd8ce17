use Rattle.std.proofs.Common.{◌≡◌, None, subst, arith}
use Rattle.std.specs.FinMap.{get}
use Rattle.fluid_types.specs.Names.{entry_name}
use Rattle.fluid_lane.specs.Standing.{AreNamed}
use Rattle.fluid_lane.proofs.Named.{own_absent}
use Rattle.fluid_lane.proofs.lane.Lane.entered.Goals as goal

pub returns-clause-named : goal.returns-clause-named
returns-clause-named g c = subst (λ s. AreNamed s.entries.entered s.entries.state.sequencer.rows) c.self.view_is c.self.invariant.named

pub returns-clause-own : goal.returns-clause-own
returns-clause-own g c =
    subst (λ s. get s.entries.state.sequencer.rows (entry_name s.entries.entered) ≡ None) c.self.view_is (own_absent _ _ (omega (arith, c.self.invariant.few)) c.self.invariant.named)
