use Rattle.std.proofs.Common.{◌≡◌, sym, ap, ◌∙◌}
use Rattle.std.specs.FinMap.{get}
use Rattle.fluid_table.specs.Table.{Values}
use Rattle.fluid_log.specs.Shelving.{Shelving}
use Rattle.fluid_rules.specs.declared.limits.Limits.{Limits}
use Rattle.fluid_lane.specs.Standing.{Standing}
use Rattle.fluid_lanes.specs.Opened.{Opened}
use Rattle.fluid_lanes.proofs.Openings.{ended_out, ended_few, ends_none, remove_absent}
use Rattle.fluid_lanes.proofs.lanes.Lanes.end.Goals as goal

pub invariant_of-self : goal.invariant_of-self
invariant_of-self g c = record {
  out = ended_out c.self.inside.lanes.values c.take.new.self.values (g.B.Shelves.seen c.self.inside.shelves) (g.B.Shelves.seen c.put_back.new.self) c.args.name.now c.self.invariant.out c.take.ensures.values c.put_back.ensures.does.out;
  few = ended_few c.self.inside.lanes.values c.take.new.self.values c.args.name.now c.take.ensures.values c.self.invariant.few;
  small = c.self.invariant.small;
}

pub invariant_of-self-in-None : goal.invariant_of-self-in-None
invariant_of-self-in-None g c =
    let same = c.take.ensures.values ∙ remove_absent c.self.inside.lanes.values c.args.name.now (sym c.in-None.ensures.former) in
    record { out = rw same c.self.invariant.out; few = rw same c.self.invariant.few; small = c.self.invariant.small }

with_lanes : (shelving : Shelving) (limits : Limits) (one other : Values Standing) → one ≡ other
    → ◌≡◌ {A = Opened} (record { shelving = shelving; lanes = one; limits = limits }) (record { shelving = shelving; lanes = other; limits = limits })
with_lanes shelving limits one other same = ap (λ (lanes : Values Standing). record { shelving = shelving; lanes = lanes; limits = limits }) same

pub returns-in-None : goal.returns-in-None
returns-in-None g c =
    let same = c.take.ensures.values ∙ remove_absent c.self.inside.lanes.values c.args.name.now (sym c.in-None.ensures.former) in
    let none = ap (λ (o : Opened). get o.lanes c.args.name.now) (sym c.self.view_is) ∙ sym c.in-None.ensures.former in
    ends_none c.args.name.now c.args.self.now _ none (with_lanes (g.B.Shelves.seen c.self.inside.shelves) c.self.inside.limits c.take.new.self.values c.self.inside.lanes.values same ∙ c.self.view_is)
