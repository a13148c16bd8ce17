use Rattle.std.proofs.Common.{sym, refl, ◌∙◌, arith}
use Rattle.fluid_lanes.proofs.Openings.{none_of, opened_out, opened_few, opens_by}
use Rattle.fluid_lanes.proofs.lanes.Lanes.open.Goals as goal

pub invariant_of-self-in-Ok : goal.invariant_of-self-in-Ok
invariant_of-self-in-Ok g c = record {
  out = opened_out c.self.inside.lanes.values c.insert.new.self.values (g.B.Shelves.seen c.self.inside.shelves) (g.B.Shelves.seen c.start_lane.new.shelves) c.args.name.now c.self.invariant.out c.in-Ok.lane c.in-Ok.ensures.does.keeper.faults (rw (c.in_ok-reserve.ensures.same, c.in_ok-own.ensures) at c.insert.ensures) c.in-Ok.ensures.does.gives.out;
  few = opened_few c.self.inside.lanes.values c.insert.new.self.values c.args.name.now c.in-Ok.lane (rw (c.in_ok-reserve.ensures.same, c.in_ok-own.ensures) at c.insert.ensures) (omega (arith, c.if-count-ge-MOST_DOCUMENTS.false, c.len-count.ensures));
  small = c.self.invariant.small;
}

pub returns-in-Ok-clause-does : goal.returns-in-Ok-clause-does
returns-in-Ok-clause-does g c =
    opens_by c.args.name.now c.args.moment c.args.self.now _ (none_of _ (sym c.is_open.ensures ∙ c.if-is_open.false))
    (rw (← c.self.view_is) (record {
      room = omega (arith, c.if-count-ge-MOST_DOCUMENTS.false, c.len-count.ensures);
      lane = c.in-Ok.lane;
      opens = c.in-Ok.ensures.does;
      lanes = rw (c.in_ok-reserve.ensures.same, c.in_ok-own.ensures) at c.insert.ensures;
      limits = refl;
      later = c.in-Ok.ensures.later;
    }))
