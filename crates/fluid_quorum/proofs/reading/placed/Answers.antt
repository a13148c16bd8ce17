use Rattle.std.proofs.Common.{rules, ◌≡◌, ◌<◌, length, subst, ◌∙◌}
use Rattle.fluid_quorum.specs.Places.{HasPlace}
use Rattle.fluid_quorum.proofs.Filled.{placed-on}
use Rattle.fluid_quorum.proofs.reading.placed.Goals as goal

pub loop-index-preserved : goal.loop-index-preserved
loop-index-preserved c =
    let within : c.loop-index.index < length c.args.pending.now.items = search rules in
    let key : c.as_str.result.now ≡ c.index.result.now.key = search rules in
    record {
      order = c.make_place.ensures.order;
      values = c.make_place.ensures.same ∙ c.loop-index.invariant.values;
      places =
          placed-on c.loop-index.places c.make_place.new.places c.loop-index.index c.args.pending.now.items c.index.result.now within c.index.ensures c.make_place.ensures.kept
          c.loop-index.invariant.places (subst (HasPlace c.make_place.new.places) key c.in_ok-make_place.ensures.made);
    }
