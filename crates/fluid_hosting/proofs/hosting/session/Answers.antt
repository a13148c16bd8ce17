use Rattle.std.proofs.Common.{refl, sym, ap, subst, ◌∙◌}
use Rattle.fluid_talk.specs.Talking.{MayBeServed}
use Rattle.fluid_connection.specs.Knowing.{keyed}
use Rattle.fluid_connection.specs.Talked.{Talked, pass_of, talking}
use Rattle.fluid_session.specs.Whole.{Serves}
use Rattle.fluid_hosting.specs.Hosting.{unconnected}
use Rattle.fluid_hosting.proofs.Visits.{visits_served}
use Rattle.fluid_hosting.proofs.hosting.session.Goals as goal

pub returns : goal.returns
returns g c =
    let serves : Serves (talking (unconnected c.args.key c.args.visit)) (talking c.converse-report.new.talk) (g.O.Objects.seen c.args.objects.now) (g.O.Objects.seen c.converse-report.new.objects) (g.W.Wire.seen c.args.wire.now) (g.W.Wire.seen c.converse-report.new.wire) c.converse-report.result =
    subst (λ (t : Talked). Serves (talking t) (talking c.converse-report.new.talk) (g.O.Objects.seen c.args.objects.now) (g.O.Objects.seen c.converse-report.new.objects) (g.W.Wire.seen c.args.wire.now) (g.W.Wire.seen c.converse-report.new.wire) c.converse-report.result)
    c.new-talk.ensures c.converse-report.ensures.does in
    let outcome = serves.outcome refl in
    record {
      key = ap (λ k. k.turn) c.into_parts-key.ensures.key ∙ c.converse-report.ensures.service;
      does = record {
        left = c.converse-report.new.talk;
        serves = serves;
        outcome = outcome;
        key_is = c.into_parts-key.ensures.key;
        visit_is = c.into_parts-key.ensures.visit;
        served = λ is.
            subst (λ o. MayBeServed (keyed c.args.key) (pass_of o)) (sym c.into_parts-key.ensures.visit)
            (visits_served c.args.key c.args.visit _ c.converse-report.new.talk _ c.converse-report.result _ outcome is);
      };
    }
