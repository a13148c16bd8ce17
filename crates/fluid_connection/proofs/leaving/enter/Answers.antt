use Rattle.std.proofs.Common.{◌∙◌, sym, subst}
use Rattle.fluid_lane.specs.Steps.{steps_of, entered_by}
use Rattle.fluid_doors.specs.Passing.{Grows}
use Rattle.fluid_doors.specs.Entering.{Submits}
use Rattle.fluid_connection.specs.Knowing.{knowing}
use Rattle.fluid_connection.specs.Leaving.{EntersBy}
use Rattle.fluid_connection.proofs.Leavings.{leave_kind, leave_fits, leaves}
use Rattle.fluid_connection.proofs.leaving.enter.Goals as goal

pub submit-pass-requires-clause-fits : goal.submit-pass-requires-clause-fits
submit-pass-requires-clause-fits g c = leave_fits c.args.raw c.requires.leave

pub submit-pass-requires-clause-kind : goal.submit-pass-requires-clause-kind
submit-pass-requires-clause-kind g c = leave_kind c.args.raw c.requires.leave

pub returns : goal.returns
returns g c =
    let grows = subst (λ t. Grows c.args.pass c.submit-pass.result.0 (steps_of (entered_by c.args.raw) c.submit-pass.result.1) (Submits t.fixed c.args.raw c.submit-pass.result.1)) (sym c.requires.pass) c.submit-pass.ensures in
    record {
      turn = c.submit-pass.ensures.turn ∙ c.requires.pass;
      few = c.submit-pass.ensures.few;
      does =
          subst (λ r. EntersBy (knowing c.args.door.now.name c.args.pass) (knowing c.args.door.now.name c.submit-pass.result.0) c.args.raw r) (sym c.ended.ensures)
          (leaves c.args.door.now.name c.args.pass c.submit-pass.result.0 c.args.raw c.requires.leave c.submit-pass.result.1 grows);
    }
