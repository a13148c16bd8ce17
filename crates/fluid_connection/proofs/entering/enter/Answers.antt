use Rattle.std.proofs.Common.{◌∙◌, sym, subst}
use Rattle.fluid_lane.specs.Steps.{steps_of, entered_by}
use Rattle.fluid_doors.specs.Passing.{Grows}
use Rattle.fluid_doors.specs.Entering.{Submits}
use Rattle.fluid_voice.specs.declared.actions.Act.TheVariants as act
use Rattle.fluid_connection.specs.Knowing.{knowing}
use Rattle.fluid_connection.specs.Entering.{DoesAs}
use Rattle.fluid_connection.proofs.Submitting.{entered}
use Rattle.fluid_connection.proofs.entering.enter.Goals as goal

pub returns : goal.returns
returns g c =
    let grows = subst (λ t. Grows c.args.pass c.submit-pass.result.0 (steps_of (entered_by c.args.raw) c.submit-pass.result.1) (Submits t.fixed c.args.raw c.submit-pass.result.1)) (sym c.requires.pass) c.submit-pass.ensures in
    record {
      turn = c.submit-pass.ensures.turn ∙ c.requires.pass;
      few = c.submit-pass.ensures.few;
      does =
          subst (λ r. DoesAs (knowing c.args.door.now.name c.args.pass) (knowing c.args.door.now.name c.submit-pass.result.0) (act.Enter c.args.raw) r) (sym c.ended.ensures)
          (entered c.args.door.now.name c.args.pass c.submit-pass.result.0 c.args.raw c.submit-pass.result.1 grows);
    }
