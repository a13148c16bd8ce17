use Rattle.std.proofs.Common.{◌∙◌, sym, subst}
use Rattle.fluid_lane.specs.Steps.{range_steps}
use Rattle.fluid_doors.specs.Passing.{Grows}
use Rattle.fluid_doors.specs.Looking.{Looks}
use Rattle.fluid_connection.specs.Knowing.{knowing}
use Rattle.fluid_connection.specs.Entering.{DoesAs}
use Rattle.fluid_connection.proofs.Lookings.{looks, suits_of}
use Rattle.fluid_connection.proofs.asking.look.Goals as goal

pub returns : goal.returns
returns g c =
    let grows = subst (λ t. Grows c.args.pass c.look-pass.result.0 (range_steps c.look-pass.result.1) (Looks t.fixed c.args.act.now c.look-pass.result.1)) (sym c.requires.pass) c.look-pass.ensures in
    record {
      turn = c.look-pass.ensures.turn ∙ c.requires.pass;
      few = c.look-pass.ensures.few;
      looked = (c.look-pass.result.1, (c.looked.ensures, suits_of c.args.act.now c.look-pass.result.1 grows.says));
      does =
          subst (λ r. DoesAs (knowing c.args.door.now.name c.args.pass) (knowing c.args.door.now.name c.look-pass.result.0) c.args.act.now r) (sym c.looked.ensures)
          (looks c.args.door.now.name c.args.pass c.look-pass.result.0 c.args.act.now c.requires.act c.look-pass.result.1 grows);
    }
