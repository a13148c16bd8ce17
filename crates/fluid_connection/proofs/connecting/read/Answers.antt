use Rattle.std.proofs.Common.{◌∙◌, sym, ap}
use Rattle.fluid_connection.specs.Connecting.{name_of}
use Rattle.fluid_connection.proofs.Greetings.{greets_read}
use Rattle.fluid_connection.proofs.connecting.read.Goals as goal

pub returns : goal.returns
returns g c = record {
  name = c.name_of.ensures ∙ ap name_of c.act_of-act.ensures;
  does =
      greets_read c.args.connect c.args.visit c.new.result c.deref.result.now c.into_parts-door.result.1 c.look-pass.result.0 c.act_of-act.result c.look-pass.result.1
      (c.deref.ensures ∙ c.into_parts-door.ensures.parts.0) c.into_parts-door.ensures.parts.1 (c.new.ensures ∙ ap (λ d. record { door = d; pass = c.look-pass.result.0 }) (sym c.deref.ensures))
      c.act_of-act.ensures c.look-pass.ensures.few c.look-pass.ensures.looked.0 c.look-pass.ensures.looked.1.0 c.look-pass.ensures.looked.1.1 c.look-pass.ensures.does;
}
