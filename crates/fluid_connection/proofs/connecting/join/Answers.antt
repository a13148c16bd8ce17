use Rattle.std.proofs.Common.{◌∙◌, refl, sym, ap}
use Rattle.fluid_connection.proofs.Greetings.{greets_join}
use Rattle.fluid_connection.proofs.connecting.join.Goals as goal

pub returns : goal.returns
returns g c = record {
  name = refl;
  does =
      rw c.joined.ensures
      (greets_join c.args.connect c.args.visit c.new.result c.deref.result.now c.into_parts-door.result.1 c.join-pass.result.0 c.join-pass.result.1
      (c.deref.ensures ∙ c.into_parts-door.ensures.parts.0) c.into_parts-door.ensures.parts.1 (c.new.ensures ∙ ap (λ d. record { door = d; pass = c.join-pass.result.0 }) (sym c.deref.ensures))
      (c.into_parts-door.ensures.together ∙ ap (λ d. d.turn) (sym c.deref.ensures)) c.requires.write c.join-pass.ensures);
}
