use Rattle.std.proofs.Common.{rules, ◌≡◌, ◌∙◌, sym, ap, subst}
use Rattle.fluid_opening.specs.Steps.{visit_steps}
use Rattle.fluid_service.specs.Keys.{Passes, Reaches}
use Rattle.fluid_connection.specs.Talked.{Talked}
use Rattle.fluid_connection.specs.Connecting.{ReachesBy}
use Rattle.fluid_connection.proofs.Keyrings.{reached_service}
use Rattle.fluid_connection.proofs.talk.Talk.reach.Goals as goal

pub returns-in-None-clause-reached : goal.returns-in-None-clause-reached
returns-in-None-clause-reached g c =
    let m = c.door-key.result.0 in let r = c.door-key.result.1 in let name = c.args.name.now in
    let own : c.replace-key.result ≡ c.self.inside.key = search rules in
    let turn : c.args.service.now ≡ c.replace-key.result.turn = sym (ap (λ k. k.turn) own ∙ ap (λ (t : Talked). t.key.turn) c.self.view_is ∙ c.requires.service) in
    subst (λ (t : Talked). ReachesBy name t.handed t.key m r) c.self.view_is
    (subst (λ k. ReachesBy name c.self.inside.handed k m r) own
    (reached_service c.replace-key.result m name c.self.inside.handed r c.in-None.ensures.split
    (subst (λ s. Passes c.replace-key.result m (visit_steps name r) (Reaches s.fixed name r)) turn c.door-key.ensures)))
