use Rattle.std.proofs.Common.{ap, ◌∙◌}
use Rattle.std.specs.Option.{unwrap_or}
use Rattle.std.specs.FinMap.{get}
use Rattle.fluid_map.proofs.Replays.{shown_behind}
use Rattle.fluid_map.proofs.shared.SharedMap.value.Goals as goal

pub returns-in-Some-clause-stands : goal.returns-in-Some-clause-stands
returns-in-Some-clause-stands c = λ values ops stands.
    rw (← c.self.view_is) (ap (λ word. unwrap_or word (get c.self.inside.acknowledged.values c.args.key.now)) c.in-Some.ensures)
    ∙ shown_behind values ops c.args.self.now c.args.key.now stands

pub returns-in-None-clause-stands : goal.returns-in-None-clause-stands
returns-in-None-clause-stands c = λ values ops stands.
    rw (← c.self.view_is) (c.get.ensures ∙ ap (λ word. unwrap_or word (get c.self.inside.acknowledged.values c.args.key.now)) c.in-None.ensures)
    ∙ shown_behind values ops c.args.self.now c.args.key.now stands
