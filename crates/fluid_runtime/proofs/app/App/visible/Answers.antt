use Rattle.std.proofs.Common.{◌≡◌, IfOk, sym, ap, subst, ◌∙◌}
use Rattle.fluid_edits.specs.Replay.{replay_edits}
use Rattle.fluid_runtime.specs.App.{visible}
use Rattle.fluid_runtime.specs.Shown.{shown}
use Rattle.fluid_runtime.specs.Slots.{channels_of, IsSound}
use Rattle.fluid_runtime.proofs.Laid.{laid_both, settled_same}
use Rattle.fluid_runtime.proofs.app.App.visible.Goals as goal

pub lay-requires-clause-sound : goal.lay-requires-clause-sound
lay-requires-clause-sound c =
    let same = c.in_ok-slots.ensures ∙ settled_same c.self.inside.taken c.self.inside.slots.values c.self.invariant.0 in
    subst (IsSound c.self.inside.taken) (sym same) c.self.invariant.0

pub returns : goal.returns
returns c =
    let slots = c.self.inside.slots.values in
    let same = c.in_ok-slots.ensures ∙ settled_same c.self.inside.taken c.self.inside.slots.values c.self.invariant.0 in
    let all : channels_of c.lay-2.new.slots.values ≡ visible c.args.self.now =
    c.in_ok-lay-2.ensures.channels
    ∙ ap (λ channels. replay_edits channels c.as_slices.result.1.now)
    (c.in_ok-lay.ensures.channels ∙ ap (λ channels. replay_edits channels c.as_slices.result.0.now) (ap channels_of same))
    ∙ laid_both (channels_of slots) c.as_slices.result.0.now c.as_slices.result.1.now
    ∙ ap (replay_edits (channels_of slots)) c.as_slices.ensures.items ∙ ap visible c.self.view_is in
    subst (λ channels. IfOk c.shown.result (λ json. json ≡ shown channels)) all c.shown.ensures
