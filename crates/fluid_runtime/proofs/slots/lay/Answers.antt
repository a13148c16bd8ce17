use Rattle.std.proofs.Common.{◌≡◌, ℕ, ◌+◌, ◌-◌, length, ap, subst, ◌∙◌, arith}
use Rattle.std.specs.FinMap.{get}
use Rattle.fluid_edits.specs.Forms.{address_of}
use Rattle.fluid_edits.specs.Replay.{told, after}
use Rattle.fluid_runtime.specs.Slots.{channels_of, IsSound}
use Rattle.fluid_runtime.proofs.Laid.{laid_on, laid_all}
use Rattle.fluid_runtime.proofs.Told.{told_channels, told_sound}
use Rattle.fluid_runtime.proofs.slots.lay.Goals as goal

before : (n : ℕ) → n + 1 - 1 ≡ n
before n = omega arith

pub take-requires-clause-sound : goal.take-requires-clause-sound
take-requires-clause-sound c = rw (before c.loop-edit.number) c.loop-edit.invariant.sound

pub take-requires-clause-room : goal.take-requires-clause-room
take-requires-clause-room c = (omega arith, omega (arith, c.loop-edit.invariant.counted, c.loop-edit-test.true, c.requires.room))

pub loop-edit-preserved : goal.loop-edit-preserved
loop-edit-preserved c =
    let same : c.in_ok-edit.edit ≡ c.edit-item.result = c.in_ok-edit.ensures in
    let sound : IsSound (c.loop-edit.number + 1 - 1) c.loop-edit.slots.values = rw (before c.loop-edit.number) c.loop-edit.invariant.sound in
    let said = told c.in_ok-edit.edit (get (channels_of c.loop-edit.slots.values) (address_of c.in_ok-edit.edit)) in
    record {
      counted = omega (arith, c.loop-edit.invariant.counted);
      sound = told_sound (c.loop-edit.number + 1) (address_of c.in_ok-edit.edit) c.loop-edit.slots.values c.take.new.slots.values said sound c.in_ok-take.ensures.told;
      channels =
          laid_on (channels_of c.args.slots.now.values) (channels_of c.loop-edit.slots.values) (channels_of c.take.new.slots.values) c.args.edits.now c.loop-edit.edit-index
          c.edit-item.result c.loop-edit.invariant.channels c.loop-edit-test.true c.edit-item.is
          (told_channels (c.loop-edit.number + 1) (address_of c.in_ok-edit.edit) c.loop-edit.slots.values c.take.new.slots.values said c.in_ok-take.ensures.told
          ∙ ap (after (channels_of c.loop-edit.slots.values)) same);
    }

pub returns-clause-sound : goal.returns-clause-sound
returns-clause-sound c =
    let all : c.loop-edit.number ≡ c.args.taken + length c.args.edits.now = omega (arith, c.loop-edit.invariant.counted, c.loop-edit-test.false, c.loop-edit.auto.edit-index-end) in
    subst (λ n. IsSound n c.loop-edit.slots.values) all c.loop-edit.invariant.sound

pub returns-clause-channels : goal.returns-clause-channels
returns-clause-channels c =
    laid_all (channels_of c.args.slots.now.values) (channels_of c.loop-edit.slots.values) c.args.edits.now c.loop-edit.edit-index c.loop-edit.invariant.channels c.loop-edit-test.false
