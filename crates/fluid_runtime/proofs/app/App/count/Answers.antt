use Rattle.std.proofs.Common.{◌≡◌, ℕ, ◌+◌, ◌-◌, ◌^◌, ◌<◌, ◌≤◌, Option, Some, None, sym, ap, ◌∙◌, arith}
use Rattle.std.specs.FinMap.{get}
use Rattle.fluid_edits.specs.Forms.{address_of}
use Rattle.fluid_edits.specs.Replay.{told}
use Rattle.fluid_runtime.specs.App.{after_any, changed_by}
use Rattle.fluid_runtime.specs.Slots.{channels_of, changed_of, IsSound, IsKnown}
use Rattle.fluid_runtime.proofs.Told.{told_channels, told_sound, told_named, told_changed}
use Rattle.fluid_runtime.proofs.app.App.count.Goals as goal

before : (n : ℕ) → n + 1 - 1 ≡ n
before n = omega arith

known_more : (taken : ℕ) (mark : Option ℕ) → IsKnown taken mark → IsKnown (taken + 1) mark
known_more taken None known = tt
known_more taken (Some mark) known = omega (arith, known)

roomy : (taken room : ℕ) → 2 ^ 64 - taken ≡ room → 0 < room → taken + 1 ≤ 2 ^ 64
roomy taken room is some = omega (arith, is, some)

pub invariant_of-self-2 : goal.invariant_of-self-2
invariant_of-self-2 c =
    let slots = c.self.inside.slots.values in
    let edit = c.in-Some.edit in
    let sound : IsSound (c.self.inside.taken + 1 - 1) c.self.inside.slots.values = rw (before c.self.inside.taken) c.self.invariant.0 in (
      told_sound (c.self.inside.taken + 1) (address_of edit) slots c.take.new.slots.values (told edit (get (channels_of slots) (address_of edit))) sound c.in_ok-take.ensures.told,
      (
        known_more c.self.inside.taken c.self.inside.mark c.self.invariant.1.0,
        (
          roomy c.self.inside.taken c.args.self.now.room (ap (λ a. a.room) c.self.view_is) c.requires,
          told_named (c.self.inside.taken + 1) (address_of edit) slots c.take.new.slots.values (told edit (get (channels_of slots) (address_of edit))) c.self.invariant.1.1.1 c.in_ok-take.ensures.told,
        ),
      ),
    )

pub returns-clause-channels : goal.returns-clause-channels
returns-clause-channels c =
    let slots = c.self.inside.slots.values in
    let edit = c.in-Some.edit in
    rw (← c.self.view_is)
    (told_channels (c.self.inside.taken + 1) (address_of edit) slots c.take.new.slots.values (told edit (get (channels_of slots) (address_of edit))) c.in_ok-take.ensures.told
    ∙ ap (after_any (channels_of slots)) (sym c.in-Some.is ∙ c.in_ok-edit.ensures))

pub returns-clause-changed : goal.returns-clause-changed
returns-clause-changed c =
    let slots = c.self.inside.slots.values in
    let edit = c.in-Some.edit in
    let known : IsKnown (c.self.inside.taken + 1 - 1) c.self.inside.mark = rw (before c.self.inside.taken) c.self.invariant.1.0 in
    rw (← c.self.view_is)
    (told_changed (c.self.inside.taken + 1) (address_of edit) slots c.take.new.slots.values (told edit (get (channels_of slots) (address_of edit))) c.self.inside.mark known (omega arith)
    c.in_ok-take.ensures.told
    ∙ ap (changed_by (channels_of slots) (changed_of c.self.inside.mark slots)) (sym c.in-Some.is ∙ c.in_ok-edit.ensures))
