use Rattle.std.proofs.Common.{rules, Some, refl, sym, ap, ◌∙◌}
use Rattle.std.specs.FinMap.{get}
use Rattle.fluid_edits.specs.Replay.{told_counter}
use Rattle.fluid_runtime.specs.Slots.{IsToldSlot, channel_of}
use Rattle.fluid_runtime.proofs.Told.{exchanged, found_told, absent_told}
use Rattle.fluid_runtime.proofs.slots.tell_counter.Goals as goal

pub returns-in_default : goal.returns-in_default
returns-in_default c =
    let none = sym c.replace.ensures.former ∙ c.in_default.is in
    absent_told c.args.number c.args.address.now c.args.slots.now.values c.replace.new.self.values (told_counter c.args.amount) refl
    (ap (get c.args.slots.now.values) (sym c.as_str.ensures.bytes) ∙ none) (c.replace.ensures.absent none)

pub returns : goal.returns
returns c =
    let found = sym c.replace.ensures.former ∙ c.in-Some.is in
    let both = exchanged c.args.slots.now.values c.replace.new.self.values c.replace-2.new.self.values c.args.address.now c.as_str.result.now c.as_str-2.result.now
    c.vacant.result c.in-Some.slot c.counter_told-slot.result c.as_str.ensures.bytes c.as_str-2.ensures.bytes found c.replace.ensures.replaced c.replace-2.ensures.replaced in
    let told : IsToldSlot c.args.number (told_counter c.args.amount (Some (channel_of c.in-Some.slot))) c.in-Some.slot c.counter_told-slot.result = search rules in
    found_told c.args.number c.args.address.now c.args.slots.now.values c.replace-2.new.self.values c.in-Some.slot c.counter_told-slot.result (told_counter c.args.amount)
    c.as_str.ensures.name both.0 both.1 told c.counter_told-slot.ensures.quiet
