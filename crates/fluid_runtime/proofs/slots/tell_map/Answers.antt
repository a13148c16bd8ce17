use Rattle.std.proofs.Common.{refl, sym, ap, ◌∙◌}
use Rattle.std.specs.FinMap.{get, insert}
use Rattle.fluid_edits.specs.Replay.{told_map}
use Rattle.fluid_runtime.proofs.Each.{insert_same}
use Rattle.fluid_runtime.proofs.Told.{exchanged, found_told, absent_told, on_ok, on_err}
use Rattle.fluid_runtime.proofs.slots.tell_map.Goals as goal

pub returns-in_default-clause-told : goal.returns-in_default-clause-told
returns-in_default-clause-told c =
    let none = sym c.replace.ensures.former ∙ c.in_default.is in
    absent_told c.args.number c.args.address.now c.args.slots.now.values c.replace.new.self.values (told_map c.args.op) refl
    (ap (get c.args.slots.now.values) (sym c.as_str.ensures.bytes) ∙ none) (c.replace.ensures.absent none)

pub returns-clause-told : goal.returns-clause-told
returns-clause-told c =
    let found = sym c.replace.ensures.former ∙ c.in-Some.is in
    let both = exchanged c.args.slots.now.values c.replace.new.self.values c.replace-2.new.self.values c.args.address.now c.as_str.result.now c.as_str-2.result.now
    c.vacant.result c.in-Some.slot c.map_told-slot.result.0 c.as_str.ensures.bytes c.as_str-2.ensures.bytes found c.replace.ensures.replaced c.replace-2.ensures.replaced in
    let quiet = c.map_told-slot.ensures.quiet (c.requires.sound c.args.address.now c.in-Some.slot both.0).quiet in
    on_ok c.map_told-slot.result.1
    (λ told. found_told c.args.number c.args.address.now c.args.slots.now.values c.replace-2.new.self.values c.in-Some.slot c.map_told-slot.result.0 (told_map c.args.op)
    c.as_str.ensures.name both.0 both.1 told quiet)
    c.map_told-slot.ensures.told

pub returns-clause-unchanged : goal.returns-clause-unchanged
returns-clause-unchanged c =
    let found = sym c.replace.ensures.former ∙ c.in-Some.is in
    let both = exchanged c.args.slots.now.values c.replace.new.self.values c.replace-2.new.self.values c.args.address.now c.as_str.result.now c.as_str-2.result.now
    c.vacant.result c.in-Some.slot c.map_told-slot.result.0 c.as_str.ensures.bytes c.as_str-2.ensures.bytes found c.replace.ensures.replaced c.replace-2.ensures.replaced in
    on_err c.map_told-slot.result.1
    (λ same. both.1 ∙ ap (insert c.args.slots.now.values c.args.address.now) same ∙ insert_same c.args.slots.now.values c.args.address.now c.in-Some.slot both.0)
    c.map_told-slot.ensures.unchanged
