use Rattle.std.proofs.Common.{◌≡◌, Ok, Err, ap, ◌∙◌, sym, subst}
use Rattle.fluid_json.specs.Unless.{IsUnless}
use Rattle.fluid_types.specs.declared.fault.BlobFault.TheVariants.{NoMemory}
use Rattle.std.specs.FinMap.{insert}
use Rattle.fluid_types.specs.Names.{IsName}
use Rattle.fluid_runtime.specs.AppTree.{entry_answer, answer}
use Rattle.fluid_runtime.specs.Slots.{channel_of_object, channels_of, AreNamed, IsSound}
use Rattle.fluid_runtime.proofs.Reading.{entries_begin, entry_goes, entry_sound, entry_named, entry_fails}
use Rattle.fluid_runtime.proofs.Told.{none_sound, none_named}
use Rattle.fluid_runtime.proofs.loading.slots_of.Goals as goal

pub loop-name-init : goal.loop-name-init
loop-name-init c =
    record {
      sound = subst (IsSound 0) (sym c.new-slots.ensures) (none_sound 0);
      named = subst AreNamed (sym c.new-slots.ensures) none_named;
      rest = entries_begin c.args.tree.now c.in-Some.entries.now c.new-slots.result.values c.new-slots.ensures c.in-Some.ensures;
    }

pub returns-in_err-object-clause-answer : goal.returns-in_err-object-clause-answer
returns-in_err-object-clause-answer c =
    let e = c.loop-name-item.result in
    entry_fails c.loop-name.slots.values c.in-Some.entries.now c.loop-name.name-index e c.in_err-object.field-0.0 c.from_residual.result (answer c.args.tree.now)
    c.loop-name-test.true c.loop-name-item.is c.from_residual.ensures.1
    (subst (λ k. IsUnless NoMemory (Err c.in_err-object.field-0.0) (entry_answer (channels_of c.loop-name.slots.values) k e.1)) c.as_str.ensures c.in_err-object.ensures.answer)
    c.loop-name.invariant.rest

pub loop-name-preserved : goal.loop-name-preserved
loop-name-preserved c =
    let e = c.loop-name-item.result in
    let before = c.loop-name.slots.values in
    let object = c.in_ok-object.object in
    let own : c.in_ok-name.name ≡ e.0 = c.in_ok-name.ensures in
    let name : IsName c.in_ok-name.name = subst IsName (c.as_str.ensures ∙ sym own) c.in_ok-object.ensures.name in
    let put : c.insert.new.self.values ≡ insert before c.in_ok-name.name (record { object = object; last = 0 }) =
    c.insert.ensures.values ∙ ap (λ m. insert m c.in_ok-name.name (record { object = object; last = 0 })) c.in_ok-reserve.ensures.same in
    record {
      sound = entry_sound before c.insert.new.self.values c.in_ok-name.name object put c.in_ok-object.ensures.quiet name c.loop-name.invariant.sound;
      named = entry_named before c.insert.new.self.values c.in_ok-name.name object put c.in_ok-object.ensures.quiet name c.loop-name.invariant.named;
      rest =
          entry_goes before c.insert.new.self.values c.in-Some.entries.now c.loop-name.name-index e c.in_ok-name.name object (answer c.args.tree.now) c.loop-name-test.true c.loop-name-item.is own put
          (subst (λ k. IsUnless NoMemory (Ok (channel_of_object object)) (entry_answer (channels_of before) k e.1)) c.as_str.ensures c.in_ok-object.ensures.answer)
          c.loop-name.invariant.rest;
    }
