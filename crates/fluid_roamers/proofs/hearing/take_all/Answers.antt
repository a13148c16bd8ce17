use Rattle.std.proofs.Common.{rules, sym, ◌∙◌}
use Rattle.std.proofs.lemmas.List.{nil_from_length}
use Rattle.fluid_roamers.proofs.Taken.{taken_none, taken_more, taken_all, next_number}
use Rattle.fluid_roamers.proofs.hearing.take_all.Goals as goal

pub loop-message-init : goal.loop-message-init
loop-message-init c = record { len = search rules; taken = rw c.into_iter-message-iterator.ensures.into_iter_gives.0 (taken_none c.args.messages.items c.args.roamer.now c.requires.kept c.requires.next) }

pub loop-message-preserved : goal.loop-message-preserved
loop-message-preserved c = record {
  len = search rules;
  taken =
      taken_more c.args.messages.items c.next.new.self.rest.items c.in-Some.message c.loop-message.message-iterator.rest.items c.args.roamer.now c.loop-message.roamer c.take_one.new.roamer
      c.in-Some.ensures.steps.0 c.loop-message.invariant.taken c.in_ok-take_one.ensures.does c.in_ok-take_one.ensures.kept c.in_ok-take_one.ensures.number;
}

pub returns-clause-does : goal.returns-clause-does
returns-clause-does c = λ past stands.
    taken_all c.args.messages.items c.loop-message.message-iterator.rest.items c.args.roamer.now c.loop-message.roamer (nil_from_length _ (sym c.loop-message.invariant.len ∙ c.in-None.ensures.steps.0)) c.loop-message.invariant.taken past stands

pub returns-clause-kept : goal.returns-clause-kept
returns-clause-kept c = c.loop-message.invariant.taken.kept

pub take_one-requires-clause-next : goal.take_one-requires-clause-next
take_one-requires-clause-next c =
    next_number c.args.messages.items c.next.new.self.rest.items c.in-Some.message c.loop-message.message-iterator.rest.items c.args.roamer.now c.loop-message.roamer c.in-Some.ensures.steps.0 c.loop-message.invariant.taken
