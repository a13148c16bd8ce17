use Rattle.std.proofs.Common.{rules, length, sym, ◌∙◌, subst}
use Rattle.std.proofs.lemmas.List.{nil_from_length}
use Rattle.fluid_connection.specs.Knowing.{knowing}
use Rattle.fluid_connection.specs.Running.{NextDoes}
use Rattle.fluid_connection.proofs.Texts.{Progress, first, has_room, goes_on, stops, ends_all}
use Rattle.fluid_connection.proofs.entering.enter_all.Goals as goal

pub loop-act-init : goal.loop-act-init
loop-act-init g c = record {
  len = search rules;
  turn = c.requires.pass;
  few = λ few. few;
  so_far = subst (λ rest. Progress c.args.voice.now (knowing c.args.door.now.name c.args.pass) (knowing c.args.door.now.name c.args.pass) c.args.acts.items rest c.new-told.result (length c.args.acts.items)) (sym c.into_iter-act-iterator.ensures.into_iter_gives.0)
      (first c.args.voice.now (knowing c.args.door.now.name c.args.pass) c.args.acts.items c.new-told.result c.requires.acts c.new-told.ensures.replies c.new-told.ensures.counts c.new-told.ensures.full);
}

pub enter_next-back-requires-clause-pass : goal.enter_next-back-requires-clause-pass
enter_next-back-requires-clause-pass g c = c.loop-act.invariant.turn

pub enter_next-back-requires-clause-act : goal.enter_next-back-requires-clause-act
enter_next-back-requires-clause-act g c = (rw c.in-Some.ensures.steps.0 at c.loop-act.invariant.so_far).subs.0

pub enter_next-back-requires-clause-full : goal.enter_next-back-requires-clause-full
enter_next-back-requires-clause-full g c = c.loop-act.invariant.so_far.full

pub enter_next-back-requires-clause-room : goal.enter_next-back-requires-clause-room
enter_next-back-requires-clause-room g c = has_room _ _ _ _ _ _ _ _ (rw c.in-Some.ensures.steps.0 at c.loop-act.invariant.so_far) (search rules)

pub returns-in-Err-clause-does : goal.returns-in-Err-clause-does
returns-in-Err-clause-does g c =
    stops _ _ _ (knowing c.args.door.now.name c.enter_next-back.result.0) _ c.in-Some.act c.next.new.self.rest.items _ c.enter_next-back.new.told _
    (rw c.in-Some.ensures.steps.0 at c.loop-act.invariant.so_far) c.in-Err.fault
    (subst (λ f. NextDoes c.args.voice.now c.loop-act.told c.enter_next-back.new.told (knowing c.args.door.now.name c.loop-act.pass) (knowing c.args.door.now.name c.enter_next-back.result.0) c.in-Some.act f) c.in-Err.is c.enter_next-back.ensures.does)

pub loop-act-preserved : goal.loop-act-preserved
loop-act-preserved g c = record {
  len = search rules;
  turn = c.enter_next-back.ensures.turn;
  few = λ few. c.enter_next-back.ensures.few (c.loop-act.invariant.few few);
  so_far =
      goes_on _ _ _ (knowing c.args.door.now.name c.enter_next-back.result.0) _ c.in-Some.act c.next.new.self.rest.items _ c.enter_next-back.new.told _
      (rw c.in-Some.ensures.steps.0 at c.loop-act.invariant.so_far)
      (subst (λ f. NextDoes c.args.voice.now c.loop-act.told c.enter_next-back.new.told (knowing c.args.door.now.name c.loop-act.pass) (knowing c.args.door.now.name c.enter_next-back.result.0) c.in-Some.act f) c.in-Ok.is c.enter_next-back.ensures.does);
}

pub returns-in-Err-clause-few : goal.returns-in-Err-clause-few
returns-in-Err-clause-few g c = λ few. c.enter_next-back.ensures.few (c.loop-act.invariant.few few)

pub returns-clause-few : goal.returns-clause-few
returns-clause-few g c = c.loop-act.invariant.few

pub returns-clause-turn : goal.returns-clause-turn
returns-clause-turn g c = c.loop-act.invariant.turn

pub returns-clause-does : goal.returns-clause-does
returns-clause-does g c =
    ends_all _ _ _ _ _ _ _ (nil_from_length _ (sym c.loop-act.invariant.len ∙ c.in-None.ensures.steps.0)) c.loop-act.invariant.so_far
