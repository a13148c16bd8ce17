use Rattle.std.proofs.Common.{◌≤◌, rules, ap, sym, subst, arith, ◌∙◌, OnErr}
use Rattle.fluid_deltas.specs.Pushed.{Pushed, pushed}
use Rattle.fluid_deltas.specs.Flushes.{PutsAll}
use Rattle.fluid_document.specs.Entries.{InMemory}
use Rattle.fluid_document.specs.Puts.{Flushes, PutsFew}
use Rattle.fluid_document.specs.Rooms.{for_room}
use Rattle.fluid_document.proofs.Levels.{levelled_same, room_pushed, room_free}
use Rattle.fluid_document.proofs.Early.{room_is, page_first, page_few, page_onwards, page_needed, on_ok, on_err, flushes_of}
use Rattle.fluid_document.proofs.document.Document.make_room.Goals as goal

pub invariant_of-self : goal.invariant_of-self
invariant_of-self g c =
    levelled_same _ c.self.inside.messages c.make_room.new.self (room_pushed c.make_room.result _ _ (c.full.ensures.full.0 (search rules)) c.make_room.ensures.drops c.make_room.ensures.same) c.self.invariant

pub returns-clause-pushed : goal.returns-clause-pushed
returns-clause-pushed g c =
    room_pushed c.make_room.result c.self.inside.messages c.make_room.new.self (c.full.ensures.full.0 (search rules)) c.make_room.ensures.drops c.make_room.ensures.same ∙ ap (λ m. pushed m.messages) c.self.view_is

pub returns-clause-room : goal.returns-clause-room
returns-clause-room g c =
    on_ok c.make_room.result c.flushed.result _ c.flushed.ensures (room_free c.make_room.result c.self.inside.messages c.make_room.new.self (c.full.ensures.full.0 (search rules)) c.make_room.ensures.drops)

pub returns-clause-same : goal.returns-clause-same
returns-clause-same g c =
    let with_messages : Pushed → InMemory = λ d. record {
      entries = record { state = c.self.inside.core.state; entered = c.self.inside.entered; counted = c.self.inside.counted };
      messages = d;
      clients = c.self.inside.core.clients;
      notes = c.self.inside.core.notes;
    } in
    on_err c.make_room.result c.flushed.result _ _ c.flushed.ensures (λ same. ap with_messages same ∙ c.self.view_is) c.make_room.ensures.same

pub returns-clause-flushes : goal.returns-clause-flushes
returns-clause-flushes g c =
    let old = g.K.Keeper.seen c.args.keeper.now in
    let puts = subst (λ ms. PutsAll ms old (g.K.Keeper.seen c.make_room.new.keeper) c.make_room.result) (sym (room_is c.self.inside.messages old.deltas (c.full.ensures.full.0 (search rules)))) c.make_room.ensures.puts in
    subst (λ m. Flushes (for_room m.messages old.deltas) old (g.K.Keeper.seen c.make_room.new.keeper) c.flushed.result) c.self.view_is
    (flushes_of _ c.make_room.result c.flushed.result old _ c.flushed.ensures c.make_room.ensures.writes puts)

pub returns-clause-first : goal.returns-clause-first
returns-clause-first g c =
    page_first c.make_room.result c.flushed.result c.self.inside.messages c.make_room.new.self (g.K.Keeper.seen c.args.keeper.now) _ c.flushed.ensures (c.full.ensures.full.0 (search rules))
    (omega (arith, c.requires, ap (λ m. m.messages.before) c.self.view_is)) c.make_room.ensures.puts c.make_room.ensures.drops

pub returns-clause-few : goal.returns-clause-few
returns-clause-few g c =
    subst (λ m. PutsFew m.entries.entered (g.K.Keeper.seen c.args.keeper.now) (g.K.Keeper.seen c.make_room.new.keeper)) c.self.view_is
    (page_few c.make_room.result c.self.inside.messages (g.K.Keeper.seen c.args.keeper.now) _ c.self.inside.entered c.self.inside.core.state.sequencer.sequence (c.full.ensures.full.0 (search rules)) c.self.invariant.level c.self.invariant.sequenced
    (omega (arith, c.requires, ap (λ m. m.messages.before) c.self.view_is)) c.make_room.ensures.puts)

pub returns-clause-onwards : goal.returns-clause-onwards
returns-clause-onwards g c =
    subst (λ m. m.messages.before ≤ c.make_room.new.self.before) c.self.view_is (page_onwards c.make_room.result c.self.inside.messages c.make_room.new.self c.make_room.ensures.drops c.make_room.ensures.same)

pub returns-clause-needed : goal.returns-clause-needed
returns-clause-needed g c =
    subst (λ (m : InMemory). OnErr c.flushed.result (4096 ≤ m.entries.entered)) c.self.view_is
    (page_needed c.flushed.result c.self.inside.messages c.self.inside.entered c.self.inside.core.state.sequencer.sequence (c.full.ensures.full.0 (search rules)) c.self.invariant.level c.self.invariant.sequenced)
