use Rattle.std.proofs.Common.{rules, subst, ap, ◌≤◌, Option, Some, None, Ok, Err}
use Rattle.fluid_io.specs.Causes.{Rose}
use Rattle.fluid_types.specs.declared.entries.Raw.TheVariants.{Submit}
use Rattle.fluid_types.specs.declared.nacks.Nack.{Nack}
use Rattle.fluid_lane.specs.Standing.{Standing}
use Rattle.fluid_loader.specs.Link.{BothTell, Document}
use Rattle.fluid_door_link.specs.Linking.{Adds, IsFullWith, EntersBy}
use Rattle.fluid_door_link.specs.Telling.{told_by}
use Rattle.fluid_door_link.proofs.Linked.{nothing_submitted, submitted, full, unsubmitted}
use Rattle.fluid_door_link.proofs.door_link.DoorLinkLink.submit.Goals as goal

pub returns-then-is_stopped-clause-does : goal.returns-then-is_stopped-clause-does
returns-then-is_stopped-clause-does g c =
    let now = c.args.self.now in
    nothing_submitted now.notes.now.client now.moment now.notes.now.messages.items now.notes.now.fetched.items now.notes.now.handles.items now.bad_trees c.args.submission (told_by g.W.Begun.good now.lane.now now.objects.now) now.notes.now.taken.items now.faults now.refusals

pub returns-in-Ok-Some-clause-does : goal.returns-in-Ok-Some-clause-does
returns-in-Ok-Some-clause-does g c =
    let now = c.args.self.now in
    let told : Standing → Option Document = λ lane. told_by g.W.Begun.good lane now.objects.now in
    let does : EntersBy (Submit c.in-Ok.id c.args.submission now.moment) (told now.lane.now) (told c.enter.new.lane) (Ok (Some c.in-Ok-Some.verdict)) = rw c.in-Ok-Some.field-0-is at c.in-Ok-Some.ensures.does in
    let both = subst (λ id. BothTell (Adds (Submit id c.args.submission now.moment) c.in-Ok-Some.verdict) (told now.lane.now) (told c.enter.new.lane)) c.in-Ok.ensures does in
    submitted now.notes.now.client now.moment now.notes.now.messages.items now.notes.now.fetched.items now.notes.now.handles.items now.bad_trees c.args.submission (told now.lane.now) (told c.enter.new.lane) now.notes.now.taken.items c.in-Ok-Some.verdict now.faults now.refusals
    c.answered.new.refusals c.answered.new.taken.items c.answered.result both c.answered.ensures

pub returns-in-Ok-None-clause-does : goal.returns-in-Ok-None-clause-does
returns-in-Ok-None-clause-does g c =
    let now = c.args.self.now in
    let told : Standing → Option Document = λ lane. told_by g.W.Begun.good lane now.objects.now in
    let does : EntersBy (Submit c.in-Ok.id c.args.submission now.moment) (told now.lane.now) (told c.enter.new.lane) (Ok None) = rw c.in-Ok-None.field-0-is at c.in-Ok-None.ensures.does in
    let both = subst (λ id. BothTell (IsFullWith (Submit id c.args.submission now.moment)) (told now.lane.now) (told c.enter.new.lane)) c.in-Ok.ensures does in
    let rose : Rose now.refusals c.saturating_add-self.result = search rules in
    let up : now.refusals ≤ c.saturating_add-self.result = search rules in
    full now.notes.now.client now.moment now.notes.now.messages.items now.notes.now.fetched.items now.notes.now.handles.items now.bad_trees c.args.submission (told now.lane.now) (told c.enter.new.lane) now.notes.now.taken.items c.front_nack.result
    (ap (λ (n : Nack). n.rule) c.front_nack.ensures) now.faults now.refusals c.saturating_add-self.result rose up both

pub returns-in-Err-enter-clause-does : goal.returns-in-Err-enter-clause-does
returns-in-Err-enter-clause-does g c =
    let now = c.args.self.now in
    let told : Standing → Option Document = λ lane. told_by g.W.Begun.good lane now.objects.now in
    unsubmitted now.notes.now.client now.moment now.notes.now.messages.items now.notes.now.fetched.items now.notes.now.handles.items now.bad_trees c.args.submission (told now.lane.now) (told c.enter.new.lane) now.notes.now.taken.items c.in-Err-enter.fault c.counted.result
    now.faults c.counted.new.faults now.refusals c.counted.new.refusals
    (subst (λ id. EntersBy (Submit id c.args.submission now.moment) (told now.lane.now) (told c.enter.new.lane) (Err c.in-Err-enter.fault)) c.in-Ok.ensures c.in-Err-enter.ensures.does)
    c.counted.ensures.same c.counted.ensures.counted
