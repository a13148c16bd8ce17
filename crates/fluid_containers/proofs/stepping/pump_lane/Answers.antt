use Rattle.std.proofs.Common.{rules, refl, ap, ◌∙◌}
use Rattle.fluid_loader.specs.Link.{Linked}
use Rattle.fluid_containers.proofs.Counts.{pump_counts, pump_trees}
use Rattle.fluid_containers.proofs.Stepped.{pumps_left}
use Rattle.fluid_containers.proofs.Bounded.{same_one, left_ends}
use Rattle.fluid_containers.proofs.Ends.{left_well, left_links, left_wants, unlent_links, pumped_wants}
use Rattle.fluid_containers.proofs.Stored.{told_good, seen_as}
use Rattle.fluid_containers.proofs.stepping.pump_lane.Goals as goal

pub returns-in_err-own-clause-runs : goal.returns-in_err-own-clause-runs
returns-in_err-own-clause-runs g c = unlent_links c.args.lane.now c.args.objects.now _ (search rules)

pub returns-in-Some-clause-does : goal.returns-in-Some-clause-does
returns-in-Some-clause-does g c = λ good limits w d k of store at stands is.
    left_ends g.W.Begun.good g.W.Begun.began c.args.lane.now _ g.W.Begun.before c.args.objects.now _ c.pump-answer.new.link.course.now c.into_stop.result c.pump-answer.new.link.bad_trees c.in-Some.fault c.stop_for.result c.requires.lane c.requires.store c.know.ensures.at (search rules) c.know.ensures.along good c.know.ensures.trees (pump_trees (seen_as g.W.Begun.good c.new-link.result.lane.now c.new-link.result.objects.now c.new-link.result.notes.now.client c.new-link.result.moment c.new-link.result.faults c.new-link.result.refusals c.new-link.result.bad_trees c.new-link.result.notes.now.messages.items c.new-link.result.notes.now.fetched.items c.new-link.result.notes.now.handles.items c.new-link.result.notes.now.taken.items) (seen_as g.W.Begun.good c.pump-answer.new.link.lane.now c.pump-answer.new.link.objects.now c.pump-answer.new.link.notes.now.client c.pump-answer.new.link.moment c.pump-answer.new.link.faults c.pump-answer.new.link.refusals c.pump-answer.new.link.bad_trees c.pump-answer.new.link.notes.now.messages.items c.pump-answer.new.link.notes.now.fetched.items c.pump-answer.new.link.notes.now.handles.items c.pump-answer.new.link.notes.now.taken.items) c.pump-answer.ensures.reads ∙ c.new-link.ensures.counts.1.1) c.in-Some.is c.stop_for.ensures limits d of w.store store (seen_as g.W.Begun.good c.new-link.result.lane.now c.new-link.result.objects.now c.new-link.result.notes.now.client c.new-link.result.moment c.new-link.result.faults c.new-link.result.refusals c.new-link.result.bad_trees c.new-link.result.notes.now.messages.items c.new-link.result.notes.now.fetched.items c.new-link.result.notes.now.handles.items c.new-link.result.notes.now.taken.items) (seen_as g.W.Begun.good c.pump-answer.new.link.lane.now c.pump-answer.new.link.objects.now c.pump-answer.new.link.notes.now.client c.pump-answer.new.link.moment c.pump-answer.new.link.faults c.pump-answer.new.link.refusals c.pump-answer.new.link.bad_trees c.pump-answer.new.link.notes.now.messages.items c.pump-answer.new.link.notes.now.fetched.items c.pump-answer.new.link.notes.now.handles.items c.pump-answer.new.link.notes.now.taken.items)
    (told_good g.W.Begun.good good c.new-link.result.lane.now _ c.new-link.result.objects.now _ c.new-link.ensures.lane.1 c.new-link.ensures.objects.1) c.pump-answer.new.link.lane.now c.pump-answer.new.link.objects.now refl (search rules) (search rules)
    (same_one (seen_as g.W.Begun.good c.new-link.result.lane.now c.new-link.result.objects.now c.new-link.result.notes.now.client c.new-link.result.moment c.new-link.result.faults c.new-link.result.refusals c.new-link.result.bad_trees c.new-link.result.notes.now.messages.items c.new-link.result.notes.now.fetched.items c.new-link.result.notes.now.handles.items c.new-link.result.notes.now.taken.items) (seen_as g.W.Begun.good c.pump-answer.new.link.lane.now c.pump-answer.new.link.objects.now c.pump-answer.new.link.notes.now.client c.pump-answer.new.link.moment c.pump-answer.new.link.faults c.pump-answer.new.link.refusals c.pump-answer.new.link.bad_trees c.pump-answer.new.link.notes.now.messages.items c.pump-answer.new.link.notes.now.fetched.items c.pump-answer.new.link.notes.now.handles.items c.pump-answer.new.link.notes.now.taken.items) (ap (λ (x : Linked). x.told) c.pump-answer.ensures.reads.same)) c.lane-1.given.0 (search rules)

pub returns-in-Some-clause-runs : goal.returns-in-Some-clause-runs
returns-in-Some-clause-runs g c = left_links g.W.Begun.good g.W.Begun.began c.args.lane.now _ g.W.Begun.before c.args.objects.now _ c.pump-answer.new.link.course.now c.into_stop.result c.in-Some.fault c.stop_for.result c.requires.lane c.requires.store (search rules) (search rules) c.know.ensures.along c.in-Some.is c.stop_for.ensures

pub returns-in-Some-clause-numbers : goal.returns-in-Some-clause-numbers
returns-in-Some-clause-numbers g c = pump_counts c.args.holder.now.container c.pump-answer.new.self (seen_as g.W.Begun.good c.new-link.result.lane.now c.new-link.result.objects.now c.new-link.result.notes.now.client c.new-link.result.moment c.new-link.result.faults c.new-link.result.refusals c.new-link.result.bad_trees c.new-link.result.notes.now.messages.items c.new-link.result.notes.now.fetched.items c.new-link.result.notes.now.handles.items c.new-link.result.notes.now.taken.items) (seen_as g.W.Begun.good c.pump-answer.new.link.lane.now c.pump-answer.new.link.objects.now c.pump-answer.new.link.notes.now.client c.pump-answer.new.link.moment c.pump-answer.new.link.faults c.pump-answer.new.link.refusals c.pump-answer.new.link.bad_trees c.pump-answer.new.link.notes.now.messages.items c.pump-answer.new.link.notes.now.fetched.items c.pump-answer.new.link.notes.now.handles.items c.pump-answer.new.link.notes.now.taken.items) c.pump-answer.result c.pump-answer.ensures.does

pub returns-clause-does : goal.returns-clause-does
returns-clause-does g c = λ good limits w d k of store at stands is.
    let before = c.new-link.result in
    let after = c.pump-answer.new.link in
    pumps_left g.W.Begun.good good limits w c.args.lane.now d of c.args.objects.now store _ _ (left_well g.W.Begun.good g.W.Begun.began c.args.lane.now _ g.W.Begun.before c.args.objects.now _ c.pump-answer.new.link.course.now c.into_stop.result c.requires.lane c.requires.store (search rules) (search rules) c.know.ensures.along good c.in-None.is) k c.args.holder.now is stands c.args.name.now
    (seen_as g.W.Begun.good before.lane.now before.objects.now before.notes.now.client before.moment before.faults before.refusals before.bad_trees before.notes.now.messages.items before.notes.now.fetched.items before.notes.now.handles.items before.notes.now.taken.items)
    (seen_as g.W.Begun.good after.lane.now after.objects.now after.notes.now.client after.moment after.faults after.refusals after.bad_trees after.notes.now.messages.items after.notes.now.fetched.items after.notes.now.handles.items after.notes.now.taken.items)
    (ap (λ n. n.client) c.new-link.ensures.notes.1 ∙ c.new-notes.ensures.client ∙ c.in_ok-own.ensures) (told_good g.W.Begun.good good before.lane.now _ before.objects.now _ c.new-link.ensures.lane.1 c.new-link.ensures.objects.1)
    after.lane.now after.objects.now refl (search rules) (search rules)
    c.pump-answer.new.self c.pump-answer.ensures.stays c.containers_catch_up.ensures c.pump-answer.result c.pumped.result c.pump-answer.ensures.does c.pumped.ensures

pub returns-clause-runs : goal.returns-clause-runs
returns-clause-runs g c = left_wants g.W.Begun.good g.W.Begun.began c.args.lane.now _ g.W.Begun.before c.args.objects.now _ c.pump-answer.new.link.course.now c.into_stop.result c.pumped.result c.requires.lane c.requires.store (search rules) (search rules) c.know.ensures.along c.in-None.is (pumped_wants c.args.name.now c.pump-answer.result c.pumped.result c.pumped.ensures)

pub returns-clause-numbers : goal.returns-clause-numbers
returns-clause-numbers g c = pump_counts c.args.holder.now.container c.pump-answer.new.self (seen_as g.W.Begun.good c.new-link.result.lane.now c.new-link.result.objects.now c.new-link.result.notes.now.client c.new-link.result.moment c.new-link.result.faults c.new-link.result.refusals c.new-link.result.bad_trees c.new-link.result.notes.now.messages.items c.new-link.result.notes.now.fetched.items c.new-link.result.notes.now.handles.items c.new-link.result.notes.now.taken.items) (seen_as g.W.Begun.good c.pump-answer.new.link.lane.now c.pump-answer.new.link.objects.now c.pump-answer.new.link.notes.now.client c.pump-answer.new.link.moment c.pump-answer.new.link.faults c.pump-answer.new.link.refusals c.pump-answer.new.link.bad_trees c.pump-answer.new.link.notes.now.messages.items c.pump-answer.new.link.notes.now.fetched.items c.pump-answer.new.link.notes.now.handles.items c.pump-answer.new.link.notes.now.taken.items) c.pump-answer.result c.pump-answer.ensures.does
