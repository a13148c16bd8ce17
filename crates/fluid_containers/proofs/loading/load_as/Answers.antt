use Rattle.std.proofs.Common.{rules, refl, ap, subst, ◌∙◌}
use Rattle.fluid_loader.specs.Link.{Linked}
use Rattle.fluid_containers.specs.Joining.{joined_to}
use Rattle.fluid_containers.specs.Saying.{IsHeldBy}
use Rattle.fluid_containers.proofs.Bounded.{same_one, left_ends}
use Rattle.fluid_containers.proofs.Ends.{left_well, left_links, left_wants, unlent_links}
use Rattle.fluid_containers.proofs.Loads.{loads_left, fresh_by, held_wants}
use Rattle.fluid_containers.proofs.Stored.{told_good, seen_as}
use Rattle.fluid_containers.proofs.loading.load_as.Goals as goal

pub returns-in_err-own-clause-runs : goal.returns-in_err-own-clause-runs
returns-in_err-own-clause-runs g c = unlent_links c.args.lane.now c.args.objects.now _ (search rules)

pub returns-in_err-name-clause-runs : goal.returns-in_err-name-clause-runs
returns-in_err-name-clause-runs g c = unlent_links c.args.lane.now c.args.objects.now _ (search rules)

pub returns-in-Some-clause-does : goal.returns-in-Some-clause-does
returns-in-Some-clause-does g c = λ good limits w d joined of store.
    left_ends g.W.Begun.good g.W.Begun.began c.args.lane.now _ g.W.Begun.before c.args.objects.now _ c.load-answer.new.link.course.now c.into_stop.result c.load-answer.new.link.bad_trees c.in-Some.fault c.stop_for.result c.requires.lane c.requires.store c.know.ensures.at (search rules) c.know.ensures.along good c.know.ensures.trees (ap (λ (x : Linked). x.bad_trees) c.load-answer.ensures.reads.same ∙ c.new-link.ensures.counts.1.1) c.in-Some.is c.stop_for.ensures limits (joined_to limits w d) of w.store store (seen_as g.W.Begun.good c.new-link.result.lane.now c.new-link.result.objects.now c.new-link.result.notes.now.client c.new-link.result.moment c.new-link.result.faults c.new-link.result.refusals c.new-link.result.bad_trees c.new-link.result.notes.now.messages.items c.new-link.result.notes.now.fetched.items c.new-link.result.notes.now.handles.items c.new-link.result.notes.now.taken.items) (seen_as g.W.Begun.good c.load-answer.new.link.lane.now c.load-answer.new.link.objects.now c.load-answer.new.link.notes.now.client c.load-answer.new.link.moment c.load-answer.new.link.faults c.load-answer.new.link.refusals c.load-answer.new.link.bad_trees c.load-answer.new.link.notes.now.messages.items c.load-answer.new.link.notes.now.fetched.items c.load-answer.new.link.notes.now.handles.items c.load-answer.new.link.notes.now.taken.items)
    (told_good g.W.Begun.good good c.new-link.result.lane.now _ c.new-link.result.objects.now _ c.new-link.ensures.lane.1 c.new-link.ensures.objects.1) c.load-answer.new.link.lane.now c.load-answer.new.link.objects.now refl (search rules) (search rules)
    (same_one (seen_as g.W.Begun.good c.new-link.result.lane.now c.new-link.result.objects.now c.new-link.result.notes.now.client c.new-link.result.moment c.new-link.result.faults c.new-link.result.refusals c.new-link.result.bad_trees c.new-link.result.notes.now.messages.items c.new-link.result.notes.now.fetched.items c.new-link.result.notes.now.handles.items c.new-link.result.notes.now.taken.items) (seen_as g.W.Begun.good c.load-answer.new.link.lane.now c.load-answer.new.link.objects.now c.load-answer.new.link.notes.now.client c.load-answer.new.link.moment c.load-answer.new.link.faults c.load-answer.new.link.refusals c.load-answer.new.link.bad_trees c.load-answer.new.link.notes.now.messages.items c.load-answer.new.link.notes.now.fetched.items c.load-answer.new.link.notes.now.handles.items c.load-answer.new.link.notes.now.taken.items) (ap (λ (x : Linked). x.told) c.load-answer.ensures.reads.same)) c.lane-1.given.0 (search rules)

pub returns-in-Some-clause-runs : goal.returns-in-Some-clause-runs
returns-in-Some-clause-runs g c = left_links g.W.Begun.good g.W.Begun.began c.args.lane.now _ g.W.Begun.before c.args.objects.now _ c.load-answer.new.link.course.now c.into_stop.result c.in-Some.fault c.stop_for.result c.requires.lane c.requires.store (search rules) (search rules) c.know.ensures.along c.in-Some.is c.stop_for.ensures

pub returns-in-None-clause-does : goal.returns-in-None-clause-does
returns-in-None-clause-does g c = λ good limits w d joined of store.
    let before = c.new-link.result in
    let after = c.load-answer.new.link in
    loads_left g.W.Begun.good good limits w d c.args.client joined c.args.lane.now of c.args.objects.now store _ _ (left_well g.W.Begun.good g.W.Begun.began c.args.lane.now _ g.W.Begun.before c.args.objects.now _ c.load-answer.new.link.course.now c.into_stop.result c.requires.lane c.requires.store (search rules) (search rules) c.know.ensures.along good c.in-None.is) c.args.document.now c.args.pick.now c.containers_load.ensures
    (seen_as g.W.Begun.good before.lane.now before.objects.now before.notes.now.client before.moment before.faults before.refusals before.bad_trees before.notes.now.messages.items before.notes.now.fetched.items before.notes.now.handles.items before.notes.now.taken.items)
    (seen_as g.W.Begun.good after.lane.now after.objects.now after.notes.now.client after.moment after.faults after.refusals after.bad_trees after.notes.now.messages.items after.notes.now.fetched.items after.notes.now.handles.items after.notes.now.taken.items)
    (ap (λ n. n.client) c.new-link.ensures.notes.1 ∙ c.new-notes.ensures.client ∙ c.in_ok-own.ensures) (told_good g.W.Begun.good good before.lane.now _ before.objects.now _ c.new-link.ensures.lane.1 c.new-link.ensures.objects.1)
    after.lane.now after.objects.now refl (search rules) (search rules)
    c.load-answer.ensures.reads c.load-answer.result c.held_by.result c.load-answer.ensures.does c.load-answer.ensures.begins
    (subst (λ n. IsHeldBy n c.args.client c.load-answer.result c.held_by.result) c.in_ok-name.ensures c.held_by.ensures)

pub returns-in-None-clause-runs : goal.returns-in-None-clause-runs
returns-in-None-clause-runs g c = left_wants g.W.Begun.good g.W.Begun.began c.args.lane.now _ g.W.Begun.before c.args.objects.now _ c.load-answer.new.link.course.now c.into_stop.result c.held_by.result c.requires.lane c.requires.store (search rules) (search rules) c.know.ensures.along c.in-None.is (held_wants c.in_ok-name.name c.args.client c.load-answer.result c.held_by.result c.held_by.ensures)

pub returns-in-None-clause-fresh : goal.returns-in-None-clause-fresh
returns-in-None-clause-fresh g c = fresh_by c.in_ok-name.name c.args.client c.load-answer.result c.held_by.result c.load-answer.ensures.fresh c.held_by.ensures
