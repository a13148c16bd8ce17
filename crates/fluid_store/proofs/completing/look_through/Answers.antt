use Rattle.std.proofs.Common.{arith, subst, rules, Ok, Some, None}
use Rattle.fluid_store.specs.Complete.{FindsEntries}
use Rattle.fluid_store.proofs.Looked.{Looked, AddsIds, looked_more, looked_none, looked_bound}
use Rattle.fluid_store.proofs.completing.look_through.Goals as goal

pub returns-in_default-clause-gets : goal.returns-in_default-clause-gets
returns-in_default-clause-gets g c =
    looked_bound c.args.trees c.args.level.keys _ _ (g.O.Objects.seen c.args.objects.now) (g.O.Objects.seen c.loop-id.objects) (g.O.Objects.seen c.entries_at.new.objects) c.into_iter-id-iterator.ensures.into_iter_gives.4
    c.loop-id.invariant.looked c.entries_at.ensures.gets.most

pub returns-in_err-entries-clause-gets : goal.returns-in_err-entries-clause-gets
returns-in_err-entries-clause-gets g c =
    looked_bound c.args.trees c.args.level.keys _ _ (g.O.Objects.seen c.args.objects.now) (g.O.Objects.seen c.loop-id.objects) (g.O.Objects.seen c.entries_at.new.objects) c.into_iter-id-iterator.ensures.into_iter_gives.4
    c.loop-id.invariant.looked c.entries_at.ensures.gets.most

pub returns-in_err-add_ids-clause-gets : goal.returns-in_err-add_ids-clause-gets
returns-in_err-add_ids-clause-gets g c =
    looked_bound c.args.trees c.args.level.keys _ _ (g.O.Objects.seen c.args.objects.now) (g.O.Objects.seen c.loop-id.objects) (g.O.Objects.seen c.entries_at.new.objects) c.into_iter-id-iterator.ensures.into_iter_gives.4
    c.loop-id.invariant.looked c.entries_at.ensures.gets.most

pub returns-clause-gets : goal.returns-clause-gets
returns-clause-gets g c =
    looked_bound c.args.trees c.args.level.keys _ _ (g.O.Objects.seen c.args.objects.now) (g.O.Objects.seen c.loop-id.objects) (g.O.Objects.seen c.loop-id.objects) c.into_iter-id-iterator.ensures.into_iter_gives.4
    c.loop-id.invariant.looked (omega arith)

pub loop-id-preserved : goal.loop-id-preserved
loop-id-preserved g c =
    let old = g.O.Objects.seen c.args.objects.now in
    let mid = g.O.Objects.seen c.loop-id.objects in
    let new = g.O.Objects.seen c.entries_at.new.objects in
    let level = c.args.level.keys in
    let next = c.loop-id.next.keys in
    let entries = c.in-Some-2.entries in
    let looked = subst (λ left. Looked c.args.trees level left next old mid) c.in-Some.ensures.steps c.loop-id.invariant.looked in
    let found : FindsEntries c.args.trees c.in-Some.id mid new (Ok (Some entries)) = rw c.in-Some-2.is at c.in_ok-entries.ensures in
    record {
      can_next = search rules;
      is_finite = search rules;
      looked =
          looked_more c.args.trees level c.next.new.self next old mid new c.in-Some.id looked c.add_ids.new.ids.keys entries found
          (subst (λ es. AddsIds next c.add_ids.new.ids.keys es) c.as_slice.ensures c.in_ok-add_ids.ensures.ids);
    }

pub returns-in_default-clause-says : goal.returns-in_default-clause-says
returns-in_default-clause-says g c =
    let old = g.O.Objects.seen c.args.objects.now in
    let mid = g.O.Objects.seen c.loop-id.objects in
    let new = g.O.Objects.seen c.entries_at.new.objects in
    let level = c.args.level.keys in
    let looked = subst (λ left. Looked c.args.trees level left c.loop-id.next.keys old mid) c.in-Some.ensures.steps c.loop-id.invariant.looked in
    let none : FindsEntries c.args.trees c.in-Some.id mid new (Ok None) = rw c.in_default.is at c.in_ok-entries.ensures in
    looked_none c.args.trees level c.next.new.self c.loop-id.next.keys old mid new c.in-Some.id looked none
