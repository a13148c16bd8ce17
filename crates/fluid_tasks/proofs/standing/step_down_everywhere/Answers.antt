use Rattle.std.proofs.Common.{rules, ◌≡◌, ◌∷◌, [], sym, subst, string_cmp, bytes_eq}
use Rattle.std.specs.List.Sorted.{IsStrictlySortedBy}
use Rattle.std.specs.Map.{keys_of}
use Rattle.std.proofs.lemmas.Map.Keys.{sorted_tail}
use Rattle.fluid_tasks.specs.Kept.{at, ChangedAt, IsWithoutClient, HasSteppedDown}
use Rattle.fluid_tasks.proofs.Left.{noted_in, step_more, step_end}
use Rattle.fluid_tasks.proofs.standing.step_down_everywhere.Goals as goal

pub loop-name-preserved : goal.loop-name-preserved
loop-name-preserved c =
    let left : c.loop-name.name-iterator ≡ (c.in-Some.name.now, c.in-Some.number.now) ∷ c.next.new.self = search rules in
    let rest = subst (λ es. IsStrictlySortedBy string_cmp (keys_of es)) left c.loop-name.invariant.sorted in
    record {
      can_next = tt;
      is_finite = tt;
      sorted = sorted_tail string_cmp c.in-Some.name.now (keys_of c.next.new.self) rest;
      down = λ u last h.
          c.loop-name.invariant.down u last
          (subst (λ es. HasSteppedDown c.args.client.now (noted_in es u) (at c.loop-name.tasks u) last) (sym left)
          (step_more c.args.client.now (c.in-Some.name.now, c.in-Some.number.now) c.next.new.self rest u (at c.loop-name.tasks u) (at c.step_down_once.new.tasks u) last
          (subst (λ n. ChangedAt (IsWithoutClient c.args.client.now c.in-Some.number.now) (bytes_eq n u) (at c.loop-name.tasks u) (at c.step_down_once.new.tasks u)) c.as_str.ensures.value (c.step_down_once.ensures u)) h));
    }

pub returns : goal.returns
returns c = λ u.
    let none : c.loop-name.name-iterator ≡ [] = search rules in
    c.loop-name.invariant.down u (at c.loop-name.tasks u)
    (subst (λ es. HasSteppedDown c.args.client.now (noted_in es u) (at c.loop-name.tasks u) (at c.loop-name.tasks u)) (sym none) (step_end c.args.client.now (at c.loop-name.tasks u)))
