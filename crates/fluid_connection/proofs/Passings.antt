-- How what is known of a pass goes on.
use Rattle.std.proofs.Common.{◌∙◌, List, [], ◌++◌, append-nil, append_assoc, refl, sym, ap}
use Rattle.fluid_turn.proofs.Lists.{prefix_refl, prefix_trans}
use Rattle.fluid_lane.specs.declared.steps.Step.{Step}
use Rattle.fluid_talk.specs.Talking.{Knowing, Goes}

pub goes_on : (p m q : Knowing) (one more : List Step) → Goes p m one → Goes m q more → Goes p q (one ++ more)
goes_on p m q one more a b = record {
  same = record { name = b.same.name ∙ a.same.name; limits = b.same.limits ∙ a.same.limits; told = b.same.told ∙ a.same.told; number = b.same.number ∙ a.same.number };
  seen = prefix_trans p.seen m.seen q.seen a.seen b.seen;
  mine = b.mine ∙ ap (λ steps. steps ++ more) a.mine ∙ append_assoc p.mine one more;
}

pub goes_nowhere : (q : Knowing) → Goes q q []
goes_nowhere q = record {
  same = record { name = refl; limits = refl; told = refl; number = refl };
  seen = prefix_refl q.seen;
  mine = sym (append-nil q.mine);
}
