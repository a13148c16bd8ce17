-- A lane that goes on once more has gone on.
use Rattle.std.proofs.Common.{◌≡◌, arith, List, ◌++◌, length, Option, Some, None, refl, sym, ap, subst, ◌∙◌, append_assoc, length-append}
use Rattle.std.specs.Option.{option_or}
use Rattle.fluid_lane.specs.declared.steps.Side.{Side}
use Rattle.fluid_lane.specs.declared.steps.Step.{Step}
use Rattle.fluid_lane.specs.Steps.{ledger, last_side, stored}
use Rattle.fluid_lane.specs.Standing.{Standing, LaneStands, Goes}
use Rattle.fluid_lane.proofs.Listed.{ledger-append, stored-append, asides-append, last-append}
use Rattle.fluid_door_link.specs.Coursing.{HasGone}

or_assoc : (a b c : Option Side) → option_or (option_or a b) c ≡ option_or a (option_or b c)
or_assoc None b c = refl
or_assoc (Some side) b c = refl

pub goes_then : (s t u : Standing) (one more : List Step) → Goes s t one → Goes t u more → Goes s u (one ++ more)
goes_then s t u one more a b = record {
  limits = b.limits ∙ a.limits;
  opened = b.opened ∙ a.opened;
  told = b.told ∙ a.told;
  later = omega (arith, a.later, b.later);
  entered = omega (arith, a.entered, b.entered, ap length (ledger-append one more), length-append (ledger one) (ledger more));
  sides = omega (arith, a.sides, b.sides, asides-append one more);
  last =
      b.last ∙ ap (option_or (last_side more)) a.last ∙ sym (or_assoc (last_side more) (last_side one) s.last)
      ∙ sym (ap (λ o. option_or o s.last) (last-append one more));
  list = λ l stands. subst (LaneStands u) (append_assoc l one more) (b.list (l ++ one) (a.list l stands));
}

pub gone_on : (began s t : Standing) (more : List Step) → HasGone began s → Goes s t more → stored more ≡ 0 → HasGone began t
gone_on began s t more gone goes none = record {
  added = gone.added ++ more;
  goes = goes_then began s t gone.added more gone.goes goes;
  unstored = omega (arith, stored-append gone.added more, gone.unstored, none);
}
