use Rattle.std.proofs.Common.{ap, ◌∙◌, arith}
use Rattle.fluid_loader.proofs.Behind.{none_yet}
use Rattle.fluid_loader.proofs.container.Container.empty.Goals as goal

pub invariant_of-result : goal.invariant_of-result
invariant_of-result c = record {
  owed_next = tt;
  abreast = ap (λ q. q.number) c.new-2.ensures.quorum ∙ none_yet;
  roomy = omega (arith, ap (λ a. a.room) c.new.ensures.fresh);
  number_fits = omega arith;
  last_fits = omega arith;
}
