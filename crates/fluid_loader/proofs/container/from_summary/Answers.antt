use Rattle.std.proofs.Common.{ap, arith}
use Rattle.fluid_loader.proofs.container.from_summary.Goals as goal

pub invariant_of-result : goal.invariant_of-result
invariant_of-result g c = record {
  owed_next = tt;
  abreast = c.in_ok-app.ensures.fresh.1;
  roomy = omega (arith, ap (λ a. a.room) c.mark.ensures, ap (λ a. a.room) c.in_ok-app.ensures.fresh.0);
  number_fits = c.requires;
  last_fits = omega arith;
}
