use Rattle.fluid_core.proofs.Entered.{after-next}
use Rattle.fluidd.proofs.document.take_in.Goals as goal

pub returns : goal.returns
returns c = record {
  stands = λ raw l is stands. let s = c.commit.ensures.stands l raw is stands in rw s.0 at s.1;
  one_more = rw (c.commit.ensures.after c.requires.raw c.requires.is) (after-next _ _ _);
}
