use Rattle.fluid_deltas.proofs.Slices.{told_slice}
use Rattle.fluid_deltas.proofs.deltas.Deltas.range.Goals as goal

pub returns-clause-reads : goal.returns-clause-reads
returns-clause-reads g c = record {
  keeps = c.collect.ensures.keeps;
  later = c.collect.ensures.later;
  reads = c.collect.ensures.reads;
  cause = c.collect.ensures.cause;
  bad = c.collect.ensures.bad;
  numbers = c.collect.ensures.numbers;
}

pub returns-clause-slice : goal.returns-clause-slice
returns-clause-slice g c = λ order. told_slice (λ v. v.items) _ c.args.self.now order _ _ _ c.requires.first c.requires.ordered c.requires.last c.collect.ensures.answer
