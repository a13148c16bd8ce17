use Rattle.std.proofs.Common.{refl, arith}
use Rattle.fluid_hosting.proofs.Cycled.{comes_first}
use Rattle.fluid_hosting.proofs.hosted.Hosted.new.Goals as goal

pub invariant_of-result : goal.invariant_of-result
invariant_of-result g c = rw (c.new-talk.ensures, c.new-tally.ensures) (c.requires.key, λ going. (refl, omega arith))

pub returns-clause-begins : goal.returns-clause-begins
returns-clause-begins g c = λ store wire. rw (c.new-talk.ensures, c.new-tally.ensures) (comes_first c.args.key c.args.visit store wire)
