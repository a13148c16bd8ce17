use Rattle.fluid_core.proofs.Entered.{took, took-none}
use Rattle.fluid_core.proofs.entering.take.Goals as goal

pub returns-in-Some : goal.returns-in-Some
returns-in-Some c = rw c.in-Some.is (took c.args.scribe.now.state c.commit.new.self.state c.in-Some.note c.commit.ensures.after)

pub returns-in_default : goal.returns-in_default
returns-in_default c = rw c.in_default.is (took-none c.args.scribe.now.state)
