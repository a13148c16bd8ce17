use Rattle.std.proofs.Common.{Err}
use Rattle.fluid_doors.proofs.Tails.{read_caused}
use Rattle.fluid_doors.proofs.looking.messages.Goals as goal

pub returns-in-Err-clause-cause : goal.returns-in-Err-clause-cause
returns-in-Err-clause-cause g c = read_caused (λ v. v.items) c.args.lane.now _ _ _ (Err c.in-Err.fault) c.in-Err.ensures.worn c.in-Err.ensures.ranges
