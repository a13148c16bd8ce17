use Rattle.std.proofs.Common.{◌∙◌, rules}
use Rattle.fluid_core.specs.Entering.{job_of}
use Rattle.fluid_core.proofs.Jobs.{stands-job}
use Rattle.fluid_core.proofs.entering.Core.job.Goals as goal

pub returns-clause-job : goal.returns-clause-job
unfolding job_of
returns-clause-job c = search rules

pub returns-clause-stands : goal.returns-clause-stands
returns-clause-stands c = λ ledger stands. returns-clause-job c ∙ stands-job _ ledger stands
