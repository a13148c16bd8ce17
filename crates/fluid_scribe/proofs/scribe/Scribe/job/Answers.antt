use Rattle.std.proofs.Common.{◌≡◌, ◌∙◌, ap, subst, rules}
use Rattle.std.specs.Prelude.{IfOk}
use Rattle.fluid_scribe.specs.Jobs.{job_in}
use Rattle.fluid_scribe.proofs.ByRules.{job-by_rules}
use Rattle.fluid_scribe.proofs.scribe.Scribe.job.Goals as goal

pub returns-clause-job : goal.returns-clause-job
returns-clause-job c = search rules

pub returns-clause-stands : goal.returns-clause-stands
returns-clause-stands c = λ ledger legal stands.
    subst (λ wanted. IfOk c.job_now.result (λ given. given ≡ wanted)) (ap job_in stands.is ∙ job-by_rules ledger legal) (returns-clause-job c)
