use Rattle.fluid_scribe.proofs.ByRules.{answers-by_rules, job-by_rules}
use Rattle.fluid_scribe.proofs.laws.answers_by_rules.Goals as goal

pub returns-clause-answer : goal.returns-clause-answer
returns-clause-answer c = answers-by_rules

pub returns-clause-job : goal.returns-clause-job
returns-clause-job c = job-by_rules
