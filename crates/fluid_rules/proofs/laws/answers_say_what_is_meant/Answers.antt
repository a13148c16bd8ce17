use Rattle.fluid_rules.proofs.Summaries.{says_what_is_meant}
use Rattle.fluid_rules.proofs.laws.answers_say_what_is_meant.Goals as goal

pub returns : goal.returns
returns c = λ summary. says_what_is_meant c.ids_are_read_back.ensures summary
