use Rattle.fluidd.proofs.Grown.{takes}
use Rattle.fluidd.proofs.document.DocumentTaker.take.Goals as goal

pub returns-clause-takes : goal.returns-clause-takes
returns-clause-takes c = λ m before stands. takes m before _ _ _ _ _ _ c.enter_text.ensures.enters stands
