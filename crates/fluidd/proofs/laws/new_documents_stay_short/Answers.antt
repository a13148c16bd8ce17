use Rattle.fluidd.proofs.Unworn.{never_long}
use Rattle.fluidd.proofs.laws.new_documents_stay_short.Goals as goal

pub returns : goal.returns
returns c = λ load input h. never_long load input h
