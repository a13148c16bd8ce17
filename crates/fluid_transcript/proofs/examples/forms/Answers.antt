use Rattle.fluid_transcript.proofs.LinesComputed.{forms}
use Rattle.fluid_transcript.proofs.examples.forms.Goals as goal

pub returns : goal.returns
returns c = forms
