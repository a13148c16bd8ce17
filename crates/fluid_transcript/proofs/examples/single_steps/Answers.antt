use Rattle.fluid_transcript.proofs.ScriptComputed.{closes, load_names, again, pumps, stores}
use Rattle.fluid_transcript.proofs.examples.single_steps.Goals as goal

pub returns : goal.returns
returns c = record { closes = closes; load_names = load_names; again = again; pumps = pumps; stores = stores }
