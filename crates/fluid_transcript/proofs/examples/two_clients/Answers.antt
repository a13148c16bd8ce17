use Rattle.fluid_transcript.proofs.Computed.{two_clients}
use Rattle.fluid_transcript.proofs.examples.two_clients.Goals as goal

pub returns : goal.returns
returns c = two_clients
