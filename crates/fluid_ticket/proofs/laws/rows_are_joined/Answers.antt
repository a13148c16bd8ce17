use Rattle.fluid_ticket.proofs.JoinedRows.{rows-joined}
use Rattle.fluid_ticket.proofs.laws.rows_are_joined.Goals as goal

pub returns : goal.returns
returns c = rows-joined
