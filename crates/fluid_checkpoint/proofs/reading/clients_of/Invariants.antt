use Rattle.std.proofs.Common.{◌≡◌, drop}
use Rattle.std.specs.FinMap.{from_entries}
use Rattle.fluid_checkpoint.specs.Heard.{with_moments}
use Rattle.fluid_checkpoint.proofs.reading.clients_of.Given as goal

-- the moments not yet written down make the same of it
abbrev pub invariant-loop-id : goal.invariant-loop-id
invariant-loop-id l = with_moments l.clients.rows (drop l.id-index l.heard) ≡ with_moments (from_entries l.fn.rows) l.heard
