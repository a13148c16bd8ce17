-- Two states of a scribe with the same parts.
use Rattle.std.proofs.Common.{◌≡◌}
use Rattle.fluid_quorum.specs.declared.state.ScribeState.{ScribeState}

pub same_parts : (s t : ScribeState) → s.base ≡ t.base → s.behind ≡ t.behind → s.minima ≡ t.minima → s.pending ≡ t.pending → s.acks ≡ t.acks → s ≡ t
same_parts s t base behind minima pending acks = λ i. record { base = base i; behind = behind i; minima = minima i; pending = pending i; acks = acks i }
