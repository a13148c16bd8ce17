-- What is kept in memory for quorums, for private clauses.
use Rattle.std.specs.Prelude.{◌≡◌, ℕ, nat_le, false, List, [], ◌∷◌, drop, None, option_map, unwrap_or}
use Rattle.std.specs.Option.{option_map_or}
use Rattle.std.specs.List.{last_or}
use Rattle.fluid_types.specs.declared.messages.Message.{Message}
use Rattle.fluid_types.specs.Quorum.{Quorum}
use Rattle.fluid_tree.specs.declared.id.SummaryRef.{SummaryRef}
use Rattle.fluid_quorum.specs.declared.state.ScribeState.{ScribeState}
use Rattle.fluid_scribe.specs.State.{Minima, Brought, reached, brought}
use Rattle.fluid_scribe.specs.declared.tail.Tail.{Tail}
use Rattle.fluid_scribe.specs.declared.tail.Place.{Place}

-- as it is in memory
abbrev pub kept : Tail → Brought
kept t = record { quorum = t.base; behind = t.behind.items; minima = t.minima.items }

-- with the base where it is to be
abbrev pub seen : Tail → Brought
seen t = option_map_or (λ number. brought number t.base t.behind.items t.minima.items) t.due (kept t)

abbrev pub last_minimum : Brought → ℕ
last_minimum b = unwrap_or (option_map (λ change. change.1) (last_or None b.minima)) b.quorum.minimum

-- what a scribe keeps, where this is kept for quorums
abbrev pub state_with : Brought → List Message → List SummaryRef → ScribeState
state_with b pending acks = record { base = b.quorum; behind = b.behind; minima = b.minima; pending = pending; acks = acks }

-- a quorum took in what is kept up to a number
pub record IsBrought (number : ℕ) (behind : List Message) (minima : Minima) (old : Quorum) (from : Place) (new : Quorum) (to : Place) : Type 0 where
  pub is : record { quorum = new; behind = drop to.messages behind; minima = drop to.changes minima } ≡ brought number old (drop from.messages behind) (drop from.changes minima)

-- none of them has a number up to this one at the front
abbrev pub IsPast : ℕ → List Message → Type 0
IsPast number [] = Unit {0}
IsPast number (m ∷ ms) = nat_le m.number number ≡ false

-- a quorum took in the changes of the minimum up to a number, and then more
pub record IsReached (number : ℕ) (minima : Minima) (old : Quorum) (from : ℕ) (more : Quorum → Quorum) (new : Quorum) (to : ℕ) : Type 0 where
  pub quorum : new ≡ more (reached number old (drop from minima)).quorum
  pub left : drop to minima ≡ (reached number old (drop from minima)).minima
