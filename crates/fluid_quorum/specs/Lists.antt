-- What holds of what a quorum keeps.
use Rattle.std.specs.Prelude.{ℕ, ◌<◌, ◌≤◌, List, All}
use Rattle.std.specs.List.{AllPairs}
use Rattle.fluid_table.specs.Keyed.{IsInOrder, table_of}
use Rattle.fluid_types.specs.declared.quorum.Member.{Member}
use Rattle.fluid_types.specs.declared.quorum.Proposal.{Proposal}
use Rattle.fluid_types.specs.declared.quorum.Accepted.{Accepted}
use Rattle.fluid_types.specs.Quorum.{Table}
use Rattle.fluid_quorum.specs.declared.accepting.KeyValue.{KeyValue}

-- the numbers of the proposals strictly rise
abbrev pub AreRising : List Proposal → Type 0
AreRising proposals = AllPairs (λ p q. p.number < q.number) proposals

-- none of them is above this one
abbrev pub AreUpTo : ℕ → List Proposal → Type 0
AreUpTo last proposals = All (λ p. p.number ≤ last) proposals

-- members by their ids
abbrev pub members_of : List Member → Table Member
members_of = table_of (λ m. m.id) (λ m. m)

abbrev pub IsInIdOrder : List Member → Type 0
IsInIdOrder = IsInOrder (λ m. m.id) (λ m. m)

-- values by their keys
abbrev pub values_of : List KeyValue → Table Accepted
values_of = table_of (λ entry. entry.key) (λ entry. entry.accepted)

abbrev pub IsInKeyOrder : List KeyValue → Type 0
IsInKeyOrder = IsInOrder (λ entry. entry.key) (λ entry. entry.accepted)
