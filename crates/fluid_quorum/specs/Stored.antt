-- What is kept in the texts of a quorum and read back from them: names, numbers of the first messages, and values that
-- aren't too deep. Contracts see a text as a list of numbers, so that the texts are UTF-8 has to be said.
use Rattle.std.specs.Prelude.{ℕ, ◌≤◌, List, [], ◌∷◌, map, IsTrue}
use Rattle.std.specs.Ordering.{nat_cmp}
use Rattle.std.specs.FinMap.{is_sorted}
use Rattle.fluid_json.specs.Tree.{Tree, IsCanonical, depth}
use Rattle.fluid_types.specs.Forms.{largest}
use Rattle.fluid_types.specs.Names.{IsName}
use Rattle.fluid_types.specs.declared.quorum.Member.{Member}
use Rattle.fluid_types.specs.declared.quorum.Proposal.{Proposal}
use Rattle.fluid_types.specs.Quorum.{Quorum}
use Rattle.fluid_quorum.specs.declared.accepting.KeyValue.{KeyValue}
use Rattle.fluid_quorum.specs.Reading.{greatest_minimum}
use Rattle.fluid_quorum.specs.Node.{AreTexts}
use Rattle.fluid_quorum.specs.Lists.{members_of, values_of, IsInIdOrder, IsInKeyOrder}

-- the number of one of the first messages
pub record IsNumber (last n : ℕ) : Type 0 where
  pub least : 1 ≤ n
  pub most : n ≤ last

-- a value that may stand in a blob: lists and objects stand at most 120 deep there
pub record IsStoredValue (value : Tree) : Type 0 where
  pub canonical : IsCanonical value
  pub shallow : depth value ≤ 118

abbrev pub MembersKept : ℕ → List Member → Type 0
MembersKept last [] = Unit {0}
MembersKept last (m ∷ ms) = (IsName m.id × (IsNumber last m.number × IsStoredValue m.detail)) × MembersKept last ms

abbrev pub ProposalsKept : ℕ → List Proposal → Type 0
ProposalsKept last [] = Unit {0}
ProposalsKept last (p ∷ ps) = (IsNumber last p.number × IsStoredValue p.value) × ProposalsKept last ps

abbrev pub ValuesKept : ℕ → List KeyValue → Type 0
ValuesKept last [] = Unit {0}
ValuesKept last (v ∷ vs) = (IsNumber last v.accepted.approval × (IsNumber last v.accepted.number × IsStoredValue v.accepted.value)) × ValuesKept last vs

-- the quorum of these parts
abbrev pub of_parts : ℕ → ℕ → List Member → List Proposal → List KeyValue → Quorum
of_parts minimum last ms ps vs = record { number = last; minimum = minimum; members = members_of ms; pending = ps; values = values_of vs }

pub record IsStored (minimum last : ℕ) (ms : List Member) (ps : List Proposal) (vs : List KeyValue) : Type 0 where
  pub minimum_fits : minimum ≤ greatest_minimum last
  pub number_fits : last ≤ largest
  pub members : MembersKept last ms
  pub proposals : ProposalsKept last ps
  pub values : ValuesKept last vs
  pub ids : IsInIdOrder ms
  pub numbers : IsTrue (is_sorted nat_cmp (map (λ p. (p.number, p)) ps))
  pub keys : IsInKeyOrder vs
  pub utf8 : AreTexts (of_parts minimum last ms ps vs)
