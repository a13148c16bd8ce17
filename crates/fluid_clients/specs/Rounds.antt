-- A tournament over slots, for private clauses: the winners of single slots, of pairs of slots, of pairs of these, and so on.
use Rattle.std.specs.Prelude.{◌≡◌, ◌≢◌, ℕ, zero, suc, ◌+◌, ◌-◌, ◌<◌, ◌≤◌, ◌⊎◌, List, [], ◌∷◌, ◌++◌, length, Option, None, Some, slice_index_or, slice_set}
use Rattle.fluid_clients.specs.Index.{Holds}

-- ---- the nodes of the rounds

-- how many slots are below a node of a round
abbrev pub width : ℕ → ℕ
width zero = 1
width (suc round) = width round + width round

-- the first slot below a node
abbrev pub first : ℕ → ℕ → ℕ
first round zero = 0
first round (suc node) = width round + first round node

-- the two nodes of a match
abbrev pub IsNeighbour : ℕ → ℕ → Type 0
IsNeighbour node other = ((half : ℕ) × (node ≡ half + half) × (other ≡ suc node)) ⊎ ((half : ℕ) × (node ≡ suc (half + half)) × (suc other ≡ node))

-- the winners of a round; and of a node, if it is there
abbrev pub round_of : List (List (Option ℕ)) → ℕ → List (Option ℕ)
round_of rounds k = slice_index_or rounds k []

abbrev pub winner_of : List (List (Option ℕ)) → ℕ → ℕ → Option ℕ
winner_of rounds k node = slice_index_or (round_of rounds k) node None

-- a round has one node more where that is its next one
abbrev pub IsWidened : ℕ → List (Option ℕ) → List (Option ℕ) → Type 0
IsWidened node old new = ((node ≡ length old) × (new ≡ old ++ None ∷ [])) ⊎ ((node ≢ length old) × (new ≡ old))

-- the winner of the last match
abbrev pub root_of : List (List (Option ℕ)) → Option ℕ
root_of rounds = winner_of rounds (length rounds - 1) 0

-- the last round has one node
abbrev pub IsHigh : List (List (Option ℕ)) → Type 0
IsHigh rounds = (0 < length rounds) × (length (round_of rounds (length rounds - 1)) < 2)

-- each round is over all of so many slots, and not over many more; the last one has them below its first node; and there are
-- as many rounds as they need
pub record IsShaped (n : ℕ) (rounds : List (List (Option ℕ))) : Type 0 where
  pub covers : (k : ℕ) → k < length rounds → n ≤ first k (length (round_of rounds k))
  pub few : (k : ℕ) → k < length rounds → first k (length (round_of rounds k)) ≤ n + width k
  pub some : 0 < n → 0 < length rounds
  pub high : (k : ℕ) → suc k ≡ length rounds → n ≤ width k
  pub low : (k : ℕ) → suc (suc k) ≡ length rounds → width (suc k) ≤ n + n

-- each round is over one slot more
abbrev pub HasRoom : ℕ → List (List (Option ℕ)) → Type 0
HasRoom n rounds = (k : ℕ) → k < length rounds → suc n ≤ first k (length (round_of rounds k))

-- the slot is not below the node
abbrev pub IsElsewhere : ℕ → ℕ → ℕ → Type 0
IsElsewhere slot k node = (slot < first k node) ⊎ (first k (suc node) ≤ slot)

-- ---- who wins

module _ {X : Type 0} where
  -- a slot that holds a value, if any slot
  abbrev pub IsHeld : List (Option X) → Option ℕ → Type 0
  IsHeld slots None = Unit {0}
  IsHeld slots (Some slot) = (value : X) × Holds slots slot value

  -- what the slot holds
  abbrev pub held_by : List (Option X) → Option ℕ → Option X
  held_by slots None = None
  held_by slots (Some slot) = slice_index_or slots slot None

  module _ (number : X → ℕ) where
    -- the one slot's value is not above the other's
    abbrev pub IsAtMost : List (Option X) → ℕ → ℕ → Type 0
    IsAtMost slots one other = (value held : X) → Holds slots one value → Holds slots other held → number value ≤ number held

    -- of two slots, each of which may be missing, the one with the lesser value
    abbrev pub IsPick : List (Option X) → Option ℕ → Option ℕ → Option ℕ → Type 0
    IsPick slots None other winner = winner ≡ other
    IsPick slots (Some one) None winner = winner ≡ Some one
    IsPick slots (Some one) (Some other) winner = ((winner ≡ Some one) × IsAtMost slots one other) ⊎ ((winner ≡ Some other) × IsAtMost slots other one)

    -- a slot from one place to another with the least value there
    pub record IsWinner (slots : List (Option X)) (from to winner : ℕ) : Type 0 where
      pub low : from ≤ winner
      pub high : winner < to
      pub value : X
      pub holds : Holds slots winner value
      pub least : (slot : ℕ) (held : X) → from ≤ slot → slot < to → Holds slots slot held → number value ≤ number held

    -- the same of a slot that there may be
    abbrev pub IsBest : List (Option X) → ℕ → ℕ → Option ℕ → Type 0
    IsBest slots from to None = (slot : ℕ) → from ≤ slot → slot < to → slice_index_or slots slot None ≡ None
    IsBest slots from to (Some winner) = IsWinner slots from to winner

    -- the best without a slot
    abbrev pub IsBestWithout : List (Option X) → ℕ → Option ℕ → Type 0
    IsBestWithout slots slot winner = IsBest (slice_set slots slot None) 0 (length slots) winner

    -- each node has the best of the slots below it
    pub record IsTournament (slots : List (Option X)) (rounds : List (List (Option ℕ))) : Type 0 where
      pub shape : IsShaped (length slots) rounds
      pub best : (k node : ℕ) → k < length rounds → node < length (round_of rounds k) → IsBest slots (first k node) (first k (suc node)) (winner_of rounds k node)

    -- the same, but for the nodes from a round on that the slot is below
    pub record IsTournamentBut (slots : List (Option X)) (rounds : List (List (Option ℕ))) (slot from : ℕ) : Type 0 where
      pub shape : IsShaped (length slots) rounds
      pub best : (k node : ℕ) → k < length rounds → node < length (round_of rounds k) → (k < from) ⊎ IsElsewhere slot k node →
          IsBest slots (first k node) (first k (suc node)) (winner_of rounds k node)
