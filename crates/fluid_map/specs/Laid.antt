-- What is kept of pending changes beside the list of them, so that what they say of a key is found by one search.
use Rattle.std.specs.Prelude.{◌≡◌, ℕ, ◌+◌, List, [], ◌∷◌, ◌++◌, length, Option, Some, None, is_some, if◌then◌else◌, option_map}
use Rattle.std.specs.FinMap.{get}
use Rattle.fluid_table.specs.Table as table
use Rattle.fluid_map.specs.declared.operation.MapOp.{MapOp}
use Rattle.fluid_map.specs.declared.operation.MapOp.TheVariants.{Clear}
use Rattle.fluid_map.specs.declared.pending.Latest.{Latest}
use Rattle.fluid_map.specs.Replay.{says, last_word}

-- how many changes speak of the key
abbrev pub changes_of : List ℕ → List MapOp → ℕ
changes_of key [] = 0
changes_of key (op ∷ ops) = (if is_some (says key op) then 1 else 0) + changes_of key ops

-- what the last change of the key says, and how many there are of it; none where there is none
abbrev pub latest_of : List ℕ → List MapOp → Option Latest
latest_of key ops = option_map (λ value. record { value = value; changes = changes_of key ops }) (last_word key ops)

-- the number of changes that is kept of a key
abbrev pub count_of : Option Latest → ℕ
count_of None = 0
count_of (Some latest) = latest.changes

-- where there are changes, the last of them is a clear
abbrev pub EndsInClear : List MapOp → Type 0
EndsInClear [] = Unit {0}
EndsInClear (op ∷ []) = op ≡ Clear
EndsInClear (op ∷ next ∷ ops) = EndsInClear (next ∷ ops)

-- none of the changes is a clear
abbrev pub AreKeyed : List MapOp → Type 0
AreKeyed [] = Unit {0}
AreKeyed (op ∷ ops) = (op ≡ Clear → ⊥) × AreKeyed ops

-- the changes are those up to the last clear, which are counted, and those behind it, of which each key's last is kept
pub record IsLaid (pending : List MapOp) (cleared : ℕ) (latest : table.Values Latest) : Type 0 where
  pub earlier : List MapOp
  pub later : List MapOp
  pub parts : pending ≡ earlier ++ later
  pub counted : cleared ≡ length earlier
  pub clear : EndsInClear earlier
  pub keyed : AreKeyed later
  pub kept : (key : List ℕ) → get latest key ≡ latest_of key later
