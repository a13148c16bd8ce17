-- What holds of the definitions.
use Rattle.std.specs.Prelude.{◌≡◌, ◌≤◌, ℕ, List, [], ◌++◌, Ok, IsSome, IsUtf8}
use Rattle.std.specs.List.{All}
use Rattle.std.specs.FinMap as map
use Rattle.fluid_json.specs.Tree.{IsCanonical, depth}
use Rattle.fluid_map.specs.declared.operation.MapOp.{MapOp}
use Rattle.fluid_map.specs.Replay.{Values, Shared, last_word, value_behind, replay, shown}
use Rattle.fluid_map.specs.Content.{content, answer}

-- each key of a replay has the value that the last operation on it gave it, and else its value from before
abbrev pub IsLastWord : Type 0
IsLastWord = (values : Values) (ops : List MapOp) (key : List ℕ) → map.get (replay values ops) key ≡ value_behind key ops (map.get values key)

-- a replay may stop and go on
abbrev pub IsReplayedOn : Type 0
IsReplayedOn = (values : Values) (earlier later : List MapOp) → replay values (earlier ++ later) ≡ replay (replay values earlier) later

-- where a pending change speaks of a key, what is shown under it is the same whatever is acknowledged
abbrev pub IsMasked : Type 0
IsMasked = (shared : Shared) (key : List ℕ) (other : Values) → IsSome (last_word key shared.pending) → shown (record shared { acknowledged = other }) key ≡ shown shared key

-- what is written of a map is read back, where its values are JSON as they are kept and at most 99 deep
abbrev pub IsReadBack : Type 0
IsReadBack =
    (values : Values) → IsUtf8 (content values) → All IsCanonical (map.values values) → All (λ value. depth value ≤ 99) (map.values values)
    → answer (content values) ≡ Ok (record { acknowledged = values; pending = [] })

-- only what is written of a map is read, and nothing of it is pending
abbrev pub IsOnlyContent : Type 0
IsOnlyContent = (blob : List ℕ) (shared : Shared) → answer blob ≡ Ok shared → (blob ≡ content shared.acknowledged) × (shared.pending ≡ [])
