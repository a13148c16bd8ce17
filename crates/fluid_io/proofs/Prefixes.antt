-- Bytes that a read takes from the front of those that are left.
use Rattle.std.proofs.Common.{◌≡◌, ℕ, List, ◌++◌, ◌+◌, ◌≤◌, take, drop, length, sym, ap, ◌∙◌}
use Rattle.std.proofs.lemmas.List.{take-append-drop, take_at, drop-drop, length-take-le}

-- what was copied to the front of a buffer, and its parts
pub record IsCopied (bytes copy : List ℕ) (start count : ℕ) : Type 0 where
  pub few : count ≤ length (drop start bytes)
  pub copied : copy ≡ take count (drop start bytes)

-- a copy has its length
pub copied_length : (bytes copy : List ℕ) (start count : ℕ) → IsCopied bytes copy start count → length copy ≡ count
copied_length bytes copy start count h = ap length h.copied ∙ length-take-le count (drop start bytes) h.few

-- the bytes that were copied to the front of the buffer and those behind them are the bytes that were left
pub prefix_and_rest : (bytes copy tail : List ℕ) (start count : ℕ) → IsCopied bytes copy start count
    → drop start bytes ≡ take count (copy ++ tail) ++ drop (start + count) bytes
prefix_and_rest bytes copy tail start count h =
    rw (take_at copy tail count (copied_length bytes copy start count h), ← drop-drop count start bytes, h.copied)
    (sym (take-append-drop count (drop start bytes)))
