-- How an outbox stands beside the ledger of its document.
use Rattle.std.specs.Prelude.{◌≡◌, ◌⊎◌, ◌≤◌, ℕ, ◌+◌, Bool, true, false, not, ◌&&◌, ◌||◌, List, [], ◌∷◌, ◌++◌, All, drop, count_by, Option, Some, None, is_some, bytes_eq}
use Rattle.fluid_types.specs.Ledger.{Ledger, order, seq}
use Rattle.fluid_types.specs.declared.messages.Message.{Message}
use Rattle.fluid_rules.specs.Rules.{IsLegal, client}
use Rattle.fluid_runtime.specs.App.{is_op}
use Rattle.fluid_loader.specs.Container.{is_from}
use Rattle.fluid_holding.specs.Holding.{is_made_by}
use Rattle.fluid_outbox.specs.Past.{Past, op_of, leaves, sent, was_given, has_left, acknowledged}

-- a message is an op of this client
abbrev pub is_own : List ℕ → Message → Bool
is_own c m = is_from c m.client && is_op m

-- an id and a number are this client's
abbrev pub is_under : List ℕ → Option (List ℕ × ℕ) → Bool
is_under c None = false
is_under c (Some op) = bytes_eq op.0 c

-- the client's op with this number, which stands before its leave
pub record IsNextOp (c : List ℕ) (number : ℕ) (left : Bool) (m : Message) : Type 0 where
  pub op : op_of m ≡ Some (c, number)
  pub own : is_own c m ≡ true
  pub before : left ≡ false
  pub stays : leaves c m ≡ false

-- another message
pub record IsOther (c : List ℕ) (m : Message) : Type 0 where
  pub op : is_under c (op_of m) ≡ false
  pub other : is_own c m ≡ false

-- of these messages the client's ops have the next numbers, one after another, and none stands behind its leave
abbrev pub IsAhead : (c : List ℕ) → (next : ℕ) → (left : Bool) → List Message → Type 0
IsAhead c next left [] = Unit {0}
IsAhead c next left (m ∷ ms) =
    (IsNextOp c next left m × IsAhead c (next + 1) left ms) ⊎ (IsOther c m × IsAhead c next (leaves c m || left) ms)

-- so many of them are its ops
abbrev pub own_in : List ℕ → List Message → ℕ
own_in c ms = count_by (is_own c) ms

abbrev pub left_in : List ℕ → Bool → List Message → Bool
left_in c left [] = left
left_in c left (m ∷ ms) = left_in c (leaves c m || left) ms

-- calls on an outbox, newest first, beside a ledger: so many edits stood when the client joined, and of those that were sent for it so
-- many are acknowledged, in the messages up to this number
pub record IsBeside (l : Ledger) (past : Past) (c : List ℕ) (number before own : ℕ) : Type 0 where
  pub acknowledged_are : acknowledged past ≡ before + own
  -- what was sent for it are the edits from there on, in turn
  pub sent_in_turn : (n e : ℕ) → 1 ≤ n → n ≤ sent past c → e + 1 ≡ before + n → was_given past c n e ≡ true
  -- those that stand ahead were sent, and are the next ones
  pub ahead : IsAhead c (own + 1) (has_left past c) (drop number (order l))
  pub few : own + own_in c (drop number (order l)) ≤ sent past c
  -- it has left where the document has no such client
  pub left : left_in c (has_left past c) (drop number (order l)) ≡ not (is_some (client l c))
  -- nothing is awaited of another client
  pub settled : (id : List ℕ) → bytes_eq id c ≡ false → (sent past id ≡ 0) ⊎ (has_left past id ≡ true)

-- entries that the client didn't make leave it beside the ledger
abbrev pub OthersStayBeside : Type 0
OthersStayBeside =
    (l more : Ledger) (past : Past) (c : List ℕ) (number before own : ℕ) → IsLegal (l ++ more) → number ≤ seq l
    → All (λ entry. is_made_by c entry.0 ≡ false) more → IsBeside l past c number before own → IsBeside (l ++ more) past c number before own
