-- What holds in every legal ledger's order.
use Rattle.std.specs.Prelude.{◌≡◌, ◌⊎◌, ◌≤◌, ◌==◌, ℕ, true, false, List, take, Some, None, is_some}
use Rattle.std.specs.List.{AllByRecursion, list_any}
use Rattle.std.specs.FinMap.{get}
use Rattle.fluid_json.specs.Tree.{Tree, IsCanonical, depth}
use Rattle.fluid_types.specs.declared.entries.Raw.{Raw}
use Rattle.fluid_types.specs.declared.entries.Raw.TheVariants.{Join, Leave, Submit, Report}
use Rattle.fluid_types.specs.declared.messages.Message.{Message}
use Rattle.fluid_types.specs.declared.verdicts.Verdict.{Verdict}
use Rattle.fluid_types.specs.Names.{IsName}
use Rattle.fluid_types.specs.Ledger.{Ledger, order}
use Rattle.fluid_types.specs.Quorum.{quorum_of}
use Rattle.fluid_rules.specs.Rules.{IsLegal}
use Rattle.fluid_tasks.specs.Past.{past_of, items, free, is_of, holder_of, value, holder}

-- a join whose data are read back: its id is a name, and its detail a value in order, at most 99 deep. Each entry that fits a log is so
pub record IsReadable (id : List ℕ) (detail : Tree) : Type 0 where
  pub name : IsName id
  pub canonical : IsCanonical detail
  pub shallow : depth detail ≤ 99

abbrev pub IsToldSo : Raw × Verdict → Type 0
IsToldSo (Join id scopes detail moment, verdict) = IsReadable id detail
IsToldSo (Leave id moment, verdict) = Unit {0}
IsToldSo (Submit id submission moment, verdict) = Unit {0}
IsToldSo (Report summary found moment, verdict) = Unit {0}

-- the client is a member of the quorum behind these messages
abbrev pub IsMember : List Message → List ℕ → Type 0
IsMember messages client = is_some (get (quorum_of messages).members client) ≡ true

-- an item is free: it stands in the line of its queue, and nobody holds it
pub record IsFree (messages : List Message) (item : ℕ) : Type 0 where
  pub queue : List ℕ
  pub its_queue : is_of (past_of messages) queue item ≡ true
  pub in_line : list_any (λ i. i == item) (free (past_of messages) queue) ≡ true
  pub no_holder : holder_of (past_of messages) item ≡ None
  pub valued : is_some (value (past_of messages) item) ≡ true

-- it is held: one client that is a member holds it, and it stands in no line
pub record IsHeld (messages : List Message) (item : ℕ) : Type 0 where
  pub client : List ℕ
  pub holds : holder_of (past_of messages) item ≡ Some client
  pub member : IsMember messages client
  pub in_no_line : (queue : List ℕ) → list_any (λ i. i == item) (free (past_of messages) queue) ≡ false
  pub valued : is_some (value (past_of messages) item) ≡ true

-- it is gone: nobody holds it, it stands in no line, and has no value
pub record IsGone (messages : List Message) (item : ℕ) : Type 0 where
  pub no_holder : holder_of (past_of messages) item ≡ None
  pub in_no_line : (queue : List ℕ) → list_any (λ i. i == item) (free (past_of messages) queue) ≡ false
  pub no_value : value (past_of messages) item ≡ None

-- each item is one of these three, which exclude one another
abbrev pub IsInOnePlace : List Message → (item : ℕ) → Type 0
IsInOnePlace messages item = IsFree messages item ⊎ (IsHeld messages item ⊎ IsGone messages item)

-- what holds behind these messages
pub record HoldsBehind (messages : List Message) : Type 0 where
  pub items_in_place : (item : ℕ) → list_any (λ i. i == item) (items (past_of messages)) ≡ true → IsInOnePlace messages item
  -- a task has a holder or none, and the holder is a member
  pub holder_is_member : (task client : List ℕ) → holder (past_of messages) task ≡ Some client → IsMember messages client

-- in every legal ledger's order, behind each of its messages
abbrev pub OneHolderAtATime : Type 0
OneHolderAtATime = (l : Ledger) → IsLegal l → AllByRecursion IsToldSo l → (n : ℕ) → HoldsBehind (take n (order l))
