-- Runs: calls on an outbox beside a legal ledger, and what holds of every run.
use Rattle.std.specs.Prelude.{◌≡◌, ◌≤◌, ◌⊎◌, ℕ, ◌+◌, true, false, List, [], ◌∷◌, ◌++◌, length, find, get_or, Option, Some, None, option_map, filter_map}
use Rattle.std.specs.List.{list_any, range_with_len, AllByRecursion}
use Rattle.fluid_json.specs.Tree.{null}
use Rattle.fluid_types.specs.declared.entries.Raw.TheVariants.{Join, Leave, Submit, Report}
use Rattle.fluid_types.specs.declared.entries.Submission.{Submission}
use Rattle.fluid_types.specs.declared.messages.Message.{Message}
use Rattle.fluid_types.specs.Ledger.{Ledger, order}
use Rattle.fluid_rules.specs.Past.{Entry, joins, has_id}
use Rattle.fluid_rules.specs.Rules.{IsLegal}
use Rattle.fluid_outbox.specs.Past.{Given, Call, Pushed, Joined, Gave, Heard, Lost, Past, edits, ids, messages, heard_to, current, given, is_sent, leaves, op_of, next, acknowledged}
use Rattle.fluid_outbox.specs.Kept.{past_of}

-- ---- the calls

-- each call was made as it may be: an id is joined where none is current, and only once; a message has the next number; and `next` gave
-- what it gives
abbrev pub AreMade : Past → Type 0
AreMade [] = Unit {0}
AreMade (Pushed contents ∷ past) = AreMade past
AreMade (Joined id ∷ past) = (current past ≡ None) × ((has_id id (ids past) ≡ false) × AreMade past)
AreMade (Gave edit ∷ past) = ((reference : ℕ) × (next past reference ≡ Some edit)) × AreMade past
AreMade (Heard message ∷ past) = (message.number ≡ heard_to past + 1) × AreMade past
AreMade (Lost ∷ past) = AreMade past

-- ---- the ledger beside them

-- one of these has the property
abbrev pub SomeOf : {X : Type 0} → (X → Type 0) → List X → Type 0
SomeOf P [] = ⊥
SomeOf P (x ∷ xs) = P x ⊎ SomeOf P xs

-- `next` gave this submission for this id
pub record IsGiven (id : List ℕ) (submission : Submission) (given : Given) : Type 0 where
  pub id_is : given.id ≡ id
  pub submission_is : given.submission ≡ submission

-- a submission under an id of the outbox's is one that `next` gave for that id
abbrev pub IsOwn : Past → Entry → Type 0
IsOwn past (Join id scopes detail moment, verdict) = Unit {0}
IsOwn past (Leave id moment, verdict) = Unit {0}
IsOwn past (Submit id submission moment, verdict) = has_id id (ids past) ≡ true → SomeOf (IsGiven id submission) (given past)
IsOwn past (Report summary found moment, verdict) = Unit {0}

-- a message under one of these ids, or a leave of one, was heard where that could be: an op behind the `next` that gave it, a leave
-- behind the joining of its id
pub record IsBehind (all : List (List ℕ)) (past : Past) (message : Message) : Type 0 where
  pub op : (id : List ℕ) (number : ℕ) → op_of message ≡ Some (id, number) → has_id id all ≡ true → list_any (is_sent id number) (given past) ≡ true
  pub leave : (id : List ℕ) → leaves id message ≡ true → has_id id all ≡ true → has_id id (ids past) ≡ true

abbrev pub AreBehind : List (List ℕ) → Past → Type 0
AreBehind all [] = Unit {0}
AreBehind all (Pushed contents ∷ past) = AreBehind all past
AreBehind all (Joined id ∷ past) = AreBehind all past
AreBehind all (Gave edit ∷ past) = AreBehind all past
AreBehind all (Heard message ∷ past) = IsBehind all past message × AreBehind all past
AreBehind all (Lost ∷ past) = AreBehind all past

-- a run: calls on an outbox, oldest first, beside a legal ledger
pub record IsRun (calls : List Call) (l : Ledger) : Type 0 where
  pub made : AreMade (past_of calls)
  pub legal : IsLegal l
  -- the submissions under its ids are ones that `next` gave for them, each any number of times or never, in any order
  pub own : AllByRecursion (IsOwn (past_of calls)) l
  -- each of its ids is joined once
  pub once : (id : List ℕ) → has_id id (ids (past_of calls)) ≡ true → length (filter_map (joins id) l) ≤ 1
  -- it heard the first messages of the order, one after another
  pub rest : List Message
  pub heard : order l ≡ messages (past_of calls) ++ rest
  pub behind : AreBehind (ids (past_of calls)) (past_of calls)

-- ---- what holds of a run

-- the edit that a message brings, where it is the op of one that was sent
abbrev pub edit_under : List Given → Option (List ℕ × ℕ) → Option ℕ
edit_under given None = None
edit_under given (Some (id, number)) = option_map (λ (edit : Given). edit.edit) (find (is_sent id number) given)

abbrev pub edit_of : Past → Message → Option ℕ
edit_of past message = edit_under (given past) (op_of message)

-- the edits that stand in some messages, by their numbers, in the order of the messages
abbrev pub standing : Past → List Message → List ℕ
standing past messages = filter_map (edit_of past) messages

-- a message that brings an edit has the contents that were pushed as this one
abbrev pub HasContents : Past → Message → Type 0
HasContents past message = (edit : ℕ) → edit_of past message ≡ Some edit → message.contents ≡ get_or (edits past) edit null

-- the numbers below this one, in order, each once
abbrev pub first : ℕ → List ℕ
first n = range_with_len 0 n

-- so many edits were acknowledged, and so many stand in the order
pub record IsExactlyOnce (past : Past) (order : List Message) (counted : ℕ) : Type 0 where
  pub standing_edits : ℕ
  -- the edits that stand in the order are the first ones, in the order of their numbers, each once: no edit stands twice
  pub once_in_order : standing past order ≡ first standing_edits
  pub with_contents : AllByRecursion (HasContents past) order
  -- those that are counted acknowledged stand, and are the first ones: those that stand in what was heard
  pub acknowledged_stand : standing past (messages past) ≡ first counted
  pub counted_among : counted ≤ standing_edits
  pub are_edits : standing_edits ≤ length (edits past)

abbrev pub EachOnce : Type 0
EachOnce = (calls : List Call) (l : Ledger) → IsRun calls l → IsExactlyOnce (past_of calls) (order l) (acknowledged (past_of calls))
