-- What an outbox keeps, and which calls it stands for.
use Rattle.std.specs.Prelude.{◌≡◌, ℕ, ◌+◌, ◌-◌, ◌^◌, ◌<◌, ◌≤◌, nat_lt, nat_le, ◌==◌, Bool, false, not, ◌&&◌, ◌||◌, if◌then◌else◌, List, [], ◌∷◌, ◌++◌, length, drop, get_or, reverse, Option, Some, None, is_some, IfSome, option_map, bytes_eq, refl}
use Rattle.std.specs.Coded.{Coded, code_by, coded×, coded_ℕ, coded_list, coded_option}
use Rattle.fluid_json.specs.Tree.{Tree, null, text}
use Rattle.fluid_json.specs.Printed.{printed}
use Rattle.fluid_json.specs.Code.{tree_code}
use Rattle.fluid_types.specs.Quorum.{of_leave}
use Rattle.fluid_types.specs.declared.entries.Submission.{Submission}
use Rattle.fluid_types.specs.declared.messages.Message.{Message}
use Rattle.fluid_rules.specs.Past.{has_id}
use Rattle.fluid_outbox.specs.declared.line.Line.{Line}
use Rattle.fluid_outbox.specs.contracts.line.Line as line
use Rattle.fluid_outbox.specs.Past.{Call, Past, edits, ids, current, heard_to, sent, has_left, was_given, is_awaited, acknowledged, is_text, op_of, op_with}

pub record AnOutbox : Type 0 where
  -- the contents of the edits that aren't acknowledged, in the order of their numbers
  pub pending : List Tree
  pub acknowledged : ℕ
  -- what was sent under the current id
  pub current : Option Line
  -- what was sent under the ended id whose leave is awaited; while there is one, nothing is sent under the current one
  pub awaited : Option Line
  pub heard_to : ℕ

-- as a tuple of its parts
abbrev pub outbox_code : Coded AnOutbox
outbox_code =
    code_by (List Tree × (ℕ × (Option Line × (Option Line × ℕ))))
    (coded× (coded_list tree_code) (coded× coded_ℕ (coded× (coded_option line.the_row.coded) (coded× (coded_option line.the_row.coded) coded_ℕ))))
    (λ o. (o.pending, (o.acknowledged, (o.current, (o.awaited, o.heard_to)))))
    (λ parts. record { pending = parts.0; acknowledged = parts.1.0; current = parts.1.1.0; awaited = parts.1.1.1.0; heard_to = parts.1.1.1.1 })
    (λ _. refl)

-- ---- bounds

-- how many edits are on their way under an id
abbrev pub out : Option Line → ℕ
out None = 0
out (Some line) = line.sent - line.acknowledged

pub record IsWithin (acknowledged : ℕ) (line : Line) : Type 0 where
  pub ordered : line.acknowledged ≤ line.sent
  pub counted : line.acknowledged ≤ acknowledged

-- no number leaves 64 bits, and what is on its way isn't acknowledged
pub record IsSound (pending : List Tree) (acknowledged : ℕ) (current awaited : Option Line) : Type 0 where
  pub fits : acknowledged + length pending < 2 ^ 64
  pub on_their_way : out current + out awaited ≤ length pending
  pub current_within : IfSome current (IsWithin acknowledged)
  pub awaited_within : IfSome awaited (IsWithin acknowledged)

-- ---- what it stands for

-- of so many edits that were sent one after another, with the client numbers 1, 2, 3 and so on, this one has this number, where the first
-- of them that isn't acknowledged is the first of all that isn't
abbrev pub is_in_turn : (first acknowledged sent : ℕ) → (number edit : ℕ) → Bool
is_in_turn first acknowledged sent number edit =
    nat_le 1 number && (nat_le number sent && (edit + acknowledged + 1 == first + number))

-- what is kept of an id is what the calls say of it
pub record IsLine (past : Past) (line : Line) : Type 0 where
  pub sent : line.sent ≡ sent past line.id
  pub left : line.left ≡ has_left past line.id
  pub given : (number edit : ℕ) → was_given past line.id number edit ≡ is_in_turn (acknowledged past) line.acknowledged line.sent number edit
  pub ordered : line.acknowledged ≤ line.sent
  pub within : acknowledged past + line.sent ≤ length (edits past) + line.acknowledged

-- the id of what is kept of one
abbrev pub id_of : Option Line → Option (List ℕ)
id_of kept = option_map (λ (line : Line). line.id) kept

-- where something is kept of both, nothing was sent under the first
abbrev pub IsAlone : (current awaited : Option Line) → Type 0
IsAlone None awaited = Unit {0}
IsAlone (Some line) None = Unit {0}
IsAlone (Some line) (Some awaited) = line.sent ≡ 0

pub record Stands (o : AnOutbox) (past : Past) : Type 0 where
  pub pending : o.pending ≡ drop (acknowledged past) (edits past)
  pub counted : o.acknowledged ≡ acknowledged past
  pub few : acknowledged past ≤ length (edits past)
  pub heard : o.heard_to ≡ heard_to past
  pub own : id_of o.current ≡ current past
  pub current_line : IfSome o.current (IsLine past)
  pub awaited_line : IfSome o.awaited (IsLine past)
  pub awaited : (id : List ℕ) → is_awaited past id ≡ is_text (id_of o.awaited) id
  pub alone : IsAlone o.current o.awaited
  pub strangers : (id : List ℕ) → has_id id (ids past) ≡ false → sent past id ≡ 0

-- a list of calls, oldest first, from the last back to the first
abbrev pub past_of : List Call → Past
past_of calls = reverse calls

-- an outbox on which these calls were made, oldest first
abbrev pub StandsFor : AnOutbox → List Call → Type 0
StandsFor o calls = Stands o (past_of calls)

-- ---- one call more, in terms of what is kept

abbrev pub empty : AnOutbox
empty = record { pending = []; acknowledged = 0; current = None; awaited = None; heard_to = 0 }

abbrev pub with_edit : AnOutbox → Tree → AnOutbox
with_edit o contents = record o { pending = o.pending ++ contents ∷ [] }

-- what is kept of an id at first
abbrev pub begun : List ℕ → Line
begun id = record { id = id; sent = 0; acknowledged = 0; left = false }

abbrev pub with_id : AnOutbox → List ℕ → AnOutbox
with_id o id = record o { current = Some (begun id) }

abbrev pub sent_one : Line → Line
sent_one line = record line { sent = line.sent + 1 }

abbrev pub with_sent : AnOutbox → AnOutbox
with_sent o = record o { current = option_map sent_one o.current }

-- what is sent next
abbrev pub to_send_under : AnOutbox → (reference : ℕ) → Option Line → Option Submission
to_send_under o reference None = None
to_send_under o reference (Some line) =
    if nat_lt (line.sent - line.acknowledged) (length o.pending)
    then Some (op_with (line.sent + 1) reference (get_or o.pending (line.sent - line.acknowledged) null))
    else None

abbrev pub to_send : AnOutbox → (reference : ℕ) → Option Submission
to_send o reference = if is_some o.awaited then None else to_send_under o reference o.current

-- an ended id is awaited where an edit was sent under it and its leave wasn't heard
abbrev pub ended : Line → Option Line → Option Line
ended line awaited = if nat_lt 0 line.sent && not line.left then Some line else awaited

abbrev pub without_id : AnOutbox → Option Line → AnOutbox
without_id o None = o
without_id o (Some line) = record o { current = None; awaited = ended line o.awaited }

abbrev pub after_lost : AnOutbox → AnOutbox
after_lost o = without_id o o.current

-- an op is that of the first edit on its way under this id
abbrev pub takes : List ℕ × ℕ → Line → Bool
takes op line =
    bytes_eq line.id op.0 && (not line.left && (nat_lt line.acknowledged line.sent && (op.1 == line.acknowledged + 1)))

abbrev pub any_takes : List ℕ × ℕ → Option Line → Bool
any_takes op None = false
any_takes op (Some line) = takes op line

abbrev pub acknowledged_one : Line → Line
acknowledged_one line = record line { acknowledged = line.acknowledged + 1 }

abbrev pub taken : AnOutbox → AnOutbox
taken o = record o { pending = drop 1 o.pending; acknowledged = o.acknowledged + 1 }

abbrev pub after_op : AnOutbox → Option (List ℕ × ℕ) → AnOutbox
after_op o None = o
after_op o (Some op) =
    if any_takes op o.awaited then record (taken o) { awaited = option_map acknowledged_one o.awaited }
    else (if any_takes op o.current then record (taken o) { current = option_map acknowledged_one o.current } else o)

-- the data of a leave is the text of this id
abbrev pub names : Option (List ℕ) → Line → Bool
names left line = is_text left (printed (text line.id))

abbrev pub unless_left : Option (List ℕ) → Option Line → Option Line
unless_left left None = None
unless_left left (Some line) = if names left line then None else Some line

abbrev pub noted : Option (List ℕ) → Line → Line
noted left line = record line { left = names left line || line.left }

abbrev pub after_leave : AnOutbox → Option (List ℕ) → AnOutbox
after_leave o left = record o { awaited = unless_left left o.awaited; current = option_map (noted left) o.current }

abbrev pub after_heard : AnOutbox → Message → AnOutbox
after_heard o message = record (after_leave (after_op o (op_of message)) (of_leave message.kind message.system)) { heard_to = message.number }
