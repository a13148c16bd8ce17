-- What the calls on an outbox say of it. All of it is read backwards: a past is a list of calls from the last back to the first.
use Rattle.std.specs.Prelude.{ℕ, ◌+◌, ℤ, pos, negsuc, nat_lt, nat_le, ◌==◌, Bool, false, not, ◌&&◌, ◌||◌, if◌then◌else◌, List, [], ◌∷◌, ◌++◌, length, filter, find, get_or, Option, Some, None, is_some, bytes_eq}
use Rattle.std.specs.List.{list_any, range_with_len}
use Rattle.fluid_json.specs.Tree.{Tree, null, text}
use Rattle.fluid_json.specs.Printed.{printed}
use Rattle.fluid_types.specs.declared.entries.Offered.TheVariants as offered
use Rattle.fluid_types.specs.declared.entries.Submission.{Submission}
use Rattle.fluid_types.specs.declared.messages.Kind.{Kind}
use Rattle.fluid_types.specs.declared.messages.Kind.TheVariants.{Op, Noop, Propose, Reject, Summarize, Join, Leave, SummaryAck, SummaryNack}
use Rattle.fluid_types.specs.declared.messages.Message.{Message}
use Rattle.fluid_types.specs.Quorum.{of_leave}

-- an edit that `next` gave: under which id, which edit it is, by its number, and the submission
pub record Given : Type 0 where
  pub id : List ℕ
  pub edit : ℕ
  pub submission : Submission

-- a call, with what it was handed; of `next` what it gave, since one that gave nothing changes nothing
pub data Call : Type 0 where
  Pushed : Tree → Call
  Joined : List ℕ → Call
  Gave : Given → Call
  Heard : Message → Call
  Lost : Call

-- calls, newest first
abbrev pub Past : Type 0
Past = List Call

-- ---- what was handed in

-- the contents of the edits, in the order of their numbers
unfoldable pub edits : Past → List Tree
edits [] = []
edits (Pushed contents ∷ past) = edits past ++ contents ∷ []
edits (Joined id ∷ past) = edits past
edits (Gave given ∷ past) = edits past
edits (Heard message ∷ past) = edits past
edits (Lost ∷ past) = edits past

-- the ids, newest first
unfoldable pub ids : Past → List (List ℕ)
ids [] = []
ids (Pushed contents ∷ past) = ids past
ids (Joined id ∷ past) = id ∷ ids past
ids (Gave given ∷ past) = ids past
ids (Heard message ∷ past) = ids past
ids (Lost ∷ past) = ids past

-- the messages that were heard, in the order in which they were
unfoldable pub messages : Past → List Message
messages [] = []
messages (Pushed contents ∷ past) = messages past
messages (Joined id ∷ past) = messages past
messages (Gave given ∷ past) = messages past
messages (Heard message ∷ past) = messages past ++ message ∷ []
messages (Lost ∷ past) = messages past

-- the number of the last of them, 0 where there is none
unfoldable pub heard_to : Past → ℕ
heard_to [] = 0
heard_to (Pushed contents ∷ past) = heard_to past
heard_to (Joined id ∷ past) = heard_to past
heard_to (Gave given ∷ past) = heard_to past
heard_to (Heard message ∷ past) = message.number
heard_to (Lost ∷ past) = heard_to past

-- the current id: the last one that was joined, unless it was lost since
unfoldable pub current : Past → Option (List ℕ)
current [] = None
current (Pushed contents ∷ past) = current past
current (Joined id ∷ past) = Some id
current (Gave given ∷ past) = current past
current (Heard message ∷ past) = current past
current (Lost ∷ past) = None

-- ---- what a message says of an id

-- this text, where there is one
abbrev pub is_text : Option (List ℕ) → List ℕ → Bool
is_text None string = false
is_text (Some own) string = bytes_eq own string

-- a leave of this id: its data is the text of the id
unfoldable pub leaves : List ℕ → Message → Bool
leaves id message = is_text (of_leave message.kind message.system) (printed (text id))

-- what is said by an op, and nothing by the other kinds
abbrev pub of_op : {A : Type 0} → Kind → Option A → Option A
of_op Op said = said
of_op Noop said = None
of_op Propose said = None
of_op Reject said = None
of_op Summarize said = None
of_op Join said = None
of_op Leave said = None
of_op SummaryAck said = None
of_op SummaryNack said = None

abbrev pub numbered : Option (List ℕ) → ℤ → Option (List ℕ × ℕ)
numbered None number = None
numbered (Some id) (pos number) = Some (id, number)
numbered (Some id) (negsuc number) = None

-- the id and the client number of an op
unfoldable pub op_of : Message → Option (List ℕ × ℕ)
op_of message = of_op message.kind (numbered message.client message.client_number)

-- ---- what was sent

-- the edits that `next` gave, newest first
unfoldable pub given : Past → List Given
given [] = []
given (Pushed contents ∷ past) = given past
given (Joined id ∷ past) = given past
given (Gave edit ∷ past) = edit ∷ given past
given (Heard message ∷ past) = given past
given (Lost ∷ past) = given past

-- sent under this id with this client number
abbrev pub is_sent : List ℕ → ℕ → Given → Bool
is_sent id number given = bytes_eq given.id id && (given.submission.client_number == number)

-- this edit was sent under this id with this client number
unfoldable pub was_given : Past → List ℕ → ℕ → ℕ → Bool
was_given past id number edit = list_any (λ given. is_sent id number given && (given.edit == edit)) (given past)

-- how many edits were sent under an id
unfoldable pub sent : Past → List ℕ → ℕ
sent past id = length (filter (λ given. bytes_eq given.id id) (given past))

-- the leave of an id was heard behind its joining
unfoldable pub has_left : Past → List ℕ → Bool
has_left [] id = false
has_left (Pushed contents ∷ past) id = has_left past id
has_left (Joined joined ∷ past) id = not (bytes_eq joined id) && has_left past id
has_left (Gave given ∷ past) id = has_left past id
has_left (Heard message ∷ past) id = leaves id message || has_left past id
has_left (Lost ∷ past) id = has_left past id

-- the leave of an id is awaited: it isn't current any more, an edit was sent under it, and its leave wasn't heard
unfoldable pub is_awaited : Past → List ℕ → Bool
is_awaited past id = not (is_text (current past) id) && (nat_lt 0 (sent past id) && not (has_left past id))

-- some leave is awaited
unfoldable pub awaits : Past → Bool
awaits past = list_any (λ given. is_awaited past given.id) (given past)

-- an id is current, and no leave is awaited
unfoldable pub may_send : Past → Bool
may_send past = is_some (current past) && not (awaits past)

-- ---- which edits are acknowledged, and which wait

-- an op acknowledges the first edit that isn't acknowledged yet, where this was sent with its id and number, and no leave of
-- the id was heard before. In a run each op under an id of the outbox's is one of these, and so acknowledges the edit that was sent with its
-- id and number. Off a run an op out of turn, or behind the leave of its id, acknowledges nothing, and its edit waits for the leave
abbrev pub acknowledges : Past → (first : ℕ) → Option (List ℕ × ℕ) → Bool
acknowledges past first None = false
acknowledges past first (Some (id, number)) = was_given past id number first && not (has_left past id)

-- how many edits are acknowledged: those with the numbers below
unfoldable pub acknowledged : Past → ℕ
acknowledged [] = 0
acknowledged (Pushed contents ∷ past) = acknowledged past
acknowledged (Joined id ∷ past) = acknowledged past
acknowledged (Gave given ∷ past) = acknowledged past
acknowledged (Heard message ∷ past) =
    if acknowledges past (acknowledged past) (op_of message) then acknowledged past + 1 else acknowledged past
acknowledged (Lost ∷ past) = acknowledged past

-- an edit is on its way: it was sent under the current id, or under one whose leave is awaited
unfoldable pub is_out : Past → ℕ → Bool
is_out past edit = list_any (λ given. (given.edit == edit) && (is_text (current past) given.id || is_awaited past given.id)) (given past)

-- an edit waits: it is neither acknowledged nor on its way
abbrev pub waits : Past → ℕ → Bool
waits past edit = nat_le (acknowledged past) edit && not (is_out past edit)

unfoldable pub first_waiting : Past → Option ℕ
first_waiting past = find (waits past) (range_with_len 0 (length (edits past)))

-- ---- what `next` gives

-- an edit as an op with this client number
abbrev pub op_with : (number reference : ℕ) → Tree → Submission
op_with number reference contents =
    record { client_number = number; reference = pos reference; kind = offered.Op; contents = contents; metadata = None }

abbrev pub given_of : Past → (reference : ℕ) → Option (List ℕ) → Option ℕ → Option Given
given_of past reference None edit = None
given_of past reference (Some id) None = None
given_of past reference (Some id) (Some edit) =
    Some (record { id = id; edit = edit; submission = op_with (sent past id + 1) reference (get_or (edits past) edit null) })

-- the first edit that waits, with the next client number of the current id
unfoldable pub next : Past → (reference : ℕ) → Option Given
next past reference = if may_send past then given_of past reference (current past) (first_waiting past) else None
