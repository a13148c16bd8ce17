-- Runs worked out: what is acknowledged, what waits and what may be sent behind each call.
use Rattle.std.specs.Prelude.{◌≡◌, ℕ, pos, negsuc, Bool, true, false, List, [], ◌∷◌, ◌++◌, codes, map, reverse, take, drop, Option, Some, None, option_map}
use Rattle.fluid_json.specs.Tree.{Tree, null, whole, text}
use Rattle.fluid_json.specs.Printed.{printed}
use Rattle.fluid_types.specs.declared.entries.Raw.TheVariants.{Join as Joins, Leave as Leaves, Submit}
use Rattle.fluid_types.specs.declared.entries.Scopes.{Scopes}
use Rattle.fluid_types.specs.Ledger.{Ledger, order}
use Rattle.fluid_rules.specs.Rules.{ledger}
use Rattle.fluid_types.specs.declared.messages.Kind.{Kind}
use Rattle.fluid_types.specs.declared.messages.Kind.TheVariants.{Op, Join, Leave}
use Rattle.fluid_outbox.specs.Past.{Given, Call, Pushed, Joined, Gave, Heard, Lost, Past, messages, acknowledged, first_waiting, may_send, next, op_with}
use Rattle.fluid_outbox.specs.Runs.{standing, IsRun}

-- what is said behind each of these calls, made behind a past
abbrev pub behind_each : {A : Type 0} → (Past → A) → Past → List Call → List A
behind_each say past [] = []
behind_each say past (call ∷ calls) = say (call ∷ past) ∷ behind_each say (call ∷ past) calls

-- an edit with this number was given under this id
abbrev pub gave : List ℕ → (edit number reference : ℕ) → Tree → Call
gave id edit number reference contents = Gave (record { id = id; edit = edit; submission = op_with number reference contents })

abbrev pub message_of : Kind → Option (List ℕ) → Option (List ℕ) → (client_number number : ℕ) → Call
message_of kind client data_ client_number number = Heard (record {
  client = client;
  client_number = pos client_number;
  reference = negsuc 0;
  number = number;
  minimum = 0;
  kind = kind;
  contents = null;
  system = data_;
  metadata = None;
  moment = 0;
})

-- the message of this number is an op of a client, with this client number
abbrev pub op : List ℕ → (client_number number : ℕ) → Call
op id client_number number = message_of Op (Some id) None client_number number

-- it is the leave of a client, or a join
abbrev pub leave : List ℕ → (number : ℕ) → Call
leave id number = message_of Leave None (Some (printed (text id))) 0 number

abbrev pub join : (number : ℕ) → Call
join number = message_of Join None None 0 number

abbrev pub a : List ℕ
a = codes "c0"

abbrev pub b : List ℕ
b = codes "c4"

abbrev pub c : List ℕ
c = codes "c8"

-- ---- three edits, and a loss at each point

abbrev pub ten : Tree
ten = whole (pos 10)

abbrev pub eleven : Tree
eleven = whole (pos 11)

abbrev pub twelve : Tree
twelve = whole (pos 12)

-- the client number and the contents of what `next` gives
abbrev pub next_of : Past → Option (ℕ × Tree)
next_of past = option_map (λ (given : Given). (given.submission.client_number, given.submission.contents)) (next past 7)

-- behind each of these calls: how many edits are acknowledged, whether an edit may be sent, and what `next` gives
pub record IsTold (past : Past) (calls : List Call) (counts : List ℕ) (sends : List Bool) (nexts : List (Option (ℕ × Tree))) : Type 0 where
  pub acknowledged_are : behind_each acknowledged past calls ≡ counts
  pub may_send_are : behind_each may_send past calls ≡ sends
  pub next_are : behind_each next_of past calls ≡ nexts

abbrev pub begun : List Call
begun = Pushed ten ∷ Pushed eleven ∷ Pushed twelve ∷ Joined a ∷ []

abbrev pub sent_and_heard : List Call
sent_and_heard = gave a 0 1 7 ten ∷ gave a 1 2 7 eleven ∷ gave a 2 3 7 twelve ∷ op a 1 1 ∷ op a 2 2 ∷ op a 3 3 ∷ []

-- the connection is lost behind so many of these, and then comes the rest. All three edits stand at the end, each once
pub record IsLostBehind (count : ℕ) (rest : List Call) (counts : List ℕ) (sends : List Bool) (nexts : List (Option (ℕ × Tree))) : Type 0 where
  pub told : IsTold (reverse (begun ++ take count sent_and_heard)) rest counts sends nexts
  pub stand : standing (reverse (begun ++ take count sent_and_heard ++ rest)) (messages (reverse (begun ++ take count sent_and_heard ++ rest))) ≡ 0 ∷ 1 ∷ 2 ∷ []

pub record Losses : Type 0 where
  pub never :
      IsTold [] (begun ++ sent_and_heard)
      (0 ∷ 0 ∷ 0 ∷ 0 ∷ 0 ∷ 0 ∷ 0 ∷ 1 ∷ 2 ∷ 3 ∷ [])
      (false ∷ false ∷ false ∷ true ∷ true ∷ true ∷ true ∷ true ∷ true ∷ true ∷ [])
      (None ∷ None ∷ None ∷ Some (1, ten) ∷ Some (2, eleven) ∷ Some (3, twelve) ∷ None ∷ None ∷ None ∷ None ∷ [])
  -- nothing was sent: no leave is awaited
  pub before_sending :
      IsLostBehind 0 (Lost ∷ Joined b ∷ gave b 0 1 7 ten ∷ leave a 1 ∷ gave b 1 2 7 eleven ∷ gave b 2 3 7 twelve ∷ op b 1 2 ∷ op b 2 3 ∷ op b 3 4 ∷ [])
      (0 ∷ 0 ∷ 0 ∷ 0 ∷ 0 ∷ 0 ∷ 1 ∷ 2 ∷ 3 ∷ [])
      (false ∷ true ∷ true ∷ true ∷ true ∷ true ∷ true ∷ true ∷ true ∷ [])
      (None ∷ Some (1, ten) ∷ Some (2, eleven) ∷ Some (2, eleven) ∷ Some (3, twelve) ∷ None ∷ None ∷ None ∷ None ∷ [])
  -- one was sent, and it doesn't stand when the leave comes
  pub behind_the_first :
      IsLostBehind 1 (Lost ∷ Joined b ∷ leave a 1 ∷ gave b 0 1 7 ten ∷ gave b 1 2 7 eleven ∷ gave b 2 3 7 twelve ∷ op b 1 2 ∷ op b 2 3 ∷ op b 3 4 ∷ [])
      (0 ∷ 0 ∷ 0 ∷ 0 ∷ 0 ∷ 0 ∷ 1 ∷ 2 ∷ 3 ∷ [])
      (false ∷ false ∷ true ∷ true ∷ true ∷ true ∷ true ∷ true ∷ true ∷ [])
      (None ∷ None ∷ Some (1, ten) ∷ Some (2, eleven) ∷ Some (3, twelve) ∷ None ∷ None ∷ None ∷ None ∷ [])
  -- two were sent, and the first stands all the same
  pub behind_the_second :
      IsLostBehind 2 (Lost ∷ op a 1 1 ∷ Joined b ∷ leave a 2 ∷ gave b 1 1 7 eleven ∷ gave b 2 2 7 twelve ∷ op b 1 3 ∷ op b 2 4 ∷ [])
      (0 ∷ 1 ∷ 1 ∷ 1 ∷ 1 ∷ 1 ∷ 2 ∷ 3 ∷ [])
      (false ∷ false ∷ false ∷ true ∷ true ∷ true ∷ true ∷ true ∷ [])
      (None ∷ None ∷ None ∷ Some (1, eleven) ∷ Some (2, twelve) ∷ None ∷ None ∷ None ∷ [])
  -- all were sent, and all stand before the leave
  pub behind_the_third :
      IsLostBehind 3 (Lost ∷ Joined b ∷ op a 1 1 ∷ op a 2 2 ∷ op a 3 3 ∷ leave a 4 ∷ [])
      (0 ∷ 0 ∷ 1 ∷ 2 ∷ 3 ∷ 3 ∷ [])
      (false ∷ false ∷ false ∷ false ∷ false ∷ true ∷ [])
      (None ∷ None ∷ None ∷ None ∷ None ∷ None ∷ [])
  -- all were sent and one was heard; of the two that are sent again one stands when the next id is lost too
  pub behind_hearing_one :
      IsLostBehind 4
      (Lost ∷ Joined b ∷ leave a 2 ∷ gave b 1 1 7 eleven ∷ gave b 2 2 7 twelve ∷ op b 1 3 ∷ Lost ∷ leave b 4 ∷ Joined c ∷ gave c 2 1 7 twelve ∷ op c 1 5 ∷ [])
      (1 ∷ 1 ∷ 1 ∷ 1 ∷ 1 ∷ 2 ∷ 2 ∷ 2 ∷ 2 ∷ 2 ∷ 3 ∷ [])
      (false ∷ false ∷ true ∷ true ∷ true ∷ true ∷ false ∷ false ∷ true ∷ true ∷ true ∷ [])
      (None ∷ None ∷ Some (1, eleven) ∷ Some (2, twelve) ∷ None ∷ None ∷ None ∷ None ∷ Some (1, twelve) ∷ None ∷ None ∷ [])
  -- two were heard
  pub behind_hearing_two :
      IsLostBehind 5 (Lost ∷ Joined b ∷ leave a 3 ∷ gave b 2 1 7 twelve ∷ op b 1 4 ∷ [])
      (2 ∷ 2 ∷ 2 ∷ 2 ∷ 3 ∷ [])
      (false ∷ false ∷ true ∷ true ∷ true ∷ [])
      (None ∷ None ∷ Some (1, twelve) ∷ None ∷ None ∷ [])
  -- all were heard: the leave is awaited all the same
  pub behind_hearing_three :
      IsLostBehind 6 (Lost ∷ Joined b ∷ leave a 4 ∷ [])
      (3 ∷ 3 ∷ 3 ∷ [])
      (false ∷ false ∷ true ∷ [])
      (None ∷ None ∷ None ∷ [])

-- ---- two runs more

-- the first two of three edits are sent under one id, whose connection is lost before they are heard. They stand all the same, so the third
-- alone is sent under the next id
abbrev pub lost_behind_sending : List Call
lost_behind_sending =
    Joined a ∷ join 1 ∷ Pushed (whole (pos 1)) ∷ gave a 0 1 1 (whole (pos 1)) ∷ Pushed (whole (pos 5)) ∷ gave a 1 2 1 (whole (pos 5)) ∷ Lost ∷ Pushed (whole (pos 7))
    ∷ op a 1 2 ∷ op a 2 3 ∷ leave a 4 ∷ join 5 ∷ Joined b ∷ gave b 2 1 5 (whole (pos 7)) ∷ op b 1 6 ∷ []

pub record LostBehindSending : Type 0 where
  pub acknowledged_are : behind_each acknowledged [] lost_behind_sending ≡ 0 ∷ 0 ∷ 0 ∷ 0 ∷ 0 ∷ 0 ∷ 0 ∷ 0 ∷ 1 ∷ 2 ∷ 2 ∷ 2 ∷ 2 ∷ 2 ∷ 3 ∷ []
  pub waiting_are : behind_each first_waiting [] lost_behind_sending
      ≡ None ∷ None ∷ Some 0 ∷ None ∷ Some 1 ∷ None ∷ None ∷ Some 2 ∷ Some 2 ∷ Some 2 ∷ Some 2 ∷ Some 2 ∷ Some 2 ∷ None ∷ None ∷ []
  pub may_send_are : behind_each may_send [] lost_behind_sending
      ≡ true ∷ true ∷ true ∷ true ∷ true ∷ true ∷ false ∷ false ∷ false ∷ false ∷ false ∷ false ∷ true ∷ true ∷ true ∷ []
  pub stand : standing (reverse lost_behind_sending) (messages (reverse lost_behind_sending)) ≡ 0 ∷ 1 ∷ 2 ∷ []

-- the leave comes before the loss: what was sent waits again at the loss, and not before
abbrev pub left_before_loss : List Call
left_before_loss = Joined a ∷ Pushed ten ∷ gave a 0 1 1 ten ∷ leave a 1 ∷ Lost ∷ Joined b ∷ []

pub record LeftBeforeLoss : Type 0 where
  pub waiting_are : behind_each first_waiting [] left_before_loss ≡ None ∷ Some 0 ∷ None ∷ None ∷ Some 0 ∷ Some 0 ∷ []
  pub may_send_are : behind_each may_send [] left_before_loss ≡ true ∷ true ∷ true ∷ true ∷ false ∷ true ∷ []

-- ---- a whole run, beside its ledger

abbrev all_scopes : Scopes
all_scopes = record { read = true; write = true; summary = true }

-- of two edits the second one's submission is lost on its way
abbrev pub entered : Ledger
entered = ledger (
    Joins a all_scopes null 1
    ∷ Submit a (op_with 1 1 ten) 2
    ∷ Leaves a 3
    ∷ Joins b all_scopes null 4
    ∷ Submit b (op_with 1 4 eleven) 5
    ∷ [])

-- so many messages of its order are heard, from behind so many on
abbrev pub heard_of : (from count : ℕ) → List Call
heard_of from count = map Heard (take count (drop from (order entered)))

abbrev pub came_back : List Call
came_back =
    Pushed ten ∷ Pushed eleven ∷ Joined a ∷ heard_of 0 1 ++ gave a 0 1 1 ten ∷ gave a 1 2 1 eleven ∷ Lost ∷ heard_of 1 3
    ++ Joined b ∷ gave b 1 1 4 eleven ∷ heard_of 4 1

pub record CameBack : Type 0 where
  pub run : IsRun came_back entered
  pub stand : standing (reverse came_back) (order entered) ≡ 0 ∷ 1 ∷ []
