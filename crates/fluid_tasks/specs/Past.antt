-- What messages make of items and tasks. Each item's status, and since when a client stands for a task, is read out of the list of
-- messages backwards: a past is a list of messages from the last back to the first.
use Rattle.std.specs.Prelude.{ℕ, ◌==◌, Bool, true, false, ◌&&◌, if◌then◌else◌, List, [], ◌∷◌, ◌++◌, reverse, filter, flat_map, Option, Some, None, is_none, option_map, bytes_eq}
use Rattle.fluid_json.specs.Tree.{Tree}
use Rattle.fluid_types.specs.declared.messages.Message.{Message}
use Rattle.fluid_tasks.specs.declared.acts.Act.TheVariants.{Add, Acquire, Complete, Release, Volunteer, Abandon, Finish}
use Rattle.fluid_tasks.specs.declared.tasks.Item.{Item}
use Rattle.fluid_tasks.specs.Acts.{Said, Does, Leaves, Nothing, said}

-- messages, newest first
abbrev pub Past : Type 0
Past = List Message

-- the past of messages that stand oldest first
abbrev pub past_of : List Message → Past
past_of messages = reverse messages

-- the first of some things, where there is one
abbrev pub first : {X : Type 0} → List X → Option X
first [] = None
first (x ∷ xs) = Some x

abbrev pub is_text : Option (List ℕ) → List ℕ → Bool
is_text None string = false
is_text (Some own) string = bytes_eq own string

abbrev pub is_number : Option ℕ → ℕ → Bool
is_number None n = false
is_number (Some own) n = own == n

-- the numbers of the messages, oldest first
unfoldable pub numbers : Past → List ℕ
numbers [] = []
numbers (m ∷ past) = numbers past ++ m.number ∷ []

-- ---- items

-- the queue to which an add brings its item, and the item's value
abbrev pub adds : Said → Option Item
adds (Does c (Add queue value)) = Some (record { queue = queue; value = value })
adds (Does c (Acquire queue)) = None
adds (Does c (Complete queue item)) = None
adds (Does c (Release queue item)) = None
adds (Does c (Volunteer task)) = None
adds (Does c (Abandon task)) = None
adds (Does c (Finish task)) = None
adds (Leaves c) = None
adds Nothing = None

-- each add makes an item, whose number is that of the message
abbrev pub number_if : {X : Type 0} → ℕ → Option X → List ℕ
number_if number None = []
number_if number (Some x) = number ∷ []

-- the items, oldest first
unfoldable pub items : Past → List ℕ
items [] = []
items (m ∷ past) = items past ++ number_if m.number (adds (said m))

-- what was added as this item
unfoldable pub added : Past → (item : ℕ) → Option Item
added [] item = None
added (m ∷ past) item = if is_number (first (number_if m.number (adds (said m)))) item then adds (said m) else added past item

-- it is an item of this queue
abbrev pub is_of : Past → (queue : List ℕ) (item : ℕ) → Bool
is_of past queue item = is_text (option_map (λ (it : Item). it.queue) (added past item)) queue

-- what an item is: free since the message of this number, held by this client, or gone; or it is no item at all
pub data Status : Type 0 where
  NoItem : Status
  Free : ℕ → Status
  Held : List ℕ → Status
  Gone : Status

abbrev pub is_free_since : ℕ → Status → Bool
is_free_since since NoItem = false
is_free_since since (Free own) = own == since
is_free_since since (Held client) = false
is_free_since since Gone = false

-- the client that holds the item
abbrev pub holder_in : Status → Option (List ℕ)
holder_in NoItem = None
holder_in (Free since) = None
holder_in (Held client) = Some client
holder_in Gone = None

abbrev pub is_held_by : List ℕ → Status → Bool
is_held_by client status = is_text (holder_in status) client

-- the free items of a queue, by what is said of each item: in the order of the numbers since which they are free, and those that are
-- free since one number in the order of their own numbers
abbrev pub free_by : (status : ℕ → Status) → Past → (queue : List ℕ) → List ℕ
free_by status past queue = flat_map (λ since. filter (λ item. is_of past queue item && is_free_since since (status item)) (items past)) (numbers past)

-- what an item is behind a message of this number, where it was this before: `queues` says whether it is of a queue, and `given` which
-- item an acquire of a queue gives
abbrev pub status_behind : (number : ℕ) → Said → (queues : List ℕ → Bool) (given : List ℕ → Option ℕ) (item : ℕ) → Status → Status
status_behind number (Does c (Add queue value)) queues given item before = if number == item then Free number else before
status_behind number (Does c (Acquire queue)) queues given item before = if is_number (given queue) item then Held c else before
status_behind number (Does c (Complete queue own)) queues given item before =
    if (own == item) && (queues queue && is_held_by c before) then Gone else before
status_behind number (Does c (Release queue own)) queues given item before =
    if (own == item) && (queues queue && is_held_by c before) then Free number else before
status_behind number (Does c (Volunteer task)) queues given item before = before
status_behind number (Does c (Abandon task)) queues given item before = before
status_behind number (Does c (Finish task)) queues given item before = before
status_behind number (Leaves c) queues given item before = if is_held_by c before then Free number else before
status_behind number Nothing queues given item before = before

-- an add makes its item free. An acquire gives its client the first free item of the queue. A release of an item by its holder, naming
-- the queue of the item, and the leave of its holder make it free; a complete by its holder, naming its queue, makes it gone
unfoldable pub status : Past → (item : ℕ) → Status
status [] item = NoItem
status (m ∷ past) item =
    status_behind m.number (said m) (λ queue. is_of past queue item) (λ queue. first (free_by (λ it. status past it) past queue)) item (status past item)

-- the free items of a queue in the order in which they are given
unfoldable pub free : Past → (queue : List ℕ) → List ℕ
free past queue = free_by (status past) past queue

-- the client that holds an item
unfoldable pub holder_of : Past → (item : ℕ) → Option (List ℕ)
holder_of past item = holder_in (status past item)

-- an item is free or held
abbrev pub is_there : Status → Bool
is_there NoItem = false
is_there (Free since) = true
is_there (Held client) = true
is_there Gone = false

-- an item that isn't gone: its queue and its value
unfoldable pub live : Past → (item : ℕ) → Option Item
live past item = if is_there (status past item) then added past item else None

-- the value of an item that isn't gone
unfoldable pub value : Past → (item : ℕ) → Option Tree
value past item = option_map (λ (it : Item). it.value) (live past item)

-- ---- tasks

-- a client that volunteers for this task
abbrev pub volunteering : List ℕ → Said → Option (List ℕ)
volunteering task (Does c (Add queue value)) = None
volunteering task (Does c (Acquire queue)) = None
volunteering task (Does c (Complete queue item)) = None
volunteering task (Does c (Release queue item)) = None
volunteering task (Does c (Volunteer own)) = if bytes_eq own task then Some c else None
volunteering task (Does c (Abandon own)) = None
volunteering task (Does c (Finish own)) = None
volunteering task (Leaves c) = None
volunteering task Nothing = None

-- a client volunteered with the message of this number
pub record Volunteering : Type 0 where
  pub number : ℕ
  pub client : List ℕ

abbrev pub numbered : ℕ → Option (List ℕ) → List Volunteering
numbered number None = []
numbered number (Some client) = record { number = number; client = client } ∷ []

-- who volunteered for a task, oldest first, as often as it was
unfoldable pub volunteerings : Past → (task : List ℕ) → List Volunteering
volunteerings [] task = []
volunteerings (m ∷ past) task = volunteerings past task ++ numbered m.number (volunteering task (said m))

-- the candidates of a task, by what is said of each client: in the order of the messages since which they stand for it
abbrev pub candidates_by : (since : List ℕ → Option ℕ) → Past → (task : List ℕ) → List Volunteering
candidates_by since past task = filter (λ v. is_number (since v.client) v.number) (volunteerings past task)

abbrev pub clients : List Volunteering → List (List ℕ)
clients [] = []
clients (v ∷ vs) = v.client ∷ clients vs

-- since when a client stands for a task behind a message of this number, where it stood since then before and this client held the task
abbrev pub since_behind : (number : ℕ) → Said → (task : List ℕ) (holder : Option (List ℕ)) (client : List ℕ) → Option ℕ → Option ℕ
since_behind number (Does c (Add queue value)) task holder client before = before
since_behind number (Does c (Acquire queue)) task holder client before = before
since_behind number (Does c (Complete queue item)) task holder client before = before
since_behind number (Does c (Release queue item)) task holder client before = before
since_behind number (Does c (Volunteer own)) task holder client before =
    if bytes_eq own task && (bytes_eq c client && is_none before) then Some number else before
since_behind number (Does c (Abandon own)) task holder client before = if bytes_eq own task && bytes_eq c client then None else before
since_behind number (Does c (Finish own)) task holder client before = if bytes_eq own task && is_text holder c then None else before
since_behind number (Leaves c) task holder client before = if bytes_eq c client then None else before
since_behind number Nothing task holder client before = before

-- since when a client stands for a task: since it volunteered, unless it does already. It stands no longer behind its abandoning, its
-- leave, and a complete by the task's holder
unfoldable pub standing_since : Past → (task client : List ℕ) → Option ℕ
standing_since [] task client = None
standing_since (m ∷ past) task client =
    since_behind m.number (said m) task (first (clients (candidates_by (λ c. standing_since past task c) past task))) client (standing_since past task client)

-- the candidates of a task, each with the number since which it stands
unfoldable pub standing : Past → (task : List ℕ) → List Volunteering
standing past task = candidates_by (standing_since past task) past task

-- the candidates of a task, in order
unfoldable pub candidates : Past → (task : List ℕ) → List (List ℕ)
candidates past task = clients (standing past task)

-- the holder is the first candidate
unfoldable pub holder : Past → (task : List ℕ) → Option (List ℕ)
holder past task = first (candidates past task)
