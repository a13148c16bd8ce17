-- A link over a list of messages and objects in memory.
use Rattle.std.specs.Prelude.{◌≡◌, ℕ, ◌==◌, ◌+◌, ◌-◌, ◌^◌, ◌≤◌, nat_lt, nat_le, Bool, true, false, not, ◌&&◌, if◌then◌else◌, List, ◌++◌, length, drop, Option, Some, None, option_map, option_and_then, option_to_list, is_some, find, bytes_eq, Result, Ok, Err}
use Rattle.std.specs.List.{list_any}
use Rattle.std.specs.Result.{result_ok}
use Rattle.fluid_io.specs.Causes.{Rose}
use Rattle.fluid_types.specs.Messages.{message_spelled}
use Rattle.fluid_types.specs.Order.{AreNumberedFrom}
use Rattle.fluid_types.specs.Printed.{message_printed}
use Rattle.fluid_rules.specs.Scribe.{answers, is_summarize, reference_of}
use Rattle.fluid_store.specs.Held.{Held}
use Rattle.fluid_store.specs.declared.fault.StoreFault.{StoreFault}
use Rattle.fluid_store.specs.declared.fault.StoreFault.TheVariants as store
use Rattle.fluid_tree.specs.Summary.{Summary}
use Rattle.fluid_tree.specs.declared.id.SummaryRef.{SummaryRef}
use Rattle.fluid_types.specs.declared.messages.Message.{Message}
use Rattle.fluid_loader.specs.Link.{Document, PutsTree, PutsSome, StandsBehind}
use Rattle.fluid_loader.specs.declared.link.Pick.{Pick}
use Rattle.fluid_loader.specs.declared.link.Pick.TheVariants.{Empty, Latest, Handle}
use Rattle.fluid_loader.specs.declared.link.LinkFault.{LinkFault}
use Rattle.fluid_loader.specs.declared.link.LinkFault.TheVariants.{Failed, Clash, NoMemory}

-- a document of these messages and objects, of which no ledger is told
abbrev pub listed : List Message → Held → Document
listed order held = record { order = order; held = held; ledger = None; limit = 0 }

-- ---- messages

-- a message goes behind so many others: it has the next number, of those below 2^53, and refers to none behind it
abbrev pub is_next : ℕ → Message → Bool
is_next count m = nat_lt count (2 ^ 53 - 1) && ((m.number == count + 1) && nat_le (reference_of m) m.number)

-- it is put there by the text that is printed for it
abbrev pub placed : ℕ → List ℕ → Message → Option Message
placed count text m = if bytes_eq (message_printed m) text && is_next count m then Some m else None

-- the message that a text puts behind so many others, of what it spells
abbrev pub put_behind : ℕ → List ℕ → Option Message
put_behind count text = option_and_then (placed count text) (result_ok (message_spelled text))

-- what the text puts there, if anything, stands behind the others, and the answer is whether it puts one
pub record IsPushed (text : List ℕ) (old new : List Message) (answer : Bool) : Type 0 where
  pub added : new ≡ old ++ option_to_list (put_behind (length old) text)
  pub answered : answer ≡ is_some (put_behind (length old) text)

-- these are the messages of an order from a number on
pub record IsTail (from : ℕ) (order messages : List Message) : Type 0 where
  pub numbered : AreNumberedFrom from messages
  pub fit : from + length messages ≤ 2 ^ 53
  pub behind : drop (from - 1) order ≡ messages

-- ---- acknowledged summaries

-- such an acknowledgement is picked
abbrev pub is_picked : Pick → SummaryRef → Bool
is_picked Empty ack = false
is_picked Latest ack = true
is_picked (Handle id) ack = bytes_eq ack.handle id

-- an acknowledgement, where it is one that is picked
abbrev pub wanted : Pick → Option SummaryRef → Option SummaryRef
wanted pick None = None
wanted pick (Some ack) = if is_picked pick ack then Some ack else None

-- the reference of the message with this number
abbrev pub reference_in : ℕ → List Message → Option ℕ
reference_in number messages = option_map reference_of (find (λ m. m.number == number) messages)

-- a summarize that none of those behind it answers
abbrev pub waits : List Message → Message → Bool
waits behind m = is_summarize m.kind && not (list_any (answers m.number) behind)

-- ---- objects

-- the fault of a link for one of its store
abbrev pub link_fault : StoreFault → LinkFault
link_fault (store.StoreFailed note) = Failed
link_fault (store.Clash id kept bytes) = Clash id kept bytes
link_fault (store.Missing id) = Failed
link_fault (store.BadObject id place) = Failed
link_fault (store.Tree fault) = Failed
link_fault (store.NoPath path) = Failed
link_fault store.NoMemory = NoMemory

-- what an upload does to the objects, by its answer
abbrev pub PutInto : Summary → Option (List ℕ) → List Message → Held → Held → Result (List ℕ) LinkFault → Type 0
PutInto node base order old new (Ok id) =
    PutsTree node base (Ok id) (listed order old) (listed order new)
    × (StandsBehind node base id (listed order old) (listed order new) × PutsSome node base (listed order old) (listed order new))
PutInto node base order old new (Err Failed) = PutsSome node base (listed order old) (listed order new)
PutInto node base order old new (Err (Clash id kept bytes)) = PutsTree node base (Err (Clash id kept bytes)) (listed order old) (listed order new)
PutInto node base order old new (Err NoMemory) = PutsSome node base (listed order old) (listed order new)

-- a fault of the objects is counted, and a clash as a refusal
abbrev pub IsCounted : LinkFault → (faults faults_now refusals refusals_now : ℕ) → Type 0
IsCounted Failed faults faults_now refusals refusals_now = Rose faults faults_now × ((faults ≤ faults_now) × (refusals_now ≡ refusals))
IsCounted (Clash id kept bytes) faults faults_now refusals refusals_now = Rose refusals refusals_now × ((refusals ≤ refusals_now) × (faults_now ≡ faults))
IsCounted NoMemory faults faults_now refusals refusals_now = (faults_now ≡ faults) × (refusals_now ≡ refusals)
