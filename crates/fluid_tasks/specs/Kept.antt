-- What is kept of queues and tasks, which messages it stands for, and what each step changes of it.
use Rattle.std.specs.Prelude.{◌≡◌, ℕ, ◌+◌, ◌≤◌, ◌⊎◌, ◌==◌, Bool, true, false, ◌&&◌, if◌then◌else◌, List, [], ◌∷◌, ◌++◌, length, map, filter, Option, Some, None, is_some, option_map, bytes_eq, String}
use Rattle.std.specs.List.{list_any}
use Rattle.std.specs.declared.alloc.Global.{Global}
use Rattle.std.specs.Ordering.{nat_cmp}
use Rattle.std.specs.Map.{remove_entry}
use Rattle.std.specs.BTreeMap.{BTreeMap, get, get_by_text, btree_map_len, insert_entry, is_at, IsOrdered}
use Rattle.std.specs.BTreeSet.{contains}
use Rattle.fluid_types.specs.declared.messages.Message.{Message}
use Rattle.fluid_tasks.specs.declared.held.Holdings.{Holdings}
use Rattle.fluid_tasks.specs.declared.queues.Queue.{Queue}
use Rattle.fluid_tasks.specs.declared.tasks.Item.{Item}
use Rattle.fluid_tasks.specs.declared.tasks.Tasks.{Tasks}
use Rattle.fluid_tasks.specs.Acts.{Said, said}
use Rattle.fluid_tasks.specs.Line.{no_line, with_free, given, given_back, without}
use Rattle.fluid_tasks.specs.Past.{Past, past_of, is_text, is_of, is_held_by, status, free, live, holder_of, Volunteering, standing_since, standing}

-- ---- values under names

abbrev pub Named : Type 0 → Type 0
Named V = BTreeMap (String Global) V

abbrev pub at : {V : Type 0} → Named V → List ℕ → Option V
at named name = get_by_text named name

abbrev pub SameNames : {V : Type 0} → Named V → Named V → Type 0
SameNames old new = (q : List ℕ) → at new q ≡ at old q

-- a value of this kind stands where none did
abbrev pub MadeAt : {V : Type 0} → (V → Type 0) → Option V → Option V → Type 0
MadeAt {V} Is None new = (value : V) × ((new ≡ Some value) × Is value)
MadeAt Is (Some value) new = ⊥

-- each name has what it had, or a value of this kind where it had none
abbrev pub Makes : {V : Type 0} → (V → Type 0) → Named V → Named V → Type 0
Makes Is old new = (q : List ℕ) → (at new q ≡ at old q) ⊎ MadeAt Is (at old q) (at new q)

-- a value is changed so, where there is one
abbrev pub ChangedAt : {V : Type 0} → (V → V → Type 0) → Bool → Option V → Option V → Type 0
ChangedAt Is false old new = new ≡ old
ChangedAt Is true None new = new ≡ None
ChangedAt {V} Is true (Some old) new = (value : V) × ((new ≡ Some value) × Is old value)

-- the value under this name is changed so, and no other
abbrev pub Changes : {V : Type 0} → (V → V → Type 0) → List ℕ → Named V → Named V → Type 0
Changes Is name old new = (q : List ℕ) → ChangedAt Is (bytes_eq name q) (at old q) (at new q)

-- ---- queues

abbrev pub free_at : Option Queue → List ℕ
free_at None = []
free_at (Some queue) = queue.line.free

abbrev pub held_at : Option Queue → ℕ → Option (List ℕ)
held_at None item = None
held_at (Some queue) item = get nat_cmp queue.held item

pub record IsEmptyQueue (queue : Queue) : Type 0 where
  pub line : queue.line ≡ no_line
  pub held : (n : ℕ) → get nat_cmp queue.held n ≡ None
  pub count : btree_map_len queue.held ≡ 0
  pub ordered : IsOrdered nat_cmp queue.held

-- no more items are held than the line has out
abbrev pub IsBalanced : Queue → Type 0
IsBalanced queue = btree_map_len queue.held ≤ queue.line.out

pub record IsSameQueue (old new : Queue) : Type 0 where
  pub line : new.line ≡ old.line
  pub held : (n : ℕ) → get nat_cmp new.held n ≡ get nat_cmp old.held n
  pub count : btree_map_len new.held ≡ btree_map_len old.held
  pub ordered : IsOrdered nat_cmp new.held

pub record IsAdded (item : ℕ) (old new : Queue) : Type 0 where
  pub line : new.line ≡ with_free old.line item
  pub held : new.held ≡ old.held

pub record IsGiven (item : ℕ) (client : List ℕ) (old new : Queue) : Type 0 where
  pub line : new.line ≡ given old.line
  pub held : (n : ℕ) → get nat_cmp new.held n ≡ (if item == n then Some client else get nat_cmp old.held n)
  pub count : btree_map_len new.held ≤ btree_map_len old.held + 1
  pub ordered : IsOrdered nat_cmp new.held

-- an item isn't held any more
pub record IsUnheld (item : ℕ) (old new : Queue) : Type 0 where
  pub held : (n : ℕ) → get nat_cmp new.held n ≡ (if item == n then None else get nat_cmp old.held n)
  pub count : btree_map_len new.held + (if is_some (get nat_cmp old.held item) then 1 else 0) ≡ btree_map_len old.held
  pub ordered : IsOrdered nat_cmp new.held

pub record IsTakenBack (item : ℕ) (old new : Queue) : Type 0 where
  pub line : new.line ≡ given_back old.line item
  pub unheld : IsUnheld item old new

pub record IsFinished (item : ℕ) (old new : Queue) : Type 0 where
  pub line : new.line ≡ without old.line
  pub unheld : IsUnheld item old new

-- an item is one of this queue, and the client holds it there
abbrev pub is_returned : (kept : ℕ → Option Item) (client q : List ℕ) → Option Queue → (item : ℕ) → Bool
is_returned kept client q queue item = is_text (option_map (λ (it : Item). it.queue) (kept item)) q && is_text (held_at queue item) client

abbrev pub IsBack : Bool → (item : ℕ) → Option Queue → Option Queue → Type 0
IsBack returned item old new = ChangedAt (IsTakenBack item) returned old new

-- those of these items that the client holds in a queue are free there, in the order in which they stand here
pub record AreBackIn (returned : ℕ → Bool) (items : List ℕ) (old new : Queue) : Type 0 where
  pub free : IsBalanced old → new.line.free ≡ old.line.free ++ filter returned items
  pub held : (n : ℕ) → get nat_cmp new.held n ≡ (if list_any (λ i. i == n) (filter returned items) then None else get nat_cmp old.held n)
  pub balanced : IsBalanced old → IsBalanced new
  pub ordered : IsOrdered nat_cmp old.held → IsOrdered nat_cmp new.held

abbrev pub AreBack : (kept : ℕ → Option Item) (client q : List ℕ) (items : List ℕ) → Option Queue → Option Queue → Type 0
AreBack kept client q items old new = ChangedAt (AreBackIn (is_returned kept client q old) items) true old new

-- ---- tasks

abbrev pub Candidates : Type 0
Candidates = BTreeMap ℕ (List ℕ)

abbrev pub entries_at : Option Candidates → List (ℕ × List ℕ)
entries_at None = []
entries_at (Some candidates) = candidates.entries

abbrev pub candidate_at : Option Candidates → ℕ → Option (List ℕ)
candidate_at None number = None
candidate_at (Some candidates) number = get nat_cmp candidates number

abbrev pub IsEmptyTask : Candidates → Type 0
IsEmptyTask candidates = candidates.entries ≡ []

abbrev pub IsSameTask : Candidates → Candidates → Type 0
IsSameTask old new = new.entries ≡ old.entries

abbrev pub WithCandidate : ℕ → List ℕ → Candidates → Candidates → Type 0
WithCandidate number client old new = new.entries ≡ insert_entry nat_cmp old.entries number client

abbrev pub IsWithout : ℕ → Candidates → Candidates → Type 0
IsWithout number old new = new.entries ≡ remove_entry (is_at (nat_cmp number)) old.entries

abbrev pub HasNoCandidates : Candidates → Candidates → Type 0
HasNoCandidates old new = new.entries ≡ []

-- without the candidate of this number, where it is this client
abbrev pub IsWithoutClient : List ℕ → ℕ → Candidates → Candidates → Type 0
IsWithoutClient client number old new =
    new.entries ≡ (if is_text (get nat_cmp old number) client then remove_entry (is_at (nat_cmp number)) old.entries else old.entries)

abbrev pub SteppedDown : List ℕ → Option ℕ → Candidates → Candidates → Type 0
SteppedDown client None old new = new.entries ≡ old.entries
SteppedDown client (Some number) old new = IsWithoutClient client number old new

abbrev pub HasSteppedDown : List ℕ → Option ℕ → Option Candidates → Option Candidates → Type 0
HasSteppedDown client noted old new = ChangedAt (SteppedDown client noted) true old new

-- ---- what is kept of clients

pub record IsEmptyHoldings (holdings : Holdings) : Type 0 where
  pub items : (n : ℕ) → contains nat_cmp holdings.items n ≡ false
  pub tasks : (u : List ℕ) → get_by_text holdings.tasks u ≡ None

abbrev pub has_item : Option Holdings → ℕ → Bool
has_item None item = false
has_item (Some holdings) item = contains nat_cmp holdings.items item

abbrev pub task_at : Option Holdings → List ℕ → Option ℕ
task_at None task = None
task_at (Some holdings) task = get_by_text holdings.tasks task

abbrev pub Clients : Type 0
Clients = Named Holdings

-- what is noted of items stays, but of this client for this item
pub record KeepsItems (client : List ℕ) (but : ℕ) (old new : Clients) : Type 0 where
  pub items : (c : List ℕ) (n : ℕ) → (bytes_eq client c && (but == n)) ≡ false → has_item (at old c) n ≡ true → has_item (at new c) n ≡ true
  pub tasks : (c u : List ℕ) → task_at (at new c) u ≡ task_at (at old c) u

-- what is noted of tasks stays, but of this client for this task, of which this is noted
pub record NotesTask (client task : List ℕ) (noted : Option ℕ) (old new : Clients) : Type 0 where
  pub items : (c : List ℕ) (n : ℕ) → has_item (at new c) n ≡ has_item (at old c) n
  pub tasks : (c u : List ℕ) → task_at (at new c) u ≡ (if bytes_eq client c && bytes_eq task u then noted else task_at (at old c) u)

pub record SameClients (old new : Clients) : Type 0 where
  pub items : (c : List ℕ) (n : ℕ) → has_item (at old c) n ≡ true → has_item (at new c) n ≡ true
  pub tasks : (c u : List ℕ) → task_at (at new c) u ≡ task_at (at old c) u

-- ---- what it stands for

-- the messages have the numbers 1, 2, 3 and so on
abbrev pub IsNumbered : Past → Type 0
IsNumbered [] = Unit {0}
IsNumbered (m ∷ past) = (m.number ≡ length past + 1) × IsNumbered past

-- who holds an item of this queue
abbrev pub held_by : Past → (queue : List ℕ) (item : ℕ) → Option (List ℕ)
held_by past queue item = if is_of past queue item then holder_of past item else None

abbrev pub pairs : List Volunteering → List (ℕ × List ℕ)
pairs vs = map (λ (v : Volunteering). (v.number, v.client)) vs

pub record IsNoQueue (past : Past) (q : List ℕ) : Type 0 where
  pub free : free past q ≡ []
  pub held : (n : ℕ) → held_by past q n ≡ None

pub record IsQueueOf (past : Past) (q : List ℕ) (queue : Queue) : Type 0 where
  pub free : queue.line.free ≡ free past q
  pub held : (n : ℕ) → get nat_cmp queue.held n ≡ held_by past q n
  pub balanced : IsBalanced queue
  pub ordered : IsOrdered nat_cmp queue.held

abbrev pub IsQueue : Past → (q : List ℕ) → Option Queue → Type 0
IsQueue past q None = IsNoQueue past q
IsQueue past q (Some queue) = IsQueueOf past q queue

-- the items that aren't gone, the queues, the tasks and the clients are those of these messages
pub record IsKept (items : BTreeMap ℕ Item) (queues : Named Queue) (tasks : Named Candidates) (clients : Clients) (past : Past) : Type 0 where
  pub items_are : (n : ℕ) → get nat_cmp items n ≡ live past n
  pub queues_are : (q : List ℕ) → IsQueue past q (at queues q)
  pub tasks_are : (u : List ℕ) → entries_at (at tasks u) ≡ pairs (standing past u)
  -- what a client holds and stands for is noted
  pub holds : (c : List ℕ) (n : ℕ) → is_held_by c (status past n) ≡ true → has_item (at clients c) n ≡ true
  pub stands : (c u : List ℕ) (n : ℕ) → standing_since past u c ≡ Some n → task_at (at clients c) u ≡ Some n

abbrev pub Keeps : Tasks → Past → Type 0
Keeps t past = IsKept t.items t.queues t.tasks t.clients past

pub record Stands (t : Tasks) (past : Past) : Type 0 where
  pub numbered : IsNumbered past
  pub heard : t.heard ≡ length past
  pub keeps : Keeps t past

-- tasks to which these messages were applied, oldest first
abbrev pub StandsFor : Tasks → List Message → Type 0
StandsFor t messages = Stands t (past_of messages)

-- ---- one message more

-- behind a message of this number that says this, what is kept is that of the messages with it
abbrev pub KeepsBehind : (number : ℕ) → Said → Tasks → Tasks → Type 0
KeepsBehind number d old new = (m : Message) (past : Past) → said m ≡ d → m.number ≡ number → IsNumbered (m ∷ past) → Keeps old past → Keeps new (m ∷ past)

-- it is still that of the messages without it
abbrev pub KeepsStill : (number : ℕ) → Said → Tasks → Tasks → Type 0
KeepsStill number d old new = (m : Message) (past : Past) → said m ≡ d → m.number ≡ number → IsNumbered (m ∷ past) → Keeps old past → Keeps new past

-- the same of a message of any number
abbrev pub KeepsBehindAny : Said → Tasks → Tasks → Type 0
KeepsBehindAny d old new = (m : Message) (past : Past) → said m ≡ d → IsNumbered (m ∷ past) → Keeps old past → Keeps new (m ∷ past)

abbrev pub KeepsStillAny : Said → Tasks → Tasks → Type 0
KeepsStillAny d old new = (m : Message) (past : Past) → said m ≡ d → IsNumbered (m ∷ past) → Keeps old past → Keeps new past
