-- The forms of what an op says to a queue or to a task, and what each message says.
use Rattle.std.specs.Prelude.{ℕ, ℤ, pos, negsuc, List, [], ◌∷◌, Option, Some, None, option_and_then, is_some, if◌then◌else◌, find, bytes_eq, codes}
use Rattle.fluid_json.specs.Tree as json
use Rattle.fluid_json.specs.Tree.{Tree, as_text, as_whole}
use Rattle.fluid_types.specs.Contents.{body}
use Rattle.fluid_types.specs.Names.{is_name}
use Rattle.fluid_types.specs.Quorum.{left_by}
use Rattle.fluid_types.specs.declared.messages.Kind.{Kind}
use Rattle.fluid_types.specs.declared.messages.Kind.TheVariants.{Op, Noop, Propose, Reject, Summarize, Join, Leave, SummaryAck, SummaryNack}
use Rattle.fluid_types.specs.declared.messages.Message.{Message}
use Rattle.fluid_tasks.specs.declared.acts.Act.{Act}
use Rattle.fluid_tasks.specs.declared.acts.Act.TheVariants.{Add, Acquire, Complete, Release, Volunteer, Abandon, Finish}
use Rattle.fluid_tasks.specs.declared.acts.Target.{Target}
use Rattle.fluid_tasks.specs.declared.acts.Target.TheVariants.{Queue, Task}
use Rattle.fluid_tasks.specs.declared.acts.QueueVerb.{QueueVerb}
use Rattle.fluid_tasks.specs.declared.acts.QueueVerb.TheVariants as to_queues
use Rattle.fluid_tasks.specs.declared.acts.TaskVerb.{TaskVerb}
use Rattle.fluid_tasks.specs.declared.acts.TaskVerb.TheVariants as to_tasks

-- one step after another: where the first gives nothing, nothing
infixl 1 ◌>>=◌
abbrev ◌>>=◌ : {A B : Type 0} → Option A → (A → Option B) → Option B
first >>= next = option_and_then next first

-- ---- words

abbrev pub target_word : Target → List ℕ
target_word Queue = codes "queue"
target_word Task = codes "task"

abbrev pub target_named : List ℕ → Option Target
target_named word = find (λ target. bytes_eq word (target_word target)) (Queue ∷ Task ∷ [])

abbrev pub queue_word : QueueVerb → List ℕ
queue_word to_queues.Add = codes "add"
queue_word to_queues.Acquire = codes "acquire"
queue_word to_queues.Complete = codes "complete"
queue_word to_queues.Release = codes "release"

abbrev pub queue_verb : List ℕ → Option QueueVerb
queue_verb word =
    find (λ verb. bytes_eq word (queue_word verb)) (to_queues.Add ∷ to_queues.Acquire ∷ to_queues.Complete ∷ to_queues.Release ∷ [])

abbrev pub task_word : TaskVerb → List ℕ
task_word to_tasks.Volunteer = codes "volunteer"
task_word to_tasks.Abandon = codes "abandon"
task_word to_tasks.Complete = codes "complete"

abbrev pub task_verb : List ℕ → Option TaskVerb
task_verb word = find (λ verb. bytes_eq word (task_word verb)) (to_tasks.Volunteer ∷ to_tasks.Abandon ∷ to_tasks.Complete ∷ [])

-- ---- members

-- the text in a member
abbrev pub text_at : List ℕ → Tree → Option (List ℕ)
text_at name t = do
  value ← json.find name t
  as_text value

-- the text in a member, where it is a name
abbrev pub name_at : List ℕ → Tree → Option (List ℕ)
name_at name t = do
  s ← text_at name t
  if is_name s then Some s else None

abbrev counted : ℤ → Option ℕ
counted (pos n) = Some n
counted (negsuc n) = None

-- the whole number in a member, where it isn't negative: a negative one is the number of no message
abbrev pub number_at : List ℕ → Tree → Option ℕ
number_at name t = do
  value ← json.find name t
  n ← as_whole value
  counted n

-- ---- what a body says

-- {"type":"queue","name":A,"op":"add","value":V}
abbrev pub adding : List ℕ → Tree → Option Act
adding name t = do
  value ← json.find (codes "value") t
  Some (Add name value)

-- {"type":"queue","name":A,"op":"complete","item":N}
abbrev pub completing : List ℕ → Tree → Option Act
completing name t = do
  item ← number_at (codes "item") t
  Some (Complete name item)

-- {"type":"queue","name":A,"op":"release","item":N}
abbrev pub releasing : List ℕ → Tree → Option Act
releasing name t = do
  item ← number_at (codes "item") t
  Some (Release name item)

-- {"type":"queue","name":A,"op":"acquire"}
abbrev pub by_queue_verb : List ℕ → Tree → QueueVerb → Option Act
by_queue_verb name t to_queues.Add = adding name t
by_queue_verb name t to_queues.Acquire = Some (Acquire name)
by_queue_verb name t to_queues.Complete = completing name t
by_queue_verb name t to_queues.Release = releasing name t

abbrev pub to_queue : List ℕ → Tree → Option Act
to_queue name t = do
  word ← text_at (codes "op") t
  verb ← queue_verb word
  by_queue_verb name t verb

-- {"type":"task","name":A,"op":"volunteer"}, or "abandon", or "complete"
abbrev pub by_task_verb : List ℕ → TaskVerb → Act
by_task_verb name to_tasks.Volunteer = Volunteer name
by_task_verb name to_tasks.Abandon = Abandon name
by_task_verb name to_tasks.Complete = Finish name

abbrev pub to_task : List ℕ → Tree → Option Act
to_task name t = do
  word ← text_at (codes "op") t
  verb ← task_verb word
  Some (by_task_verb name verb)

abbrev pub to_target : List ℕ → Tree → Target → Option Act
to_target name t Queue = to_queue name t
to_target name t Task = to_task name t

-- what a body says, where it has one of the seven forms: none that has a member `address`, whatever else it has. Other members beyond
-- the form are passed over
unfoldable pub act_in : Tree → Option Act
act_in t = if is_some (json.find (codes "address") t) then None else (do
  name ← name_at (codes "name") t
  word ← text_at (codes "type") t
  target ← target_named word
  to_target name t target)

-- ---- what a message says

-- what is said by an op, and nothing by messages of other kinds
abbrev pub of_op : {A : Type 0} → Kind → Option A → Option A
of_op Op said = said
of_op Noop said = None
of_op Propose said = None
of_op Reject said = None
of_op Summarize said = None
of_op Join said = None
of_op Leave said = None
of_op SummaryAck said = None
of_op SummaryNack said = None

-- what the body of an op says
abbrev pub act_of : Message → Option Act
act_of m = of_op m.kind (act_in (body m.contents))

-- a client does something, a client leaves, or neither
pub data Said : Type 0 where
  Does : List ℕ → Act → Said
  Leaves : List ℕ → Said
  Nothing : Said

abbrev pub done : Option (List ℕ) → Option Act → Said
done None act = Nothing
done (Some client) None = Nothing
done (Some client) (Some act) = Does client act

abbrev pub leaving : Option (List ℕ) → Said
leaving None = Nothing
leaving (Some client) = Leaves client

unfoldable pub said : Message → Said
said m = if is_some (left_by m) then leaving (left_by m) else done m.client (act_of m)
