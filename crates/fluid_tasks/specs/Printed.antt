-- The text of all queues and tasks.
use Rattle.std.specs.Prelude.{ℕ, pos, Bool, true, false, ◌||◌, if◌then◌else◌, List, [], ◌∷◌, map, Option, Some, None, option_map, codes}
use Rattle.std.specs.List.{filter_map}
use Rattle.fluid_json.specs.Tree.{Tree, whole, text, list, trees, object, members}
use Rattle.fluid_json.specs.Printed.{printed}
use Rattle.fluid_rules.specs.Past.{put_id}
use Rattle.fluid_tasks.specs.declared.acts.Act.TheVariants.{Add, Acquire, Complete, Release, Volunteer, Abandon, Finish}
use Rattle.fluid_tasks.specs.Acts.{Said, Does, Leaves, Nothing, said}
use Rattle.fluid_tasks.specs.Past.{Past, is_of, items, free, holder_of, candidates}

-- ---- names

-- the queue to which an item was added
abbrev pub queue_in : Said → Option (List ℕ)
queue_in (Does c (Add queue value)) = Some queue
queue_in (Does c (Acquire queue)) = None
queue_in (Does c (Complete queue item)) = None
queue_in (Does c (Release queue item)) = None
queue_in (Does c (Volunteer task)) = None
queue_in (Does c (Abandon task)) = None
queue_in (Does c (Finish task)) = None
queue_in (Leaves c) = None
queue_in Nothing = None

-- the task for which a client volunteered
abbrev pub task_in : Said → Option (List ℕ)
task_in (Does c (Add queue value)) = None
task_in (Does c (Acquire queue)) = None
task_in (Does c (Complete queue item)) = None
task_in (Does c (Release queue item)) = None
task_in (Does c (Volunteer task)) = Some task
task_in (Does c (Abandon task)) = None
task_in (Does c (Finish task)) = None
task_in (Leaves c) = None
task_in Nothing = None

abbrev pub with_name : Option (List ℕ) → List (List ℕ) → List (List ℕ)
with_name None names = names
with_name (Some name) names = put_id name names

-- the names of the queues that ever had an item, in byte order, each once
unfoldable pub queues : Past → List (List ℕ)
queues [] = []
queues (m ∷ past) = with_name (queue_in (said m)) (queues past)

-- the names of the tasks that ever had a candidate
unfoldable pub tasks : Past → List (List ℕ)
tasks [] = []
tasks (m ∷ past) = with_name (task_in (said m)) (tasks past)

-- ---- values

abbrev pub list_of : {X : Type 0} → (X → Tree) → List X → Tree
list_of value xs = list (trees (map value xs))

-- an item and the client that holds it
abbrev pub held_item : ℕ × List ℕ → Tree
held_item held = object (members ((codes "by", text held.1) ∷ (codes "item", whole (pos held.0)) ∷ []))

-- {"free":[..],"held":[{"by":ID,"item":N},..]}
abbrev pub queue_value : (free : List ℕ) (held : List (ℕ × List ℕ)) → Tree
queue_value free held = object (members ((codes "free", list_of (λ n. whole (pos n)) free) ∷ (codes "held", list_of held_item held) ∷ []))

abbrev pub is_any : {X : Type 0} → List X → Bool
is_any [] = false
is_any (x ∷ xs) = true

-- a queue with an item that is free or held, and its value; none of the others
abbrev pub shown_queue : (free : List ℕ) (held : List (ℕ × List ℕ)) → Option Tree
shown_queue free held = if is_any free || is_any held then Some (queue_value free held) else None

-- the same of a task with a candidate
abbrev pub shown_task : List (List ℕ) → Option Tree
shown_task candidates = if is_any candidates then Some (list_of text candidates) else None

-- the members of those names of which a value is shown
abbrev pub shown : (List ℕ → Option Tree) → List (List ℕ) → List (List ℕ × Tree)
shown value names = filter_map (λ name. option_map (λ tree. (name, tree)) (value name)) names

-- ---- all of it

-- an item that is held, with the client that holds it
abbrev pub held_in : Past → (queue : List ℕ) (item : ℕ) → Option (ℕ × List ℕ)
held_in past queue item = if is_of past queue item then option_map (λ client. (item, client)) (holder_of past item) else None

-- the held items of a queue in the order of their numbers
unfoldable pub held : Past → (queue : List ℕ) → List (ℕ × List ℕ)
held past queue = filter_map (held_in past queue) (items past)

-- {"queues":{A:QUEUE,..},"tasks":{A:[ID,..],..}}
abbrev pub all_of : (queues tasks : List (List ℕ × Tree)) → Tree
all_of queues tasks = object (members ((codes "queues", object (members queues)) ∷ (codes "tasks", object (members tasks)) ∷ []))

abbrev pub tree_of : Past → Tree
tree_of past =
    all_of (shown (λ queue. shown_queue (free past queue) (held past queue)) (queues past)) (shown (λ task. shown_task (candidates past task)) (tasks past))

-- the text of all queues and tasks behind these messages
unfoldable pub print : Past → List ℕ
print past = printed (tree_of past)
