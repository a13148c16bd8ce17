-- The text of what is kept.
use Rattle.std.specs.Prelude.{◌≡◌, ℕ, List, [], ◌∷◌, map, Option, Some, None, option_map, String, string_bytes}
use Rattle.std.specs.List.{All, filter_map}
use Rattle.std.specs.declared.alloc.Global.{Global}
use Rattle.json.specs.Token as token
use Rattle.json.specs.Token.{Token}
use Rattle.fluid_json.specs.Tree.{Tree}
use Rattle.fluid_json.specs.Tokens.{tokens_of}
use Rattle.fluid_tasks.specs.declared.queues.Queue.{Queue}
use Rattle.fluid_tasks.specs.Printed.{shown_queue, shown_task}
use Rattle.fluid_tasks.specs.Kept.{Named, at, Candidates}

-- a queue, where it has an item
abbrev pub queue_shown : Queue → Option Tree
queue_shown queue = shown_queue queue.line.free queue.held.entries

-- a task, where it has a candidate
abbrev pub task_shown : Candidates → Option Tree
task_shown candidates = shown_task (map (λ e. e.1) candidates.entries)

-- those that are shown, under their names
abbrev pub shown_in : {V : Type 0} → (V → Option Tree) → List (String Global × V) → List (List ℕ × Tree)
shown_in value es = filter_map (λ e. option_map (λ tree. (string_bytes e.0, tree)) (value e.1)) es

-- each value is found under its name
abbrev pub IsFoundEach : {V : Type 0} → Named V → Type 0
IsFoundEach m = All (λ e. at m (string_bytes e.0) ≡ Some e.1) m.entries

-- the tokens of a member that is shown
abbrev pub tokens_under : List ℕ → Option Tree → List Token
tokens_under name None = []
tokens_under name (Some tree) = token.key name ∷ tokens_of tree
