-- The words with which steps begin.
use Rattle.std.specs.Prelude.{ℕ, List, [], ◌∷◌, codes}
use Rattle.fluid_steps.specs.declared.steps.StepWord.{StepWord}
use Rattle.fluid_steps.specs.declared.steps.StepWord.TheVariants.{Send, Collect, Close, Scribe, Checkpoint, Restart, Reopen, Sweep, Count, Tasks, Load, Pump, Edit, Beat, Summarize, Show, Roam, Say, Lose, Back, Acked}

abbrev pub step_word : StepWord → List ℕ
step_word Send = codes "send"
step_word Collect = codes "collect"
step_word Close = codes "close"
step_word Scribe = codes "scribe"
step_word Checkpoint = codes "checkpoint"
step_word Restart = codes "restart"
step_word Reopen = codes "reopen"
step_word Sweep = codes "sweep"
step_word Count = codes "count"
step_word Tasks = codes "tasks"
step_word Load = codes "load"
step_word Pump = codes "pump"
step_word Edit = codes "edit"
step_word Beat = codes "beat"
step_word Summarize = codes "summarize"
step_word Show = codes "show"
step_word Roam = codes "roam"
step_word Say = codes "say"
step_word Lose = codes "lose"
step_word Back = codes "back"
step_word Acked = codes "acked"

abbrev pub step_words : List StepWord
step_words =
    Send ∷ Collect ∷ Close ∷ Scribe ∷ Checkpoint ∷ Restart ∷ Reopen ∷ Sweep ∷ Count ∷ Tasks ∷ Load ∷ Pump ∷ Edit ∷ Beat ∷ Summarize ∷ Show
    ∷ Roam ∷ Say ∷ Lose ∷ Back ∷ Acked ∷ []
