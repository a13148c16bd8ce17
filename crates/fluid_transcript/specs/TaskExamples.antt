-- Worked examples: the queues and tasks of a document, as its messages make them.
use Rattle.std.specs.Prelude.{◌≡◌, ℕ, [], ◌∷◌, List, codes, take}
use Rattle.std.specs.FinMap.{empty}
use Rattle.fluid_json.specs.Tree.{Tree, null, text}
use Rattle.fluid_types.specs.declared.entries.Raw.{Raw}
use Rattle.fluid_types.specs.declared.entries.Raw.TheVariants.{Join, Leave, Submit}
use Rattle.fluid_types.specs.declared.entries.Offered.TheVariants.{Op}
use Rattle.fluid_loader.specs.Submitting.{numbered}
use Rattle.fluid_tasks.specs.Examples.{a, b, q, t, add, acquire, release, complete, volunteer, finish}
use Rattle.fluid_transcript.specs.Containers.{all_scopes}
use Rattle.fluid_transcript.specs.Transcript.{lines_of}
use Rattle.fluid_transcript.specs.Examples.{few}
use Rattle.fluid_transcript.specs.ScriptExamples.{with_one}

-- what `tasks d` writes where one document is open with these entries
abbrev pub tasks_of : List Raw → List (List ℕ)
tasks_of raws = lines_of few (with_one 10 raws empty) (codes "tasks d" ∷ [])

-- an op of a client that has seen both joins
abbrev pub op : List ℕ → (number : ℕ) → Tree → (moment : ℕ) → Raw
op client number body moment = Submit client (numbered number 2 Op body) moment

-- two clients join; each adds an item to a queue and is given one; the first item is given back, the holder of the second leaves, and
-- the first is given again and done
abbrev pub of_items : List Raw
of_items =
    Join a all_scopes null 1
    ∷ Join b all_scopes null 2
    ∷ op a 1 (add q (text (codes "x"))) 3
    ∷ op b 1 (add q (text (codes "y"))) 4
    ∷ op b 2 (acquire q) 5
    ∷ op a 2 (acquire q) 6
    ∷ op b 3 (release q 3) 7
    ∷ Leave a 8
    ∷ op b 4 (acquire q) 9
    ∷ op b 5 (complete q 3) 10
    ∷ []

pub record Items : Type 0 where
  pub none : tasks_of [] ≡ codes "d tasks at 0: {\"queues\":{},\"tasks\":{}}" ∷ []
  pub one_is_left : tasks_of of_items ≡ codes "d tasks at 10: {\"queues\":{\"q\":{\"free\":[4],\"held\":[]}},\"tasks\":{}}" ∷ []

-- two clients volunteer for a task; the second says that it is done, which counts for nothing; the first leaves
abbrev pub of_volunteers : List Raw
of_volunteers =
    Join a all_scopes null 1
    ∷ Join b all_scopes null 2
    ∷ op a 1 (volunteer t) 3
    ∷ op b 1 (volunteer t) 4
    ∷ op b 2 (finish t) 5
    ∷ Leave a 6
    ∷ []

pub record Volunteers : Type 0 where
  pub first_holds : tasks_of (take 4 of_volunteers) ≡ codes "d tasks at 4: {\"queues\":{},\"tasks\":{\"t\":[\"c0\",\"c1\"]}}" ∷ []
  pub holds_still : tasks_of (take 5 of_volunteers) ≡ codes "d tasks at 5: {\"queues\":{},\"tasks\":{\"t\":[\"c0\",\"c1\"]}}" ∷ []
  pub next_holds : tasks_of of_volunteers ≡ codes "d tasks at 6: {\"queues\":{},\"tasks\":{\"t\":[\"c1\"]}}" ∷ []
