-- The queues and tasks of a document, by its messages.
use Rattle.std.proofs.Common.{◌≡◌, ℕ, ◌+◌, ◌<◌, ◌≤◌, arith, List, [], ◌∷◌, ◌++◌, length, take, get_or, Result, Ok, Err, refl, sym, ap, subst, ◌∙◌}
use Rattle.std.specs.Prelude.{IfOk}
use Rattle.std.proofs.lemmas.List.{length-reverse, length-take-le, take_all, take_more}
use Rattle.fluid_types.specs.Ledger.{seq}
use Rattle.fluid_types.specs.Order.{AreFirst}
use Rattle.fluid_types.specs.declared.messages.Message.{Message}
use Rattle.fluid_types.proofs.Numbers.{numbered_at}
use Rattle.fluid_rules.specs.declared.limits.Limits.{Limits}
use Rattle.fluid_lane.specs.Standing.{Standing}
use Rattle.fluid_lanes.specs.Opened.{Opened}
use Rattle.fluid_tasks.specs.declared.tasks.Tasks.{Tasks}
use Rattle.fluid_tasks.specs.Past.{past_of}
use Rattle.fluid_tasks.specs.Printed.{print}
use Rattle.fluid_tasks.specs.Kept.{StandsFor}
use Rattle.fluid_transcript.specs.World.{Document, World, grown, ledger_of}
use Rattle.fluid_transcript.specs.Documents.{told_tasks}
use Rattle.fluid_transcript.specs.Lines.{tasks_line}
use Rattle.fluid_desk.specs.declared.stop.Stop.{Stop}
use Rattle.fluid_desk.specs.Stopping.{IsHonest, steps_on, HasRun}
use Rattle.fluid_desk.specs.Acting.{IsLine, ActDoes}
use Rattle.fluid_desk.proofs.Laned.{same}
use Rattle.fluid_desk.proofs.Honest.{honest_more, grown_steps}
use Rattle.fluid_desk.proofs.Steps.{acted}
use Rattle.fluid_callers.specs.Ending.{EndsReading, LaneReads, EndsForReading, RunsReading}
use Rattle.fluid_callers.specs.Hearing.{Fetched}
use Rattle.fluid_callers.specs.Tasking.{line_at, line_behind}

-- ---- messages one after another

module _ (messages : List Message) (i : ℕ) (m : Message) (is : m ≡ get_or messages i m) (below : i < length messages) where
  -- the next one has the next number
  pub next_number : (tasks : Tasks) → AreFirst messages → StandsFor tasks (take i messages) → m.number ≡ tasks.heard + 1
  next_number tasks numbered stands =
      omega (
        arith,
        ap (λ (x : Message). x.number) is ∙ numbered_at messages 1 i m below numbered,
        stands.heard ∙ length-reverse (take i messages) ∙ length-take-le i messages (omega (arith, below)),
      )

  pub one_more : (tasks : Tasks) → StandsFor tasks (take i messages ++ m ∷ []) → StandsFor tasks (take (i + 1) messages)
  one_more tasks stands =
      subst (StandsFor tasks) (ap (λ x. take i messages ++ x ∷ []) is ∙ sym (take_more messages i m below)) stands

pub all_heard : (tasks : Tasks) (messages : List Message) (i : ℕ) → length messages ≤ i → StandsFor tasks (take i messages) → StandsFor tasks messages
all_heard tasks messages i all stands = subst (StandsFor tasks) (take_all i messages all) stands

-- the line of their number and of their text
pub line_so : {E : Type 0} (name : List ℕ) (messages : List Message) (number : ℕ) (shown : List ℕ) (result : Result (List ℕ) E) → number ≡ length messages → shown ≡ print (past_of messages)
    → IfOk result (λ line. line ≡ line_at name number shown) → IfOk result (λ line. line ≡ line_behind name messages)
line_so name messages number shown result count text said =
    subst (λ s. IfOk result (λ line. line ≡ line_at name (length messages) s)) text (subst (λ n. IfOk result (λ line. line ≡ line_at name n shown)) count said)

-- ---- on a lane

module _ (limits : Limits) (w : World) (d : Document) (name : List ℕ) (new : Standing) where
  -- all messages of a document were fetched
  pub tells : (messages : List Message) (result : Result (List ℕ) Stop) → Fetched limits d 1 new messages → IsLine (line_behind name messages) result → ActDoes limits (told_tasks w d name) d new result
  unfolding seq
  tells messages result fetched is =
      acted limits (told_tasks w d name) d new (tasks_line name (ledger_of d)) result (same limits new d fetched.stands) refl
      (subst (λ ms. IsLine (line_behind name ms) result) fetched.are is)

  pub untold : (stop : Stop) → IsHonest (steps_on d new) stop → ActDoes limits (told_tasks w d name) d new (Err stop)
  untold stop honest = honest_more (steps_on d new) (steps_on (grown (told_tasks w d name) d) new) stop (grown_steps (told_tasks w d name) d new) honest

-- a line, or want of memory for it, behind what was read
pub line_reads : (old new : Standing) (line : List ℕ) (result : Result (List ℕ) Stop) → old.keeping.faults ≤ new.keeping.faults → new.sides ≤ old.sides → IsLine line result → LaneReads old new result
line_reads old new line (Ok text) later sides is = record { later = later; sides = sides; ends = tt }
line_reads old new line (Err stop) later sides is = record { later = later; sides = omega (arith, sides); ends = subst (EndsReading old new) (sym is) tt }

-- the same, where no lane was read
pub line_on : (first steps : ℕ) (o : Opened) (line : List ℕ) (result : Result (List ℕ) Stop) → HasRun first steps o → IsLine line result → RunsReading first steps o result
line_on first steps o line (Ok text) run is = run
line_on first steps o line (Err stop) run is = record { shelves = run.shelves; few = run.few; ends = subst (EndsForReading first o) (sym is) tt }
