-- What a client's part in a turn owes.
use Rattle.std.specs.Prelude.{◌≡◌, ℕ, true, List, Some, Result}
use Rattle.fluid_types.specs.declared.entries.Submission.{Submission}
use Rattle.fluid_desk.specs.declared.stop.Stop.{Stop}
use Rattle.fluid_desk.specs.Stopping.{HasRun}
use Rattle.fluid_workload.specs.Working.{Workload, work}
use Rattle.fluid_turns.specs.Saying.{IsWriter}
use Rattle.fluid_turns.specs.declared.saying.Saying.{Saying}
use Rattle.fluid_turns.specs.declared.writer.Writer.{Writer}
use Rattle.fluid_load.specs.Standing.{AtWork, Next, ActsOn, WorkGoes, WearsBy, LeadsTo}
use Rattle.fluid_load.specs.Acting.{said, entered}

-- one step; where the writer is that of a client, and the document that of the workload, it leads to this
pub record ForWriter (document : List ℕ) (writer : Writer) (next : (client : ℕ) → Next) (a b : AtWork) (result : Result (Unit {0}) Stop) : Type 0 where
  pub on : ActsOn 1 a b result
  pub leads : (w : Workload) (client : ℕ) → a.good ≡ true → WorkGoes a w → document ≡ work → IsWriter w.world client (Some writer) → LeadsTo (next client a.lanes.limits w) b result
  pub wears :
      (w : Workload) (client first steps : ℕ) → a.good ≡ true → WorkGoes a w → document ≡ work → IsWriter w.world client (Some writer) → HasRun first steps a.lanes
      → WearsBy steps 1 w.world (next client a.lanes.limits w).world result

-- it submits what it is to say
abbrev pub SaysAs : (document : List ℕ) → Writer → Saying → AtWork → AtWork → Result (Unit {0}) Stop → Type 0
SaysAs document writer saying a b result = ForWriter document writer (λ client. said client saying) a b result

-- this submission of it is entered
abbrev pub EntersAs : (document : List ℕ) → Writer → Submission → AtWork → AtWork → Result (Unit {0}) Stop → Type 0
EntersAs document writer submission a b result = ForWriter document writer (λ client. entered client writer.id submission) a b result
