-- Calls on a lane one after another: what is known of each lane behind them.
use Rattle.std.proofs.Common.{◌≡◌, ℕ, ◌+◌, ◌≤◌, arith, List, Option, Result, Ok, Err, sym, subst}
use Rattle.fluid_lane.specs.Standing.{Standing}
use Rattle.fluid_runtime.specs.declared.fault.EditFault.{EditFault}
use Rattle.fluid_runtime.specs.declared.fault.EditFault.TheVariants as edits
use Rattle.fluid_transcript.specs.Lines.{edit_fault_line}
use Rattle.fluid_desk.specs.declared.stop.Stop.{Stop}
use Rattle.fluid_desk.specs.declared.stop.Stop.TheVariants.{KeeperFault, StoreFault as StoreFailed, BadStored, NoMemory}
use Rattle.fluid_desk.specs.declared.stop.StoredFault.TheVariants.{Lane, Delta, Object}
use Rattle.fluid_desk.specs.Acting.{IsLine}
use Rattle.std.specs.Prelude.{IfErr, IfOk}
use Rattle.fluid_lanes.specs.Opened.{Opened}
use Rattle.fluid_desk.specs.Stopping.{HasRun}
use Rattle.fluid_desk.proofs.Few.{few_more}
use Rattle.fluid_desk.proofs.Running.{run_more}
use Rattle.fluid_callers.specs.Ending.{EndsReading, EndsForReading, LaneReads, RunsReading}
use Rattle.fluid_voice.specs.declared.refusals.ConnectRefusal.{ConnectRefusal}
use Rattle.fluid_roamers.specs.Stepping.{IsSendableIf, IsRefusedFor, IsTurnedAway, IsUnsaid}
use Rattle.fluid_roamers.specs.declared.roamer.Roamer.{Roamer}

-- a lane that nothing was asked of
pub reads_nothing : {A : Type 0} (s : Standing) (result : Result A Stop) → result ≡ Err NoMemory → LaneReads s s result
reads_nothing s result is = subst (LaneReads s s) (sym is) (record { later = omega arith; sides = omega arith; ends = tt })

pub reads_ok : {A : Type 0} (s : Standing) (a : A) → LaneReads s s (Ok a)
reads_ok s a = record { later = omega arith; sides = omega arith; ends = tt }

-- a line behind a call
pub reads_line : {A : Type 0} (old new : Standing) (a : A) (line : List ℕ) (result : Result (List ℕ) Stop) → LaneReads old new (Ok a) → IsLine line result → LaneReads old new result
reads_line old new a line (Ok text) reads is = record { later = reads.later; sides = reads.sides; ends = tt }
reads_line old new a line (Err stop) reads is =
    subst (λ s. LaneReads {A = List ℕ} old new (Err s)) (sym is) (record { later = reads.later; sides = omega (arith, reads.sides); ends = tt })

-- want of memory behind a call
pub reads_wants : {A B : Type 0} (old new : Standing) (a : A) (result : Result B Stop) → LaneReads old new (Ok a) → result ≡ Err NoMemory → LaneReads old new result
reads_wants old new a result reads is = subst (LaneReads old new) (sym is) (record { later = reads.later; sides = omega (arith, reads.sides); ends = tt })

pub reads_other : {A B : Type 0} (old new : Standing) (a : A) (b : B) → LaneReads old new (Ok a) → LaneReads old new (Ok b)
reads_other old new a b reads = record { later = reads.later; sides = reads.sides; ends = tt }

pub reads_stop : {A B : Type 0} (old new : Standing) (stop : Stop) (result : Result B Stop) → LaneReads {A = A} old new (Err stop) → result ≡ Err stop → LaneReads old new result
reads_stop old new stop result reads is = subst (LaneReads old new) (sym is) (record { later = reads.later; sides = reads.sides; ends = reads.ends })

-- a line, and nothing was asked of the lane
pub reads_alone : (s : Standing) (line : List ℕ) (result : Result (List ℕ) Stop) → IsLine line result → LaneReads s s result
reads_alone s line result is = reads_line {A = ℕ} s s 0 line result (reads_ok s 0) is

-- of an edit that wasn't laid over
pub reads_unsaid : (s : Standing) (r : List ℕ) (fault : EditFault) (result : Result (List ℕ) Stop) → IsUnsaid r fault result → LaneReads s s result
reads_unsaid s r edits.NoMemory result is = reads_nothing s result is
reads_unsaid s r edits.NoChannel result is = reads_alone s (edit_fault_line r edits.NoChannel) result is
reads_unsaid s r edits.WrongKind result is = reads_alone s (edit_fault_line r edits.WrongKind) result is
reads_unsaid s r edits.OutOfRange result is = reads_alone s (edit_fault_line r edits.OutOfRange) result is
reads_unsaid s r edits.Exists result is = reads_alone s (edit_fault_line r edits.Exists) result is

-- ---- on a desk

pub memory_reading : {A : Type 0} (first steps : ℕ) (o : Opened) (result : Result A Stop) → HasRun first steps o → IfErr result (λ stop. stop ≡ NoMemory) → RunsReading first (steps + 1) o result
memory_reading first steps o (Ok a) run is = run_more first steps o run
memory_reading first steps o (Err stop) run is = record { shelves = run.shelves; few = few_more steps o run.few; ends = subst (EndsForReading first o) (sym is) tt }

-- a line, or want of memory for it
pub line_reading : (first steps : ℕ) (o : Opened) (line : List ℕ) (result : Result (List ℕ) Stop) → HasRun first steps o → IsLine line result → RunsReading first (steps + 1) o result
line_reading first steps o line (Ok text) run is = run_more first steps o run
line_reading first steps o line (Err stop) run is = record { shelves = run.shelves; few = few_more steps o run.few; ends = subst (EndsForReading first o) (sym is) tt }

pub turned_reading : (first steps : ℕ) (o : Opened) (r : List ℕ) (result : Result (List ℕ × Option Roamer) Stop) → HasRun first steps o → IsTurnedAway r result → RunsReading first (steps + 1) o result
turned_reading first steps o r (Ok made) run is = run_more first steps o run
turned_reading first steps o r (Err stop) run is = record { shelves = run.shelves; few = few_more steps o run.few; ends = subst (EndsForReading first o) (sym is) tt }

-- ---- one call behind another

module _ (old mid new : Standing) where
  ends_on : old.keeping.faults ≤ mid.keeping.faults → (stop : Stop) → EndsReading mid new stop → EndsReading old new stop
  ends_on later (KeeperFault note) ends = record { first = omega (arith, later, ends.first); last = ends.last; rose = ends.rose }
  ends_on later (StoreFailed note) ends = absurd ends
  ends_on later (BadStored (Lane fault)) ends = ends
  ends_on later (BadStored (Delta number)) ends = ends
  ends_on later (BadStored (Object fault)) ends = absurd ends
  ends_on later NoMemory ends = tt

  pub reads_both : {A B : Type 0} (a : A) (result : Result B Stop) → LaneReads old mid (Ok a) → LaneReads mid new result → LaneReads old new result
  reads_both a (Ok b) first second = record { later = omega (arith, first.later, second.later); sides = omega (arith, first.sides, second.sides); ends = tt }
  reads_both a (Err stop) first second = record { later = omega (arith, first.later, second.later); sides = omega (arith, first.sides, second.sides); ends = ends_on first.later stop second.ends }

  -- and what stops the second
  pub reads_then_stop : {A B C : Type 0} (a : A) (stop : Stop) → LaneReads old mid (Ok a) → LaneReads {A = B} mid new (Err stop) → LaneReads {A = C} old new (Err stop)
  reads_then_stop a stop first second = record { later = omega (arith, first.later, second.later); sides = omega (arith, first.sides, second.sides); ends = ends_on first.later stop second.ends }

-- what stopped a call stops what made it
pub reads_err : {A B : Type 0} (old new : Standing) (stop : Stop) → LaneReads {A = A} old new (Err stop) → LaneReads {A = B} old new (Err stop)
reads_err old new stop reads = record { later = reads.later; sides = reads.sides; ends = reads.ends }

-- behind a join that is refused
pub reads_refused : {A : Type 0} (old new : Standing) (a : A) (r : List ℕ) (refusal : ConnectRefusal) (result : Result (List ℕ × Option Roamer) Stop) → LaneReads old new (Ok a) → IsRefusedFor r refusal result → LaneReads old new result
reads_refused old new a r refusal (Ok made) reads is = record { later = reads.later; sides = reads.sides; ends = tt }
reads_refused old new a r refusal (Err stop) reads is = subst (λ s. LaneReads {A = List ℕ × Option Roamer} old new (Err s)) (sym is) (record { later = reads.later; sides = omega (arith, reads.sides); ends = tt })

pub refused_kept : (r : List ℕ) (refusal : ConnectRefusal) (result : Result (List ℕ × Option Roamer) Stop) → IsRefusedFor r refusal result → IfOk result (λ made. IsSendableIf made.1)
refused_kept r refusal (Ok made) is = subst IsSendableIf (sym is.1) tt
refused_kept r refusal (Err stop) is = tt
