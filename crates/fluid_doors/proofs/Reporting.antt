-- A report that a lane refused.
use Rattle.std.proofs.Common.{◌≡◌, ℕ, Bool, [], Some, Result, Ok, Err, inr, sym, subst}
use Rattle.fluid_types.specs.declared.entries.Raw.TheVariants.{Report}
use Rattle.fluid_types.specs.declared.verdicts.Verdict.{Verdict}
use Rattle.fluid_scribe.specs.declared.job.Job.{Job}
use Rattle.fluid_store.specs.Storing.{Storing}
use Rattle.fluid_versions.specs.Versions.{PutsVersion}
use Rattle.fluid_lane.specs.declared.fault.LaneFault.{LaneFault}
use Rattle.fluid_lane.specs.declared.fault.LaneFault.TheVariants.{LogFailed, Full, BadRecord, NoCheckpoint, CheckpointsFull, TooManyClients, DeltaFailed, NoMemory, BadCheckpoint, TooLarge, Worn}
use Rattle.fluid_lane.specs.Steps.{steps_of, entered_by}
use Rattle.fluid_doors.specs.declared.bench.Terms.{Terms}
use Rattle.fluid_doors.specs.declared.ends.ScribeFault.{ScribeFault}
use Rattle.fluid_doors.specs.Passing.{APass, Grows}
use Rattle.fluid_doors.specs.Entering.{Reports}
use Rattle.fluid_doors.specs.Scribing.{IsJobOf, Concludes, Scribes, of_lane}

by_fault : (t : Terms) (p q : APass) (moment : ℕ) (old new : Storing) (fault : LaneFault) → Concludes t p q moment old new (Err fault) → Scribes t p q moment old new (Err (of_lane fault))
by_fault t p q moment old new (LogFailed note) concludes = (concludes, tt)
by_fault t p q moment old new (Full n) concludes = (concludes, tt)
by_fault t p q moment old new (BadRecord n) concludes = (concludes, tt)
by_fault t p q moment old new (NoCheckpoint a b) concludes = (concludes, tt)
by_fault t p q moment old new CheckpointsFull concludes = (concludes, tt)
by_fault t p q moment old new TooManyClients concludes = (concludes, tt)
by_fault t p q moment old new (DeltaFailed note) concludes = (concludes, tt)
by_fault t p q moment old new NoMemory concludes = inr (inr concludes)
by_fault t p q moment old new (BadCheckpoint n f) concludes = (concludes, tt)
by_fault t p q moment old new (TooLarge n) concludes = (concludes, tt)
by_fault t p q moment old new Worn concludes = (concludes, tt)

pub scribes_lane : (t : Terms) (p mid q : APass) (moment : ℕ) (old new : Storing) (pending : Job) (found : Bool) (answer : Result Verdict LaneFault) (fault : LaneFault) (given : ScribeFault)
    → Grows p mid [] (IsJobOf t (Some pending)) → PutsVersion pending old new (Ok found)
    → Grows mid q (steps_of (entered_by (Report pending.summary found moment)) answer) (Reports t (Report pending.summary found moment) answer)
    → answer ≡ Err fault → given ≡ of_lane fault → Scribes t p q moment old new (Err given)
scribes_lane t p mid q moment old new pending found answer fault given looks puts reports is same =
    subst (λ f. Scribes t p q moment old new (Err f)) (sym same)
    (by_fault t p q moment old new fault (record {
      mid = mid;
      pending = pending;
      found = found;
      looks = looks;
      puts = puts;
      reports = subst (λ a. Grows mid q (steps_of (entered_by (Report pending.summary found moment)) a) (Reports t (Report pending.summary found moment) a)) is reports;
    }))
