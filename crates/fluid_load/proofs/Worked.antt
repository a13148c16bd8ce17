-- A workload behind a step: what was counted.
use Rattle.std.proofs.Common.{◌≡◌, ℕ, ◌+◌, ◌-◌, ◌≤◌, ◌^◌, arith, Bool, cond, ◌++◌, length, sym, ap, subst, ◌∙◌}
use Rattle.std.specs.Prelude.{min}
use Rattle.std.proofs.Math.Nat.{min-le_left}
use Rattle.std.proofs.lemmas.List.Sums.{sum_by-append}
use Rattle.fluid_types.specs.Ledger.{Ledger, seq}
use Rattle.fluid_types.specs.declared.verdicts.Verdict.{Verdict}
use Rattle.fluid_rules.specs.declared.limits.Limits.{Limits}
use Rattle.fluid_types.specs.Forms.{largest}
use Rattle.fluid_steps.specs.declared.steps.Step.{Step}
use Rattle.fluid_transcript.specs.World.{Document, document, ledger_of}
use Rattle.fluid_transcript.proofs.Fitting.{length_ledger}
use Rattle.fluid_workload.specs.Working.{Workload, work, work_ledger, behind_step, stepped}
use Rattle.fluid_voice.specs.Replies.{is_dropped, is_nacked}
use Rattle.fluid_workload.specs.Summary.{count, is_absorbed}
use Rattle.fluid_turns.specs.declared.figures.Figures.{Figures}
use Rattle.fluid_turns.specs.declared.tally.Tally.{Tally}
use Rattle.fluid_turns.specs.Figuring.{AreFigures}
use Rattle.fluid_turns.specs.Quiet.{IsQuietStep, GoesQuietly, StepsGoQuietly}
use Rattle.fluid_turns.specs.Tallying.{IsTally, EntriesAreCounted}
use Rattle.fluid_load.specs.Standing.{AtWork, WorkStands, HasPassed, unsequenced, with_nacked}
use Rattle.fluid_load.specs.Quiet.{GoesSubmitting, Submits}
use Rattle.fluid_load.proofs.Passed.{own_behind, moment_behind}

more_counted : (kind : Verdict → Bool) (old more new : Ledger) → new ≡ old ++ more → count kind new ≡ count kind old + count kind more
more_counted kind old more new is = ap (count kind) is ∙ sum_by-append (λ entry. cond (kind entry.1) 1 0) old more

quiet_tally : (old new : Ledger) (t : Tally) → GoesQuietly old new → IsTally old t → IsTally new t
quiet_tally old new t goes is = record {
  absorbed = omega (arith, is.absorbed, more_counted is_absorbed old goes.more new goes.is, goes.absorbed);
  nacked = omega (arith, is.nacked, more_counted is_nacked old goes.more new goes.is, goes.nacked);
}

-- behind a step by which nobody submits
pub passed_works : StepsGoQuietly → (limits : Limits) (step : Step) (w : Workload) (old new : AtWork) → IsQuietStep step → WorkStands old w → HasPassed (stepped limits w step) old new → WorkStands new (stepped limits w step)
passed_works quietly limits step w old new quiet is passed = record {
  stands = passed.stands;
  moment = moment_behind limits w.world step is.stands.sound ∙ is.moment;
  owned = own_behind limits w.world step is.owned;
  sent = passed.sent ∙ is.sent;
  tally = subst (IsTally (work_ledger (stepped limits w step))) (sym passed.tally) (quiet_tally (work_ledger w) (work_ledger (stepped limits w step)) old.tally (quietly limits w.world step quiet) is.tally);
}

-- ---- a container's submission

least : (n : ℕ) → n ≤ 2 ^ 64 - 1 → min n (2 ^ 64 - 1) ≡ n
least n h =
    let low : n ≤ min n (2 ^ 64 - 1) = omega (arith, h) in
    omega (arith, low, min-le_left n (2 ^ 64 - 1))

submitted_tally : EntriesAreCounted → (old new : Ledger) (t : Tally) (before after : ℕ) → GoesSubmitting old new → IsTally old t → before ≡ length old - seq old → after ≡ length new - seq new → after ≤ largest
    → IsTally new (record t { nacked = min (t.nacked + (after - before)) (2 ^ 64 - 1) })
submitted_tally counted old new t before after goes is was now few =
    let a = counted old in
    let b = counted new in
    let absorbed = more_counted is_absorbed old goes.more new goes.is in
    let nacked = more_counted is_nacked old goes.more new goes.is in
    let dropped = more_counted is_dropped old goes.more new goes.is in
    let more : t.nacked + (after - before) ≡ count is_nacked new = omega (arith, a, b, absorbed, nacked, dropped, goes.absorbed, goes.dropped, is.nacked, was, now) in
    record {
      absorbed = omega (arith, is.absorbed, absorbed, goes.absorbed);
      nacked = least (t.nacked + (after - before)) (omega (arith, more, b, now, few)) ∙ more;
    }

unsequenced_is : (d : Document) (f : Figures) → AreFigures f d → f.entries - f.sequence ≡ length (ledger_of d) - seq (ledger_of d)
unsequenced_is d f are = omega (arith, are.entries, are.sequence, length_ledger d.raws)

-- behind a step by which a container submits
pub submitted_works : EntriesAreCounted → (limits : Limits) (step : Step) (w : Workload) (old mid : AtWork) (f g : Figures) → Submits step → WorkStands old w → HasPassed (stepped limits w step) old mid
    → AreFigures f (document w.world work) → AreFigures g (document (behind_step limits w.world step) work) → g.entries ≤ largest
    → WorkStands (record mid { tally = with_nacked f g mid.tally }) (stepped limits w step)
submitted_works counted limits step w old mid f g submits is passed was now few =
    let before = document w.world work in
    let after = document (behind_step limits w.world step) work in
    record {
      stands = passed.stands;
      moment = moment_behind limits w.world step is.stands.sound ∙ is.moment;
      owned = own_behind limits w.world step is.owned;
      sent = passed.sent ∙ is.sent;
      tally =
          subst (λ t. IsTally (work_ledger (stepped limits w step)) (with_nacked f g t)) (sym passed.tally)
          (submitted_tally counted (ledger_of before) (ledger_of after) old.tally (unsequenced f) (unsequenced g) (submits limits w.world old.lanes old.store old.names is.stands) is.tally (unsequenced_is before f was) (unsequenced_is after g now)
          (omega (arith, few)));
    }
