-- A world behind a step that may be refused.
use Rattle.std.proofs.Common.{◌≡◌, Option, Some, None, refl, sym, ap, subst, ◌∙◌}
use Rattle.std.specs.Prelude.{if◌then◌else◌, is_some}
use Rattle.fluid_table.specs.Table.{Values}
use Rattle.fluid_rules.specs.declared.limits.Limits.{Limits}
use Rattle.fluid_store.specs.Storing.{Storing}
use Rattle.fluid_lanes.specs.Opened.{Opened}
use Rattle.fluid_steps.specs.declared.steps.Step.{Step}
use Rattle.fluid_steps.specs.declared.refusal.LineWhy.{LineWhy}
use Rattle.fluid_transcript.specs.World.{World}
use Rattle.fluid_transcript.specs.Steps.{refusal}
use Rattle.fluid_transcript.specs.Transcript.{done}
use Rattle.fluid_transcript.specs.Sound.{IsSound}
use Rattle.fluid_transcript.proofs.Stepping.{done_leaves}
use Rattle.fluid_holding.specs.Holding.{HoldsOwn}
use Rattle.fluid_desk.specs.declared.stop.Stop.{Stop}
use Rattle.fluid_desk.specs.Stopping.{MayStop}
use Rattle.fluid_world.specs.declared.named.Named.{Named}
use Rattle.fluid_world.specs.Naming.{refusal_by}
use Rattle.fluid_world.specs.Standing.{WorldStands}
use Rattle.fluid_world.proofs.Behind.{same_refusal}
use Rattle.fluid_workload.specs.Working.{behind_step}
use Rattle.fluid_holding.proofs.Owned.{step_own}

module _ (limits : Limits) (w : World) (step : Step) where
  -- by what the world says of it
  abbrev by_refusal : Option LineWhy → World
  by_refusal o = if is_some o then w else (done limits w step).world

  pub own_behind : HoldsOwn w.store → HoldsOwn (behind_step limits w step).store
  own_behind holds = by (refusal w step)
    where
      by : (o : Option LineWhy) → HoldsOwn (by_refusal o).store
      by None = step_own limits w step holds
      by (Some why) = holds

  pub moment_behind : IsSound w → (behind_step limits w step).moment ≡ w.moment
  moment_behind sound = by (refusal w step) refl
    where
      by : (o : Option LineWhy) → refusal w step ≡ o → (by_refusal o).moment ≡ w.moment
      by None is = (done_leaves limits w sound step is).moment
      by (Some why) is = refl

  module _ (o : Opened) (store : Storing) (names : Values Named) (stands : WorldStands o store names w) where
    pub refused_takes : (why : LineWhy) → Some why ≡ refusal_by names step → WorldStands o store names (behind_step limits w step)
    refused_takes why is = subst (WorldStands o store names) (sym (ap by_refusal (same_refusal names w stands.named step ∙ sym is))) stands

    pub accepted_takes : None ≡ refusal_by names step → (new : Opened) (now : Storing) (given : Values Named) → WorldStands new now given (done limits w step).world → WorldStands new now given (behind_step limits w step)
    accepted_takes is new now given takes = subst (WorldStands new now given) (sym (ap by_refusal (same_refusal names w stands.named step ∙ sym is))) takes

    pub accepted_may : None ≡ refusal_by names step → (new : Opened) (stop : Stop) → MayStop (done limits w step).world new stop → MayStop (behind_step limits w step) new stop
    accepted_may is new stop may = subst (λ v. MayStop v new stop) (sym (ap by_refusal (same_refusal names w stands.named step ∙ sym is))) may
