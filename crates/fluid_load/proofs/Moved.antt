-- A workload behind a step that may be refused.
use Rattle.std.proofs.Common.{◌≡◌, ◌⊎◌, inl, inr, ℕ, ◌≤◌, ◌<◌, arith, true, Option, Some, None, Ok, Err, refl, sym, ap, subst}
use Rattle.std.specs.Prelude.{if◌then◌else◌, is_some}
use Rattle.fluid_types.specs.Forms.{largest}
use Rattle.fluid_rules.specs.declared.limits.Limits.{Limits}
use Rattle.fluid_loader.specs.declared.link.Pick.TheVariants.{Empty}
use Rattle.fluid_steps.specs.declared.steps.Step.{Step}
use Rattle.fluid_steps.specs.declared.steps.Step.TheVariants.{Load}
use Rattle.fluid_steps.specs.declared.refusal.LineWhy.{LineWhy}
use Rattle.fluid_transcript.specs.World.{World, document, is_open, does}
use Rattle.fluid_transcript.specs.Steps.{refusal, refusal_as_new, beyond}
use Rattle.fluid_transcript.specs.Transcript.{readied, done, done_in}
use Rattle.fluid_transcript.specs.Sound.{IsSound}
use Rattle.fluid_transcript.proofs.Sounds.{open_stays}
use Rattle.fluid_transcript.proofs.Stepping.{readied_open, done_leaves}
use Rattle.fluid_desk.specs.declared.stop.Stop.{Stop}
use Rattle.fluid_desk.specs.Stands.{DeskStands}
use Rattle.fluid_desk.specs.Stopping.{HasRun}
use Rattle.fluid_containers.specs.Stepping.{MayStand}
use Rattle.fluid_world.specs.Naming.{AreBounded}
use Rattle.fluid_workload.specs.Working.{Workload, work, p, behind_step, stepped}
use Rattle.fluid_turns.specs.declared.figures.Figures.{Figures}
use Rattle.fluid_turns.specs.Figuring.{AreFigures}
use Rattle.fluid_turns.specs.Quiet.{IsQuietStep}
use Rattle.fluid_turns.proofs.Quiet.{steps_go_quietly}
use Rattle.fluid_turns.proofs.Tallied.{entries_counted}
use Rattle.fluid_load.specs.Standing.{AtWork, WorkStands, WorkGoes, IsNew, WorkBegins, PassTakes, Passes, GrowsBy, WearsBy, ActsOn, HasNumbers, LeadsTo, Works, Opens, CanPass, with_nacked}
use Rattle.fluid_load.specs.Acting.{step_done, loaded_first}
use Rattle.fluid_load.specs.Quiet.{IsOwnStep, Submits}
use Rattle.fluid_load.proofs.Parts.{Ended, stop_wears}
use Rattle.fluid_load.proofs.Grown.{step_grows, first_grows}
use Rattle.fluid_load.proofs.Worked.{passed_works, submitted_works}

-- ---- before it

pub may_stand : (s : AtWork) → CanPass s → MayStand s.good s.lanes
may_stand s can good = by (can.may good)
  where
    by : (w : Workload) × WorkStands s w → (w : World) × DeskStands s.lanes w
    by (w, h) = (w.world, h.stands.desk)

pub few_left : (s : AtWork) → HasNumbers 1 s → (n : ℕ) × (AreBounded n s.names × (n < largest))
few_left s (n, (counted, room)) = (n, (counted, omega (arith, room)))

-- ---- behind it

pub has_passed : (w : Workload) (old new : AtWork) (r : Ended) → new.sent ≡ old.sent → new.tally ≡ old.tally → PassTakes w.world new.lanes new.store new.names r → Passes w old new r
has_passed w old new (Ok done) sent tally takes = record { stands = takes; sent = sent; tally = tally }
has_passed w old new (Err stop) sent tally takes = takes

-- a document that is open stays so
pub open_behind : (limits : Limits) (w : World) (step : Step) → IsSound w → is_open w work ≡ true → is_open (behind_step limits w step) work ≡ true
open_behind limits w step sound opened = by (refusal w step) refl
  where
    by : (o : Option LineWhy) → refusal w step ≡ o → is_open (if is_some o then w else (done limits w step).world) work ≡ true
    by None is = open_stays w (done limits w step).world (done_leaves limits w sound step is).leaves.grows work opened
    by (Some why) is = opened

-- the load of the first container opens it
opened_first : (limits : Limits) (w : World) → IsNew w → is_open (behind_step limits w (Load p work Empty)) work ≡ true
opened_first limits w new =
    let accepted : refusal w (Load p work Empty) ≡ None = ap refusal_as_new new.name in
    subst (λ (o : Option LineWhy). is_open (if is_some o then w else (done limits w (Load p work Empty)).world) work ≡ true) (sym accepted)
    (subst (λ b. is_open (if b then does (beyond limits w work (Load p work Empty)) None w else done_in limits (readied w work) work (Load p work Empty)).world work ≡ true) (sym new.within) (readied_open w work))

opened : (limits : Limits) (w : World) → IsSound w → (is_open w work ≡ true) ⊎ IsNew w → is_open (behind_step limits w (Load p work Empty)) work ≡ true
opened limits w sound (inl is) = open_behind limits w (Load p work Empty) sound is
opened limits w sound (inr new) = opened_first limits w new

-- what a step owes
abbrev pub Passing : Step → AtWork → AtWork → Ended → Type 0
Passing step old new r = (w : Workload) → old.good ≡ true → WorkStands old w → Passes (stepped old.lanes.limits w step) old new r

module _ (step : Step) (old new : AtWork) where
  -- it adds one entry at most
  step_wears : (r : Ended) → ActsOn 1 old new r → Passing step old new r → (w : Workload) (first steps : ℕ) → old.good ≡ true → WorkStands old w → GrowsBy 1 w.world (behind_step old.lanes.limits w.world step) → HasRun first steps old.lanes
      → WearsBy steps 1 w.world (behind_step old.lanes.limits w.world step) r
  step_wears (Ok done) on passes w first steps good stands grows run = grows
  step_wears (Err stop) on passes w first steps good stands grows run =
      stop_wears steps 1 w.world (behind_step old.lanes.limits w.world step) new.lanes stop grows (on.runs first steps run).few (passes w good stands)

  own_wears : (r : Ended) → IsOwnStep step → ActsOn 1 old new r → Passing step old new r → (w : Workload) (first steps : ℕ) → old.good ≡ true → WorkGoes old w → HasRun first steps old.lanes
      → WearsBy steps 1 w.world (behind_step old.lanes.limits w.world step) r
  own_wears r own on passes w first steps good goes run =
      step_wears r on passes w first steps good goes.stands (step_grows old.lanes.limits w.world step own goes.stands.stands.sound goes.open_is) run

  pub step_works : (r : Ended) → IsQuietStep step → IsOwnStep step → ActsOn 1 old new r → Passing step old new r → Works 1 (step_done step) old new r
  step_works r quiet own on passes = record { on = on; leads = λ w good goes. by w goes r (passes w good goes.stands); wears = own_wears r own on passes }
    where
      by : (w : Workload) → WorkGoes old w → (r : Ended) → Passes (stepped old.lanes.limits w step) old new r → LeadsTo (stepped old.lanes.limits w step) new r
      by w goes (Ok done) h = record {
        stands = passed_works steps_go_quietly old.lanes.limits step w old new quiet goes.stands h;
        open_is = open_behind old.lanes.limits w.world step goes.stands.stands.sound goes.open_is;
      }
      by w goes (Err stop) h = tt

  pub opening_opens : (r : Ended) → step ≡ Load p work Empty → ActsOn 1 old new r → Passing step old new r → Opens 1 loaded_first old new r
  opening_opens r is on passes = record {
    on = on;
    leads = λ w good goes. by w goes r (subst (λ s. Passing s old new r) is passes w good goes.stands);
    wears = λ w first steps good goes run.
        subst (λ s. WearsBy steps 1 w.world (behind_step old.lanes.limits w.world s) r) is
        (step_wears r on passes w first steps good goes.stands
        (subst (λ s. GrowsBy 1 w.world (behind_step old.lanes.limits w.world s)) (sym is) (first_grows old.lanes.limits w.world goes.stands.stands.sound goes.opens)) run);
  }
    where
      by : (w : Workload) → WorkBegins old w → (r : Ended) → Passes (stepped old.lanes.limits w (Load p work Empty)) old new r → LeadsTo (stepped old.lanes.limits w (Load p work Empty)) new r
      by w goes (Ok done) h = record {
        stands = passed_works steps_go_quietly old.lanes.limits (Load p work Empty) w old new tt goes.stands h;
        open_is = opened old.lanes.limits w.world goes.stands.stands.sound goes.opens;
      }
      by w goes (Err stop) h = tt

  -- it was nothing but honest
  pub stopped_works : (stop : Stop) → IsOwnStep step → ActsOn 1 old new (Err stop) → Passing step old new (Err stop) → Works 1 (step_done step) old new (Err stop)
  stopped_works stop own on passes = record { on = on; leads = λ w good goes. tt; wears = own_wears (Err stop) own on passes }

-- what is said of the numbers of the document
abbrev pub Figured : Figures → AtWork → Type 0
Figured f s = (w : World) → DeskStands s.lanes w → is_open w work ≡ true → AreFigures f (document w work)

pub submitting_works : (step : Step) (old mid : AtWork) (f g : Figures) → IsOwnStep step → Submits step → ActsOn 1 old mid (Ok tt) → Passing step old mid (Ok tt) → Figured f old → Figured g mid → g.entries ≤ largest
    → Works 1 (step_done step) old (record mid { tally = with_nacked f g mid.tally }) (Ok tt)
submitting_works step old mid f g own submits on passes before after few = record {
  on = record { limits = on.limits; good = on.good; counts = on.counts; runs = on.runs; numbers = on.numbers };
  leads = λ w good goes.
      let l = old.lanes.limits in
      let passed = passes w good goes.stands in
      let opened_is = open_behind l w.world step goes.stands.stands.sound goes.open_is in
      record {
        stands =
            submitted_works entries_counted l step w old mid f g submits goes.stands passed (before w.world goes.stands.stands.desk goes.open_is)
            (after (behind_step l w.world step) passed.stands.desk opened_is) few;
        open_is = opened_is;
      };
  wears = own_wears step old mid (Ok tt) own on passes;
}

-- the same between calls that leave it as it is
pub submitted_so : (step : Step) (old zero mid one new : AtWork) (f g : Figures) → zero ≡ old → one ≡ mid → new ≡ record one { tally = with_nacked f g one.tally } → IsOwnStep step → Submits step → ActsOn 1 zero mid (Ok tt) → Passing step zero mid (Ok tt)
    → Figured f old → Figured g mid → g.entries ≤ largest → Works 1 (step_done step) old new (Ok tt)
submitted_so step old zero mid one new f g zero_is one_is new_is own submits on passes before after few =
    subst (λ s. Works 1 (step_done step) old s (Ok tt)) (sym new_is)
    (subst (λ (s : AtWork). Works 1 (step_done step) old (record s { tally = with_nacked f g s.tally }) (Ok tt)) (sym one_is)
    (submitting_works step old mid f g own submits (subst (λ s. ActsOn 1 s mid (Ok tt)) zero_is on) (subst (λ s. Passing step s mid (Ok tt)) zero_is passes) before after few))

pub submitted_not : (step : Step) (old zero mid : AtWork) (stop : Stop) → zero ≡ old → IsOwnStep step → ActsOn 1 zero mid (Err stop) → Passing step zero mid (Err stop) → Works 1 (step_done step) old mid (Err stop)
submitted_not step old zero mid stop zero_is own on passes = stopped_works step old mid stop own (subst (λ s. ActsOn 1 s mid (Err stop)) zero_is on) (subst (λ s. Passing step s mid (Err stop)) zero_is passes)
