-- Where a workload is done its last line is `loaded same`.
use Rattle.std.proofs.Common.{◌≡◌, ℕ, ◌*◌, true, List, [], length, Option, Some, None, Ok, Err, IfSome, is_some, refl, sym, ap, subst, ◌∙◌}
use Rattle.std.specs.FinMap.{get}
use Rattle.fluid_io.specs.Streams.{Writing}
use Rattle.fluid_log.specs.Shelving.{Shelving, keeper_under}
use Rattle.fluid_log.specs.Keeping.{Keeping}
use Rattle.fluid_store.specs.Storing.{Storing}
use Rattle.fluid_rules.specs.declared.limits.Limits.{Limits}
use Rattle.fluid_document.specs.Kept.{IsKept}
use Rattle.fluid_gen.specs.Acts.{acts}
use Rattle.fluid_gen.specs.declared.act.Act.{Act}
use Rattle.fluid_lane.specs.Standing.{Standing, IsTold}
use Rattle.fluid_lanes.specs.Opened.{nothing_open}
use Rattle.fluid_door_link.specs.Hushing.{hushed, IsShortAsTold}
use Rattle.fluid_door_link.proofs.Told.{told_at}
use Rattle.fluid_desk.specs.Stands.{IsDocument, IsLaneOf}
use Rattle.fluid_desk.specs.declared.stop.Stop.{Stop}
use Rattle.fluid_desk.specs.declared.stop.Stop.TheVariants as stop
use Rattle.fluid_transcript.specs.World.{World, Document, document}
use Rattle.fluid_workload.specs.Working.{work, Workload, begun, behind_acts}
use Rattle.fluid_workload.specs.Summary.{behind_all}
use Rattle.fluid_world.specs.declared.ends.ScriptEnd.{ScriptEnd}
use Rattle.fluid_world.specs.declared.ends.ScriptEnd.TheVariants as end
use Rattle.fluid_world.specs.Ending.{end_for}
use Rattle.fluid_alike.specs.Alike.{IsReadable, HasRoom, EndsSame, WorkloadsEndSame}
use Rattle.fluid_load.specs.Standing.{AtWork, WorkGoes, WorkBegins, LeadsTo, Opens}
use Rattle.fluid_load.specs.Acting.{acted_all}
use Rattle.fluid_load.specs.Ending.{IsNewDeskOf}
use Rattle.fluid_load.specs.Running.{IsBegun, Finishes}
use Rattle.fluid_load.proofs.Parts.{Ended}
use Rattle.fluid_load.proofs.Whole.{begins_at_first}

-- ---- what stands can be read

lane_open : (limits : Limits) (o : Option Standing) (keeper : Keeping) (d : Document) → IsDocument limits o keeper true d → (lane : Standing) × IsLaneOf limits lane d
lane_open limits None keeper d is = absurd is
lane_open limits (Some lane) keeper d is = (lane, is)

readable_at : (s : AtWork) (w : Workload) → WorkGoes s w → IsShortAsTold s.store → IsReadable w.world
readable_at s w goes short =
    let desk = goes.stands.stands.desk in
    let lane = lane_open s.lanes.limits (get s.lanes.lanes work) (keeper_under desk.held work) (document w.world work)
    (subst (λ b. IsDocument s.lanes.limits (get s.lanes.lanes work) (keeper_under desk.held work) b (document w.world work)) goes.open_is (desk.documents work)) in
    let told = told_at (IsTold lane.0 lane.1.list) lane.0.keeping.content lane.1.content lane.1.told lane.1.stands.told in
    let kept = subst (λ l. IsKept lane.0.owed l lane.1.content) lane.1.entries told.stands.kept in
    record { entries = kept.loggable; few = kept.few; short = short w.world.store goes.stands.stands.held }

-- ---- how it ended

not_done : (x : Stop) → end_for x ≡ end.Done → ⊥
not_done (stop.KeeperFault note) is = cc
not_done (stop.StoreFault note) is = cc
not_done (stop.BadStored fault) is = cc
not_done stop.NoMemory is = cc

module _ (law : WorkloadsEndSame) (shelves : Shelving) (store : Storing) (old new : Writing) (limits : Limits) (number clients ops : ℕ) (all : List Act) (are : all ≡ acts number clients ops) (first s t : AtWork) (r : Ended) (e : ScriptEnd)
    (opens : Opens (5 * length all) (acted_all all) first s r) (same : t ≡ s) (short : IsShortAsTold t.store) (ends : Finishes r old new e) (done : e ≡ end.Done) (room : HasRoom limits clients ops) where
  same_for : (w : World) → IsNewDeskOf shelves store w → first.good ≡ true → first.lanes.limits ≡ limits → WorkBegins first (begun w) → EndsSame limits w number clients ops
  same_for w is good limited begins = by r refl led
    where
      led : LeadsTo (behind_all limits w number clients ops) s r
      led = subst (λ acts. LeadsTo (behind_acts limits (begun w) acts) s r) are (subst (λ l. LeadsTo (behind_acts l (begun w) all) s r) limited (opens.leads (begun w) good begins))

      by : (x : Ended) → r ≡ x → LeadsTo (behind_all limits w number clients ops) s r → EndsSame limits w number clients ops
      by (Err x) at leads = absurd (not_done x (sym (subst (λ x. Finishes x old new e) at ends).0 ∙ done))
      by (Ok finished) at leads =
          let goes = subst (LeadsTo (behind_all limits w number clients ops) s) at leads in
          let readable = readable_at s (behind_all limits w number clients ops) goes (subst (λ (x : AtWork). IsShortAsTold x.store) same short) in
          subst (λ v. EndsSame limits v number clients ops) (sym is.desk.first)
          (law limits w.documents w.store number clients ops room (subst (λ v. (document v work).raws ≡ []) is.desk.first is.no_entry) (subst (λ v. IsReadable (behind_all limits v number clients ops).world) is.desk.first readable))

  pub same_told : (told : Option World) → IfSome told (IsNewDeskOf shelves store) → IsBegun (nothing_open shelves limits) (hushed (is_some told) store) (is_some told) first → IfSome told (λ w. EndsSame limits w number clients ops)
  same_told None is begun_is = tt
  same_told (Some w) is begun_is =
      same_for w is (ap (λ (x : AtWork). x.good) begun_is) (ap (λ (x : AtWork). x.lanes.limits) begun_is) (subst (λ x. WorkBegins x (begun w)) (sym begun_is) (begins_at_first shelves limits store w is))
