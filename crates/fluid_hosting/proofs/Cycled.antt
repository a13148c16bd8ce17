-- Cycles of a session one behind another.
use Rattle.std.proofs.Common.{◌≡◌, ◌<◌, ◌≤◌, Option, Some, None, Ok, refl, arith}
use Rattle.fluid_store.specs.Storing.{Storing}
use Rattle.fluid_lines.specs.Wires.{Wiring}
use Rattle.fluid_service.specs.Visiting.{Visiting}
use Rattle.fluid_service.specs.Keys.{AKey}
use Rattle.fluid_connection.specs.Talked.{Talked, talking}
use Rattle.fluid_session.specs.declared.report.Report.{Report}
use Rattle.fluid_session.specs.declared.tally.Tally.{Tally}
use Rattle.fluid_session.specs.Counted.{nothing}
use Rattle.fluid_session.specs.Running.{Runs}
use Rattle.fluid_session.specs.Whole.{Serves}
use Rattle.fluid_session.proofs.Onward.{runs_still, runs_then}
use Rattle.fluid_session.proofs.Wholly.{concluded}
use Rattle.fluid_hosting.specs.Hosting.{unconnected, standing, Cycles, ComesTo}
use Rattle.fluid_hosting.proofs.Visits.{visits_served}

-- before its first cycle
pub comes_first : (key : AKey) (visit : Option Visiting) (store : Storing) (wire : Wiring)
    → Runs (standing (unconnected key visit) store) (standing (unconnected key visit) store) wire wire nothing nothing (Ok tt)
comes_first key visit store wire = runs_still _ nothing wire wire (omega arith) refl refl (omega arith) (omega arith)

-- behind one cycle more
pub comes_further : (key : AKey) (visit : Option Visiting) (before mid now : Storing) (old at new : Wiring) (t u : Talked) (had has : Tally) (result : Option Report)
    → Runs (standing (unconnected key visit) before) (standing t mid) old at nothing had (Ok tt) → Cycles t u mid now at new had has result → ComesTo key visit before now old new u has result
comes_further key visit before mid now old at new t u had has None come cycle = runs_then _ _ _ _ _ _ _ _ _ _ come cycle.runs
comes_further key visit before mid now old at new t u had has (Some report) come cycle =
    let serves : Serves (talking (unconnected key visit)) (talking u) before now old new report =
    concluded _ _ _ _ _ _ _ _ _ _ (runs_then _ _ _ _ _ _ _ _ _ _ come cycle.cycles.runs) cycle.concludes in
    let outcome = serves.outcome refl in
    record {
      left = u;
      serves = serves;
      outcome = outcome;
      key_is = refl;
      visit_is = refl;
      served = λ is. visits_served key visit _ u _ report _ outcome is;
    }
