use Rattle.std.proofs.Common.{rules, subst, FitsSigned, w64}
use Rattle.std.proofs.lemmas.Int.{to_z-of_z}
use Rattle.fluid_voice.specs.declared.actions.Act.TheVariants as act
use Rattle.fluid_voice.specs.Fitting.{IsFitting}
use Rattle.fluid_acts.proofs.Arms.{of_same, says, by_lane, by_store, content_stays, get_steps, put_steps}
use Rattle.fluid_acts.proofs.doing.do_act.Goals as goal

pub connect-requires : goal.connect-requires
connect-requires g c = subst (λ a. IsFitting a) c.in-Connect.is c.requires

pub enter-requires-clause-kind : goal.enter-requires-clause-kind
enter-requires-clause-kind g c = (subst (λ a. IsFitting a) c.in-Enter.is c.requires).0

pub enter-requires-clause-fits : goal.enter-requires-clause-fits
enter-requires-clause-fits g c = (subst (λ a. IsFitting a) c.in-Enter.is c.requires).1

pub returns-in-Say-clause-lane : goal.returns-in-Say-clause-lane
returns-in-Say-clause-lane g c = (of_same _ _ _ _ _ _ _ c.in-Say.is (says _ c.args.lane.now (g.O.Objects.seen c.args.objects.now))).lane

pub returns-in-Say-clause-store : goal.returns-in-Say-clause-store
returns-in-Say-clause-store g c = (of_same _ _ _ _ _ _ _ c.in-Say.is (says _ c.args.lane.now (g.O.Objects.seen c.args.objects.now))).store

pub returns-in-Say-clause-end : goal.returns-in-Say-clause-end
returns-in-Say-clause-end g c = (of_same _ _ _ _ _ _ _ c.in-Say.is (says _ c.args.lane.now (g.O.Objects.seen c.args.objects.now))).end

pub returns-in-Say-clause-suits : goal.returns-in-Say-clause-suits
returns-in-Say-clause-suits g c = (of_same _ _ _ _ _ _ _ c.in-Say.is (says _ c.args.lane.now (g.O.Objects.seen c.args.objects.now))).suits

pub returns-in-Say-clause-cause : goal.returns-in-Say-clause-cause
returns-in-Say-clause-cause g c = (of_same _ _ _ _ _ _ _ c.in-Say.is (says _ c.args.lane.now (g.O.Objects.seen c.args.objects.now))).cause

pub returns-in-Connect-clause-lane : goal.returns-in-Connect-clause-lane
returns-in-Connect-clause-lane g c = (of_same _ _ _ _ _ _ _ c.in-Connect.is (by_lane (act.Connect _ _ _ _ _) c.args.lane.now c.connect.new.lane (g.O.Objects.seen c.args.objects.now) _ (content_stays _) (λ l held told. told) (c.connect.ensures _))).lane

pub returns-in-Connect-clause-store : goal.returns-in-Connect-clause-store
returns-in-Connect-clause-store g c = (of_same _ _ _ _ _ _ _ c.in-Connect.is (by_lane (act.Connect _ _ _ _ _) c.args.lane.now c.connect.new.lane (g.O.Objects.seen c.args.objects.now) _ (content_stays _) (λ l held told. told) (c.connect.ensures _))).store

pub returns-in-Connect-clause-end : goal.returns-in-Connect-clause-end
returns-in-Connect-clause-end g c = (of_same _ _ _ _ _ _ _ c.in-Connect.is (by_lane (act.Connect _ _ _ _ _) c.args.lane.now c.connect.new.lane (g.O.Objects.seen c.args.objects.now) _ (content_stays _) (λ l held told. told) (c.connect.ensures _))).end

pub returns-in-Connect-clause-suits : goal.returns-in-Connect-clause-suits
returns-in-Connect-clause-suits g c = (of_same _ _ _ _ _ _ _ c.in-Connect.is (by_lane (act.Connect _ _ _ _ _) c.args.lane.now c.connect.new.lane (g.O.Objects.seen c.args.objects.now) _ (content_stays _) (λ l held told. told) (c.connect.ensures _))).suits

pub returns-in-Connect-clause-cause : goal.returns-in-Connect-clause-cause
returns-in-Connect-clause-cause g c = (of_same _ _ _ _ _ _ _ c.in-Connect.is (by_lane (act.Connect _ _ _ _ _) c.args.lane.now c.connect.new.lane (g.O.Objects.seen c.args.objects.now) _ (content_stays _) (λ l held told. told) (c.connect.ensures _))).cause

pub returns-in-Enter-clause-lane : goal.returns-in-Enter-clause-lane
returns-in-Enter-clause-lane g c = (of_same _ _ _ _ _ _ _ c.in-Enter.is (by_lane (act.Enter _) c.args.lane.now c.enter.new.lane (g.O.Objects.seen c.args.objects.now) _ (content_stays _) (λ l held told. told) (c.enter.ensures))).lane

pub returns-in-Enter-clause-store : goal.returns-in-Enter-clause-store
returns-in-Enter-clause-store g c = (of_same _ _ _ _ _ _ _ c.in-Enter.is (by_lane (act.Enter _) c.args.lane.now c.enter.new.lane (g.O.Objects.seen c.args.objects.now) _ (content_stays _) (λ l held told. told) (c.enter.ensures))).store

pub returns-in-Enter-clause-end : goal.returns-in-Enter-clause-end
returns-in-Enter-clause-end g c = (of_same _ _ _ _ _ _ _ c.in-Enter.is (by_lane (act.Enter _) c.args.lane.now c.enter.new.lane (g.O.Objects.seen c.args.objects.now) _ (content_stays _) (λ l held told. told) (c.enter.ensures))).end

pub returns-in-Enter-clause-suits : goal.returns-in-Enter-clause-suits
returns-in-Enter-clause-suits g c = (of_same _ _ _ _ _ _ _ c.in-Enter.is (by_lane (act.Enter _) c.args.lane.now c.enter.new.lane (g.O.Objects.seen c.args.objects.now) _ (content_stays _) (λ l held told. told) (c.enter.ensures))).suits

pub returns-in-Enter-clause-cause : goal.returns-in-Enter-clause-cause
returns-in-Enter-clause-cause g c = (of_same _ _ _ _ _ _ _ c.in-Enter.is (by_lane (act.Enter _) c.args.lane.now c.enter.new.lane (g.O.Objects.seen c.args.objects.now) _ (content_stays _) (λ l held told. told) (c.enter.ensures))).cause

pub returns-in-Deltas-clause-lane : goal.returns-in-Deltas-clause-lane
returns-in-Deltas-clause-lane g c =
    let low : FitsSigned w64 c.in-Deltas.from = search rules in
    let high : FitsSigned w64 c.in-Deltas.to = search rules in
    (of_same _ _ _ _ _ _ _ c.in-Deltas.is (by_lane (act.Deltas _ _) c.args.lane.now c.messages_asked.new.lane (g.O.Objects.seen c.args.objects.now) _ (content_stays _) (λ l held told. told) (rw (to_z-of_z _ _ low, to_z-of_z _ _ high) at c.messages_asked.ensures))).lane

pub returns-in-Deltas-clause-store : goal.returns-in-Deltas-clause-store
returns-in-Deltas-clause-store g c =
    let low : FitsSigned w64 c.in-Deltas.from = search rules in
    let high : FitsSigned w64 c.in-Deltas.to = search rules in
    (of_same _ _ _ _ _ _ _ c.in-Deltas.is (by_lane (act.Deltas _ _) c.args.lane.now c.messages_asked.new.lane (g.O.Objects.seen c.args.objects.now) _ (content_stays _) (λ l held told. told) (rw (to_z-of_z _ _ low, to_z-of_z _ _ high) at c.messages_asked.ensures))).store

pub returns-in-Deltas-clause-end : goal.returns-in-Deltas-clause-end
returns-in-Deltas-clause-end g c =
    let low : FitsSigned w64 c.in-Deltas.from = search rules in
    let high : FitsSigned w64 c.in-Deltas.to = search rules in
    (of_same _ _ _ _ _ _ _ c.in-Deltas.is (by_lane (act.Deltas _ _) c.args.lane.now c.messages_asked.new.lane (g.O.Objects.seen c.args.objects.now) _ (content_stays _) (λ l held told. told) (rw (to_z-of_z _ _ low, to_z-of_z _ _ high) at c.messages_asked.ensures))).end

pub returns-in-Deltas-clause-suits : goal.returns-in-Deltas-clause-suits
returns-in-Deltas-clause-suits g c =
    let low : FitsSigned w64 c.in-Deltas.from = search rules in
    let high : FitsSigned w64 c.in-Deltas.to = search rules in
    (of_same _ _ _ _ _ _ _ c.in-Deltas.is (by_lane (act.Deltas _ _) c.args.lane.now c.messages_asked.new.lane (g.O.Objects.seen c.args.objects.now) _ (content_stays _) (λ l held told. told) (rw (to_z-of_z _ _ low, to_z-of_z _ _ high) at c.messages_asked.ensures))).suits

pub returns-in-Deltas-clause-cause : goal.returns-in-Deltas-clause-cause
returns-in-Deltas-clause-cause g c =
    let low : FitsSigned w64 c.in-Deltas.from = search rules in
    let high : FitsSigned w64 c.in-Deltas.to = search rules in
    (of_same _ _ _ _ _ _ _ c.in-Deltas.is (by_lane (act.Deltas _ _) c.args.lane.now c.messages_asked.new.lane (g.O.Objects.seen c.args.objects.now) _ (content_stays _) (λ l held told. told) (rw (to_z-of_z _ _ low, to_z-of_z _ _ high) at c.messages_asked.ensures))).cause

pub returns-in-Summary-clause-lane : goal.returns-in-Summary-clause-lane
returns-in-Summary-clause-lane g c = (of_same _ _ _ _ _ _ _ c.in-Summary.is (by_lane (act.Summary _) c.args.lane.now c.args.lane.now (g.O.Objects.seen c.args.objects.now) _ (content_stays _) (λ l held told. told) (c.summary.ensures))).lane

pub returns-in-Summary-clause-store : goal.returns-in-Summary-clause-store
returns-in-Summary-clause-store g c = (of_same _ _ _ _ _ _ _ c.in-Summary.is (by_lane (act.Summary _) c.args.lane.now c.args.lane.now (g.O.Objects.seen c.args.objects.now) _ (content_stays _) (λ l held told. told) (c.summary.ensures))).store

pub returns-in-Summary-clause-end : goal.returns-in-Summary-clause-end
returns-in-Summary-clause-end g c = (of_same _ _ _ _ _ _ _ c.in-Summary.is (by_lane (act.Summary _) c.args.lane.now c.args.lane.now (g.O.Objects.seen c.args.objects.now) _ (content_stays _) (λ l held told. told) (c.summary.ensures))).end

pub returns-in-Summary-clause-suits : goal.returns-in-Summary-clause-suits
returns-in-Summary-clause-suits g c = (of_same _ _ _ _ _ _ _ c.in-Summary.is (by_lane (act.Summary _) c.args.lane.now c.args.lane.now (g.O.Objects.seen c.args.objects.now) _ (content_stays _) (λ l held told. told) (c.summary.ensures))).suits

pub returns-in-Summary-clause-cause : goal.returns-in-Summary-clause-cause
returns-in-Summary-clause-cause g c = (of_same _ _ _ _ _ _ _ c.in-Summary.is (by_lane (act.Summary _) c.args.lane.now c.args.lane.now (g.O.Objects.seen c.args.objects.now) _ (content_stays _) (λ l held told. told) (c.summary.ensures))).cause

pub returns-in-GetObject-clause-lane : goal.returns-in-GetObject-clause-lane
returns-in-GetObject-clause-lane g c = (of_same _ _ _ _ _ _ _ c.in-GetObject.is (by_store (act.GetObject _) c.args.lane.now (g.O.Objects.seen c.args.objects.now) (g.O.Objects.seen c.get_object.new.objects) _ (get_steps _ (g.O.Objects.seen c.args.objects.now) (g.O.Objects.seen c.get_object.new.objects) _ ((c.get_object.ensures).cause) c.args.lane.now) (λ l held told. told) (c.get_object.ensures))).lane

pub returns-in-GetObject-clause-store : goal.returns-in-GetObject-clause-store
returns-in-GetObject-clause-store g c = (of_same _ _ _ _ _ _ _ c.in-GetObject.is (by_store (act.GetObject _) c.args.lane.now (g.O.Objects.seen c.args.objects.now) (g.O.Objects.seen c.get_object.new.objects) _ (get_steps _ (g.O.Objects.seen c.args.objects.now) (g.O.Objects.seen c.get_object.new.objects) _ ((c.get_object.ensures).cause) c.args.lane.now) (λ l held told. told) (c.get_object.ensures))).store

pub returns-in-GetObject-clause-end : goal.returns-in-GetObject-clause-end
returns-in-GetObject-clause-end g c = (of_same _ _ _ _ _ _ _ c.in-GetObject.is (by_store (act.GetObject _) c.args.lane.now (g.O.Objects.seen c.args.objects.now) (g.O.Objects.seen c.get_object.new.objects) _ (get_steps _ (g.O.Objects.seen c.args.objects.now) (g.O.Objects.seen c.get_object.new.objects) _ ((c.get_object.ensures).cause) c.args.lane.now) (λ l held told. told) (c.get_object.ensures))).end

pub returns-in-GetObject-clause-suits : goal.returns-in-GetObject-clause-suits
returns-in-GetObject-clause-suits g c = (of_same _ _ _ _ _ _ _ c.in-GetObject.is (by_store (act.GetObject _) c.args.lane.now (g.O.Objects.seen c.args.objects.now) (g.O.Objects.seen c.get_object.new.objects) _ (get_steps _ (g.O.Objects.seen c.args.objects.now) (g.O.Objects.seen c.get_object.new.objects) _ ((c.get_object.ensures).cause) c.args.lane.now) (λ l held told. told) (c.get_object.ensures))).suits

pub returns-in-GetObject-clause-cause : goal.returns-in-GetObject-clause-cause
returns-in-GetObject-clause-cause g c = (of_same _ _ _ _ _ _ _ c.in-GetObject.is (by_store (act.GetObject _) c.args.lane.now (g.O.Objects.seen c.args.objects.now) (g.O.Objects.seen c.get_object.new.objects) _ (get_steps _ (g.O.Objects.seen c.args.objects.now) (g.O.Objects.seen c.get_object.new.objects) _ ((c.get_object.ensures).cause) c.args.lane.now) (λ l held told. told) (c.get_object.ensures))).cause

pub returns-in-PutObject-clause-lane : goal.returns-in-PutObject-clause-lane
returns-in-PutObject-clause-lane g c = (of_same _ _ _ _ _ _ _ c.in-PutObject.is (by_store (act.PutObject _) c.args.lane.now (g.O.Objects.seen c.args.objects.now) (g.O.Objects.seen c.put_object.new.objects) _ (put_steps _ (g.O.Objects.seen c.args.objects.now) (g.O.Objects.seen c.put_object.new.objects) _ ((rw c.as_slice.ensures at c.put_object.ensures).cause) c.args.lane.now) (λ l held told. told) (rw c.as_slice.ensures at c.put_object.ensures))).lane

pub returns-in-PutObject-clause-store : goal.returns-in-PutObject-clause-store
returns-in-PutObject-clause-store g c = (of_same _ _ _ _ _ _ _ c.in-PutObject.is (by_store (act.PutObject _) c.args.lane.now (g.O.Objects.seen c.args.objects.now) (g.O.Objects.seen c.put_object.new.objects) _ (put_steps _ (g.O.Objects.seen c.args.objects.now) (g.O.Objects.seen c.put_object.new.objects) _ ((rw c.as_slice.ensures at c.put_object.ensures).cause) c.args.lane.now) (λ l held told. told) (rw c.as_slice.ensures at c.put_object.ensures))).store

pub returns-in-PutObject-clause-end : goal.returns-in-PutObject-clause-end
returns-in-PutObject-clause-end g c = (of_same _ _ _ _ _ _ _ c.in-PutObject.is (by_store (act.PutObject _) c.args.lane.now (g.O.Objects.seen c.args.objects.now) (g.O.Objects.seen c.put_object.new.objects) _ (put_steps _ (g.O.Objects.seen c.args.objects.now) (g.O.Objects.seen c.put_object.new.objects) _ ((rw c.as_slice.ensures at c.put_object.ensures).cause) c.args.lane.now) (λ l held told. told) (rw c.as_slice.ensures at c.put_object.ensures))).end

pub returns-in-PutObject-clause-suits : goal.returns-in-PutObject-clause-suits
returns-in-PutObject-clause-suits g c = (of_same _ _ _ _ _ _ _ c.in-PutObject.is (by_store (act.PutObject _) c.args.lane.now (g.O.Objects.seen c.args.objects.now) (g.O.Objects.seen c.put_object.new.objects) _ (put_steps _ (g.O.Objects.seen c.args.objects.now) (g.O.Objects.seen c.put_object.new.objects) _ ((rw c.as_slice.ensures at c.put_object.ensures).cause) c.args.lane.now) (λ l held told. told) (rw c.as_slice.ensures at c.put_object.ensures))).suits

pub returns-in-PutObject-clause-cause : goal.returns-in-PutObject-clause-cause
returns-in-PutObject-clause-cause g c = (of_same _ _ _ _ _ _ _ c.in-PutObject.is (by_store (act.PutObject _) c.args.lane.now (g.O.Objects.seen c.args.objects.now) (g.O.Objects.seen c.put_object.new.objects) _ (put_steps _ (g.O.Objects.seen c.args.objects.now) (g.O.Objects.seen c.put_object.new.objects) _ ((rw c.as_slice.ensures at c.put_object.ensures).cause) c.args.lane.now) (λ l held told. told) (rw c.as_slice.ensures at c.put_object.ensures))).cause
