-- A connection that leaves.
use Rattle.std.proofs.Common.{◌≡◌, ℕ, ◌+◌, ◌≤◌, Bool, true, false, ◌&&◌, List, [], ◌∷◌, ◌++◌, Option, Some, None, is_some, Result, Ok, Err, refl, sym, ap, subst, ◌∙◌, append-nil}
use Rattle.std.specs.Prelude.{nat_le}
use Rattle.std.specs.FinMap.{get}
use Rattle.fluid_table.proofs.Places.{get_own}
use Rattle.fluid_types.specs.declared.entries.Raw.{Raw}
use Rattle.fluid_types.specs.declared.entries.Raw.TheVariants.{Join, Leave, Submit, Report}
use Rattle.fluid_types.specs.declared.verdicts.Verdict.{Verdict}
use Rattle.fluid_rules.specs.declared.limits.Limits.{Limits}
use Rattle.fluid_core.specs.Entering.{verdict_in}
use Rattle.fluid_types.specs.Forms.{largest}
use Rattle.fluid_lane.specs.declared.fault.LaneFault.{LaneFault}
use Rattle.fluid_lane.specs.declared.fault.LaneFault.TheVariants.{Full, Worn}
use Rattle.fluid_lane.specs.Faults.{IsCausedBy, IsOutside}
use Rattle.fluid_lane.specs.Steps.{entered_by}
use Rattle.fluid_lane.specs.Standing.{Standing, IsLeaveOrSubmission, Goes, is_worn}
use Rattle.fluid_lane.specs.Refusals.{IsCause, IsGated, first_refusal, is_full_for}
use Rattle.fluid_log.specs.Keeping.{Keeping}
use Rattle.fluid_log.specs.Shelving.{keeper_under}
use Rattle.fluid_lanes.specs.Opened.{Opened, with_lane}
use Rattle.fluid_lanes.specs.Using.{Uses, IsOneTooMany}
use Rattle.fluid_voice.specs.declared.states.VoiceState.{VoiceState}
use Rattle.fluid_voice.specs.declared.states.VoiceState.TheVariants.{Fresh, Reading, Writing, Used}
use Rattle.fluid_voice.specs.States.{document_name}
use Rattle.fluid_steps.specs.declared.steps.Step.TheVariants as step
use Rattle.fluid_transcript.specs.World.{Document, World, document, is_open, Effect, grown, changed, with_entries, does, used_up, Told}
use Rattle.fluid_transcript.specs.Lines.{closed_line}
use Rattle.fluid_transcript.specs.Connections.{voice_of}
use Rattle.fluid_transcript.specs.Sound.{IsSoundVoice}
use Rattle.fluid_transcript.specs.Transcript.{done_in, done_on, done}
use Rattle.fluid_desk.specs.declared.stop.Stop.{Stop}
use Rattle.fluid_desk.specs.Stands.{IsLaneOf, IsDocument, DeskStands}
use Rattle.fluid_desk.specs.Stopping.{stop_of, IsHonest, steps_on, MayStop, LaneEnds}
use Rattle.fluid_desk.specs.Acting.{IsLine, IsLeave, IsUnready}
use Rattle.fluid_desk.proofs.Laned.{says as lane_of, entered, same}
use Rattle.fluid_desk.proofs.Gates as gates
use Rattle.fluid_desk.proofs.Steps.{entering_honest, entering_ends, worn_ends}
use Rattle.fluid_desk.proofs.Desks.{acts, stays_desk}
use Rattle.fluid_desk.proofs.Honest.{honest_more, grown_steps, may_want, may_act, may_more}
use Rattle.fluid_desk.proofs.Opening.{uses, open_is_no_more, readied_same}
use Rattle.fluid_desk.proofs.Doing.{lane_of_desk, done_within, left_same}
use Rattle.fluid_callers.specs.Hearing.{EntersLane}
use Rattle.fluid_callers.specs.Calling.{closed_as, LeavesDesk, CloseDoes}

-- ---- on a lane

and_false : (a : Bool) → (a && false) ≡ false
and_false true = refl
and_false false = refl

-- no document is full for a leave
never_full : (s : Standing) (raw : Raw) → IsLeave raw → first_refusal (is_full_for s raw ∷ []) ≡ None
never_full s (Leave id moment) is = ap (λ b. first_refusal ((b, Full s.limits.entries) ∷ [])) (and_false (nat_le s.limits.entries s.entries.counted))
never_full s (Join id scopes detail moment) is = absurd is
never_full s (Submit id submission moment) is = absurd is
never_full s (Report summary found moment) is = absurd is

pub enters : (limits : Limits) (old new : Standing) (d : Document) (raw : Raw) (v : Verdict) → IsLaneOf limits old d → Goes old new (entered_by raw v) → new.owed ≡ false → v ≡ verdict_in old.entries.state raw
    → IsLaneOf limits new (with_entries (raw ∷ []) d)
enters limits old new d raw v of goes level said =
    subst (λ checkpoints. IsLaneOf limits new (record { raws = d.raws ++ raw ∷ []; checkpoints = checkpoints })) (append-nil d.checkpoints)
    (entered limits old d of new raw v goes level (said ∙ (lane_of limits old d of).verdict raw))

module _ {A : Type 0} (old new : Standing) (raw : Raw) (fault : LaneFault) (leave : IsLeave raw) (gate : IsGated {A = A} old new (is_full_for old raw ∷ []) IsOutside (Err fault)) where
  outside : is_worn old ≡ false → IsOutside fault
  outside is = subst (λ o. IsCause old new IsOutside o fault) (never_full old raw leave) (gate.refuses is)

  pub unentered_honest : (steps : ℕ) → ((is_worn old ≡ true) × (new ≡ old) → largest ≤ steps + 1) → IsHonest steps (stop_of fault)
  unentered_honest steps worn = by (is_worn old) refl
    where
      by : (b : Bool) → is_worn old ≡ b → IsHonest steps (stop_of fault)
      by true is = subst (λ f. IsHonest steps (stop_of f)) (sym (gates.same_fault {A = A} fault Worn (gate.worn is).0)) (worn (is, (gate.worn is).1))
      by false is = entering_honest steps fault (outside is)

  pub unentered_ends : IsCausedBy old.keeping.faults new.keeping.faults fault → LaneEnds old new (stop_of fault)
  unentered_ends cause = by (is_worn old) refl
    where
      by : (b : Bool) → is_worn old ≡ b → LaneEnds old new (stop_of fault)
      by true is = subst (λ f. LaneEnds old new (stop_of f)) (sym (gates.same_fault {A = A} fault Worn (gate.worn is).0)) (worn_ends old new (is, (gate.worn is).1))
      by false is = entering_ends old new fault (outside is) cause

-- ---- on a desk

-- an open document has its lane
there_is : (limits : Limits) (l : Option Standing) (k : Keeping) (d : Document) → IsDocument limits l k true d → (lane : Standing) × (l ≡ Some lane)
there_is limits None k d is = absurd is
there_is limits (Some lane) k d is = (lane, refl)

pub open_lane : (o : Opened) (w : World) (name : List ℕ) → DeskStands o w → is_open w name ≡ true → (lane : Standing) × (get o.lanes name ≡ Some lane)
open_lane o w name desk is =
    there_is o.limits (get o.lanes name) (keeper_under desk.held name) (document w name)
    (subst (λ b. IsDocument o.limits (get o.lanes name) (keeper_under desk.held name) b (document w name)) is (desk.documents name))

none_some : (lane : Standing) → ◌≡◌ {A = Option Standing} None (Some lane) → ⊥
none_some lane same = cc

-- the document of a connection is never one too many
pub never_beyond : (old mid : Opened) (w : World) (name : List ℕ) (count : ℕ) → DeskStands old w → is_open w name ≡ true → IsOneTooMany name old mid count → ⊥
never_beyond old mid w name count desk opened many = let lane = open_lane old w name desk opened in none_some lane.0 (sym many.absent ∙ lane.1)

-- a step that adds nothing to an open document
adds_none : (o : Opened) (w : World) (name : List ℕ) (e : Effect) → DeskStands o w → is_open w name ≡ true → e.entries ≡ [] → e.checkpoints ≡ [] → DeskStands o (changed e (Some name) w)
adds_none o w name e desk opened no_entries no_checkpoints =
    let lane = open_lane o w name desk opened in
    let of = (lane_of_desk o w name lane.0 desk lane.1).1 in
    subst (λ k. DeskStands k (changed e (Some name) w)) (left_same o name lane.0 lane.1)
    (acts o w name lane.0 e desk (ap is_some lane.1) opened
    (subst (λ entries. IsLaneOf o.limits lane.0 (record { raws = (document w name).raws ++ entries; checkpoints = (document w name).checkpoints ++ e.checkpoints })) (sym no_entries)
    (subst (λ checkpoints. IsLaneOf o.limits lane.0 (record { raws = (document w name).raws ++ []; checkpoints = (document w name).checkpoints ++ checkpoints })) (sym no_checkpoints)
    (same o.limits lane.0 (document w name) of))))

-- the leave of a client that writes was entered
pub left_desk : (old mid : Opened) (w : World) (c name id : List ℕ) (next moment : ℕ) (before after : Standing) (result : Result (Unit {0}) Stop) → DeskStands old w → IsSoundVoice w (Writing name id next) → w.moment ≡ moment
    → Uses {A = Unit {0}} name moment old mid (Ok tt) → mid.limits ≡ old.limits → get mid.lanes name ≡ Some before
    → ((d : Document) → IsLaneOf old.limits before d → EntersLane old.limits d (Leave id moment) after result) → LeavesDesk w c (Writing name id next) (with_lane mid name after) result
left_desk old mid w c name id next moment before after result desk sound at used limits there leaves =
    let opened = sound.0.open_is in
    let ready = subst (DeskStands mid) (readied_same w name opened) (uses old mid w name moment desk at used).stands in
    let own = lane_of_desk mid w name before ready there in
    by ready opened result (leaves (document w name) (subst (λ l. IsLaneOf l before (document w name)) limits own.1))
  where
    by : DeskStands mid w → is_open w name ≡ true → (r : Result (Unit {0}) Stop) → EntersLane old.limits (document w name) (Leave id moment) after r → LeavesDesk w c (Writing name id next) (with_lane mid name after) r
    by stands opened (Err stop) left =
        let d = document w name in
        let e = closed_as w c (Writing name id next) in
        may_act w mid name after e stop (honest_more (steps_on d after) (steps_on (grown e d) after) stop (grown_steps e d after) left)
    by stands opened (Ok finished) left =
        acts mid w name after (closed_as w c (Writing name id next)) stands (ap is_some there) opened
        (subst (λ l. IsLaneOf l after (grown (closed_as w c (Writing name id next)) (document w name))) (sym limits)
        (subst (λ checkpoints. IsLaneOf old.limits after (record { raws = (document w name).raws ++ Leave id w.moment ∷ []; checkpoints = checkpoints })) (sym (append-nil (document w name).checkpoints))
        (subst (λ m. IsLaneOf old.limits after (with_entries (Leave id m ∷ []) (document w name))) (sym at) left)))

-- its document wasn't opened
pub unleft : (o : Opened) (w : World) (c name id : List ℕ) (next : ℕ) (stop : Stop) → is_open w name ≡ true → IsUnready w name o stop → MayStop (changed (closed_as w c (Writing name id next)) (Some name) w) o stop
unleft o w c name id next stop opened unready = may_more w o (closed_as w c (Writing name id next)) name stop (subst (λ v. MayStop v o stop) (readied_same w name opened) unready.may)

pub left_fresh : (o : Opened) (w : World) (c : List ℕ) → DeskStands o w → DeskStands o (changed (closed_as w c Fresh) None w)
left_fresh o w c desk = stays_desk o w (closed_as w c Fresh) desk

pub left_reading : (o : Opened) (w : World) (c name : List ℕ) (next : ℕ) → DeskStands o w → IsSoundVoice w (Reading name next) → DeskStands o (changed (closed_as w c (Reading name next)) (Some name) w)
left_reading o w c name next desk sound = adds_none o w name (closed_as w c (Reading name next)) desk sound.open_is refl refl

-- ---- the step

opened_close : (limits : Limits) (w : World) (c name : List ℕ) (voice : VoiceState) → voice_of w c ≡ voice → document_name voice ≡ Some name → is_open w name ≡ true
    → done limits w (step.Close c) ≡ does (closed_as w c voice) (Some name) w
opened_close limits w c name voice is named opened =
    done_within limits w name (step.Close c) (ap document_name is ∙ named) (open_is_no_more w name opened)
    ∙ ap (λ v. done_in limits v name (step.Close c)) (readied_same w name opened)
    ∙ ap (λ v. does (closed_as w c v) (Some name) w) is

close_is : (limits : Limits) (w : World) (c : List ℕ) (voice : VoiceState) → voice_of w c ≡ voice → IsSoundVoice w voice → done limits w (step.Close c) ≡ does (closed_as w c voice) (document_name voice) w
close_is limits w c Fresh is sound = ap (λ v. done_on limits w (document_name v) (step.Close c)) is ∙ ap (λ v. does (closed_as w c v) None w) is
close_is limits w c (Reading name next) is sound = opened_close limits w c name (Reading name next) is refl sound.open_is
close_is limits w c (Writing name id next) is sound = opened_close limits w c name (Writing name id next) is refl sound.0.open_is
close_is limits w c Used is sound = absurd sound

pub closes : (limits : Limits) (o : Opened) (w : World) (c : List ℕ) (voice : VoiceState) (result : Result (List ℕ) Stop) → voice_of w c ≡ voice → IsSoundVoice w voice
    → DeskStands o (changed (closed_as w c voice) (document_name voice) w) → IsLine (closed_line c) result → CloseDoes (done limits w (step.Close c)) c o result
closes limits o w c voice result is sound stands line = subst (λ t. CloseDoes t c o result) (sym (close_is limits w c voice is sound)) (by result line)
  where
    by : (r : Result (List ℕ) Stop) → IsLine (closed_line c) r → CloseDoes (does (closed_as w c voice) (document_name voice) w) c o r
    by (Ok text) line = record { stands = stands; name = get_own w.names c used_up; says = ap (λ l. l ∷ []) (sym line) }
    by (Err stop) line = may_want (changed (closed_as w c voice) (document_name voice) w) o stop line

-- its client didn't leave
pub unclosed : (limits : Limits) (o : Opened) (w : World) (c : List ℕ) (voice : VoiceState) (stop : Stop) → voice_of w c ≡ voice → IsSoundVoice w voice → MayStop (changed (closed_as w c voice) (document_name voice) w) o stop
    → MayStop (done limits w (step.Close c)).world o stop
unclosed limits o w c voice stop is sound may = subst (λ (t : Told). MayStop t.world o stop) (sym (close_is limits w c voice is sound)) may

-- a leave may be submitted
pub leave_kind : (raw : Raw) → IsLeave raw → IsLeaveOrSubmission raw
leave_kind (Leave id moment) is = tt
leave_kind (Join id scopes detail moment) is = absurd is
leave_kind (Submit id submission moment) is = absurd is
leave_kind (Report summary found moment) is = absurd is
