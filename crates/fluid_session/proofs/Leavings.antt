-- What a session leaves: its pass behind the leave, and its end.
use Rattle.std.proofs.Common.{◌≡◌, inl, inr, ℕ, ◌≤◌, Bool, true, false, List, [], ◌∷◌, ◌++◌, Option, Some, None, Result, Ok, Err, refl, sym, ap, subst, ◌∙◌, arith, append-nil}
use Rattle.fluid_types.specs.declared.entries.Raw.{Raw}
use Rattle.fluid_deltas.specs.declared.fault.DeltaFault.{DeltaFault}
use Rattle.fluid_deltas.specs.declared.fault.DeltaFault.TheVariants as delta
use Rattle.fluid_store.specs.declared.fault.StoreFault.{StoreFault}
use Rattle.fluid_store.specs.declared.fault.StoreFault.TheVariants as store
use Rattle.fluid_lane.specs.declared.fault.LaneFault.{LaneFault}
use Rattle.fluid_lane.specs.declared.fault.LaneFault.TheVariants as lane
use Rattle.fluid_lane.specs.declared.steps.Side.{Side}
use Rattle.fluid_lane.specs.declared.steps.Side.TheVariants.{Failed, Stored, Restarted}
use Rattle.fluid_lane.specs.declared.steps.Step.{Step}
use Rattle.fluid_lane.specs.declared.steps.Step.TheVariants as step
use Rattle.fluid_lane.specs.Steps.{fault_steps, delta_steps}
use Rattle.fluid_lines.specs.declared.wire.WireFault.{WireFault}
use Rattle.fluid_lines.specs.declared.wire.WireFault.TheVariants as wire
use Rattle.fluid_lines.specs.Wires.{Wiring}
use Rattle.fluid_voice.specs.declared.states.VoiceState.{VoiceState}
use Rattle.fluid_voice.specs.declared.states.VoiceState.TheVariants.{Fresh, Reading, Writing, Used}
use Rattle.fluid_voice.specs.States.{is_connected, leave_of}
use Rattle.fluid_ends.specs.Faults.{talk_steps}
use Rattle.fluid_ends.specs.declared.fault.TalkFault.{TalkFault}
use Rattle.fluid_ends.specs.declared.fault.TalkFault.TheVariants.{Door, Lane, Delta, Store, NoMemory}
use Rattle.fluid_talk.specs.Talking.{Knowing, Talking, Goes}
use Rattle.fluid_talk.specs.Doing.{steps_in, may_steps}
use Rattle.fluid_talk.specs.Leaving.{Leaves, EntersLeave, IsLeaveCause}
use Rattle.fluid_talk.specs.Collecting.{FailsAs}
use Rattle.fluid_session.specs.declared.report.SessionEnd.{SessionEnd}
use Rattle.fluid_session.specs.declared.report.SessionEnd.TheVariants as end
use Rattle.fluid_session.specs.declared.tally.Tally.{Tally}
use Rattle.fluid_session.specs.Ends.{end_of, wire_end, unless_refused, behind_leave, most_unread}
use Rattle.fluid_session.specs.Events.{Event, AreWhole, IsReached}
use Rattle.fluid_session.specs.Running.{Stops}
use Rattle.fluid_session.specs.Running.Stops.{at_end, at_long, at_receive, at_feed, at_reply, at_text, at_collection, at_count}
use Rattle.fluid_session.specs.Outcome.{entered, entered_in, steps_of, steps_of_round, HasNote, MissesLeave, HasLeft, IsQuietEnd}
use Rattle.fluid_session.specs.Events.Event.{brings, hears}
use Rattle.fluid_session.proofs.Passes.{goes_refl, goes_then}

-- ---- notes

lane_notes : (f : LaneFault) → entered (fault_steps f) ≡ []
lane_notes (lane.LogFailed note) = refl
lane_notes (lane.Full n) = refl
lane_notes (lane.BadRecord n) = refl
lane_notes (lane.NoCheckpoint a b) = refl
lane_notes lane.CheckpointsFull = refl
lane_notes lane.TooManyClients = refl
lane_notes (lane.DeltaFailed note) = refl
lane_notes lane.NoMemory = refl
lane_notes (lane.BadCheckpoint n f) = refl
lane_notes (lane.TooLarge n) = refl
lane_notes lane.Worn = refl

delta_notes : (f : DeltaFault) → entered (delta_steps f) ≡ []
delta_notes (delta.DeltaFailed note) = refl
delta_notes delta.NoMemory = refl
delta_notes (delta.BadDelta n) = refl
delta_notes delta.Worn = refl

-- a note enters nothing
notes_enter_nothing : (fault : TalkFault) → entered (talk_steps fault) ≡ []
notes_enter_nothing (Door fault) = refl
notes_enter_nothing (Lane fault) = lane_notes fault
notes_enter_nothing (Delta fault) = delta_notes fault
notes_enter_nothing (Store fault) = refl
notes_enter_nothing NoMemory = refl

pub may_enter_nothing : (failed : Option TalkFault) → entered (may_steps failed) ≡ []
may_enter_nothing None = refl
may_enter_nothing (Some fault) = notes_enter_nothing fault

pub entered-append : (a b : List Step) → entered (a ++ b) ≡ entered a ++ entered b
entered-append [] b = refl
entered-append (step.Entered raw verdict ∷ a) b = ap (λ l. raw ∷ l) (entered-append a b)
entered-append (step.Aside side ∷ a) b = entered-append a b

-- what the texts entered are the entries among their steps
pub entered_steps : (es : List Event) → entered (steps_of es) ≡ entered_in es
entered_steps [] = refl
entered_steps (brings c ∷ es) = entered_steps es
entered_steps (hears r ∷ es) =
    entered-append (steps_of_round r) (steps_of es)
    ∙ ap (λ l. l ++ entered (steps_of es)) (entered-append (steps_in r.done) (may_steps r.heard.fault) ∙ ap (λ l. entered (steps_in r.done) ++ l) (may_enter_nothing r.heard.fault) ∙ append-nil (entered (steps_in r.done)))
    ∙ ap (λ l. entered (steps_in r.done) ++ l) (entered_steps es)

note_last : (a : List Step) (side : Side) → HasNote (step.Aside side ∷ []) → HasNote (a ++ step.Aside side ∷ [])
note_last [] side note = note
note_last (step.Entered raw verdict ∷ a) side note = note_last a side note
note_last (step.Aside (Failed other) ∷ a) side note = tt
note_last (step.Aside (Stored n) ∷ a) side note = note_last a side note
note_last (step.Aside (Restarted n) ∷ a) side note = note_last a side note

-- ---- what stopped it

-- notes alone, and it stands where it stood
pub record Halts (m t : Talking) : Type 0 where
  pub notes : List Step
  pub goes : Goes m.pass t.pass notes
  pub none : entered notes ≡ []
  pub voice : t.voice ≡ m.voice
  pub handed : t.handed ≡ m.handed
  pub key : t.key ≡ m.key
  pub same : is_connected m.voice ≡ false → t.pass ≡ m.pass

halts_as : (m t : Talking) → t ≡ m → Halts m t
halts_as m t same = subst (λ (k : Talking). Halts m k) (sym same) (record { notes = []; goes = goes_refl m.pass; none = refl; voice = refl; handed = refl; key = refl; same = λ apart. refl })

connected_apart : {A : Type 0} (b : Bool) → b ≡ true → b ≡ false → A
connected_apart b joined apart = absurd (no (sym joined ∙ apart))
  where
    no : true ≡ false → ⊥
    no same = cc

pub stops_halts : (es : List Event) (m t : Talking) (old mid new : Wiring) (tally : Tally) (last : SessionEnd) → Stops es m t old mid new tally last → Halts m t
stops_halts es m t old mid new tally last (at_end is whole few same reached none) = halts_as m t same
stops_halts es m t old mid new tally last (at_long size is whole few same long next) = halts_as m t same
stops_halts es m t old mid new tally last (at_receive fault is whole few same cause) = halts_as m t same
stops_halts es m t old mid new tally last (at_feed c fault is ends few unsent same cause) = halts_as m t same
stops_halts es m t old mid new tally last (at_reply r fault is ends few unsent well same cause) = halts_as m t same
stops_halts es m t old mid new tally last (at_text r fault is ends few failed same) = halts_as m t same
stops_halts es m t old mid new tally last (at_collection fault is whole few joined fails) = record {
  notes = talk_steps fault;
  goes = fails.goes;
  none = notes_enter_nothing fault;
  voice = fails.voice;
  handed = fails.handed;
  key = fails.key;
  same = λ apart. connected_apart (is_connected m.voice) joined apart;
}
stops_halts es m t old mid new tally last (at_count is whole many same) = halts_as m t same

-- ---- the leave

-- behind the events the pass has at most the leave, and the notes of a keeper that failed
pub record Closes (m u : Talking) (moment : ℕ) (last : SessionEnd) : Type 0 where
  pub added : List Step
  pub goes : Goes m.pass u.pass added
  pub left : List Raw
  pub is : entered added ≡ left
  pub leave : HasLeft (leave_of moment m.voice) left u.pass last
  pub handed : u.handed ≡ m.handed
  pub key : u.key ≡ m.key
  pub same : is_connected m.voice ≡ false → u.pass ≡ m.pass

refused_last : (last : SessionEnd) → behind_leave last (Err NoMemory) ≡ end.NoMemory
refused_last end.Closed = refl
refused_last end.WireFault = refl
refused_last (end.TooLong size) = refl
refused_last (end.LogFault note) = refl
refused_last (end.DeltaFault note) = refl
refused_last (end.StoreFault note) = refl
refused_last (end.Other fault) = refl
refused_last end.NoMemory = refl
refused_last (end.Abused unread) = refl

-- why a leave isn't entered
kept_by : (p q : Knowing) (before last : SessionEnd) (fault : TalkFault) → Goes p q (talk_steps fault) → IsLeaveCause q fault → last ≡ behind_leave before (Err fault) → MissesLeave q last
kept_by p q before last (Lane (lane.LogFailed note)) goes cause is = inl (subst HasNote (sym goes.mine) (note_last p.mine (Failed note) tt))
kept_by p q before last (Lane (lane.DeltaFailed note)) goes cause is = inl (subst HasNote (sym goes.mine) (note_last p.mine (Failed note) tt))
kept_by p q before last (Lane lane.Worn) goes cause is = inr (inl cause)
kept_by p q before last (Lane (lane.Full n)) goes cause is = absurd cause
kept_by p q before last (Lane (lane.BadRecord n)) goes cause is = absurd cause
kept_by p q before last (Lane (lane.NoCheckpoint a b)) goes cause is = absurd cause
kept_by p q before last (Lane lane.CheckpointsFull) goes cause is = absurd cause
kept_by p q before last (Lane lane.TooManyClients) goes cause is = absurd cause
kept_by p q before last (Lane lane.NoMemory) goes cause is = absurd cause
kept_by p q before last (Lane (lane.BadCheckpoint n f)) goes cause is = absurd cause
kept_by p q before last (Lane (lane.TooLarge n)) goes cause is = absurd cause
kept_by p q before last NoMemory goes cause is = inr (inr (is ∙ refused_last before))
kept_by p q before last (Door fault) goes cause is = absurd cause
kept_by p q before last (Delta fault) goes cause is = absurd cause
kept_by p q before last (Store fault) goes cause is = absurd cause

none_apart : (moment : ℕ) (s : VoiceState) → is_connected s ≡ false → leave_of moment s ≡ None
none_apart moment Fresh apart = refl
none_apart moment (Reading name next) apart = connected_apart true refl apart
none_apart moment (Writing name id next) apart = connected_apart true refl apart
none_apart moment Used apart = refl

some_none : {A : Type 0} (raw : Raw) → ◌≡◌ {A = Option Raw} (Some raw) None → A
some_none raw same = cc

err_ok : {A : Type 0} (fault : TalkFault) → ◌≡◌ {A = Result (Unit {0}) TalkFault} (Err fault) (Ok tt) → A
err_ok fault same = cc

module _ (m t u : Talking) (moment : ℕ) (before last : SessionEnd) (halts : Halts m t) where
  -- it was entered, or there was none to enter
  closes_well : (raw : Option Raw) → leave_of moment m.voice ≡ raw → EntersLeave raw t.pass u.pass → u.handed ≡ t.handed → u.key ≡ t.key → Closes m u moment last
  closes_well None is same handed key = record {
    added = halts.notes;
    goes = subst (λ (k : Knowing). Goes m.pass k halts.notes) (sym same) halts.goes;
    left = [];
    is = halts.none;
    leave = subst (λ o. HasLeft o [] u.pass last) (sym is) refl;
    handed = handed ∙ halts.handed;
    key = key ∙ halts.key;
    same = λ apart. same ∙ halts.same apart;
  }
  closes_well (Some raw) is enters handed key =
      let one : List Step = step.Entered raw enters.verdict_is ∷ [] in
      record {
        added = halts.notes ++ one;
        goes = goes_then m.pass t.pass u.pass halts.notes one halts.goes enters.goes;
        left = raw ∷ [];
        is = entered-append halts.notes one ∙ ap (λ l. l ++ raw ∷ []) halts.none;
        leave = subst (λ o. HasLeft o (raw ∷ []) u.pass last) (sym is) (inl refl);
        handed = handed ∙ halts.handed;
        key = key ∙ halts.key;
        same = λ apart. some_none raw (sym is ∙ none_apart moment m.voice apart);
      }

  -- it failed
  closes_badly : (fault : TalkFault) → Leaves t u moment (Err fault) → last ≡ behind_leave before (Err fault) → Closes m u moment last
  closes_badly fault leaves is =
      let fails : FailsAs t u IsLeaveCause fault = leaves.does in
      record {
        added = halts.notes ++ talk_steps fault;
        goes = goes_then m.pass t.pass u.pass halts.notes (talk_steps fault) halts.goes fails.goes;
        left = [];
        is = entered-append halts.notes (talk_steps fault) ∙ ap (λ l. l ++ entered (talk_steps fault)) halts.none ∙ notes_enter_nothing fault;
        leave = by (leave_of moment m.voice) (kept_by t.pass u.pass before last fault fails.goes fails.cause_is is);
        handed = fails.handed ∙ halts.handed;
        key = fails.key ∙ halts.key;
        same = λ apart. err_ok fault (leaves.nothing (ap (λ v. leave_of moment v) halts.voice ∙ none_apart moment m.voice apart));
      }
    where
      by : (raw : Option Raw) → MissesLeave u.pass last → HasLeft raw [] u.pass last
      by None kept = refl
      by (Some raw) kept = inr (refl, kept)

  pub closes : (result : Result (Unit {0}) TalkFault) → Leaves t u moment result → last ≡ behind_leave before result → Closes m u moment last
  closes (Ok done) leaves is =
      let left = leaves.does in closes_well (leave_of moment m.voice) refl (subst (λ o. EntersLeave o t.pass u.pass) (ap (λ v. leave_of moment v) halts.voice) left.pass) left.handed left.key
  closes (Err fault) leaves is = closes_badly fault leaves is

-- ---- ends

abbrev pub IsClosed : SessionEnd → Type 0
IsClosed end.Closed = Unit {0}
IsClosed last = ⊥

quiet_of : (last : SessionEnd) → IsClosed last → IsQuietEnd last
quiet_of end.Closed h = tt
quiet_of end.WireFault h = absurd h
quiet_of (end.TooLong size) h = tt
quiet_of (end.LogFault note) h = absurd h
quiet_of (end.DeltaFault note) h = absurd h
quiet_of (end.StoreFault note) h = absurd h
quiet_of (end.Other fault) h = absurd h
quiet_of end.NoMemory h = absurd h
quiet_of (end.Abused unread) h = tt

-- a fault of the connection is no quiet end
lane_loud : (f : LaneFault) → IsQuietEnd (end_of (Lane f)) → ⊥
lane_loud (lane.LogFailed note) h = h
lane_loud (lane.Full n) h = h
lane_loud (lane.BadRecord n) h = h
lane_loud (lane.NoCheckpoint a b) h = h
lane_loud lane.CheckpointsFull h = h
lane_loud lane.TooManyClients h = h
lane_loud (lane.DeltaFailed note) h = h
lane_loud lane.NoMemory h = h
lane_loud (lane.BadCheckpoint n f) h = h
lane_loud (lane.TooLarge n) h = h
lane_loud lane.Worn h = h

delta_loud : (f : DeltaFault) → IsQuietEnd (end_of (Delta f)) → ⊥
delta_loud (delta.DeltaFailed note) h = h
delta_loud delta.NoMemory h = h
delta_loud (delta.BadDelta n) h = h
delta_loud delta.Worn h = h

store_loud : (f : StoreFault) → IsQuietEnd (end_of (Store f)) → ⊥
store_loud (store.StoreFailed note) h = h
store_loud (store.Clash id kept bytes) h = h
store_loud (store.Missing id) h = h
store_loud (store.BadObject id place) h = h
store_loud (store.Tree fault) h = h
store_loud (store.NoPath path) h = h
store_loud store.NoMemory h = h

loud_end : (f : TalkFault) → IsQuietEnd (end_of f) → ⊥
loud_end (Door fault) h = h
loud_end (Lane fault) h = lane_loud fault h
loud_end (Delta fault) h = delta_loud fault h
loud_end (Store fault) h = store_loud fault h
loud_end NoMemory h = h

wire_loud : (f : WireFault) → IsQuietEnd (wire_end f) → ⊥
wire_loud wire.Failed h = h
wire_loud wire.NoMemory h = h

kept_end : (last : SessionEnd) (fault : TalkFault) → IsQuietEnd (unless_refused last fault) → IsQuietEnd last
kept_end last (Door fault) h = h
kept_end last (Lane fault) h = h
kept_end last (Delta fault) h = h
kept_end last (Store fault) h = h
kept_end last NoMemory h = absurd h

-- a quiet end was one before the leave
quiet_before : (last : SessionEnd) (result : Result (Unit {0}) TalkFault) → IsQuietEnd (behind_leave last result) → IsQuietEnd last
quiet_before last (Ok done) h = h
quiet_before end.Closed (Err fault) h = tt
quiet_before end.WireFault (Err fault) h = kept_end end.WireFault fault h
quiet_before (end.TooLong size) (Err fault) h = tt
quiet_before (end.LogFault note) (Err fault) h = kept_end (end.LogFault note) fault h
quiet_before (end.DeltaFault note) (Err fault) h = kept_end (end.DeltaFault note) fault h
quiet_before (end.StoreFault note) (Err fault) h = kept_end (end.StoreFault note) fault h
quiet_before (end.Other first) (Err fault) h = kept_end (end.Other first) fault h
quiet_before end.NoMemory (Err fault) h = kept_end end.NoMemory fault h
quiet_before (end.Abused unread) (Err fault) h = tt

closed_kept : (last : SessionEnd) (fault : TalkFault) → IsClosed (unless_refused last fault) → IsClosed last
closed_kept last (Door fault) h = h
closed_kept last (Lane fault) h = h
closed_kept last (Delta fault) h = h
closed_kept last (Store fault) h = h
closed_kept last NoMemory h = absurd h

closed_before : (last : SessionEnd) (result : Result (Unit {0}) TalkFault) → IsClosed (behind_leave last result) → IsClosed last
closed_before last (Ok done) h = h
closed_before end.Closed (Err fault) h = tt
closed_before end.WireFault (Err fault) h = closed_kept end.WireFault fault h
closed_before (end.TooLong size) (Err fault) h = closed_kept (end.TooLong size) fault h
closed_before (end.LogFault note) (Err fault) h = closed_kept (end.LogFault note) fault h
closed_before (end.DeltaFault note) (Err fault) h = closed_kept (end.DeltaFault note) fault h
closed_before (end.StoreFault note) (Err fault) h = closed_kept (end.StoreFault note) fault h
closed_before (end.Other first) (Err fault) h = closed_kept (end.Other first) fault h
closed_before end.NoMemory (Err fault) h = closed_kept end.NoMemory fault h
closed_before (end.Abused unread) (Err fault) h = absurd (loud_end fault (quiet_of (end_of fault) h))

-- behind a quiet end nothing was broken off
stops_whole : (es : List Event) (m t : Talking) (old mid new : Wiring) (tally : Tally) (last : SessionEnd) → Stops es m t old mid new tally last → IsQuietEnd last → AreWhole es
stops_whole es m t old mid new tally last (at_end is whole few same reached none) h = whole
stops_whole es m t old mid new tally last (at_long size is whole few same long next) h = whole
stops_whole es m t old mid new tally last (at_receive fault is whole few same cause) h = whole
stops_whole es m t old mid new tally last (at_feed c fault is ends few unsent same cause) h = absurd (wire_loud fault (subst IsQuietEnd is h))
stops_whole es m t old mid new tally last (at_reply r fault is ends few unsent well same cause) h = absurd (wire_loud fault (subst IsQuietEnd is h))
stops_whole es m t old mid new tally last (at_text r fault is ends few failed same) h = absurd (loud_end fault (subst IsQuietEnd is h))
stops_whole es m t old mid new tally last (at_collection fault is whole few joined fails) h = whole
stops_whole es m t old mid new tally last (at_count is whole many same) h = whole

pub quiet_whole : (es : List Event) (m t : Talking) (old mid new : Wiring) (tally : Tally) (before last : SessionEnd) (result : Result (Unit {0}) TalkFault) → Stops es m t old mid new tally before → last ≡ behind_leave before result
    → IsQuietEnd last → AreWhole es
quiet_whole es m t old mid new tally before last result stops is quiet = stops_whole es m t old mid new tally before stops (quiet_before before result (subst IsQuietEnd is quiet))

stops_reached : (es : List Event) (m t : Talking) (old mid new : Wiring) (tally : Tally) (last : SessionEnd) → Stops es m t old mid new tally last → IsClosed last → IsReached m
stops_reached es m t old mid new tally last (at_end is whole few same reached none) h = reached
stops_reached es m t old mid new tally last (at_long size is whole few same long next) h = absurd (subst IsClosed is h)
stops_reached es m t old mid new tally last (at_receive fault is whole few same cause) h = absurd (wire_loud fault (quiet_of (wire_end fault) (subst IsClosed is h)))
stops_reached es m t old mid new tally last (at_feed c fault is ends few unsent same cause) h = absurd (wire_loud fault (quiet_of (wire_end fault) (subst IsClosed is h)))
stops_reached es m t old mid new tally last (at_reply r fault is ends few unsent well same cause) h = absurd (wire_loud fault (quiet_of (wire_end fault) (subst IsClosed is h)))
stops_reached es m t old mid new tally last (at_text r fault is ends few failed same) h = absurd (loud_end fault (quiet_of (end_of fault) (subst IsClosed is h)))
stops_reached es m t old mid new tally last (at_collection fault is whole few joined fails) h = absurd (loud_end fault (quiet_of (end_of fault) (subst IsClosed is h)))
stops_reached es m t old mid new tally last (at_count is whole many same) h = absurd (subst IsClosed is h)

pub closed_reached : (es : List Event) (m t : Talking) (old mid new : Wiring) (tally : Tally) (before last : SessionEnd) (result : Result (Unit {0}) TalkFault) → Stops es m t old mid new tally before → last ≡ behind_leave before result
    → last ≡ end.Closed → IsReached m
closed_reached es m t old mid new tally before last result stops is closed = stops_reached es m t old mid new tally before stops (closed_before before result (subst IsClosed (sym closed ∙ is) tt))

-- so many texts are unread at most
pub stops_few : (es : List Event) (m t : Talking) (old mid new : Wiring) (tally : Tally) (last : SessionEnd) → Stops es m t old mid new tally last → tally.unread ≤ most_unread
stops_few es m t old mid new tally last (at_end is whole few same reached none) = omega (arith, few)
stops_few es m t old mid new tally last (at_long size is whole few same long next) = omega (arith, few)
stops_few es m t old mid new tally last (at_receive fault is whole few same cause) = omega (arith, few)
stops_few es m t old mid new tally last (at_feed c fault is ends few unsent same cause) = omega (arith, few)
stops_few es m t old mid new tally last (at_reply r fault is ends few unsent well same cause) = few
stops_few es m t old mid new tally last (at_text r fault is ends few failed same) = few
stops_few es m t old mid new tally last (at_collection fault is whole few joined fails) = omega (arith, few)
stops_few es m t old mid new tally last (at_count is whole many same) = omega (arith, many)
