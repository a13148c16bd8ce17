-- A session ends as its wire does, unless something failed.
use Rattle.std.proofs.Common.{◌≡◌, ◌⊎◌, inl, inr, ℕ, ◌<◌, ◌≤◌, Bool, true, false, List, [], ◌∷◌, ◌++◌, length, Option, Some, None, Result, Ok, Err, refl, sym, ap, subst, ◌∙◌, arith}
use Rattle.std.specs.Prelude.{All, IfSome}
use Rattle.std.specs.Option.{option_map}
use Rattle.std.proofs.lemmas.List.Elements.{All-head, All-tail}
use Rattle.fluid_io.specs.Causes.{Rose, Tells}
use Rattle.fluid_io.specs.declared.lines.TheConstants.{LONGEST_TEXT}
use Rattle.fluid_turn.specs.Entries.{entries}
use Rattle.fluid_deltas.specs.declared.fault.DeltaFault.{DeltaFault}
use Rattle.fluid_deltas.specs.declared.fault.DeltaFault.TheVariants as delta
use Rattle.fluid_store.specs.Storing.{Storing}
use Rattle.fluid_store.specs.declared.fault.StoreFault.{StoreFault}
use Rattle.fluid_store.specs.declared.fault.StoreFault.TheVariants as store
use Rattle.fluid_lane.specs.declared.fault.LaneFault.{LaneFault}
use Rattle.fluid_lane.specs.declared.fault.LaneFault.TheVariants as lane
use Rattle.fluid_lane.specs.declared.steps.Side.TheVariants.{Failed as SideFailed, Stored, Restarted}
use Rattle.fluid_lane.specs.declared.steps.Step.{Step}
use Rattle.fluid_lane.specs.declared.steps.Step.TheVariants.{Entered, Aside}
use Rattle.fluid_lines.specs.declared.wire.WireFault.{WireFault}
use Rattle.fluid_lines.specs.declared.wire.WireFault.TheVariants as wire
use Rattle.fluid_lines.specs.Wires.{Wiring, IsLongNext}
use Rattle.fluid_opening.specs.declared.opening.TheConstants.{MOST_DOCUMENTS}
use Rattle.fluid_opening.specs.declared.fault.DoorFault.{DoorFault}
use Rattle.fluid_opening.specs.declared.fault.DoorFault.TheVariants as door
use Rattle.fluid_opening.specs.declared.shelf.ShelfStep.{ShelfStep}
use Rattle.fluid_opening.specs.declared.shelf.ShelfStep.TheVariants.{Opened, Failed}
use Rattle.fluid_opening.specs.Steps.{is_opened, is_worn, is_full, refusal, refusal_by, visit_steps_by, IsAnswerBy}
use Rattle.fluid_voice.specs.declared.actions.Act.{Act}
use Rattle.fluid_voice.specs.declared.actions.Act.TheVariants as act
use Rattle.fluid_types.specs.declared.entries.Raw.{Raw}
use Rattle.fluid_voice.specs.States.{is_connected, leave_of}
use Rattle.fluid_voice.specs.Heard.{acts_of}
use Rattle.fluid_voice.specs.Laws.{IsOneAnswer}
use Rattle.fluid_voice.proofs.Ahead.{others_connect}
use Rattle.fluid_ends.specs.Asking.{IsStoreCause}
use Rattle.fluid_ends.specs.Faults.{talk_steps}
use Rattle.fluid_ends.specs.declared.fault.TalkFault.{TalkFault}
use Rattle.fluid_ends.specs.declared.fault.TalkFault.TheVariants.{Door, Lane, Delta, Store, NoMemory}
use Rattle.fluid_talk.specs.Talking.{Knowing, Talking, Keyed}
use Rattle.fluid_talk.specs.Shelves.{IsRefusedDoor}
use Rattle.fluid_talk.specs.Causes.{IsLaneCause, IsDeltaCause, IsDoorFault, IsConnect, IsCauseOf, IsCauseAt, IsNoMemory}
use Rattle.fluid_talk.specs.Doing.{Did, acts_in, steps_in, may_steps}
use Rattle.fluid_talk.specs.Hearing.{KeyBehind, ReachesBy, IsFaultOf}
use Rattle.fluid_talk.specs.Collecting.{FailsAs, IsCollectCause}
use Rattle.fluid_talk.specs.Leaving.{Leaves, EntersLeave, IsLeaveCause}
use Rattle.fluid_session.specs.declared.report.SessionEnd.{SessionEnd}
use Rattle.fluid_session.specs.declared.report.SessionEnd.TheVariants as end
use Rattle.fluid_session.specs.declared.report.Report.{Report}
use Rattle.fluid_session.specs.Ends.{end_of, wire_end, behind_leave, unless_refused}
use Rattle.fluid_session.specs.Sending.{IsWireCause, ins_of}
use Rattle.fluid_session.specs.Events.{Event, Stand, Round, IsRound, AreEvents, behind, history_of}
use Rattle.fluid_session.specs.Events.Event.{brings, hears}
use Rattle.fluid_session.specs.Running.{EndsIn, Stops}
use Rattle.fluid_session.specs.Running.Stops.{at_end, at_long, at_receive, at_feed, at_reply, at_text, at_collection, at_count}
use Rattle.fluid_session.specs.Outcome.{HasNote}
use Rattle.fluid_session.specs.Whole.{Account}
use Rattle.fluid_session.specs.Complete.{HasRefusal, IsCarried, NothingFailed, EndsWithItsWire}
use Rattle.fluid_session.proofs.Sent.{rose_later}
use Rattle.fluid_session.proofs.Counts.{more_none}
use Rattle.fluid_session.proofs.Submitted.{IsNoConnect, NoConnects, no_connects}
use Rattle.fluid_session.proofs.Filling.{split_events}
use Rattle.fluid_session.proofs.Leavings.{Closes, stops_halts, closes}

-- ---- ends behind the leave

-- an end that the leave leaves as it is, or memory was wanting
end_kept : (last : SessionEnd) (fault : TalkFault) → (unless_refused last fault ≡ last) ⊎ (unless_refused last fault ≡ end.NoMemory)
end_kept last (Door fault) = inl refl
end_kept last (Lane fault) = inl refl
end_kept last (Delta fault) = inl refl
end_kept last (Store fault) = inl refl
end_kept last NoMemory = inr refl

abbrev IsFixed : SessionEnd → Type 0
IsFixed end.Closed = ⊥
IsFixed (end.Abused unread) = ⊥
IsFixed last = Unit {0}

fixed_behind : (last : SessionEnd) (result : Result (Unit {0}) TalkFault) → IsFixed last → (behind_leave last result ≡ last) ⊎ (behind_leave last result ≡ end.NoMemory)
fixed_behind last (Ok done) fixed = inl refl
fixed_behind end.Closed (Err fault) fixed = absurd fixed
fixed_behind (end.Abused unread) (Err fault) fixed = absurd fixed
fixed_behind end.WireFault (Err fault) fixed = end_kept end.WireFault fault
fixed_behind (end.TooLong size) (Err fault) fixed = end_kept (end.TooLong size) fault
fixed_behind (end.LogFault note) (Err fault) fixed = end_kept (end.LogFault note) fault
fixed_behind (end.DeltaFault note) (Err fault) fixed = end_kept (end.DeltaFault note) fault
fixed_behind (end.StoreFault note) (Err fault) fixed = end_kept (end.StoreFault note) fault
fixed_behind (end.Other first) (Err fault) fixed = end_kept (end.Other first) fault
fixed_behind end.NoMemory (Err fault) fixed = end_kept end.NoMemory fault

module _ (last : SessionEnd) (none : IsCarried last → ⊥) where
  -- what is carried isn't so, and want of memory stays
  carried_behind : (before : SessionEnd) (result : Result (Unit {0}) TalkFault) → last ≡ behind_leave before result → IsFixed before → IsCarried before → last ≡ end.NoMemory
  carried_behind before result is fixed carried = by (fixed_behind before result fixed)
    where
      by : (behind_leave before result ≡ before) ⊎ (behind_leave before result ≡ end.NoMemory) → last ≡ end.NoMemory
      by (inl same) = absurd (none (subst IsCarried (sym (is ∙ same)) carried))
      by (inr memory) = is ∙ memory

  memory_behind : (result : Result (Unit {0}) TalkFault) → last ≡ behind_leave end.NoMemory result → last ≡ end.NoMemory
  memory_behind result is = by (fixed_behind end.NoMemory result tt)
    where
      by : (behind_leave end.NoMemory result ≡ end.NoMemory) ⊎ (behind_leave end.NoMemory result ≡ end.NoMemory) → last ≡ end.NoMemory
      by (inl same) = is ∙ same
      by (inr same) = is ∙ same

-- ---- notes

pub note_prefix : (a b : List Step) → HasNote a → HasNote (a ++ b)
note_prefix [] b note = absurd note
note_prefix (Entered raw verdict ∷ a) b note = note_prefix a b note
note_prefix (Aside (SideFailed other) ∷ a) b note = tt
note_prefix (Aside (Stored n) ∷ a) b note = note_prefix a b note
note_prefix (Aside (Restarted n) ∷ a) b note = note_prefix a b note

note_back : (a b : List Step) → HasNote b → HasNote (a ++ b)
note_back [] b note = note
note_back (Entered raw verdict ∷ a) b note = note_back a b note
note_back (Aside (SideFailed other) ∷ a) b note = tt
note_back (Aside (Stored n) ∷ a) b note = note_back a b note
note_back (Aside (Restarted n) ∷ a) b note = note_back a b note

refusal_last : (k : List ShelfStep) (name : List ℕ) (fault : DoorFault) → HasRefusal (k ++ Failed name fault ∷ [])
refusal_last [] name fault = tt
refusal_last (Opened other ∷ k) name fault = refusal_last k name fault
refusal_last (Failed other of_other ∷ k) name fault = tt

-- ---- a service that refused a document

err_same : (a b : DoorFault) → ◌≡◌ {A = Result (Unit {0}) DoorFault} (Err a) (Err b) → a ≡ b
err_same a b same = cc

abbrev refusing : DoorFault → Result (Unit {0}) DoorFault
refusing fault = Err fault

-- by the answer the opening is noted, or the shelf is worn
abbrev IsKeyCause : Keyed → DoorFault → Type 0
IsKeyCause m fault = HasRefusal m.mine ⊎ (fault ≡ door.Lane lane.Worn)

not_memory : (fault : DoorFault) → fault ≡ door.NoMemory → IsDoorFault fault → ⊥
not_memory fault same h = subst IsDoorFault same h

not_many : (fault : DoorFault) (count : ℕ) → fault ≡ door.TooManyDocuments count → IsDoorFault fault → ⊥
not_many fault count same h = subst IsDoorFault same h

some_same : (a b : DoorFault) → ◌≡◌ {A = Option DoorFault} (Some a) (Some b) → a ≡ b
some_same a b same = cc

some_none : (a : DoorFault) → ◌≡◌ {A = Option DoorFault} (Some a) None → ⊥
some_none a same = cc

worn_at : (worn full : Bool) (fault other : DoorFault) → Some other ≡ refusal_by worn full → IsDoorFault fault
    → ◌≡◌ {A = Result (Unit {0}) DoorFault} (Err fault) (Err door.NoMemory) ⊎ ◌≡◌ {A = Result (Unit {0}) DoorFault} (Err fault) (Err other) → fault ≡ door.Lane lane.Worn
worn_at worn full fault other is h (inl memory) = absurd (not_memory fault (err_same fault door.NoMemory memory) h)
worn_at true full fault other is h (inr same) = err_same fault other same ∙ some_same other (door.Lane lane.Worn) is
worn_at false true fault other is h (inr same) = absurd (not_many fault MOST_DOCUMENTS (err_same fault other same ∙ some_same other (door.TooManyDocuments MOST_DOCUMENTS) is) h)
worn_at false false fault other is h (inr same) = absurd (some_none other is)

refused_by : (name : List ℕ) (fault : DoorFault) (told opened_is : Bool) (refused : Option DoorFault) (worn full : Bool) (k m : Keyed) → refused ≡ refusal_by worn full → IsDoorFault fault
    → m.mine ≡ k.mine ++ visit_steps_by opened_is refused name (refusing fault) → IsAnswerBy opened_is refused told (refusing fault) → IsKeyCause m fault
refused_by name (door.TooManyDocuments count) told opened_is refused worn full k m is h mine answer = absurd h
refused_by name door.NoMemory told opened_is refused worn full k m is h mine answer = absurd h
refused_by name (door.ShelfFailed note) told true refused worn full k m is h mine answer = absurd answer
refused_by name (door.ShelfFailed note) told false None worn full k m is h mine answer = inl (subst HasRefusal (sym mine) (refusal_last k.mine name (door.ShelfFailed note)))
refused_by name (door.ShelfFailed note) told false (Some other) worn full k m is h mine answer = inr (worn_at worn full (door.ShelfFailed note) other is h answer)
refused_by name (door.Lane fault) told true refused worn full k m is h mine answer = absurd answer
refused_by name (door.Lane fault) told false None worn full k m is h mine answer = inl (subst HasRefusal (sym mine) (refusal_last k.mine name (door.Lane fault)))
refused_by name (door.Lane fault) told false (Some other) worn full k m is h mine answer = inr (worn_at worn full (door.Lane fault) other is h answer)

refused_cause : (name : List ℕ) (fault : DoorFault) (k m : Keyed) → IsDoorFault fault → IsRefusedDoor name fault k m → IsKeyCause m fault
refused_cause name fault k m h asks =
    let l : List ShelfStep = entries asks.before in
    refused_by name fault k.told (is_opened name l) (refusal l) (is_worn l) (is_full l) k m refl h asks.mine asks.is

-- ---- why a text failed

-- memory was wanting; or the end carries why; or the pass, the key or the store's count tells it
pub data TextCause (r : Round) (f : TalkFault) : Type 0 where
  memory : f ≡ NoMemory → TextCause r f
  carried : IsCarried (end_of f) → TextCause r f
  noted : HasNote r.to.pass.mine → TextCause r f
  refused : HasRefusal r.to.key.mine → TextCause r f
  risen : Rose r.before.faults r.now.faults → TextCause r f

mid_connect : (prefix : List Act) (a : Act) (rest : List Act) → NoConnects (prefix ++ a ∷ rest) → IsNoConnect a
mid_connect [] a rest (here, none) = here
mid_connect (x ∷ prefix) a rest (here, none) = mid_connect prefix a rest none

none_connects : (a : Act) → IsConnect a → IsNoConnect a → ⊥
none_connects (act.Connect name write scopes detail moment) h k = k
none_connects (act.Say reply) h k = h
none_connects (act.Enter raw) h k = h
none_connects (act.Deltas from to) h k = h
none_connects (act.Summary asked) h k = h
none_connects (act.GetObject id) h k = h
none_connects (act.PutObject bytes) h k = h

-- its note stands in the pass
round_noted : (r : Round) (f : TalkFault) → IsRound r → r.heard.fault ≡ Some f → (IsFaultOf None (Some f) → ⊥) → HasNote (talk_steps f) → HasNote r.to.pass.mine
round_noted r f is failed apart_not note = by (is_connected r.from.voice) refl
  where
    may : HasNote (may_steps r.heard.fault)
    may = subst (λ o. HasNote (may_steps o)) (sym failed) note

    reach : (reached : Option (List ℕ)) → ReachesBy reached r.from r.to r.before (acts_of r.from.voice r.text r.moment) r.done r.heard.fault → IsFaultOf reached r.heard.fault → HasNote r.to.pass.mine
    reach None away cause = absurd (apart_not (subst (IsFaultOf None) failed cause))
    reach (Some name) reaches cause = subst HasNote (sym reaches.mine) (note_back (steps_in r.done) (may_steps r.heard.fault) may)

    by : (b : Bool) → is_connected r.from.voice ≡ b → HasNote r.to.pass.mine
    by true joined =
        let heard = is.hears_it.does.connected joined in
        subst HasNote (sym heard.goes.mine) (note_back r.from.pass.mine (steps_in r.done ++ may_steps r.heard.fault) (note_back (steps_in r.done) (may_steps r.heard.fault) may))
    by false apart = reach r.reached (is.apart apart).does (is.apart apart).cause

lane_cause : (r : Round) (lf : LaneFault) → IsRound r → r.heard.fault ≡ Some (Lane lf) → IsLaneCause r.to.pass lf → TextCause r (Lane lf)
lane_cause r (lane.LogFailed note) is failed h = noted (round_noted r (Lane (lane.LogFailed note)) is failed (λ x. x) tt)
lane_cause r (lane.DeltaFailed note) is failed h = noted (round_noted r (Lane (lane.DeltaFailed note)) is failed (λ x. x) tt)
lane_cause r lane.Worn is failed h = carried tt
lane_cause r (lane.Full n) is failed h = absurd h
lane_cause r (lane.BadRecord n) is failed h = absurd h
lane_cause r (lane.NoCheckpoint a b) is failed h = absurd h
lane_cause r lane.CheckpointsFull is failed h = absurd h
lane_cause r lane.TooManyClients is failed h = absurd h
lane_cause r lane.NoMemory is failed h = absurd h
lane_cause r (lane.BadCheckpoint n f) is failed h = absurd h
lane_cause r (lane.TooLarge n) is failed h = absurd h

delta_cause : (r : Round) (df : DeltaFault) → IsRound r → r.heard.fault ≡ Some (Delta df) → IsDeltaCause r.to.pass df → TextCause r (Delta df)
delta_cause r (delta.DeltaFailed note) is failed h = noted (round_noted r (Delta (delta.DeltaFailed note)) is failed (λ x. x) tt)
delta_cause r (delta.BadDelta n) is failed h = carried tt
delta_cause r delta.Worn is failed h = carried tt
delta_cause r delta.NoMemory is failed h = absurd h

rose_noted : (before first after now : ℕ) → before ≤ first → Rose first after → after ≡ now → Rose before now
rose_noted before first after now low rose same = subst (Rose before) same (rose_later before first after low rose)

store_cause : (r : Round) (a : Act) (sf : StoreFault) → IsStoreCause a r.before r.now sf → TextCause r (Store sf)
store_cause r a (store.StoreFailed note) h = risen (rose_noted r.before.faults note.before note.after r.now.faults h.first h.rose h.last)
store_cause r a (store.Clash id kept bytes) h = carried tt
store_cause r a (store.Missing id) h = absurd h
store_cause r a (store.BadObject id place) h = absurd h
store_cause r a (store.Tree fault) h = absurd h
store_cause r a (store.NoPath path) h = absurd h
store_cause r a store.NoMemory h = absurd h

-- a document that the service refused
door_cause : (r : Round) (a : Act) (rest : List Act) (df : DoorFault) → IsRound r → r.heard.fault ≡ Some (Door df) → acts_of r.from.voice r.text r.moment ≡ acts_in r.done ++ a ∷ rest → IsConnect a → IsDoorFault df → TextCause r (Door df)
door_cause r a rest df is failed asked connect h = by (is_connected r.from.voice) refl
  where
    of_key : IsKeyCause r.to.key df → TextCause r (Door df)
    of_key (inl refusal_is) = refused refusal_is
    of_key (inr worn) = carried (subst (λ f. IsCarried (end_of (Door f))) (sym worn) tt)

    at : (done : List Did) (a : Act) → IsConnect a → IsOneAnswer (acts_in done ++ a ∷ rest) → KeyBehind (acts_in done ++ a ∷ rest) done (Some (Door df)) r.from.key r.to.key → TextCause r (Door df)
    at [] (act.Connect name write scopes detail moment) connect one key = of_key (refused_cause name df r.from.key r.to.key h key)
    at [] (act.Say reply) connect one key = absurd connect
    at [] (act.Enter raw) connect one key = absurd connect
    at [] (act.Deltas from to) connect one key = absurd connect
    at [] (act.Summary asked) connect one key = absurd connect
    at [] (act.GetObject id) connect one key = absurd connect
    at [] (act.PutObject bytes) connect one key = absurd connect
    at (d ∷ []) a connect one key = absurd (more_none d.act a rest one)
    at (d ∷ e ∷ done) a connect one key = absurd (more_none d.act e.act (acts_in done ++ a ∷ rest) one)

    reach : (reached : Option (List ℕ)) → is_connected r.from.voice ≡ false → ReachesBy reached r.from r.to r.before (acts_of r.from.voice r.text r.moment) r.done r.heard.fault → IsFaultOf reached r.heard.fault → TextCause r (Door df)
    reach (Some name) apart reaches cause = absurd (subst (IsFaultOf (Some name)) failed cause)
    reach None apart away cause =
        at r.done a connect (subst IsOneAnswer asked (others_connect r.from.voice r.text r.moment apart))
        (subst (λ l. KeyBehind l r.done (Some (Door df)) r.from.key r.to.key) asked (subst (λ f. KeyBehind (acts_of r.from.voice r.text r.moment) r.done f r.from.key r.to.key) failed away.key))

    by : (b : Bool) → is_connected r.from.voice ≡ b → TextCause r (Door df)
    by true joined = absurd (none_connects a connect (mid_connect (acts_in r.done) a rest (subst NoConnects asked (no_connects r.from.voice r.text r.moment joined))))
    by false apart = reach r.reached apart (is.apart apart).does (is.apart apart).cause

text_cause : (r : Round) (f : TalkFault) → IsRound r → r.heard.fault ≡ Some f → TextCause r f
text_cause r f is failed = by is.hears_it.does.rest is.hears_it.does.asked (subst (λ o. IfSome o (IsCauseAt r.to.pass r.before r.now is.hears_it.does.rest)) failed is.hears_it.does.cause)
  where
    memory_of : (f : TalkFault) → IsNoMemory f → f ≡ NoMemory
    memory_of NoMemory h = refl
    memory_of (Door fault) h = absurd h
    memory_of (Lane fault) h = absurd h
    memory_of (Delta fault) h = absurd h
    memory_of (Store fault) h = absurd h

    of_act : (f : TalkFault) (a : Act) (rest : List Act) → r.heard.fault ≡ Some f → acts_of r.from.voice r.text r.moment ≡ acts_in r.done ++ a ∷ rest → IsCauseOf r.to.pass r.before r.now a f → TextCause r f
    of_act (Door df) a rest failed asked (connect, h) = door_cause r a rest df is failed asked connect h
    of_act (Lane lf) a rest failed asked (entering, h) = lane_cause r lf is failed h
    of_act (Delta df) a rest failed asked (range, h) = delta_cause r df is failed h
    of_act (Store sf) a rest failed asked (asked_is, h) = store_cause r a sf h
    of_act NoMemory a rest failed asked h = memory refl

    by : (rest : List Act) → acts_of r.from.voice r.text r.moment ≡ acts_in r.done ++ rest → IsCauseAt r.to.pass r.before r.now rest f → TextCause r f
    by [] asked h = memory (memory_of f h)
    by (a ∷ rest) asked h = of_act f a rest failed asked h

-- ---- the store's count

store_later : (es : List Event) (s t : Stand) → AreEvents s es t → s.store.faults ≤ t.store.faults
store_later [] s t same = subst (λ (x : Stand). s.store.faults ≤ x.store.faults) (sym same) (omega arith)
store_later (brings c ∷ es) s t (begins, (is, more)) = store_later es (behind (brings c) s) t more
store_later (hears r ∷ es) s t (begins, (is, more)) =
    let one : r.before.faults ≤ r.now.faults = is.hears_it.does.store.later in
    let from : r.before.faults ≡ s.store.faults = ap (λ (x : Storing). x.faults) begins.1 in
    let rest : r.now.faults ≤ t.store.faults = store_later es (behind (hears r) s) t more in
    omega (arith, one, from, rest)

-- ---- texts that are too long

short_in : (a b : List (List ℕ)) → All (λ text. length text ≤ LONGEST_TEXT) (a ++ b) → All (λ text. length text ≤ LONGEST_TEXT) b
short_in [] b all = all
short_in (x ∷ a) b all = short_in a b (All-tail (λ text. length text ≤ LONGEST_TEXT) x (a ++ b) all)

not_long : (more : List (List ℕ)) (size : ℕ) → All (λ text. length text ≤ LONGEST_TEXT) more → LONGEST_TEXT < size → IsLongNext size more → ⊥
not_long more size all above long =
    let head : length long.next ≤ LONGEST_TEXT = All-head (λ text. length text ≤ LONGEST_TEXT) long.next long.more (subst (All (λ text. length text ≤ LONGEST_TEXT)) long.are all) in
    let size_is : size ≤ length long.next = long.long in
    absurd (omega (arith, head, size_is, above))

none_long : (ins texts : List (List ℕ)) (old mid : Option (List (List ℕ))) (size : ℕ) → old ≡ Some texts → old ≡ option_map (λ more. ins ++ more) mid → All (λ text. length text ≤ LONGEST_TEXT) texts → LONGEST_TEXT < size
    → Tells mid (IsLongNext size) → ⊥
none_long ins texts old None size told taken all above long = some_is_none texts (sym told ∙ taken)
  where
    some_is_none : (texts : List (List ℕ)) → ◌≡◌ {A = Option (List (List ℕ))} (Some texts) None → ⊥
    some_is_none texts same = cc
none_long ins texts old (Some more) size told taken all above long =
    not_long more size (short_in ins more (subst (All (λ text. length text ≤ LONGEST_TEXT)) (same_texts texts (ins ++ more) (sym told ∙ taken)) all)) above long
  where
    same_texts : (a b : List (List ℕ)) → ◌≡◌ {A = Option (List (List ℕ))} (Some a) (Some b) → a ≡ b
    same_texts a b same = cc

-- ---- all of it

module _ (s u : Talking) (before now : Storing) (old new : Wiring) (report : Report) (account : Account s u before now old new report) (fine : NothingFailed u before now old new report) where
  abbrev m : Talking
  m = account.runs.behind_them

  abbrev Completes : Type 0
  Completes = (report.end ≡ end.Closed) ⊎ (report.end ≡ end.NoMemory)

  closing : Closes m u account.moment report.end
  closing =
      closes m account.last u account.moment account.end report.end
      (stops_halts account.runs.events m account.last old account.runs.mid new account.tally account.end account.runs.by) account.ends.result account.ends.leaves account.ends.last_is

  -- memory was wanting before the leave
  at_memory : account.end ≡ end.NoMemory → Completes
  at_memory is = inr (memory_behind report.end fine.carried account.ends.result (account.ends.last_is ∙ ap (λ e. behind_leave e account.ends.result) is))

  -- the end before the leave carries why
  at_carried : (f : TalkFault) → account.end ≡ end_of f → IsCarried (end_of f) → Completes
  at_carried f is carries =
      inr (carried_behind report.end fine.carried (end_of f) account.ends.result (account.ends.last_is ∙ ap (λ e. behind_leave e account.ends.result) is) (fixed_end (end_of f) carries) carries)
    where
      fixed_end : (last : SessionEnd) → IsCarried last → IsFixed last
      fixed_end (end.Other fault) h = tt
      fixed_end end.Closed h = absurd h
      fixed_end end.WireFault h = absurd h
      fixed_end (end.TooLong size) h = absurd h
      fixed_end (end.LogFault note) h = absurd h
      fixed_end (end.DeltaFault note) h = absurd h
      fixed_end (end.StoreFault note) h = absurd h
      fixed_end end.NoMemory h = absurd h
      fixed_end (end.Abused unread) h = absurd h

  -- the wire
  at_wire : (fault : WireFault) → account.end ≡ wire_end fault → IsWireCause old new fault → Completes
  at_wire wire.Failed is cause = absurd (fine.wire cause)
  at_wire wire.NoMemory is cause = at_memory is

  -- a fault of the pass that stands in `mine` of the connection before the leave
  noted_never : HasNote account.last.pass.mine → ⊥
  noted_never note = fine.pass (leave_noted account.ends.result account.ends.leaves)
    where
      entered_leave : (raw : Option Raw) → EntersLeave raw account.last.pass u.pass → HasNote u.pass.mine
      entered_leave None same = subst (λ (p : Knowing). HasNote p.mine) (sym same) note
      entered_leave (Some raw) enters = subst HasNote (sym enters.goes.mine) (note_prefix account.last.pass.mine _ note)

      leave_noted : (result : Result (Unit {0}) TalkFault) → Leaves account.last u account.moment result → HasNote u.pass.mine
      leave_noted (Ok done) leaves = entered_leave (leave_of account.moment account.last.voice) leaves.does.pass
      leave_noted (Err fault) leaves = subst HasNote (sym leaves.does.goes.mine) (note_prefix account.last.pass.mine (talk_steps fault) note)

  at_collect : (fault : TalkFault) → account.end ≡ end_of fault → FailsAs m account.last IsCollectCause fault → Completes
  at_collect NoMemory is fails = at_memory is
  at_collect (Delta (delta.DeltaFailed note)) is fails = absurd (noted_never (subst HasNote (sym fails.goes.mine) (note_back m.pass.mine (talk_steps (Delta (delta.DeltaFailed note))) tt)))
  at_collect (Delta (delta.BadDelta n)) is fails = at_carried (Delta (delta.BadDelta n)) is tt
  at_collect (Delta delta.Worn) is fails = at_carried (Delta delta.Worn) is tt
  at_collect (Delta delta.NoMemory) is fails = absurd fails.cause_is
  at_collect (Door fault) is fails = absurd fails.cause_is
  at_collect (Lane fault) is fails = absurd fails.cause_is
  at_collect (Store fault) is fails = absurd fails.cause_is

  -- a text
  at_round : (r : Round) (f : TalkFault) → account.end ≡ end_of f → EndsIn (hears r) account.runs.events → r.heard.fault ≡ Some f → account.last ≡ m → Completes
  at_round r f is last failed same =
      let parts = split_events last.prefix (hears r ∷ []) (record { talk = s; store = before }) (record { talk = m; store = now }) (subst (λ l. AreEvents (record { talk = s; store = before }) l (record { talk = m; store = now })) last.are account.runs.are) in
      by parts.0 parts.1.0 parts.1.1.0.1 parts.1.1.1.0 parts.1.1.1.1
    where
      by : (mid : Stand) → AreEvents (record { talk = s; store = before }) last.prefix mid → r.before ≡ mid.store → IsRound r → ◌≡◌ {A = Stand} (record { talk = m; store = now }) (record { talk = r.to; store = r.now }) → Completes
      by mid first from is_round to = of_cause (text_cause r f is_round failed)
        where
          to_talk : m ≡ r.to
          to_talk = ap (λ (x : Stand). x.talk) to

          to_store : now ≡ r.now
          to_store = ap (λ (x : Stand). x.store) to

          of_cause : TextCause r f → Completes
          of_cause (memory none) = at_memory (is ∙ ap end_of none)
          of_cause (carried carries) = at_carried f is carries
          of_cause (noted note) = absurd (noted_never (subst (λ (k : Talking). HasNote k.pass.mine) (sym (same ∙ to_talk)) note))
          of_cause (refused refusal_is) = absurd (fine.key (subst (λ (k : Keyed). HasRefusal k.mine) (sym (closing.key ∙ ap (λ (k : Talking). k.key) to_talk)) refusal_is))
          of_cause (risen rose) =
              let later : before.faults ≤ r.before.faults = subst (λ (x : Storing). before.faults ≤ x.faults) (sym from) (store_later last.prefix (record { talk = s; store = before }) mid first) in
              absurd (fine.objects (subst (λ (x : Storing). Rose before.faults x.faults) (sym to_store) (rose_later before.faults r.before.faults r.now.faults later rose)))

  -- the wire's texts are at their end: the leave may fail
  at_closed : account.end ≡ end.Closed → Completes
  at_closed is = by account.ends.result account.ends.leaves (account.ends.last_is ∙ ap (λ e. behind_leave e account.ends.result) is)
    where
      failed : (fault : TalkFault) → FailsAs account.last u IsLeaveCause fault → report.end ≡ end_of fault → Completes
      failed NoMemory fails is = inr is
      failed (Lane (lane.LogFailed note)) fails is = absurd (fine.pass (subst HasNote (sym fails.goes.mine) (note_back account.last.pass.mine (talk_steps (Lane (lane.LogFailed note))) tt)))
      failed (Lane (lane.DeltaFailed note)) fails is = absurd (fine.pass (subst HasNote (sym fails.goes.mine) (note_back account.last.pass.mine (talk_steps (Lane (lane.DeltaFailed note))) tt)))
      failed (Lane lane.Worn) fails is = absurd (fine.carried (subst IsCarried (sym is) tt))
      failed (Lane (lane.Full n)) fails is = absurd fails.cause_is
      failed (Lane (lane.BadRecord n)) fails is = absurd fails.cause_is
      failed (Lane (lane.NoCheckpoint a b)) fails is = absurd fails.cause_is
      failed (Lane lane.CheckpointsFull) fails is = absurd fails.cause_is
      failed (Lane lane.TooManyClients) fails is = absurd fails.cause_is
      failed (Lane lane.NoMemory) fails is = absurd fails.cause_is
      failed (Lane (lane.BadCheckpoint n f)) fails is = absurd fails.cause_is
      failed (Lane (lane.TooLarge n)) fails is = absurd fails.cause_is
      failed (Door fault) fails is = absurd fails.cause_is
      failed (Delta fault) fails is = absurd fails.cause_is
      failed (Store fault) fails is = absurd fails.cause_is

      by : (result : Result (Unit {0}) TalkFault) → Leaves account.last u account.moment result → report.end ≡ behind_leave end.Closed result → Completes
      by (Ok done) leaves is = inl is
      by (Err fault) leaves is = failed fault leaves.does is

  pub completes : Stops account.runs.events m account.last old account.runs.mid new account.tally account.end → Completes
  completes (at_end is whole few same reached none) = at_closed is
  completes (at_long size is whole few same above next) = absurd (none_long (ins_of (history_of account.runs.events)) fine.texts old.texts account.runs.mid.texts size fine.told account.runs.passes.taken fine.short above next)
  completes (at_receive fault is whole few same cause) = at_wire fault is cause
  completes (at_feed c fault is last few unsent same cause) = at_wire fault is cause
  completes (at_reply r fault is last few unsent well same cause) = at_wire fault is cause
  completes (at_text r fault is last few failed same) = at_round r fault is last failed same
  completes (at_collection fault is whole few joined fails) = at_collect fault is fails
  completes (at_count is whole many same) = absurd (let unread = account.numbers.unread in let below = fine.few in omega (arith, unread, below, many))

pub ends_with_its_wire : EndsWithItsWire
ends_with_its_wire s u before now old new report serves fine = completes s u before now old new report serves.account fine serves.account.runs.by
