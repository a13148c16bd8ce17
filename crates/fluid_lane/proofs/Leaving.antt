-- Leave by leave: what has left, and with one leave more.
use Rattle.std.proofs.Common.{◌≡◌, ℕ, ◌+◌, ◌<◌, ◌≤◌, nat_le, if◌then◌else◌, Bool, true, false, List, [], ◌∷◌, ◌++◌, length, slice_get, Option, Some, None, is_some, Ok, Err, inl, inr, refl, sym, ap, subst, ◌∙◌, arith, append_assoc, append-nil, length-append, Result}
use Rattle.std.proofs.lemmas.List.{map-append, nil_from_length}
use Rattle.std.proofs.lemmas.Bool.{leb-true}
use Rattle.std.specs.Option.{option_map}
use Rattle.std.specs.FinMap.{keys, len}
use Rattle.fluid_io.specs.Causes.{Tells}
use Rattle.fluid_types.specs.declared.entries.Raw.{Raw}
use Rattle.fluid_types.specs.declared.entries.Raw.TheVariants.{Leave}
use Rattle.fluid_types.specs.declared.messages.Message.{Message}
use Rattle.fluid_types.specs.Printed.{raw_printed}
use Rattle.fluid_log.specs.Keeping.{Content, Keeping}
use Rattle.fluid_log.specs.Calls.{KeepsSame, add_records, with_record}
use Rattle.fluid_log.proofs.Sameness.{same_itself, same_twice}
use Rattle.fluid_deltas.specs.Flushes.{put_behind, with_deltas, lacking_up_to}
use Rattle.fluid_core.specs.Entering.{verdict_in, after}
use Rattle.fluid_deltas.specs.Pushed.{Pushed}
use Rattle.fluid_deltas.specs.declared.pages.TheConstants.{PAGE, RESIDENT}
use Rattle.fluid_types.specs.Forms.{largest}
use Rattle.fluid_document.specs.Entries.{Entries, InMemory, IsLevelled, taken_up}
use Rattle.fluid_document.specs.Rooms.{for_room}
use Rattle.fluid_document.specs.Entry.{EntersBy}
use Rattle.fluid_document.specs.declared.fault.EnterFault.{EnterFault}
use Rattle.fluid_document.specs.declared.fault.EnterFault.TheVariants as entering
use Rattle.fluid_document.specs.Kept.{records}
use Rattle.fluid_lane.specs.declared.fault.LaneFault.{LaneFault}
use Rattle.fluid_lane.specs.declared.fault.LaneFault.TheVariants.{LogFailed, DeltaFailed, NoMemory, Worn}
use Rattle.fluid_lane.specs.Faults.{of_entering}
use Rattle.fluid_lane.specs.Standing.{Standing, IsFor}
use Rattle.fluid_lane.specs.Starting.{run, leaves, takes, Grew, IsFirst, LeavesFirst, Waits, LeaveDoes, HasLeft, HasSomeLeft, LeavesAll}
use Rattle.fluid_readback.proofs.Fitting.{leaves_fit}
use Rattle.fluid_types.specs.Names.{IsName}
use Rattle.fluid_lane.proofs.Ids.{length-keys, first_and_rest}
use Rattle.fluid_lane.proofs.Recorded.{records-push}
use Rattle.fluid_lane.proofs.Removing.{keys-left}
use Rattle.fluid_lane.proofs.Named.{taken-entered}
use Rattle.fluid_lane.proofs.Composed.{keeps_nothing}
use Rattle.fluid_lane.proofs.Stands.{told_map, for_entered}

-- ---- what was added to a keeper

pub grew_on : (xs ys : List (List ℕ)) (old mid new : Keeping) → Grew xs old mid → Grew ys mid new → Grew (xs ++ ys) old new
grew_on xs ys old mid new first next = record {
  messages = first.messages ++ next.messages;
  kept = record {
    content = next.kept.content ∙ ap (λ o. option_map (put_behind next.messages) (option_map (add_records ys) o)) first.kept.content ∙ both old.content;
    records = omega (arith, next.kept.records, first.kept.records, length-append xs ys);
    deltas = omega (arith, next.kept.deltas, first.kept.deltas, length-append first.messages next.messages);
    checkpoints = next.kept.checkpoints ∙ first.kept.checkpoints;
  };
}
  where
    both : (o : Option Content) → option_map (put_behind next.messages) (option_map (add_records ys) (option_map (put_behind first.messages) (option_map (add_records xs) o))) ≡ option_map (put_behind (first.messages ++ next.messages)) (option_map (add_records (xs ++ ys)) o)
    both None = refl
    both (Some c) = simp (append_assoc, map-append)

-- messages alone
pub grew_put : (ms : List Message) (old new : Keeping) → KeepsSame (with_deltas ms old) new → Grew [] old new
grew_put ms old new same = record {
  messages = ms;
  kept = record { content = same.content ∙ none old.content; records = omega (arith, same.records); deltas = same.deltas; checkpoints = same.checkpoints };
}
  where
    none : (o : Option Content) → option_map (put_behind ms) o ≡ option_map (put_behind ms) (option_map (add_records []) o)
    none None = refl
    none (Some c) = simp append-nil

-- a record behind them
pub grew_record : (ms : List Message) (bytes : List ℕ) (old new : Keeping) → KeepsSame (with_record bytes (with_deltas ms old)) new → Grew (bytes ∷ []) old new
grew_record ms bytes old new same =
    let put = with_deltas ms old in
    grew_on [] (bytes ∷ []) old put new (grew_put ms old put (same_itself put)) (record { messages = []; kept = same_twice _ (with_record bytes put) new (keeps_nothing (with_record bytes put)) same })

pub grew_told : (more : List (List ℕ)) (old new : Keeping) → Grew more old new → is_some new.content ≡ is_some old.content
grew_told more old new grew = ap is_some grew.kept.content ∙ told_map (put_behind grew.messages) (option_map (add_records more) old.content) ∙ told_map (add_records more) old.content

-- ---- leaves

has_left_nobody : (moment : ℕ) (k : Keeping) (m : InMemory) → m.messages.before ≤ k.deltas → HasLeft moment k k m m
has_left_nobody moment k m reached = record {
  done = [];
  splits = refl;
  folds = refl;
  entered = omega arith;
  few = λ le. le;
  count = omega arith;
  grew = grew_put [] k k (keeps_nothing k);
  later = omega arith;
  reads = refl;
  reached = reached;
  early = (omega arith, omega (arith, reached));
  lacked = omega arith;
  stands = λ l is. rw append-nil is;
}

taken-state : (e : Entries) (raw : Raw) → (taken_up e raw).state ≡ after e.state raw (verdict_in e.state raw)
unfolding taken_up
taken-state e raw = refl

-- the ids behind the leave of the first one
rest_is : (moment : ℕ) (before now : InMemory) (id : List ℕ) (is : IsFirst moment before id) → now.entries ≡ taken_up before.entries (Leave id moment) → keys now.entries.state.sequencer.rows ≡ is.rest
rest_is moment before now id is entries =
    ap (λ e. keys e.state.sequencer.rows) entries ∙ ap (λ s. keys s.sequencer.rows) (taken-state before.entries (Leave id moment)) ∙ keys-left before.entries.state id is.rest moment is.first

one_left : (moment : ℕ) (before now : InMemory) (id : List ℕ) (is : IsFirst moment before id) → now.entries ≡ taken_up before.entries (Leave id moment)
    → run before.entries.state (leaves moment before.entries.state) ≡ (Leave id moment, verdict_in before.entries.state (Leave id moment)) ∷ run now.entries.state (leaves moment now.entries.state)
one_left moment before now id is entries = rw (is.first, rest_is moment before now id is entries, entries, taken-state before.entries (Leave id moment))

one_taken : (moment : ℕ) (before now : InMemory) (id : List ℕ) (is : IsFirst moment before id) → now.entries ≡ taken_up before.entries (Leave id moment) → takes before.entries (leaves moment before.entries.state) ≡ takes now.entries (leaves moment now.entries.state)
one_taken moment before now id is entries = rw (is.first, rest_is moment before now id is entries, entries)

one_less : (moment : ℕ) (before now : InMemory) (id : List ℕ) (is : IsFirst moment before id) → now.entries ≡ taken_up before.entries (Leave id moment) → len now.entries.state.sequencer.rows + 1 ≡ len before.entries.state.sequencer.rows
one_less moment before now id is entries =
    omega (arith, length-keys now.entries.state.sequencer.rows, length-keys before.entries.state.sequencer.rows, ap length is.first, ap length (rest_is moment before now id is entries))

-- a lane of these parts; any limits will do
abbrev standing : Keeping → InMemory → Standing
standing k m = record { keeping = k; entries = m.entries; messages = m.messages; limits = record { entries = 0; clients = 0; checkpoints = 0; bytes = 0 }; opened = 0; sides = 0; last = None; owed = false }

-- one more has left
has_left_more : (moment : ℕ) (old mid new : Keeping) (before here now : InMemory) → HasLeft moment old mid before here → LeavesFirst moment mid new here now (Ok tt) → HasLeft moment old new before now
has_left_more moment old mid new before here now has one =
    let raw : Raw = Leave one.id moment in
    let e = one.enters in
    let v = verdict_in here.entries.state raw in
    let entries = e.does.entries in
    let entered : now.entries.entered ≡ here.entries.entered + 1 = ap (λ x. x.entered) entries ∙ taken-entered here.entries raw in
    let longer = length-append has.done ((raw, v) ∷ []) in
    record {
      done = has.done ++ (raw, v) ∷ [];
      splits = has.splits ∙ ap (λ more. has.done ++ more) (one_left moment here now one.id one.is entries) ∙ sym (append_assoc has.done ((raw, v) ∷ []) (run now.entries.state (leaves moment now.entries.state)));
      folds = has.folds ∙ one_taken moment here now one.id one.is entries;
      entered = omega (arith, has.entered, longer, entered);
      few = λ _. omega (arith, one.is.few, entered);
      count = omega (arith, has.count, longer, one_less moment here now one.id one.is entries);
      grew = rw (records-push has.done (raw, v)) (grew_on (records has.done) (raw_printed raw ∷ []) old mid new has.grew (grew_record (for_room here.messages mid.deltas) (raw_printed raw) mid new e.does.kept));
      later = omega (arith, has.later, e.later);
      reads = e.reads ∙ has.reads;
      reached = e.reached;
      early = (omega (arith, has.early.0, e.does.early.0), omega (arith, has.early.1, e.does.early.0, e.does.early.1));
      lacked = omega (arith, has.lacked, e.lacked, entered);
      stands = λ l is.
          subst (λ x. Tells new.content (IsFor false now.entries now.messages x)) (append_assoc l has.done ((raw, v) ∷ []))
          (for_entered (standing mid here) (standing new now) (for_room here.messages mid.deltas) raw (l ++ has.done) e.does.kept entries refl refl (record { fits = one.is.fits; text = e.does.text }) one.is.few e.stands (has.stands l is));
    }

-- a call that left everything as it was
has_left_same : (moment : ℕ) (old mid new : Keeping) (before here now : InMemory) → HasLeft moment old mid before here → Waits mid new here now → mid.faults ≤ new.faults → new.reads ≡ mid.reads → HasLeft moment old new before now
has_left_same moment old mid new before here now has waits later reads =
    rw waits.stays
    (record {
      done = has.done;
      splits = has.splits;
      folds = has.folds;
      entered = has.entered;
      few = has.few;
      count = has.count;
      grew = record { messages = has.grew.messages; kept = same_twice _ mid new has.grew.kept waits.same };
      later = omega (arith, has.later, later);
      reads = reads ∙ has.reads;
      reached = omega (arith, has.reached, waits.same.deltas);
      early = (has.early.0, omega (arith, has.early.1, waits.same.deltas));
      lacked = omega (arith, has.lacked, waits.same.deltas);
      stands = λ l is. rw waits.same.content (has.stands l is);
    })

-- the first of the joined clients, whose leave fits a log
pub leaves_first : (moment : ℕ) (old new : Keeping) (before now : InMemory) (id : List ℕ) (result : Result (Unit {0}) EnterFault) → IsName id → moment ≤ largest → slice_get (keys before.entries.state.sequencer.rows) 0 ≡ Some id → before.entries.entered < largest
    → EntersBy (Leave id moment) old new before now result → LeavesFirst moment old new before now result
leaves_first moment old new before now id result name small first few enters =
    let ids = first_and_rest (keys before.entries.state.sequencer.rows) id first in
    record { id = id; is = record { rest = ids.0; first = ids.1; fits = leaves_fit id moment name small; few = few }; enters = enters }

-- messages that make room are put only where there are as many entries as messages may be in memory
needed_room : (e : Entries) (d : Pushed) (deltas count : ℕ) → IsLevelled e d → count < length (for_room d deltas) → RESIDENT ≤ e.entered
needed_room e d deltas count levelled within = by (nat_le RESIDENT (length d.held)) refl
  where
    by : (full : Bool) → nat_le RESIDENT (length d.held) ≡ full → RESIDENT ≤ e.entered
    by true is = omega (arith, leb-true RESIDENT (length d.held) is, levelled.level, levelled.sequenced)
    by false is = absurd (omega (arith, within, ap (λ b. length (if b then lacking_up_to d deltas (d.before + PAGE) else [])) is))

-- a leave that was refused, as its lane tells it
pub leave_fails : (moment : ℕ) (old new : Keeping) (before now : InMemory) (fault : EnterFault) → IsLevelled before.entries before.messages → LeavesFirst moment old new before now (Err fault) → LeaveDoes moment old new before now (Err (of_entering fault))
leave_fails moment old new before now (entering.LogFailed note) levelled first = first
leave_fails moment old new before now (entering.DeltaFailed note) levelled first = (first, needed_room before.entries before.messages old.deltas first.enters.does.1.count levelled first.enters.does.1.within)
leave_fails moment old new before now entering.NoMemory levelled first = inr first

-- ---- the loop

-- so many have left
pub record HasDismissed (moment : ℕ) (old new : Keeping) (before now : InMemory) (turns : ℕ) : Type 0 where
  pub has : HasLeft moment old new before now
  pub turns_are : now.entries.entered ≡ before.entries.entered + turns

pub dismissed_nobody : (moment : ℕ) (k : Keeping) (m : InMemory) → m.messages.before ≤ k.deltas → HasDismissed moment k k m m 0
dismissed_nobody moment k m reached = record { has = has_left_nobody moment k m reached; turns_are = omega arith }

pub dismissed_more : (moment : ℕ) (old mid new : Keeping) (before here now : InMemory) (turns : ℕ) → HasDismissed moment old mid before here turns → LeavesFirst moment mid new here now (Ok tt) → HasDismissed moment old new before now (turns + 1)
dismissed_more moment old mid new before here now turns so_far one = record {
  has = has_left_more moment old mid new before here now so_far.has one;
  turns_are = omega (arith, so_far.turns_are, ap (λ e. e.entered) one.enters.does.entries, taken-entered here.entries (Leave one.id moment));
}

pub some_left : (moment : ℕ) (old new : Keeping) (before now : InMemory) (turns : ℕ) → HasDismissed moment old new before now turns → turns < len before.entries.state.sequencer.rows → 0 < len now.entries.state.sequencer.rows
some_left moment old new before now turns so_far lt = omega (arith, so_far.turns_are, so_far.has.entered, so_far.has.count, lt)

pub all_left : (moment : ℕ) (old new : Keeping) (before now : InMemory) (turns : ℕ) → HasDismissed moment old new before now turns → len before.entries.state.sequencer.rows ≤ turns → keys now.entries.state.sequencer.rows ≡ []
all_left moment old new before now turns so_far le =
    nil_from_length (keys now.entries.state.sequencer.rows) (omega (arith, length-keys now.entries.state.sequencer.rows, so_far.turns_are, so_far.has.entered, so_far.has.count, le))

-- one is left, and nothing was asked of the keeper for it
some_stay : (moment : ℕ) (old mid new : Keeping) (before here now : InMemory) (turns : ℕ) → HasDismissed moment old mid before here turns → turns < len before.entries.state.sequencer.rows → mid.faults ≤ new.faults → new.reads ≡ mid.reads → Waits mid new here now
    → HasSomeLeft moment old new before now
some_stay moment old mid new before here now turns so_far lt later reads waits = record {
  has = has_left_same moment old mid new before here now so_far.has waits later reads;
  more = omega (arith, some_left moment old mid before here turns so_far lt, ap (λ m. len m.entries.state.sequencer.rows) waits.stays);
}

-- a fault on the way
pub left_by : (moment : ℕ) (old mid new : Keeping) (before here now : InMemory) (turns : ℕ) (fault : LaneFault) → HasDismissed moment old mid before here turns → turns < len before.entries.state.sequencer.rows → mid.faults ≤ new.faults → new.reads ≡ mid.reads
    → LeaveDoes moment mid new here now (Err fault) → LeavesAll moment old new before now (Err fault)
left_by moment old mid new before here now turns (LogFailed note) so_far lt later reads does = record { mid = mid; here = here; has = so_far.has; next = does }
left_by moment old mid new before here now turns (DeltaFailed note) so_far lt later reads does = (
  record { mid = mid; here = here; has = so_far.has; next = does.0 },
  omega (arith, does.1, ap (λ e. e.entered) does.0.enters.does.0),
)
left_by moment old mid new before here now turns NoMemory so_far lt later reads (inl waits) = inl (some_stay moment old mid new before here now turns so_far lt later reads waits)
left_by moment old mid new before here now turns NoMemory so_far lt later reads (inr next) = inr (record { mid = mid; here = here; has = so_far.has; next = next })
left_by moment old mid new before here now turns Worn so_far lt later reads does = (
  some_stay moment old mid new before here now turns so_far lt later reads does.0,
  omega (arith, does.1, ap (λ m. m.entries.entered) does.0.stays),
)
left_by moment old mid new before here now turns other so_far lt later reads does = absurd does
