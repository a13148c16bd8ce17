-- What a lane that was started stands for, and what a keeper has where the start was cut short.
use Rattle.std.proofs.Common.{◌≡◌, ◌⊎◌, ℕ, zero, suc, ◌<◌, ◌≤◌, false, List, [], ◌∷◌, ◌++◌, length, map, Option, Some, None, is_some, Result, Ok, Err, refl, sym, ap, subst, ◌∙◌, arith, inl, inr, append-nil, append_assoc, ⊎_elim, take}
use Rattle.std.proofs.lemmas.List.{length-replicate, length-map}
use Rattle.std.specs.FinMap.{keys, len}
use Rattle.std.proofs.lemmas.Bool.{lt-leb, false≢true}
use Rattle.fluid_io.specs.Causes.{Tells}
use Rattle.fluid_types.specs.declared.entries.Raw.{Raw}
use Rattle.fluid_types.specs.declared.entries.Raw.TheVariants.{Leave}
use Rattle.fluid_types.specs.declared.messages.Message.{Message}
use Rattle.fluid_types.specs.declared.verdicts.Verdict.TheVariants.{Dropped}
use Rattle.fluid_types.specs.Ledger.{Ledger, order, messages_of}
use Rattle.fluid_types.specs.Printed.{raw_printed, message_printed}
use Rattle.fluid_types.proofs.Ledgers.{order-push}
use Rattle.fluid_rules.specs.declared.limits.Limits.{Limits}
use Rattle.fluid_log.specs.Keeping.{Content, Keeping, HasLengths, IsSized}
use Rattle.fluid_log.specs.Calls.{add_record}
use Rattle.fluid_deltas.specs.Pushed.{StandFor}
use Rattle.fluid_deltas.specs.Flushes.{put_behind}
use Rattle.fluid_deltas.proofs.Telling.{tells_from, tells_both, tells_each}
use Rattle.fluid_core.specs.Entering.{State, state_of, verdict_in, after}
use Rattle.fluid_document.specs.declared.fault.LoadFault.{LoadFault}
use Rattle.fluid_document.specs.declared.fault.LoadFault.TheVariants as loading
use Rattle.fluid_document.specs.declared.fault.EnterFault.{EnterFault}
use Rattle.fluid_document.specs.declared.fault.EnterFault.TheVariants as entering
use Rattle.fluid_document.specs.Entries.{Entries, InMemory, entries_of}
use Rattle.fluid_document.specs.Rooms.{for_room, roomed}
use Rattle.fluid_document.specs.Loading.{loaded, newest, ReadsBehind, PutsDeltas, IsBadAs, IsLoadFault}
use Rattle.fluid_document.specs.Puts.{PutsFirst, PutsFew}
use Rattle.fluid_document.specs.Taking.{ReadsKept}
use Rattle.fluid_document.specs.Kept.{records, IsKept}
use Rattle.fluid_document.specs.Laws.{CheckpointIsLoaded}
use Rattle.fluid_document.proofs.Keeps.{kept_more, deltas_grow}
use Rattle.fluid_document.proofs.Foldings.{state-entries_of, entered-entries_of}
use Rattle.fluid_document.proofs.Reloading.{loaded-first}
use Rattle.fluid_lane.specs.declared.fault.LaneFault.{LaneFault}
use Rattle.fluid_lane.specs.declared.fault.LaneFault.TheVariants.{LogFailed, DeltaFailed, NoMemory, Worn}
use Rattle.fluid_lane.specs.Faults.{of_entering, of_loading, IsCausedBy, IsLogFailed}
use Rattle.fluid_lane.specs.Steps.{ledger, last_side, stored, asides, AreNoted, steps}
use Rattle.fluid_lane.proofs.Listed.{length-parts}
use Rattle.fluid_lane.specs.Standing.{Standing, IsFor, IsTold, LaneStands}
use Rattle.fluid_lane.specs.Restarts.{IsNotBad}
use Rattle.fluid_lane.specs.Starting.{run, leaves, takes, opening, Grew, LeavesFirst, HasLeft, HasSomeLeft, LeavesAll, LeftSome, StartsBad, IsFaultOfStart, StopsAtLeave, Adds, Starts}
use Rattle.fluid_lane.proofs.Restarting.{same_ok, never_err}
use Rattle.fluid_lane.proofs.Ids.{length-keys}
use Rattle.fluid_lane.proofs.Recorded.{length-records, records-push}
use Rattle.fluid_lane.proofs.Leaving.{grew_on, grew_put, grew_record, grew_told}
use Rattle.fluid_lane.proofs.Stands.{told_too, told_map, told_changed, twice, kept_next}
use Rattle.std.proofs.Math.ListN.{replicate}
use Rattle.fluid_document.specs.Entry.{IsAppended}

-- ---- what was read

newest-some : (n : ℕ) → newest (suc n) ≡ Some n
newest-some n = rw (lt-leb (suc n) 0 (omega arith)) (ap Some (omega arith))

at_newest : CheckpointIsLoaded → (l : Ledger) (c : Content) (n : ℕ) → n ≡ length c.checkpoints → IsKept false l c → loaded c (newest n) ≡ Ok (entries_of l)
at_newest law l c zero is kept = loaded-first l c kept
at_newest law l c (suc n) is kept = ap (loaded c) (newest-some n) ∙ law l c n kept (omega (arith, is))

-- what is known of a keeper and of what was read of it
pub record Opens (old mid : Keeping) (m : InMemory) : Type 0 where
  pub law : CheckpointIsLoaded
  pub sized : IsSized old
  pub puts : PutsDeltas old mid
  pub later : old.faults ≤ mid.faults
  pub level : m.entries.entered ≡ old.records
  pub early : PutsFirst m.messages.before old mid
  pub lacked : PutsFew old.records old mid
  pub loads : Tells old.content (λ c. loaded c (newest old.checkpoints) ≡ Ok m.entries)
  pub kept : (l : Ledger) → Tells old.content (IsKept false l) → Tells mid.content (ReadsKept {A = InMemory} (λ d. d) l (Ok m))

same_told : (old mid : Keeping) → PutsDeltas old mid → is_some mid.content ≡ is_some old.content
same_told old mid puts = ap is_some puts.kept.content ∙ told_map (put_behind puts.messages) old.content

-- of a keeper that is kept for a ledger the ledger's entries are read
kept_reads : CheckpointIsLoaded → (old : Keeping) (l : Ledger) → IsSized old → Tells old.content (IsKept false l) → Tells old.content (λ c. loaded c (newest old.checkpoints) ≡ Ok (entries_of l))
kept_reads law old l sized kept = tells_both old.content (HasLengths old) (IsKept false l) _ (λ c lengths is. at_newest law l c old.checkpoints lengths.checkpoints is) sized kept

entries_are : (old mid : Keeping) (m : InMemory) (l : Ledger) → Opens old mid m → Tells old.content (IsKept false l) → Tells old.content (λ _. m.entries ≡ entries_of l)
entries_are old mid m l opens kept =
    tells_both old.content (λ c. loaded c (newest old.checkpoints) ≡ Ok m.entries) (λ c. loaded c (newest old.checkpoints) ≡ Ok (entries_of l)) _ (λ c read is. same_ok m.entries (entries_of l) (loaded c (newest old.checkpoints)) read is)
    opens.loads (kept_reads opens.law old l opens.sized kept)

for_opened : (old mid : Keeping) (m : InMemory) (l : Ledger) → Opens old mid m → Tells old.content (IsKept false l) → Tells mid.content (IsFor false m.entries m.messages l)
for_opened old mid m l opens kept =
    tells_both mid.content (λ _. m.entries ≡ entries_of l) (ReadsKept {A = InMemory} (λ d. d) l (Ok m)) (IsFor false m.entries m.messages l) (λ c is read. record { kept = read.0; entries = is; messages = read.1 })
    (told_too old.content mid.content (m.entries ≡ entries_of l) (same_told old mid opens.puts) (entries_are old mid m l opens kept)) (opens.kept l kept)

-- a fact of the ledger, told of the keeper that comes back
by_ledger : (old mid new : Keeping) (m : InMemory) (l : Ledger) (P : Type 0) → is_some new.content ≡ is_some mid.content → Opens old mid m → Tells old.content (IsKept false l) → (m.entries.state ≡ state_of l → P) → Tells new.content (λ _. P)
by_ledger old mid new m l P same opens kept from =
    told_too old.content new.content P (same ∙ same_told old mid opens.puts)
    (tells_from old.content (λ _. m.entries ≡ entries_of l) (λ _. P) (λ c is. from (ap (λ e. e.state) is ∙ state-entries_of l)) (entries_are old mid m l opens kept))

nobody_leaves : (moment : ℕ) (now : InMemory) → keys now.entries.state.sequencer.rows ≡ [] → run now.entries.state (leaves moment now.entries.state) ≡ []
nobody_leaves moment now none = ap (λ ids. run now.entries.state (map (λ id. Leave id moment) ids)) none

opened_told : (moment : ℕ) (old mid new : Keeping) (m now : InMemory) (l : Ledger) → Opens old mid m → HasLeft moment mid new m now → keys now.entries.state.sequencer.rows ≡ [] → Tells old.content (IsKept false l)
    → Tells new.content (IsFor false now.entries now.messages (opening moment l))
opened_told moment old mid new m now l opens has none kept =
    tells_both new.content (IsFor false now.entries now.messages (l ++ has.done)) (λ _. l ++ has.done ≡ opening moment l) (IsFor false now.entries now.messages (opening moment l)) (λ c is same. subst (λ x. IsFor false now.entries now.messages x c) same is)
    (has.stands l (for_opened old mid m l opens kept))
    (by_ledger old mid new m l (l ++ has.done ≡ opening moment l) (grew_told (records has.done) mid new has.grew) opens kept
    (λ state. ap (λ done. l ++ done) (sym (append-nil has.done) ∙ ap (λ more. has.done ++ more) (sym (nobody_leaves moment now none)) ∙ sym has.splits ∙ ap (λ s. run s (leaves moment s)) state)))

-- as many records as were read, and those of the leaves
records_now : (old mid new : Keeping) (moment : ℕ) (m now : InMemory) → Opens old mid m → HasLeft moment mid new m now → new.records ≡ now.entries.entered
records_now old mid new moment m now opens has = omega (arith, has.grew.kept.records, length-records has.done, has.entered, opens.level, opens.puts.kept.records)

few_left : (old mid new : Keeping) (moment : ℕ) (m now : InMemory) → Opens old mid m → HasLeft moment mid new m now → PutsFew now.entries.entered old new
few_left old mid new moment m now opens has = omega (arith, opens.lacked, opens.level, has.entered, has.lacked)

-- ---- a list without side steps

pub ledger-steps : (l : Ledger) → ledger (steps l) ≡ l
ledger-steps [] = refl
ledger-steps (entry ∷ l) = ap (λ es. entry ∷ es) (ledger-steps l)

-- it has no checkpoint, no side step and no note
bare : (n : ℕ) (l : Ledger) → (stored (steps l) ≡ 0) × ((asides (steps l) ≡ 0) × ((last_side (steps l) ≡ None) × AreNoted n (steps l)))
bare n [] = (refl, (refl, (refl, tt)))
bare n (entry ∷ l) = bare n l

abbrev pub begun : Keeping → InMemory → Limits → ℕ → Standing
begun k m limits opened = record { keeping = k; entries = m.entries; messages = m.messages; limits = limits; opened = opened; sides = 0; last = None; owed = false }

begun_list : (k : Keeping) (m : InMemory) (limits : Limits) (opened : ℕ) (l : Ledger) → m.entries.entered ≡ length l → Tells k.content (IsTold (begun k m limits opened) (steps l)) → LaneStands (begun k m limits opened) (steps l)
begun_list k m limits opened l entered told = record {
  number = omega (arith, entered, length-parts (steps l), ap length (ledger-steps l), (bare 0 l).1.0);
  last = sym (bare 0 l).1.1.0;
  noted = (bare k.faults l).1.1.1;
  owes = λ on. absurd (false≢true on);
  told = told;
}

begun_stands : (k : Keeping) (m : InMemory) (limits : Limits) (opened : ℕ) (l : Ledger) → k.checkpoints ≡ opened → Tells k.content (IsFor false m.entries m.messages l) → Tells k.content (λ _. LaneStands (begun k m limits opened) (steps l))
begun_stands k m limits opened l points is =
    tells_from k.content (IsFor false m.entries m.messages l) (λ _. LaneStands (begun k m limits opened) (steps l))
    (λ c one. begun_list k m limits opened l (ap (λ e. e.entered) one.entries ∙ entered-entries_of l)
    (tells_from k.content (IsFor false m.entries m.messages l) (IsTold (begun k m limits opened) (steps l)) (λ d for. record { stands = rw (ledger-steps l) for; checkpoints = omega (arith, points, (bare 0 l).0) }) is)) is

-- where nothing is told as many made-up entries will do
some_list : (moment : ℕ) (before : Option Content) (k : Keeping) (m : InMemory) (limits : Limits) (opened : ℕ) → is_some k.content ≡ is_some before
    → ((l : Ledger) → Tells before (IsKept false l) → Tells before (λ _. LaneStands (begun k m limits opened) (steps (opening moment l)))) → Tells before (λ c. (l : Ledger) × IsKept false l c) → (l : Ledger) × LaneStands (begun k m limits opened) (steps l)
some_list moment None k m limits opened told stands kept =
    let l : Ledger = replicate m.entries.entered (Leave [] 0, Dropped) in
    (l, begun_list k m limits opened l (sym (length-replicate m.entries.entered (Leave [] 0, Dropped))) (tells_from k.content (λ _. ⊥) _ (λ c no. absurd no) (told_too None k.content ⊥ told tt)))
some_list moment (Some c) k m limits opened told stands kept = (opening moment kept.0, stands kept.0 kept.1)

pub starts : (moment : ℕ) (old mid new : Keeping) (limits : Limits) (m now : InMemory) (opened : ℕ) → Opens old mid m → HasLeft moment mid new m now → keys now.entries.state.sequencer.rows ≡ [] → opened ≡ old.checkpoints
    → Tells old.content (ReadsBehind (newest old.checkpoints) old.records old.reads mid.reads) → Starts old limits moment (begun new now limits opened)
starts moment old mid new limits m now opened opens has none found reads =
    let told : is_some new.content ≡ is_some old.content = grew_told (records has.done) mid new has.grew ∙ same_told old mid opens.puts in
    let points : new.checkpoints ≡ opened = has.grew.kept.checkpoints ∙ opens.puts.kept.checkpoints ∙ sym found in
    let all : run m.entries.state (leaves moment m.entries.state) ≡ has.done = has.splits ∙ ap (λ more. has.done ++ more) (nobody_leaves moment now none) ∙ append-nil has.done in
    let stands : (l : Ledger) → Tells old.content (IsKept false l) → Tells old.content (λ _. LaneStands (begun new now limits opened) (steps (opening moment l))) =
    λ l kept. told_too new.content old.content _ (sym told) (begun_stands new now limits opened (opening moment l) points (opened_told moment old mid new m now l opens has none kept)) in
    record {
      stands = stands;
      some = some_list moment old.content new now limits opened told stands;
      loads = record {
        entries = m.entries;
        is = opens.loads;
        behind = sym (has.folds ∙ ap (λ ids. takes now.entries (map (λ id. Leave id moment) ids)) none);
        grew = rw all (grew_on [] (records has.done) old mid new (grew_put opens.puts.messages old mid opens.puts.kept) has.grew);
      };
      reads = rw has.reads reads;
      fresh = record { limits_are = refl; opened = found; sides = refl; last = refl; owed = refl; nobody = none; told = told; later = omega (arith, opens.later, has.later) };
      early = omega (arith, opens.early, has.early.0, has.early.1);
      lacked = few_left old mid new moment m now opens has;
    }

-- ---- cut short

-- the first leaves were added, and the keeper is kept for the ledger with them
pub record IsShort (moment : ℕ) (old new : Keeping) (fault : LaneFault) : Type 0 where
  pub added : Ledger
  pub grew : Grew (records added) old new
  pub stops : StopsAtLeave moment old added fault
  pub lacked : PutsFew new.records old new
  pub left : (l : Ledger) → Tells old.content (IsKept false l) → Tells new.content (LeftSome moment l)

short_by : (moment : ℕ) (old mid new : Keeping) (m : InMemory) (done rest : Ledger) (fault : LaneFault) → Opens old mid m → Grew (records done) mid new → run m.entries.state (leaves moment m.entries.state) ≡ done ++ rest → IsLogFailed fault ⊎ (0 < length rest) → PutsFew new.records old new
    → ((l : Ledger) → Tells mid.content (IsFor false m.entries m.messages l) → Tells new.content (IsKept false (l ++ done))) → IsShort moment old new fault
short_by moment old mid new m done rest fault opens grew splits short lacked each = record {
  added = done;
  grew = grew_on [] (records done) old mid new (grew_put opens.puts.messages old mid opens.puts.kept) grew;
  stops = record { entries = m.entries; is = opens.loads; rest = rest; splits = splits; short = short };
  lacked = lacked;
  left = λ l kept.
      tells_both new.content (IsKept false (l ++ done)) (λ _. run (state_of l) (leaves moment (state_of l)) ≡ done ++ rest) (LeftSome moment l) (λ c k s. record { done = done; rest = rest; splits = s; kept = k })
      (each l (for_opened old mid m l opens kept))
      (by_ledger old mid new m l _ (grew_told (records done) mid new grew) opens kept (λ state. ap (λ s. run s (leaves moment s)) (sym state) ∙ splits));
}

length-run : (s : State) (raws : List Raw) → length (run s raws) ≡ length raws
length-run s [] = refl
length-run s (raw ∷ raws) = omega (arith, length-run (after s raw (verdict_in s raw)) raws)

-- of those who are joined some are left
some_rest : (moment : ℕ) (s : State) → 0 < len s.sequencer.rows → 0 < length (run s (leaves moment s))
some_rest moment s some = omega (arith, some, length-run s (leaves moment s), length-map (keys s.sequencer.rows) (λ id. Leave id moment), length-keys s.sequencer.rows)

short_some : (moment : ℕ) (old mid new : Keeping) (m now : InMemory) (fault : LaneFault) → Opens old mid m → HasSomeLeft moment mid new m now → IsShort moment old new fault
short_some moment old mid new m now fault opens some =
    short_by moment old mid new m some.has.done _ fault opens some.has.grew some.has.splits (inr (some_rest moment now.entries.state some.more))
    (omega (arith, few_left old mid new moment m now opens some.has, records_now old mid new moment m now opens some.has))
    (λ l is. tells_from new.content _ _ (λ c one. one.kept) (some.has.stands l is))

-- a leave that wasn't entered: some messages were put, and its record stands behind them or doesn't
stops : (moment : ℕ) (old new : Keeping) (before now : InMemory) (fault : EnterFault) (next : LeavesFirst moment old new before now (Err fault))
    → PutsDeltas old new ⊎ (IsLogFailed (of_entering fault) × IsAppended (raw_printed (Leave next.id moment)) (roomed before.messages old) new)
stops moment old new before now (entering.LogFailed note) next =
    ⊎_elim (λ same. inl (record { messages = for_room before.messages old.deltas; kept = same })) (λ same. inr (tt, record { is_text = next.enters.does.1.is_text; kept = same })) next.enters.does.1.left
stops moment old new before now (entering.DeltaFailed note) next = inl (record { messages = take next.enters.does.1.count (for_room before.messages old.deltas); kept = next.enters.does.1.puts.kept })
stops moment old new before now entering.NoMemory next = inl (record { messages = take next.enters.does.1.count (for_room before.messages old.deltas); kept = next.enters.does.1.kept })

short_stopped : (moment : ℕ) (old mid last new : Keeping) (m here now : InMemory) (fault : EnterFault) → Opens old mid m → HasLeft moment mid last m here → LeavesFirst moment last new here now (Err fault) → IsShort moment old new (of_entering fault)
short_stopped moment old mid last new m here now fault opens has next = by (stops moment last new here now fault next)
  where
    raw : Raw
    raw = Leave next.id moment

    stand : (l : Ledger) → Tells mid.content (IsFor false m.entries m.messages l) → Tells new.content (StandFor now.messages (order (l ++ has.done) ++ []))
    stand l is = next.enters.stands (order (l ++ has.done)) (tells_from last.content _ _ (λ c one. one.messages) (has.stands l is))

    few : last.records ≤ new.records → PutsFew new.records old new
    few le = omega (arith, few_left old mid last moment m here opens has, records_now old mid last moment m here opens has, next.enters.lacked, le)

    by : PutsDeltas last new ⊎ (IsLogFailed (of_entering fault) × IsAppended (raw_printed raw) (roomed here.messages last) new) → IsShort moment old new (of_entering fault)
    by (inl puts) =
        short_by moment old mid new m has.done _ (of_entering fault) opens (rw append-nil at (grew_on (records has.done) [] mid last new has.grew (grew_put puts.messages last new puts.kept))) has.splits
        (inr (some_rest moment here.entries.state (omega (arith, ap length next.is.first, length-keys here.entries.state.sequencer.rows)))) (few (omega (arith, puts.kept.records)))
        (λ l is. told_changed last.content new.content (put_behind puts.messages) (IsFor false here.entries here.messages (l ++ has.done)) (StandFor now.messages (order (l ++ has.done) ++ [])) (IsKept false (l ++ has.done)) puts.kept.content
        (λ c one stand. kept_more false (l ++ has.done) puts.messages c (rw append-nil at stand.stand.deltas) one.kept) (has.stands l is) (stand l is))
    by (inr torn) =
        let v = verdict_in here.entries.state raw in
        let ms : List Message = for_room here.messages last.deltas in
        let rest = run (after here.entries.state raw v) (map (λ id. Leave id moment) next.is.rest) in
        short_by moment old mid new m (has.done ++ (raw, v) ∷ []) rest (of_entering fault) opens
        (rw (records-push has.done (raw, v)) (grew_on (records has.done) (raw_printed raw ∷ []) mid last new has.grew (grew_record ms (raw_printed raw) last new torn.1.kept)))
        (has.splits ∙ ap (λ ids. has.done ++ run here.entries.state (map (λ id. Leave id moment) ids)) next.is.first ∙ sym (append_assoc has.done ((raw, v) ∷ []) rest)) (inl torn.0) (few (omega (arith, torn.1.kept.records)))
        (λ l is.
        let before : Ledger = l ++ has.done in
        subst (λ x. Tells new.content (IsKept false x)) (append_assoc l has.done ((raw, v) ∷ []))
        (told_changed last.content new.content (λ c. add_record (raw_printed raw) (put_behind ms c)) (IsFor false here.entries here.messages before) (StandFor now.messages (order before ++ [])) (IsKept false (before ++ (raw, v) ∷ []))
        (torn.1.kept.content ∙ twice (put_behind ms) (add_record (raw_printed raw)) last.content)
        (λ c one stand. kept_more false (before ++ (raw, v) ∷ []) ms (add_record (raw_printed raw) c)
        (rw (order-push before (raw, v)) (deltas_grow (order before) (messages_of v) (c.deltas ++ map message_printed ms) (rw append-nil at stand.stand.deltas)))
        (kept_next here.entries here.messages before raw c one (record { fits = next.is.fits; text = torn.1.is_text }) next.is.few))
        (has.stands l is) (stand l is)))

pub cut_short : (moment : ℕ) (old mid new : Keeping) (m now : InMemory) (fault : LaneFault) → Opens old mid m → LeavesAll moment mid new m now (Err fault) → IsShort moment old new fault
cut_short moment old mid new m now (LogFailed note) opens does = short_stopped moment old mid does.mid new m does.here now (entering.LogFailed note) opens does.has does.next
cut_short moment old mid new m now (DeltaFailed note) opens does = short_stopped moment old mid does.0.mid new m does.0.here now (entering.DeltaFailed note) opens does.0.has does.0.next
cut_short moment old mid new m now NoMemory opens (inl some) = short_some moment old mid new m now NoMemory opens some
cut_short moment old mid new m now NoMemory opens (inr stopped) = short_stopped moment old mid stopped.mid new m stopped.here now entering.NoMemory opens stopped.has stopped.next
cut_short moment old mid new m now Worn opens does = short_some moment old mid new m now Worn opens does.0
cut_short moment old mid new m now other opens does = absurd does

-- ---- which faults

-- what is said of the fault itself
pub record IsSaid (old new : Keeping) (added : Ledger) (moment : ℕ) (fault : LaneFault) : Type 0 where
  pub bad : Tells old.content (λ content. StartsBad (newest old.checkpoints) content fault)
  pub named : IsFaultOfStart new.records fault
  pub adds : Adds moment old added fault

-- of the leaves
pub faults_behind : (moment : ℕ) (old mid new : Keeping) (m now : InMemory) (fault : LaneFault) → Opens old mid m → LeavesAll moment mid new m now (Err fault) → (short : IsShort moment old new fault)
    → IsNotBad fault × IsSaid old new short.added moment fault
faults_behind moment old mid new m now (LogFailed note) opens does short = (tt, record { bad = tells_each old.content _ (λ c. tt); named = tt; adds = inr short.stops })
faults_behind moment old mid new m now (DeltaFailed note) opens does short =
    let stopped = does.0 in
    let records = records_now old mid stopped.mid moment m stopped.here opens stopped.has in (
      tt,
      record {
        bad = tells_each old.content _ (λ c. tt);
        named = omega (arith, does.1, records, stopped.next.enters.does.1.puts.kept.records, ap (λ e. e.entered) stopped.next.enters.does.0);
        adds = inr short.stops;
      },
    )
faults_behind moment old mid new m now NoMemory opens does short = (tt, record { bad = tells_each old.content _ (λ c. tt); named = tt; adds = inr short.stops })
faults_behind moment old mid new m now Worn opens does short =
    let some = does.0 in (
      tt,
      record {
        bad = tells_from old.content _ _ (λ c is. inr (record { entries = m.entries; is = is; full = omega (arith, some.has.entered, some.has.count, some.more, does.1) })) opens.loads;
        named = omega (arith, does.1, records_now old mid new moment m now opens some.has);
        adds = inr short.stops;
      },
    )
faults_behind moment old mid new m now other opens does short = absurd does

-- of the reading
pub faults_read : (old new : Keeping) (moment : ℕ) (fault : LoadFault) → PutsDeltas old new → IsLoadFault old.records old.faults new.faults fault → Tells old.content (λ content. IsBadAs (loaded content (newest old.checkpoints)) fault)
    → IsCausedBy old.faults new.faults (of_loading fault) × IsSaid old new [] moment (of_loading fault)
faults_read old new moment (loading.LogFailed note) puts cause is = (cause, record { bad = tells_each old.content _ (λ c. tt); named = tt; adds = inl refl })
faults_read old new moment (loading.DeltaFailed note) puts cause is = (cause.0, record { bad = tells_each old.content _ (λ c. tt); named = omega (arith, cause.1, puts.kept.records); adds = inl refl })
faults_read old new moment loading.NoMemory puts cause is = (tt, record { bad = tells_each old.content _ (λ c. tt); named = tt; adds = inl refl })
faults_read old new moment loading.Worn puts cause is = (tt, record { bad = tells_from old.content _ _ (λ c one. inl one) is; named = omega (arith, cause, puts.kept.records); adds = inl refl })
faults_read old new moment other puts cause is = (tt, record { bad = is; named = tt; adds = refl })

not_bad : (e : Entries) (r : Result Entries LoadFault) (fault : LoadFault) → r ≡ Ok e → IsBadAs r fault → IsNotBad (of_loading fault)
not_bad e r (loading.BadRecord place) is bad = absurd (never_err e (loading.BadRecord place) r is bad)
not_bad e r (loading.BadCheckpoint number fault) is bad = absurd (never_err e (loading.BadCheckpoint number fault) r is bad)
not_bad e r other is bad = tt

pub never_reads : CheckpointIsLoaded → (old : Keeping) (l : Ledger) (fault : LoadFault) → IsSized old → Tells old.content (λ content. IsBadAs (loaded content (newest old.checkpoints)) fault) → Tells old.content (IsKept false l) → Tells old.content (λ _. IsNotBad (of_loading fault))
never_reads law old l fault sized bad kept =
    tells_both old.content (λ c. loaded c (newest old.checkpoints) ≡ Ok (entries_of l)) (λ c. IsBadAs (loaded c (newest old.checkpoints)) fault) _ (λ c is bad. not_bad (entries_of l) (loaded c (newest old.checkpoints)) fault is bad)
    (kept_reads law old l sized kept) bad

-- nobody has left yet
pub left_nobody : (moment : ℕ) (new : Option Content) (l : Ledger) → Tells new (IsKept false l) → Tells new (LeftSome moment l)
left_nobody moment new l kept =
    tells_from new (IsKept false l) (LeftSome moment l)
    (λ c is. record { done = []; rest = run (state_of l) (leaves moment (state_of l)); splits = refl; kept = subst (λ x. IsKept false x c) (sym (append-nil l)) is }) kept
