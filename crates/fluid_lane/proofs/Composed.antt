-- What calls do that first make the cut that is owed.
use Rattle.std.proofs.Common.{◌≡◌, ℕ, ◌+◌, ◌≤◌, true, false, Bool, List, [], length, Option, Some, None, Result, Ok, Err, inl, inr, refl, sym, ap, ap₂, subst, ◌∙◌, append-nil, arith, ⊎_elim}
use Rattle.std.specs.Prelude.{IfOk, IfErr, MatchResult, if◌then◌else◌}
use Rattle.std.specs.Option.{option_map}
use Rattle.std.specs.FinMap.{keys}
use Rattle.std.proofs.Math.Seq.{take-length}
use Rattle.std.proofs.lemmas.Result.{IfErr-weaker}
use Rattle.fluid_io.specs.Causes.{Tells}
use Rattle.fluid_types.specs.declared.entries.Raw.{Raw}
use Rattle.fluid_types.specs.declared.messages.Message.{Message}
use Rattle.fluid_types.specs.Printed.{raw_printed}
use Rattle.fluid_log.specs.Keeping.{Content, Keeping}
use Rattle.fluid_log.specs.Calls.{KeepsSame, cut_to, add_record, with_record, with_checkpoint, add_checkpoint}
use Rattle.fluid_log.proofs.Sameness.{same_itself, same_twice}
use Rattle.fluid_deltas.proofs.Telling.{tells_along, tells_both}
use Rattle.fluid_deltas.specs.Flushes.{put_behind, with_deltas, lacking, PutsPrefix}
use Rattle.fluid_document.specs.Entry.{PutsSome}
use Rattle.fluid_document.specs.Kept.{IsPrinted}
use Rattle.fluid_document.specs.Rooms.{for_room}
use Rattle.fluid_document.specs.Puts.{PutsFirst, PutsFew}
use Rattle.fluid_document.specs.Loading.{loaded, ReadsBehind, PutsDeltas}
use Rattle.fluid_lane.specs.declared.fault.LaneFault.{LaneFault}
use Rattle.fluid_lane.specs.declared.fault.LaneFault.TheVariants.{LogFailed, DeltaFailed, NoMemory, Worn}
use Rattle.fluid_lane.specs.Faults.{IsCausedBy, IsLogFailed, IsOutside}
use Rattle.fluid_lane.specs.Standing.{Standing}
use Rattle.fluid_lane.specs.Refusals.{IsCutFailed}
use Rattle.fluid_lane.specs.Calls.{cut_back, TakesUp, OwesBy, AddKept, EnterKept, Enters, IsOutsideLog, missing, flushed, HasCheckpoint, Stores}
use Rattle.fluid_lane.specs.Restarts.{IsRestarted, Restarts}
use Rattle.fluid_lane.proofs.Caused.{caused_earlier}

-- ---- a keeper behind another that keeps the same

pub keeps_put : (ms : List Message) (one other : Keeping) → KeepsSame one other → KeepsSame (with_deltas ms one) (with_deltas ms other)
keeps_put ms one other same = record {
  content = ap (option_map (put_behind ms)) same.content;
  records = same.records;
  deltas = ap (λ n. n + length ms) same.deltas;
  checkpoints = same.checkpoints;
}

keeps_record : (bytes : List ℕ) (one other : Keeping) → KeepsSame one other → KeepsSame (with_record bytes one) (with_record bytes other)
keeps_record bytes one other same = record {
  content = ap (option_map (add_record bytes)) same.content;
  records = ap (λ n. n + 1) same.records;
  deltas = same.deltas;
  checkpoints = same.checkpoints;
}

-- no messages were put
pub keeps_nothing : (k : Keeping) → KeepsSame (with_deltas [] k) k
keeps_nothing k = record { content = nothing k.content; records = refl; deltas = omega arith; checkpoints = refl }
  where
    nothing : (content : Option Content) → content ≡ option_map (put_behind []) content
    nothing None = refl
    nothing (Some c) = ap (λ texts. Some (record c { deltas = texts })) (sym (append-nil c.deltas))

-- ---- calls that enter

pub enters_worn : {A : Type 0} (raw : Raw) (old new : Standing) → new ≡ old → Enters {A = A} raw old new (Err Worn)
enters_worn raw old new same = rw same (record { entries = refl; owes = tt; cause = tt; reads = refl; kept = same_itself old.keeping })

pub enters_cut : {A : Type 0} (raw : Raw) (old new : Standing) (fault : LaneFault) → IsLogFailed fault → IsCutFailed old new → new.entries ≡ old.entries → new.keeping.reads ≡ old.keeping.reads → IsCausedBy old.keeping.faults new.keeping.faults fault
    → Enters {A = A} raw old new (Err fault)
enters_cut raw old new (LogFailed note) log cut entries reads cause = record { entries = entries; owes = cut.is_owed; cause = cause; reads = reads; kept = inl cut }
enters_cut raw old new other log cut entries reads cause = absurd log

-- behind the cut no memory for the id
pub enters_early : {A : Type 0} (raw : Raw) (old new : Standing) → KeepsSame (cut_back old) new.keeping → new.entries ≡ old.entries → new.owed ≡ false → new.keeping.reads ≡ old.keeping.reads → Enters {A = A} raw old new (Err NoMemory)
enters_early raw old new same entries level reads = record {
  entries = entries;
  owes = level;
  cause = tt;
  reads = reads;
  kept = record { count = 0; kept = same_twice (with_deltas [] (cut_back old)) (cut_back old) new.keeping (keeps_nothing (cut_back old)) same };
}

-- behind the cut the entry was added, or wasn't
pub enters_on : {A : Type 0} (raw : Raw) (old mid new : Standing) (result : Result A LaneFault) → KeepsSame (cut_back old) mid.keeping → (mid.entries ≡ old.entries) × (mid.messages ≡ old.messages) → mid.keeping.reads ≡ old.keeping.reads → old.keeping.faults ≤ mid.keeping.faults
    → TakesUp mid.entries new.entries raw result → OwesBy new result → IfErr result (IsCausedBy mid.keeping.faults new.keeping.faults) → new.keeping.reads ≡ mid.keeping.reads → AddKept raw mid mid.keeping new.keeping result → IfErr result IsOutside → Enters raw old new result
enters_on {A} raw old mid new result cut same read later takes owes cause reads kept outside = record {
  entries = subst (λ e. TakesUp e new.entries raw result) same.0 takes;
  owes = owes;
  cause = IfErr-weaker result _ _ (λ fault. caused_earlier old.keeping.faults mid.keeping.faults new.keeping.faults fault later) cause;
  reads = reads ∙ read;
  kept = by result kept outside;
}
  where
    room : for_room mid.messages mid.keeping.deltas ≡ for_room old.messages (cut_back old).deltas
    room = ap₂ for_room same.1 cut.deltas

    put : (ms : List Message) → KeepsSame (with_deltas ms (cut_back old)) (with_deltas ms mid.keeping)
    put ms = keeps_put ms (cut_back old) mid.keeping cut

    added : (ms : List Message) → KeepsSame (with_record (raw_printed raw) (with_deltas ms mid.keeping)) new.keeping → KeepsSame (with_record (raw_printed raw) (with_deltas ms (cut_back old))) new.keeping
    added ms kept = same_twice _ _ new.keeping (keeps_record (raw_printed raw) _ _ (put ms)) kept

    left : (ms : List Message) → KeepsSame (with_deltas ms mid.keeping) new.keeping → KeepsSame (with_deltas ms (cut_back old)) new.keeping
    left ms kept = same_twice _ _ new.keeping (put ms) kept

    by : (r : Result A LaneFault) → AddKept raw mid mid.keeping new.keeping r → IfErr r IsOutside → EnterKept raw old new r
    by (Ok a) kept out = added _ (rw room at kept)
    by (Err (LogFailed note)) kept out = inr (⊎_elim (λ same. inl (left _ (rw room at same))) (λ more. inr (added _ (rw room at more))) kept)
    by (Err (DeltaFailed note)) kept out =
        let prefix = subst (λ ms. PutsPrefix ms mid.keeping new.keeping) room kept in
        record { count = prefix.count; within = prefix.within; puts = record { kept = left _ prefix.puts.kept; texts = prefix.puts.texts } }
    by (Err NoMemory) kept out =
        let some = subst (λ ms. PutsSome ms mid.keeping new.keeping) room kept in
        record { count = some.count; kept = left _ some.kept }
    by (Err other) kept out = absurd out

-- ---- calls that store

-- a cut leaves deltas and checkpoints
others_stay : (s : Standing) → ((cut_back s).deltas ≡ s.keeping.deltas) × ((cut_back s).checkpoints ≡ s.keeping.checkpoints)
others_stay s = by s.owed
  where
    by : (b : Bool) → ((if b then cut_to s.entries.entered s.keeping else s.keeping).deltas ≡ s.keeping.deltas) × ((if b then cut_to s.entries.entered s.keeping else s.keeping).checkpoints ≡ s.keeping.checkpoints)
    by true = (refl, refl)
    by false = (refl, refl)

pub flushed_on : (old mid new : Standing) → KeepsSame (cut_back old) mid.keeping → mid.messages ≡ old.messages → KeepsSame (with_deltas (missing mid) mid.keeping) new.keeping → KeepsSame (flushed old) new.keeping
flushed_on old mid new same messages kept =
    same_twice (flushed old) (with_deltas (missing old) mid.keeping) new.keeping (keeps_put (missing old) (cut_back old) mid.keeping same)
    (subst (λ ms. KeepsSame (with_deltas ms mid.keeping) new.keeping) (ap₂ lacking messages (same.deltas ∙ (others_stay old).0)) kept)

-- memory was wanting behind a flush
pub stores_memory : (old new : Standing) → KeepsSame (flushed old) new.keeping → (new.entries ≡ old.entries) × (new.messages ≡ old.messages) → new.owed ≡ false → new.keeping.reads ≡ old.keeping.reads → Stores old new (Err NoMemory)
stores_memory old new kept same level reads = record {
  same = same;
  settled_by = level;
  cause = tt;
  reads = reads;
  kept = record { count = length (missing old); kept = rw (take-length (missing old)) kept };
  stored = tt;
}

-- the text was given to the keeper behind a flush
pub stores_on : (old mid new : Standing) (text : List ℕ) (result : Result ℕ LaneFault) → IsPrinted old.entries text → length text ≤ old.limits.bytes → KeepsSame (flushed old) mid.keeping
    → MatchResult result (λ _. KeepsSame (with_checkpoint text mid.keeping) new.keeping) (λ _. KeepsSame mid.keeping new.keeping) → IfOk result (λ number. number ≡ mid.keeping.checkpoints) → IfOk result (λ number. Tells new.keeping.content (HasCheckpoint number text))
    → IfErr result IsOutsideLog → IfErr result (IsCausedBy mid.keeping.faults new.keeping.faults) → old.keeping.faults ≤ mid.keeping.faults → (new.entries ≡ old.entries) × (new.messages ≡ old.messages) → new.owed ≡ false → new.keeping.reads ≡ old.keeping.reads
    → Stores old new result
stores_on old mid new text (Ok number) is short flush kept next there fails cause later same level reads = record {
  same = same;
  settled_by = level;
  cause = tt;
  reads = reads;
  kept = rw (← is.text) (record {
    content = kept.content ∙ ap (option_map (add_checkpoint text)) flush.content;
    records = kept.records ∙ flush.records;
    deltas = kept.deltas ∙ flush.deltas;
    checkpoints = kept.checkpoints ∙ ap (λ n. n + 1) flush.checkpoints;
  });
  stored = record {
    next = next ∙ flush.checkpoints ∙ (others_stay old).1;
    short = rw (← is.text) short;
    there = subst (λ t. Tells new.keeping.content (HasCheckpoint number t)) is.text there;
    printed = subst (IsPrinted old.entries) is.text is;
  };
}
stores_on old mid new text (Err (LogFailed note)) is short flush kept next there fails cause later same level reads = record {
  same = same;
  settled_by = tt;
  cause = caused_earlier old.keeping.faults mid.keeping.faults new.keeping.faults (LogFailed note) later cause;
  reads = reads;
  kept = inr (rw (← is.text) short, (level, same_twice (flushed old) mid.keeping new.keeping flush kept));
  stored = tt;
}
stores_on old mid new text (Err NoMemory) is short flush kept next there fails cause later same level reads =
    stores_memory old new (same_twice (flushed old) mid.keeping new.keeping flush kept) same level reads
stores_on old mid new text (Err other) is short flush kept next there fails cause later same level reads = absurd fails

-- ---- calls that restart

pub restarts_on : (number : ℕ) (old mid new : Standing) → KeepsSame (cut_back old) mid.keeping → PutsDeltas mid.keeping new.keeping → mid.entries ≡ old.entries → mid.keeping.reads ≡ old.keeping.reads → mid.keeping.records ≡ old.entries.entered
    → (new.entries.entered ≡ old.entries.entered) × (keys new.entries.state.sequencer.rows ≡ keys old.entries.state.sequencer.rows) → new.owed ≡ false → Tells mid.keeping.content (λ content. loaded content (Some number) ≡ Ok new.entries)
    → Tells mid.keeping.content (ReadsBehind (Some number) mid.keeping.records mid.keeping.reads new.keeping.reads) → PutsFirst new.messages.before mid.keeping new.keeping → PutsFew mid.entries.entered mid.keeping new.keeping
    → Restarts {A = Unit {0}} number old new (Ok tt)
restarts_on number old mid new kept puts entries reads records stays level loads counts early lacked = record {
  stays = stays;
  settled_by = level;
  cause = tt;
  kept = record { messages = puts.messages; kept = same_twice _ _ new.keeping (keeps_put puts.messages (cut_back old) mid.keeping kept) puts.kept };
  loads = tells_along _ _ (λ content. IsRestarted number old new content) kept.content
      (tells_both mid.keeping.content (λ content. loaded content (Some number) ≡ Ok new.entries) (ReadsBehind (Some number) mid.keeping.records mid.keeping.reads new.keeping.reads) (IsRestarted number old new)
      (λ c is read. record { loads = is; reads = rw (records, reads) at read })
      loads counts);
  early = omega (arith, early, kept.deltas, (others_stay old).0);
  lacked = omega (arith, lacked, kept.deltas, (others_stay old).0, ap (λ e. e.entered) entries);
  at_deltas = tt;
}
