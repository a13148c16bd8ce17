-- Keepers over which a lane can't be started: what a start leaves of them.
use Rattle.std.proofs.Common.{◌≡◌, ◌⊎◌, inl, inr, ℕ, zero, suc, ◌+◌, ◌<◌, ◌≤◌, false, List, [], ◌∷◌, ◌++◌, length, map, Option, Some, Ok, refl, sym, ap, subst, ◌∙◌, arith, append_assoc, append-nil, length-append}
use Rattle.std.proofs.lemmas.List.{length-map}
use Rattle.std.proofs.lemmas.Bool.{lt-leb}
use Rattle.std.specs.Option.{option_map}
use Rattle.std.specs.FinMap.{keys, len}
use Rattle.fluid_io.specs.Causes.{Tells}
use Rattle.fluid_types.specs.Ledger.{Ledger}
use Rattle.fluid_types.specs.declared.entries.Raw.{Raw}
use Rattle.fluid_types.specs.declared.entries.Raw.TheVariants.{Leave}
use Rattle.fluid_types.specs.declared.verdicts.Verdict.{Verdict}
use Rattle.fluid_types.specs.Printed.{message_printed}
use Rattle.fluid_rules.specs.Rules.{IsLegal, verdict}
use Rattle.fluid_rules.specs.declared.limits.Limits.{Limits}
use Rattle.fluid_rules.proofs.Legal.{legal-push}
use Rattle.fluid_log.specs.Keeping.{Content, Keeping, HasLengths}
use Rattle.fluid_log.specs.Calls.{add_records}
use Rattle.fluid_deltas.specs.Flushes.{put_behind}
use Rattle.fluid_deltas.proofs.Telling.{tells_each}
use Rattle.fluid_core.specs.Entering.{state_of, verdict_in, after}
use Rattle.fluid_core.proofs.Entered.{verdict-state_of, state_of-push}
use Rattle.fluid_document.specs.declared.fault.LoadFault.TheVariants as loading
use Rattle.fluid_types.specs.Forms.{largest}
use Rattle.fluid_document.specs.Entries.{Entries, taken_up, entries_of}
use Rattle.fluid_document.specs.Loading.{loaded, newest}
use Rattle.fluid_document.specs.Kept.{records, IsKept}
use Rattle.fluid_document.specs.Laws.{CheckpointIsLoaded}
use Rattle.fluid_document.proofs.Foldings.{state-entries_of, entered-entries_of}
use Rattle.fluid_document.proofs.Reloading.{loaded-first}
use Rattle.fluid_lane.specs.declared.fault.LaneFault.{LaneFault}
use Rattle.fluid_lane.specs.declared.fault.LaneFault.TheVariants.{LogFailed, Full, BadRecord, NoCheckpoint, CheckpointsFull, TooManyClients, DeltaFailed, NoMemory, BadCheckpoint, TooLarge, Worn}
use Rattle.fluid_lane.specs.Standing.{Standing}
use Rattle.fluid_lane.specs.Starting.{run, leaves, takes, LeftSome, HasNoRoom, StartsBad, Starts, StartsPartly, Grew}
use Rattle.fluid_lane.proofs.Ids.{length-keys}
use Rattle.fluid_lane.proofs.Removing.{keys-left}
use Rattle.fluid_lane.proofs.Restarting.{same_ok, never_err}
use Rattle.fluid_service.specs.Shelved.{IsKeeperKept, IsOfStart}

-- ---- what is known of one that is kept

newest-some : (n : ℕ) → newest (suc n) ≡ Some n
newest-some n = rw (lt-leb (suc n) 0 (omega arith)) (ap Some (omega arith))

at_newest : CheckpointIsLoaded → (l : Ledger) (c : Content) (n : ℕ) → n ≡ length c.checkpoints → IsKept false l c → loaded c (newest n) ≡ Ok (entries_of l)
at_newest law l c zero is kept = loaded-first l c kept
at_newest law l c (suc n) is kept = ap (loaded c) (newest-some n) ∙ law l c n kept (omega (arith, is))

pub told_at : {A : Type 0} (o : Option A) (a : A) (P : A → Type 0) → o ≡ Some a → Tells o P → P a
told_at o a P is told = subst (λ o. Tells o P) is told

pub tell_at : {A : Type 0} (o : Option A) (a : A) (P : A → Type 0) → o ≡ Some a → P a → Tells o P
tell_at o a P is told = subst (λ o. Tells o P) (sym is) told

-- a fault that comes whatever the keeper has
abbrev pub IsQuiet : LaneFault → Type 0
IsQuiet (LogFailed note) = Unit {0}
IsQuiet (DeltaFailed note) = Unit {0}
IsQuiet NoMemory = Unit {0}
IsQuiet other = ⊥

pub quiet_start : (k : Keeping) (fault : LaneFault) → IsQuiet fault → IsOfStart k fault
quiet_start k (LogFailed note) quiet = tells_each k.content (λ c. StartsBad (newest k.checkpoints) c (LogFailed note)) (λ c. tt)
quiet_start k (Full entries) quiet = absurd quiet
quiet_start k (BadRecord place) quiet = absurd quiet
quiet_start k (NoCheckpoint asked stored) quiet = absurd quiet
quiet_start k CheckpointsFull quiet = absurd quiet
quiet_start k TooManyClients quiet = absurd quiet
quiet_start k (DeltaFailed note) quiet = tells_each k.content (λ c. StartsBad (newest k.checkpoints) c (DeltaFailed note)) (λ c. tt)
quiet_start k NoMemory quiet = tells_each k.content (λ c. StartsBad (newest k.checkpoints) c NoMemory) (λ c. tt)
quiet_start k (BadCheckpoint number bad) quiet = absurd quiet
quiet_start k (TooLarge bytes) quiet = absurd quiet
quiet_start k Worn quiet = absurd quiet

-- over what loads, a fault comes whatever the keeper has, or there is no room for the leaves
loads_bad : (from : Option ℕ) (c : Content) (e : Entries) (fault : LaneFault) → loaded c from ≡ Ok e → StartsBad from c fault → IsQuiet fault ⊎ ((fault ≡ Worn) × HasNoRoom from c)
loads_bad from c e (LogFailed note) loads bad = inl tt
loads_bad from c e (Full entries) loads bad = absurd bad
loads_bad from c e (BadRecord place) loads bad = absurd (never_err e (loading.BadRecord place) (loaded c from) loads bad)
loads_bad from c e (NoCheckpoint asked stored) loads bad = absurd bad
loads_bad from c e CheckpointsFull loads bad = absurd bad
loads_bad from c e TooManyClients loads bad = absurd bad
loads_bad from c e (DeltaFailed note) loads bad = inl tt
loads_bad from c e NoMemory loads bad = inl tt
loads_bad from c e (BadCheckpoint number fault) loads bad = absurd (never_err e (loading.BadCheckpoint number fault) (loaded c from) loads bad)
loads_bad from c e (TooLarge bytes) loads bad = absurd bad
loads_bad from c e Worn loads (inl err) = absurd (never_err e loading.Worn (loaded c from) loads err)
loads_bad from c e Worn loads (inr none) = inr (refl, none)

-- ---- a lane was started

taken-entered : (e : Entries) (raw : Raw) → (taken_up e raw).entered ≡ e.entered + 1
unfolding taken_up
taken-entered e raw = refl

takes-entered : (e : Entries) (raws : List Raw) → (takes e raws).entered ≡ e.entered + length raws
takes-entered e [] = omega arith
takes-entered e (raw ∷ raws) = let rest = takes-entered (taken_up e raw) raws in let one = taken-entered e raw in omega (arith, rest, one)

-- so over its keeper nothing else was wrong
pub started_quiet : (k : Keeping) (c : Content) (limits : Limits) (moment : ℕ) (lane : Standing) (fault : LaneFault) → k.content ≡ Some c → Starts k limits moment lane → lane.entries.entered ≤ largest
    → StartsBad (newest k.checkpoints) c fault → IsQuiet fault
started_quiet k c limits moment lane fault tells starts few bad = by (loads_bad (newest k.checkpoints) c starts.loads.entries fault loads bad)
  where
    loads : loaded c (newest k.checkpoints) ≡ Ok starts.loads.entries
    loads = told_at k.content c (λ content. loaded content (newest k.checkpoints) ≡ Ok starts.loads.entries) tells starts.loads.is

    number : lane.entries.entered ≡ starts.loads.entries.entered + len starts.loads.entries.state.sequencer.rows
    number =
        let all = takes-entered starts.loads.entries (leaves moment starts.loads.entries.state) in
        let ids = length-map (keys starts.loads.entries.state.sequencer.rows) (λ id. Leave id moment) in
        let rows = length-keys starts.loads.entries.state.sequencer.rows in
        ap (λ e. e.entered) starts.loads.behind ∙ omega (arith, all, ids, rows)

    by : IsQuiet fault ⊎ ((fault ≡ Worn) × HasNoRoom (newest k.checkpoints) c) → IsQuiet fault
    by (inl quiet) = quiet
    by (inr none) =
        let same = same_ok none.1.entries starts.loads.entries (loaded c (newest k.checkpoints)) none.1.is loads in
        let full = subst (λ (e : Entries). largest < e.entered + len e.state.sequencer.rows) same none.1.full in
        absurd (omega (arith, full, number, few))

-- ---- a start that failed

-- so many clients have left, and as many entries were entered
rows_left : (moment : ℕ) (ids : List (List ℕ)) (l done rest : Ledger) → IsLegal l → keys (state_of l).sequencer.rows ≡ ids → run (state_of l) (map (λ id. Leave id moment) ids) ≡ done ++ rest
    → len (state_of (l ++ done)).sequencer.rows + length done ≡ length ids
rows_left moment ids l [] rest legal are splits =
    let same = ap (λ x. len (state_of x).sequencer.rows) (append-nil l) in
    let rows = length-keys (state_of l).sequencer.rows in
    let count = ap length are in omega (arith, same, rows, count)
rows_left moment [] l (entry ∷ done) rest legal are splits = absurd (nothing splits)
  where
    nothing : ◌≡◌ {A = Ledger} [] (entry ∷ (done ++ rest)) → ⊥
    nothing same = let lengths = ap length same in omega (arith, lengths)
rows_left moment (id ∷ ids) l (entry ∷ done) rest legal are splits = by (rows_left moment ids (l ++ entry ∷ []) done rest)
  where
    raw : Raw
    raw = Leave id moment

    v : Verdict
    v = verdict_in (state_of l) raw

    heads : (a b : Raw × Verdict) (xs ys : Ledger) → a ∷ xs ≡ b ∷ ys → (a ≡ b) × (xs ≡ ys)
    heads a b xs ys same = (ap (first a) same, ap others same)
      where
        first : Raw × Verdict → Ledger → Raw × Verdict
        first d [] = d
        first d (x ∷ xs) = x

        others : Ledger → Ledger
        others [] = []
        others (x ∷ xs) = xs

    parts : ((raw, v) ≡ entry) × (run (after (state_of l) raw v) (map (λ id. Leave id moment) ids) ≡ done ++ rest)
    parts = heads (raw, v) entry (run (after (state_of l) raw v) (map (λ id. Leave id moment) ids)) (done ++ rest) splits

    by_rules : v ≡ verdict l raw
    by_rules = verdict-state_of l raw legal

    grown : state_of (l ++ entry ∷ []) ≡ after (state_of l) raw v
    grown = ap (λ e. state_of (l ++ e ∷ [])) (sym parts.0) ∙ state_of-push l raw v legal by_rules

    legal_on : IsLegal (l ++ entry ∷ [])
    legal_on = subst (λ e. IsLegal (l ++ e ∷ [])) parts.0 (legal-push l (raw, v) legal by_rules)

    Counts : Ledger → Type 0
    Counts all = len (state_of all).sequencer.rows + length (entry ∷ done) ≡ length (id ∷ ids)

    by : (IsLegal (l ++ entry ∷ []) → keys (state_of (l ++ entry ∷ [])).sequencer.rows ≡ ids → run (state_of (l ++ entry ∷ [])) (map (λ id. Leave id moment) ids) ≡ done ++ rest
        → len (state_of ((l ++ entry ∷ []) ++ done)).sequencer.rows + length done ≡ length ids) → Counts (l ++ entry ∷ done)
    by more =
        let count = more legal_on (ap (λ s. keys s.sequencer.rows) grown ∙ keys-left (state_of l) id ids moment are) (ap (λ s. run s (map (λ id. Leave id moment) ids)) grown ∙ parts.1) in
        subst Counts (append_assoc l (entry ∷ []) done) (omega (arith, count))

-- what the start left of a keeper that was kept
module _ (law : CheckpointIsLoaded) (k left : Keeping) (moment : ℕ) (fault : LaneFault) (kept : IsKeeperKept k) (partly : StartsPartly k left moment fault) where
  abbrev c : Content
  c = kept.content

  abbrev l : Ledger
  l = kept.kept.0

  abbrev more : List (List ℕ)
  more = records partly.added

  abbrev grew : Grew more k left
  grew = partly.grew

  abbrev now : Content
  now = put_behind grew.messages (add_records more c)

  tells : left.content ≡ Some now
  tells = grew.kept.content ∙ ap (λ o. option_map (put_behind grew.messages) (option_map (add_records more) o)) kept.tells

  lengths : HasLengths left now
  lengths = record {
    records = let one = grew.kept.records in let was = kept.lengths.records in let both = length-append c.log more in omega (arith, one, was, both);
    deltas =
        let one = grew.kept.deltas in let was = kept.lengths.deltas in let both = length-append c.deltas (map message_printed grew.messages) in let put = length-map grew.messages message_printed in
        omega (arith, one, was, both, put);
    checkpoints = grew.kept.checkpoints ∙ kept.lengths.checkpoints;
  }

  abbrev some : LeftSome moment l now
  some = told_at left.content now (LeftSome moment l) tells (partly.left l (tell_at k.content c (IsKept false l) kept.tells kept.kept.1))

  pub left_kept : IsKeeperKept left
  left_kept = record { content = now; tells = tells; lengths = lengths; kept = (l ++ some.done, some.kept) }

  loads : loaded c (newest k.checkpoints) ≡ Ok (entries_of l)
  loads = at_newest law l c k.checkpoints kept.lengths.checkpoints kept.kept.1

  loads_now : loaded now (newest left.checkpoints) ≡ Ok (entries_of (l ++ some.done))
  loads_now = at_newest law (l ++ some.done) now left.checkpoints lengths.checkpoints some.kept

  -- the leaves that are done are as many more entries and as many fewer clients
  full_still : HasNoRoom (newest k.checkpoints) c → HasNoRoom (newest left.checkpoints) now
  full_still none =
      let same = same_ok none.entries (entries_of l) (loaded c (newest k.checkpoints)) none.is loads in
      let full = subst (λ (e : Entries). largest < e.entered + len e.state.sequencer.rows) same none.full in
      let entered = entered-entries_of l in let entered_now = entered-entries_of (l ++ some.done) in
      let rows = ap (λ s. len s.sequencer.rows) (state-entries_of l) in let rows_now = ap (λ s. len s.sequencer.rows) (state-entries_of (l ++ some.done)) in
      let all = length-append l some.done in
      let ids = length-keys (state_of l).sequencer.rows in
      let count = rows_left moment (keys (state_of l).sequencer.rows) l some.done some.rest kept.kept.1.legal refl some.splits in record {
        entries = entries_of (l ++ some.done);
        is = loads_now;
        full = omega (arith, full, entered, entered_now, rows, rows_now, all, ids, count);
      }

  -- what was wrong with it is wrong still
  pub wrong_still : (other : LaneFault) → IsOfStart k other → IsOfStart left other
  wrong_still other is = by (loads_bad (newest k.checkpoints) c (entries_of l) other loads (told_at k.content c (λ c. StartsBad (newest k.checkpoints) c other) kept.tells is))
    where
      by : IsQuiet other ⊎ ((other ≡ Worn) × HasNoRoom (newest k.checkpoints) c) → IsOfStart left other
      by (inl quiet) = quiet_start left other quiet
      by (inr none) = subst (IsOfStart left) (sym none.0) (tell_at left.content now (λ c. StartsBad (newest left.checkpoints) c Worn) tells (inr (full_still none.1)))
