-- How a script ends, what was written then, and what the desk tells that comes back.
use Rattle.std.proofs.Common.{◌≡◌, ◌⊎◌, inl, inr, ℕ, ◌+◌, ◌≤◌, arith, Bool, true, false, List, [], ◌∷◌, ◌++◌, Option, Some, None, is_none, Result, Ok, Err, refl, sym, ap, subst, ◌∙◌, append-nil, append_assoc}
use Rattle.std.specs.Prelude.{IfSome, option_map, is_some}
use Rattle.std.specs.Str.Lines.{lines}
use Rattle.std.specs.FinMap.{FinMap, get, empty, get-empty, len-empty}
use Rattle.fluid_table.specs.Table.{byte_order, Values}
use Rattle.fluid_io.specs.Causes.{Rose, Tells}
use Rattle.fluid_io.specs.declared.lines.TheConstants.{MOST_LINES}
use Rattle.fluid_io.specs.Streams.{Reading, Writing, Appends, AppendsPrefix}
use Rattle.fluid_log.specs.Shelving.{Shelving, keeper_under}
use Rattle.fluid_store.specs.Held.{Held, IsShort}
use Rattle.fluid_store.specs.Storing.{Storing}
use Rattle.fluid_pipe.specs.Meaning.{Meaning}
use Rattle.fluid_pipe.specs.Output.{IsWhole, IsRefusedFor, IsBegun, IsInterrupted, IsCut, NoFault, ReadFailed, Wrote, Finished, HasEndCause, HasFailed}
use Rattle.fluid_pipe.specs.declared.refusal.Refusal.{Refusal}
use Rattle.fluid_pipe.specs.declared.stop.Stop.{Stop as PipeStop}
use Rattle.fluid_pipe.specs.declared.stop.Stop.TheVariants as pipe
use Rattle.fluid_pipe.proofs.Advances.{appends-both}
use Rattle.fluid_lane.specs.declared.fault.LaneFault.TheVariants as lane
use Rattle.fluid_lane.specs.Standing.{Standing}
use Rattle.fluid_lanes.specs.Opened.{nothing_open}
use Rattle.fluid_lanes.specs.Closing.{Closes}
use Rattle.fluid_rules.specs.declared.limits.Limits.{Limits}
use Rattle.fluid_steps.specs.declared.refusal.LineWhy.{LineWhy}
use Rattle.fluid_transcript.specs.World.{Document, World, first_world, document, Told}
use Rattle.fluid_transcript.specs.Transcript.{at_line, behind, written, loaded_last, why_of}
use Rattle.fluid_transcript.specs.Laws.{FirstIsSound}
use Rattle.fluid_desk.specs.declared.stop.Stop.{Stop}
use Rattle.fluid_desk.specs.declared.stop.Stop.TheVariants.{KeeperFault, StoreFault, BadStored, NoMemory}
use Rattle.fluid_desk.specs.declared.stop.StoredFault.TheVariants.{Lane, Delta, Object}
use Rattle.fluid_desk.specs.Laws.{DesksComeBack, FaultsAreCounted}
use Rattle.fluid_desk.specs.Scribing.{DeskDoesWith}
use Rattle.fluid_desk.specs.Stands.{IsDocument, DeskStands, ShelvesTell, StoreStands}
use Rattle.fluid_desk.specs.Stopping.{AreFew, MayStop, HasRun}
use Rattle.fluid_holding.specs.Holding.{HoldsOwn}
use Rattle.fluid_door_link.specs.Hushing.{hushed, IsHushed, IsShortAsTold}
use Rattle.fluid_containers.specs.Ending.{StopsForLinking}
use Rattle.fluid_containers.specs.Stepping.{MayStand as MayShow}
use Rattle.fluid_world.specs.declared.ends.ScriptEnd.{ScriptEnd}
use Rattle.fluid_world.specs.declared.ends.ScriptEnd.TheVariants as end
use Rattle.fluid_world.specs.declared.halted.Halted.{Halted}
use Rattle.fluid_world.specs.Standing.{IsNamed, WorldStands}
use Rattle.fluid_world.specs.Going.{stops_since}
use Rattle.fluid_world.proofs.Tooked.{stands_at, may_end}
use Rattle.fluid_world.specs.Taking.{Scripting, means, ScriptStands, IsLong, MayEnd, StopsAt, RanTo, StoodTo}
use Rattle.fluid_world.specs.Ending.{end_for, Outside, HasCause, IsDeskOf, ComesBackAs, IsWholeWith, IsCutWith, AreFirst, GrowsLong, Writes, EndsBy, PartsStand, LastWrites, ShowsBy, ConcludesBy, CutSo, BegunSo, WritesSo}

-- of options
some_same : {A : Type 0} (a b : A) → ◌≡◌ {A = Option A} (Some a) (Some b) → a ≡ b
some_same a b same = cc

-- ---- before a script

pub nothing_there : (V : Type 0) (none : Values V) (name : List ℕ) (v : V) → get none name ≡ None → get none name ≡ Some v → ⊥
nothing_there V none name v empties there = let both : ◌≡◌ {A = Option V} None (Some v) = sym empties ∙ there in cc

pub run_at_first : (first : ℕ) (shelves : Shelving) (limits : Limits) → first ≤ shelves.faults → HasRun first 0 (nothing_open shelves limits)
run_at_first first shelves limits le = record {
  shelves = le;
  lanes = λ name lane given there out. absurd (nothing_there Standing empty name lane (get-empty byte_order name) there);
  few = λ name lane there. absurd (nothing_there Standing empty name lane (get-empty byte_order name) there);
}

-- shelves on which no keeper is out stand for a world in which no document is open
desk_at_first : (shelves : Shelving) (limits : Limits) (documents : FinMap byte_order Document) (store : Held) → ShelvesTell shelves (first_world documents store)
    → DeskStands (nothing_open shelves limits) (first_world documents store)
desk_at_first shelves limits documents store tell = record {
  held = tell.held;
  told = tell.told;
  documents = λ name. subst (λ lane. IsDocument limits lane (keeper_under tell.held name) false (document (first_world documents store) name)) (sym (get-empty byte_order name)) (tell.documents name);
  count = len-empty byte_order Standing;
  few = omega (arith, len-empty byte_order Standing);
}

pub stands_at_first : (shelves : Shelving) (limits : Limits) (objects : Storing) (w : World) (speaks : Bool) → FirstIsSound → IsDeskOf shelves objects w
    → ScriptStands (record { lanes = nothing_open shelves limits; store = hushed true objects; names = empty; lines = 0; speaks = speaks; good = true; stop = None }) w
stands_at_first shelves limits objects w speaks first is =
    subst (ScriptStands (record { lanes = nothing_open shelves limits; store = hushed true objects; names = empty; lines = 0; speaks = speaks; good = true; stop = None })) (sym is.first) (record {
      good = refl;
      stands = record {
        desk = desk_at_first shelves limits w.documents w.store (subst (ShelvesTell shelves) is.first is.told);
        held = is.held;
        named = λ q.
            subst (λ n. IsNamed (first_world w.documents w.store) n (get (first_world w.documents w.store).names q)) (sym (get-empty byte_order q))
            (subst (IsNamed (first_world w.documents w.store) None) (sym (get-empty byte_order q)) tt);
        sound = first w.documents w.store;
      };
      moment = refl;
      owned = is.owned;
      run = run_at_first 0 shelves limits (omega arith);
      going = refl;
    })

pub short_at_first : (objects : Storing) (told : Option World) (shelves : Shelving) → IfSome told (IsDeskOf shelves objects) → is_some told ≡ true → IsShortAsTold objects
short_at_first objects None shelves is some = absurd (cc)
short_at_first objects (Some w) shelves is some = λ held told. subst IsShort (by held is.held told) is.short
  where
    by : (held : Held) → objects.content ≡ Some w.store → objects.content ≡ Some held → w.store ≡ held
    by held one other = let both : ◌≡◌ {A = Option Held} (Some w.store) (Some held) = sym one ∙ other in cc

-- ---- ends that a step made

-- over a desk that stands for a world only what may be
pub honest_writes : (limits : Limits) (w : World) (load : Option (List ℕ)) (input : Reading) (start : Writing) (source : Reading) (sink : Writing) (s : Scripting) (stop : Stop) (before : List (List ℕ)) → AreFirst input.left before
    → MayEnd (behind limits w before) stop → BegunSo (is_none load) limits w input start sink → WritesSo limits w load input start source sink s (end_for stop)
honest_writes limits w load input start source sink s (KeeperFault note) before are_first honest begun = begun
honest_writes limits w load input start source sink s (StoreFault note) before are_first honest begun = begun
honest_writes limits w load input start source sink s (BadStored (Delta number)) before are_first honest begun = absurd honest
honest_writes limits w load input start source sink s (BadStored (Object fault)) before are_first honest begun = absurd honest
honest_writes limits w load input start source sink s (BadStored (Lane lane.Worn)) before are_first honest begun = (refl, (record { lines = before; are_first = are_first; long = inl honest }, begun))
honest_writes limits w load input start source sink s (BadStored (Lane (lane.LogFailed note))) before are_first honest begun = absurd honest
honest_writes limits w load input start source sink s (BadStored (Lane (lane.Full entries))) before are_first honest begun = absurd honest
honest_writes limits w load input start source sink s (BadStored (Lane (lane.BadRecord place))) before are_first honest begun = absurd honest
honest_writes limits w load input start source sink s (BadStored (Lane (lane.NoCheckpoint asked stored))) before are_first honest begun = absurd honest
honest_writes limits w load input start source sink s (BadStored (Lane lane.CheckpointsFull)) before are_first honest begun = absurd honest
honest_writes limits w load input start source sink s (BadStored (Lane lane.TooManyClients)) before are_first honest begun = absurd honest
honest_writes limits w load input start source sink s (BadStored (Lane (lane.DeltaFailed note))) before are_first honest begun = absurd honest
honest_writes limits w load input start source sink s (BadStored (Lane lane.NoMemory)) before are_first honest begun = absurd honest
honest_writes limits w load input start source sink s (BadStored (Lane (lane.BadCheckpoint number fault))) before are_first honest begun = absurd honest
honest_writes limits w load input start source sink s (BadStored (Lane (lane.TooLarge bytes))) before are_first honest begun = absurd honest
honest_writes limits w load input start source sink s NoMemory before are_first honest begun = begun

-- the same of the last load
pub honest_shows : (told : Told) (old new : Writing) (s : Scripting) (stop : Stop) → MayEnd told.world stop → new ≡ old → ShowsBy told old new s (end_for stop)
honest_shows told old new s (KeeperFault note) honest same = same
honest_shows told old new s (StoreFault note) honest same = same
honest_shows told old new s (BadStored (Delta number)) honest same = absurd honest
honest_shows told old new s (BadStored (Object fault)) honest same = absurd honest
honest_shows told old new s (BadStored (Lane lane.Worn)) honest same = (refl, (honest, same))
honest_shows told old new s (BadStored (Lane (lane.LogFailed note))) honest same = absurd honest
honest_shows told old new s (BadStored (Lane (lane.Full entries))) honest same = absurd honest
honest_shows told old new s (BadStored (Lane (lane.BadRecord place))) honest same = absurd honest
honest_shows told old new s (BadStored (Lane (lane.NoCheckpoint asked stored))) honest same = absurd honest
honest_shows told old new s (BadStored (Lane lane.CheckpointsFull)) honest same = absurd honest
honest_shows told old new s (BadStored (Lane lane.TooManyClients)) honest same = absurd honest
honest_shows told old new s (BadStored (Lane (lane.DeltaFailed note))) honest same = absurd honest
honest_shows told old new s (BadStored (Lane lane.NoMemory)) honest same = absurd honest
honest_shows told old new s (BadStored (Lane (lane.BadCheckpoint number fault))) honest same = absurd honest
honest_shows told old new s (BadStored (Lane (lane.TooLarge bytes))) honest same = absurd honest
honest_shows told old new s NoMemory honest same = same

-- with its cause
pub stop_ends : (first steps : ℕ) (before : Storing) (input : Reading) (start : Writing) (source : Reading) (sink : Writing) (s : Scripting) (stop : Stop) → NoFault input start source sink
    → StopsForLinking first steps before s.store s.lanes stop → EndsBy first before input start source sink s (end_for stop)
stop_ends first steps before input start source sink s (KeeperFault note) quiet stops = record { quiet = quiet; steps = steps; stops = stops }
stop_ends first steps before input start source sink s (StoreFault note) quiet stops = record { quiet = quiet; steps = steps; stops = stops }
stop_ends first steps before input start source sink s (BadStored fault) quiet stops = record { quiet = quiet; steps = steps; stops = stops }
stop_ends first steps before input start source sink s NoMemory quiet stops = quiet

-- ---- the last container

pub last_shows : (told : Told) (old new : Writing) (s : Scripting) (line : List ℕ) (e : ScriptEnd) → PartsStand s told.world → told.lines ≡ line ∷ [] → LastWrites line old new e → ShowsBy told old new s e
last_shows told old new s line end.Done parts says is = (parts, subst (λ ls. Appends (written ls) old.written new.written) (sym says) is.1)
last_shows told old new s line (end.BadLine number why) parts says is = absurd is
last_shows told old new s line end.ReadFault parts says is = absurd is
last_shows told old new s line end.WriteFault parts says is = subst (λ ls. AppendsPrefix (written ls) old.written new.written) (sym says) is.1
last_shows told old new s line (end.KeeperFault note) parts says is = absurd is
last_shows told old new s line (end.StoreFault note) parts says is = absurd is
last_shows told old new s line (end.BadStored fault) parts says is = absurd is
last_shows told old new s line end.NoMemory parts says is = is

pub last_ends : (first : ℕ) (before : Storing) (input : Reading) (start : Writing) (source : Reading) (old new : Writing) (s : Scripting) (line : List ℕ) (e : ScriptEnd) → NoFault input start source old
    → LastWrites line old new e → EndsBy first before input start source new s e
last_ends first before input start source old new s line end.Done quiet is = record { read = quiet.read; written = is.0 ∙ quiet.written }
last_ends first before input start source old new s line (end.BadLine number why) quiet is = absurd is
last_ends first before input start source old new s line end.ReadFault quiet is = absurd is
last_ends first before input start source old new s line end.WriteFault quiet is = subst (λ n. Rose n new.faults) quiet.written is.0
last_ends first before input start source old new s line (end.KeeperFault note) quiet is = absurd is
last_ends first before input start source old new s line (end.StoreFault note) quiet is = absurd is
last_ends first before input start source old new s line (end.BadStored fault) quiet is = absurd is
last_ends first before input start source old new s line end.NoMemory quiet is = record { read = quiet.read; written = ap (λ k. k.faults) is ∙ quiet.written }

-- ---- all lines were taken

begun_of : (m : Meaning LineWhy) (left old new : Option (List ℕ)) → Wrote (IsWhole m) left old new → Wrote (IsBegun m) left old new
begun_of m None old new h = tt
begun_of m (Some input) old new h = (h.0, h.1, record { before = lines input; behind = []; split = sym (append-nil (lines input)); accepted = h.2.accepted; text = h.2.text })

cut_of : (m : Meaning LineWhy) (left old new : Option (List ℕ)) → Wrote (IsWhole m) left old new → Wrote (IsCut m) left old new
cut_of m None old new h = tt
cut_of m (Some input) old new h = (
  h.0,
  h.1,
  record {
    rest = [];
    goes_on = inl (record { before = lines input; behind = []; split = sym (append-nil (lines input)); accepted = h.2.accepted; text = append-nil h.0 ∙ h.2.text });
  },
)

-- the last line behind nothing
line_behind : (limits : Limits) (w : World) (document : List ℕ) (left old mid new : Option (List ℕ)) (before : List (List ℕ)) → Tells left (λ bytes. lines bytes ≡ before) → Wrote (IsWhole (means false limits w)) left old mid
    → Appends (written (loaded_last limits (behind limits w before) document).lines) mid new → Wrote (IsWholeWith limits w document) left old new
line_behind limits w document None old mid new before all h more = tt
line_behind limits w document (Some input) old mid new before all h more = (
  h.0 ++ written (loaded_last limits (behind limits w before) document).lines,
  appends-both h.0 (written (loaded_last limits (behind limits w before) document).lines) old mid new h.1 more,
  record {
    accepted = h.2.accepted;
    text =
        ap (λ b. b ++ written (loaded_last limits (behind limits w before) document).lines) h.2.text
        ∙ ap (λ ls. written (loaded_last limits (behind limits w ls) document).lines) (sym all);
  },
)

line_cut : (limits : Limits) (w : World) (document : List ℕ) (left old mid new : Option (List ℕ)) (before : List (List ℕ)) → Tells left (λ bytes. lines bytes ≡ before) → Wrote (IsWhole (means false limits w)) left old mid
    → AppendsPrefix (written (loaded_last limits (behind limits w before) document).lines) mid new
    → Wrote (λ bytes output. IsCut (means false limits w) bytes output ⊎ IsCutWith limits w document bytes output) left old new
line_cut limits w document None old mid new before all h more = tt
line_cut limits w document (Some input) old mid new before all h more = (
  h.0 ++ more.prefix,
  appends-both h.0 more.prefix old mid new h.1 more.appends,
  inr (record {
    rest = more.behind;
    goes_on = record {
      accepted = h.2.accepted;
      text =
          append_assoc h.0 more.prefix more.behind ∙ ap (λ b. h.0 ++ b) (sym more.splits)
          ∙ ap (λ b. b ++ written (loaded_last limits (behind limits w before) document).lines) h.2.text
          ∙ ap (λ ls. written (loaded_last limits (behind limits w ls) document).lines) (sym all);
    };
  }),
)

-- all lines of an input are some first ones of it
all_first : (left : Option (List ℕ)) (before : List (List ℕ)) → Tells left (λ bytes. lines bytes ≡ before) → AreFirst left before
all_first None before all = tt
all_first (Some bytes) before all = ([], all ∙ sym (append-nil before))

same_written : (m : Meaning LineWhy) (left old : Option (List ℕ)) (mid new : Writing) → new ≡ mid → Wrote (IsWhole m) left old mid.written → Wrote (IsWhole m) left old new.written
same_written m left old mid new same h = subst (λ k. Wrote (IsWhole m) left old k.written) (sym same) h

module _ (limits : Limits) (w : World) (input : Reading) (start : Writing) (source : Reading) (mid sink : Writing) (s : Scripting) (before : List (List ℕ)) (all : Tells input.left (λ bytes. lines bytes ≡ before))
    (left : Tells source.left (λ bytes. bytes ≡ [])) where
  shown_writes : (document : List ℕ) (e : ScriptEnd) → Wrote (IsWhole (means false limits w)) input.left start.written mid.written → ShowsBy (loaded_last limits (behind limits w before) document) mid sink s e
      → WritesSo limits w (Some document) input start source sink s e
  shown_writes document end.Done whole shows = record {
    written = line_behind limits w document input.left start.written mid.written sink.written before all whole shows.1;
    nothing_left = left;
    lines = before;
    are_all = all;
    parts = shows.0;
  }
  shown_writes document (end.BadLine number why) whole shows = absurd shows
  shown_writes document end.ReadFault whole shows = absurd shows
  shown_writes document end.WriteFault whole shows = line_cut limits w document input.left start.written mid.written sink.written before all whole shows
  shown_writes document (end.KeeperFault note) whole shows = begun_of (means false limits w) input.left start.written sink.written (same_written (means false limits w) input.left start.written mid sink shows whole)
  shown_writes document (end.StoreFault note) whole shows = begun_of (means false limits w) input.left start.written sink.written (same_written (means false limits w) input.left start.written mid sink shows whole)
  shown_writes document (end.BadStored fault) whole shows = (
    shows.0,
    (
      record { lines = before; are_first = all_first input.left before all; long = inr shows.1.0 },
      begun_of (means false limits w) input.left start.written sink.written (same_written (means false limits w) input.left start.written mid sink shows.1.1 whole),
    ),
  )
  shown_writes document end.NoMemory whole shows = begun_of (means false limits w) input.left start.written sink.written (same_written (means false limits w) input.left start.written mid sink shows whole)

  pub concluded : (load : Option (List ℕ)) (e : ScriptEnd) → Wrote (IsWhole (means (is_none load) limits w)) input.left start.written mid.written
      → ConcludesBy limits (behind limits w before) load mid sink s e → WritesSo limits w load input start source sink s e
  concluded None e whole ended =
      subst (WritesSo limits w None input start source sink s) (sym ended.0) (record {
        written = same_written (means true limits w) input.left start.written mid sink ended.1.0 whole;
        nothing_left = left;
        lines = before;
        are_all = all;
        parts = ended.1.1;
      })
  concluded (Some document) e whole ended = shown_writes document e whole ended

-- ---- behind the end

same_hushed : (store told : Storing) (held : Held) → IsHushed store told → told.content ≡ Some held → told ≡ store
same_hushed store told held is there = by is.may is.is
  where
    by : (may : Bool) → told ≡ hushed may store → told ≡ store
    by true same = same
    by false same = let none : ◌≡◌ {A = Option Held} (Some held) None = sym there ∙ ap (λ s. s.content) same in absurd (cc)

tells_first : (s : Shelving) (w : World) → ShelvesTell s w → ShelvesTell s (first_world w.documents w.store)
tells_first s w h = record { held = h.held; told = h.told; documents = h.documents }

pub back_as : DesksComeBack → (s : Scripting) (w : World) (now : Outside) → Closes s.lanes now.shelves → IsHushed now.store s.store → IsShortAsTold s.store → PartsStand s w → ComesBackAs now w
back_as come s w now closed hush short parts = record {
  told = tells_first now.shelves w (come s.lanes w now.shelves parts.desk closed);
  held = ap (λ k. k.content) (sym (same_hushed now.store s.store w.store hush parts.held)) ∙ parts.held;
  short = short w.store parts.held;
  owned = parts.owned;
  first = refl;
}

hushed_counts : (store told : Storing) → IsHushed store told → told.faults ≡ store.faults
hushed_counts store told is = by is.may is.is
  where
    by : (may : Bool) → told ≡ hushed may store → told.faults ≡ store.faults
    by true same = ap (λ s. s.faults) same
    by false same = ap (λ s. s.faults) same

pub closes_cause : FaultsAreCounted → (before now : Outside) (good : Bool) (s : Scripting) (e : ScriptEnd) → Closes s.lanes now.shelves → IsHushed now.store s.store
    → EndsBy before.shelves.faults (hushed good before.store) before.source before.sink now.source now.sink s e → HasCause before now e
closes_cause counted before now good s end.Done closed hush h = h
closes_cause counted before now good s (end.BadLine number why) closed hush h = h
closes_cause counted before now good s end.ReadFault closed hush h = h
closes_cause counted before now good s end.WriteFault closed hush h = h
closes_cause counted before now good s (end.KeeperFault note) closed hush h =
    (h.quiet, (h.stops.ends.0, counted before.shelves.faults h.steps s.lanes note now.shelves (record { shelves = h.stops.shelves; few = h.stops.few; ends = h.stops.ends }) closed))
closes_cause counted before now good s (end.StoreFault note) closed hush h = (
  h.quiet,
  record {
    before = omega (arith, h.stops.ends.before, hushed_counts before.store (hushed good before.store) (record { may = good; is = refl }));
    after = h.stops.ends.after ∙ hushed_counts now.store s.store hush;
    rose = h.stops.ends.rose;
  },
)
closes_cause counted before now good s (end.BadStored fault) closed hush h = (h.quiet, record { opened = s.lanes; closed = closed; store = s.store; hush = hush; since = hushed good before.store; refused = h.stops.ends })
closes_cause counted before now good s end.NoMemory closed hush h = h

pub closes_writes : DesksComeBack → (limits : Limits) (w : World) (load : Option (List ℕ)) (before now : Outside) (s : Scripting) (e : ScriptEnd) → Closes s.lanes now.shelves → IsHushed now.store s.store → IsShortAsTold s.store
    → WritesSo limits w load before.source before.sink now.source now.sink s e → Writes limits w load before now e
closes_writes come limits w None before now s end.Done closed hush short h =
    record { written = h.written; nothing_left = h.nothing_left; lines = h.lines; are_all = h.are_all; back = back_as come s _ now closed hush short h.parts }
closes_writes come limits w (Some document) before now s end.Done closed hush short h =
    record { written = h.written; nothing_left = h.nothing_left; lines = h.lines; are_all = h.are_all; back = back_as come s _ now closed hush short h.parts }
closes_writes come limits w load before now s (end.BadLine number why) closed hush short h =
    record { refusal = h.refusal; is = h.is; written = h.written; lines = h.lines; its_number = h.its_number; are_first = h.are_first; back = back_as come s _ now closed hush short h.parts }
closes_writes come limits w load before now s end.ReadFault closed hush short h = h
closes_writes come limits w None before now s end.WriteFault closed hush short h = h
closes_writes come limits w (Some document) before now s end.WriteFault closed hush short h = h
closes_writes come limits w load before now s (end.KeeperFault note) closed hush short h = h
closes_writes come limits w load before now s (end.StoreFault note) closed hush short h = h
closes_writes come limits w load before now s (end.BadStored fault) closed hush short h = h
closes_writes come limits w load before now s end.NoMemory closed hush short h = h

-- ---- how lines ended

pub cut_so : (limits : Limits) (w : World) (load : Option (List ℕ)) (input : Reading) (start sink : Writing) → Wrote (IsCut (means (is_none load) limits w)) input.left start.written sink.written → CutSo limits w load input start sink
cut_so limits w None input start sink h = h
cut_so limits w (Some document) input start sink h = by input.left h
  where
    by : (left : Option (List ℕ)) → Wrote (IsCut (means false limits w)) left start.written sink.written
        → Wrote (λ bytes output. IsCut (means false limits w) bytes output ⊎ IsCutWith limits w document bytes output) left start.written sink.written
    by None h = tt
    by (Some bytes) h = (h.0, h.1, inl h.2)

pub parts_of : (s t : Scripting) (w : World) → t.lanes ≡ s.lanes → t.store ≡ s.store → ScriptStands s w → PartsStand t w
parts_of s t w lanes store h = record { desk = subst (λ o. DeskStands o w) (sym lanes) h.stands.desk; held = subst (λ k. StoreStands k w) (sym store) h.stands.held; owned = h.owned }

-- ---- a step ended it

pub halted_ends : (first : ℕ) (before : Storing) (input : Reading) (start : Writing) (source : Reading) (sink : Writing) (s t : Scripting) (o : Option Stop) (e : ScriptEnd) → option_map end_for o ≡ Some e → t.lanes ≡ s.lanes
    → t.store ≡ s.store → RanTo first before s o → NoFault input start source sink → EndsBy first before input start source sink t e
halted_ends first before input start source sink s t None e is lanes store ran quiet = absurd (cc)
halted_ends first before input start source sink s t (Some stop) e is lanes store ran quiet =
    let same : end_for stop ≡ e = some_same (end_for stop) e is in
    subst (EndsBy first before input start source sink t) same (stop_ends first (s.lines + 1) before input start source sink t stop quiet
    (subst (λ o. StopsForLinking first (s.lines + 1) before t.store o stop) (sym lanes) (subst (λ k. StopsForLinking first (s.lines + 1) before k s.lanes stop) (sym store) ran)))

pub halted_writes : (limits : Limits) (w : World) (load : Option (List ℕ)) (input : Reading) (start : Writing) (source : Reading) (sink : Writing) (t : Scripting) (o : Option Stop) (e : ScriptEnd) → option_map end_for o ≡ Some e
    → StopsAt limits w o input.left → BegunSo (is_none load) limits w input start sink → WritesSo limits w load input start source sink t e
halted_writes limits w load input start source sink t None e is stops begun = absurd (cc)
halted_writes limits w load input start source sink t (Some stop) e is stops begun =
    let same : end_for stop ≡ e = some_same (end_for stop) e is in
    subst (WritesSo limits w load input start source sink t) same (honest_writes limits w load input start source sink t stop stops.taken stops.are_first stops.fails begun)

-- ---- how a script ends whose lines ended so

pub none_mapped : {A B : Type 0} (f : A → B) (o : Option A) → is_none (option_map f o) ≡ is_none o
none_mapped f None = refl
none_mapped f (Some a) = refl

-- how lines end
abbrev LinesEnd : Type 0
LinesEnd = Result (Unit {0}) (PipeStop LineWhy Halted)

pub same_err : (s t : PipeStop LineWhy Halted) → s ≡ t → ◌≡◌ {A = LinesEnd} (Err s) (Err t)
same_err s t same = ap (λ e. Err e) same

module _ (input : Reading) (start : Writing) (source : Reading) (sink : Writing) (ended : LinesEnd) where
  pub ok_cause : (done : Unit {0}) → ended ≡ Ok done → HasEndCause input start source sink ended → NoFault input start source sink
  ok_cause done is h = subst (HasEndCause input start source sink) is h

  pub refused_cause : (number : ℕ) (why : Refusal LineWhy) → ended ≡ Err (pipe.Refused number why) → HasEndCause input start source sink ended → NoFault input start source sink
  refused_cause number why is h = subst (HasEndCause input start source sink) is h

  pub read_cause : ended ≡ Err pipe.ReadFault → HasEndCause input start source sink ended → ReadFailed input start source sink
  read_cause is h = subst (HasEndCause input start source sink) is h

  pub write_cause : ended ≡ Err pipe.WriteFault → HasEndCause input start source sink ended → Rose start.faults sink.faults
  write_cause is h = subst (HasEndCause input start source sink) is h

  pub memory_cause : ended ≡ Err pipe.NoMemory → HasEndCause input start source sink ended → NoFault input start source sink
  memory_cause is h = subst (HasEndCause input start source sink) is h

  pub failed_cause : (fault : Halted) → ended ≡ Err (pipe.Failed fault) → HasEndCause input start source sink ended → NoFault input start source sink
  failed_cause fault is h = subst (HasEndCause input start source sink) is h

module _ (w : World) (load : Option (List ℕ)) (input : Reading) (start : Writing) (source : Reading) (s : Scripting) (speaks : is_none load ≡ s.speaks) where
  abbrev limits : Limits
  limits = s.lanes.limits

  abbrev spoke : (Meaning LineWhy → List ℕ → List ℕ → Type 0) → Writing → Bool → Type 0
  spoke Sort sink b = Wrote (Sort (means b limits w)) input.left start.written sink.written

  abbrev Keeps : List (List ℕ) → Type 0
  Keeps before = ScriptStands s (behind limits w before)

  abbrev Ends : Writing → LinesEnd → Type 0
  Ends sink ended = Finished (means s.speaks limits w) Keeps input start source sink ended

  pub ok_writes : (mid sink : Writing) (t : Scripting) (e : ScriptEnd) (ended : LinesEnd) (done : Unit {0}) → ended ≡ Ok done → Ends mid ended
      → ((v : World) → ScriptStands s v → ConcludesBy limits v load mid sink t e) → WritesSo limits w load input start source sink t e
  ok_writes mid sink t e ended done is h concludes = by (subst (Ends mid) is h)
    where
      by : Ends mid (Ok done) → WritesSo limits w load input start source sink t e
      by h =
          concluded limits w input start source mid sink t h.2.before h.2.are_all h.1 load e (subst (spoke IsWhole mid) (sym speaks) h.0) (concludes (behind limits w h.2.before) h.2.keeps)

  pub refused_writes : (sink : Writing) (e : ScriptEnd) (ended : LinesEnd) (number : ℕ) (why : Refusal LineWhy) → ended ≡ Err (pipe.Refused number why) → Ends sink ended → e ≡ end.BadLine number (why_of why)
      → WritesSo limits w load input start source sink s e
  refused_writes sink e ended number why is h says = subst (WritesSo limits w load input start source sink s) (sym says) (by (subst (Ends sink) is h))
    where
      by : Ends sink (Err (pipe.Refused number why)) → WritesSo limits w load input start source sink s (end.BadLine number (why_of why))
      by h = record {
        refusal = why;
        is = refl;
        written = subst (spoke (λ m. IsRefusedFor m number why) sink) (sym speaks) h.0;
        lines = h.1.before;
        its_number = h.1.its_number;
        are_first = h.1.are_first;
        parts = parts_of s s (behind limits w h.1.before) refl refl h.1.keeps;
      }

  pub interrupted_writes : (sink : Writing) (ended : LinesEnd) → ended ≡ Err pipe.ReadFault → Ends sink ended → WritesSo limits w load input start source sink s end.ReadFault
  interrupted_writes sink ended is h = subst (spoke (λ m. IsInterrupted m source.left) sink) (sym speaks) (subst (Ends sink) is h)

  pub cut_writes : (sink : Writing) (ended : LinesEnd) → ended ≡ Err pipe.WriteFault → Ends sink ended → WritesSo limits w load input start source sink s end.WriteFault
  cut_writes sink ended is h = cut_so limits w load input start sink (subst (spoke IsCut sink) (sym speaks) (subst (Ends sink) is h))

  pub short_writes : (sink : Writing) (ended : LinesEnd) → ended ≡ Err pipe.NoMemory → Ends sink ended → WritesSo limits w load input start source sink s end.NoMemory
  short_writes sink ended is h = subst (spoke IsBegun sink) (sym speaks) (subst (Ends sink) is h)

  pub failed_writes : (sink : Writing) (t : Scripting) (o : Option Stop) (e : ScriptEnd) (ended : LinesEnd) (fault : Halted) → ended ≡ Err (pipe.Failed fault) → Ends sink ended → option_map end_for o ≡ Some e
      → HasFailed (λ _. StopsAt limits w o input.left) ended → WritesSo limits w load input start source sink t e
  failed_writes sink t o e ended fault is h says failed =
      halted_writes limits w load input start source sink t o e says (subst (HasFailed (λ _. StopsAt limits w o input.left)) is failed) (subst (spoke IsBegun sink) (sym speaks) (subst (Ends sink) is h))

-- ---- all lines were taken

pub stopped_concludes : (limits : Limits) (w : World) (load : Option (List ℕ)) (old new : Writing) (t : Scripting) (o : Option Stop) (stop : Stop) (e : ScriptEnd) → o ≡ Some stop → o ≡ None → ConcludesBy limits w load old new t e
stopped_concludes limits w load old new t o stop e is going = let both : ◌≡◌ {A = Option Stop} (Some stop) None = sym is ∙ going in absurd (cc)

pub nothing_concludes : (limits : Limits) (w : World) (sink : Writing) (t : Scripting) (load : Option (List ℕ)) → load ≡ None → PartsStand t w → ConcludesBy limits w load sink sink t end.Done
nothing_concludes limits w sink t None unasked parts = (refl, (refl, parts))
nothing_concludes limits w sink t (Some document) unasked parts = absurd (cc)

pub last_concludes : (limits : Limits) (w : World) (old new : Writing) (t : Scripting) (e : ScriptEnd) (document : List ℕ) (load : Option (List ℕ)) → load ≡ Some document
    → ShowsBy (loaded_last limits w document) old new t e → ConcludesBy limits w load old new t e
last_concludes limits w old new t e document None asked shows = absurd (cc)
last_concludes limits w old new t e document (Some d) asked shows =
    let same : d ≡ document = some_same d document asked in subst (λ d. ShowsBy (loaded_last limits w d) old new t e) (sym same) shows

pub stands_unstopped : (s t : Scripting) (w : World) → t ≡ record s { stop = None } → ScriptStands s w → ScriptStands t w
stands_unstopped s t w is h = subst (λ x. ScriptStands x w) (sym is) (record { good = h.good; stands = h.stands; moment = h.moment; owned = h.owned; run = h.run; going = refl })

pub runs_unstopped : (first : ℕ) (before : Storing) (s t : Scripting) (o : Option Stop) → t ≡ record s { stop = None } → o ≡ None → RanTo first before s o → HasRun first t.lines t.lanes
runs_unstopped first before s t None is going ran = subst (λ (x : Scripting). HasRun first x.lines x.lanes) (sym is) ran
runs_unstopped first before s t (Some stop) is going ran = absurd (cc)

pub may_show : (s t : Scripting) (o : Option Stop) → t ≡ record s { stop = None } → o ≡ None → StoodTo s o → MayShow t.good t.lanes
may_show s t None is going may = subst (λ (x : Scripting). MayShow x.good x.lanes) (sym is) (λ good. by (may good))
  where
    by : (w : World) × ScriptStands s w → (w : World) × DeskStands s.lanes w
    by (w, h) = (w, h.stands.desk)
may_show s t (Some stop) is going may = absurd (cc)

-- ---- the last container is shown

pub shown_last : (told : Told) (old new : Writing) (t : Scripting) (line : List ℕ) (e : ScriptEnd) → HoldsOwn told.world.store → DeskDoesWith told t.lanes t.store (Ok line) → LastWrites line old new e → ShowsBy told old new t e
shown_last told old new t line e owned does is = last_shows told old new t line e (record { desk = does.done.stands; held = does.held; owned = owned }) does.done.says is

pub unshown_last : (told : Told) (sink : Writing) (t : Scripting) (n : ℕ) (stop : Stop) (e : ScriptEnd) → e ≡ end_for stop → n ≤ MOST_LINES + 2 → AreFew n t.lanes → told.world.moment ≡ n → MayStop told.world t.lanes stop → ShowsBy told sink sink t e
unshown_last told sink t n stop e is lines few at may = subst (ShowsBy told sink sink t) (sym is) (honest_shows told sink sink t stop (may_end told.world t.lanes n stop lines few at may) refl)

pub unshown_ends : (first steps : ℕ) (before : Storing) (input : Reading) (start : Writing) (source : Reading) (sink : Writing) (mid : Storing) (t : Scripting) (stop : Stop) (e : ScriptEnd) → e ≡ end_for stop → before.faults ≤ mid.faults
    → NoFault input start source sink → StopsForLinking first steps mid t.store t.lanes stop → EndsBy first before input start source sink t e
unshown_ends first steps before input start source sink mid t stop e is le quiet stops =
    subst (EndsBy first before input start source sink t) (sym is) (stop_ends first steps before input start source sink t stop quiet (stops_since first steps before mid t.store t.lanes stop le stops))

-- from the world at its moment
pub shows_at : (s : Scripting) (w : World) → ScriptStands s w → WorldStands s.lanes s.store s.names (at_line w)
shows_at s w h = stands_at s.lanes s.store s.names w h.stands

-- the line of the last container is written, or memory is wanting, or the sink fails
pub last_written : (line bytes : List ℕ) (old new : Writing) → bytes ≡ written (line ∷ []) → new.faults ≡ old.faults → Appends bytes old.written new.written → LastWrites line old new end.Done
last_written line bytes old new is quiet more = (quiet, subst (λ b. Appends b old.written new.written) is more)

pub last_unwritten : (line bytes : List ℕ) (old new : Writing) → bytes ≡ written (line ∷ []) → Rose old.faults new.faults → AppendsPrefix bytes old.written new.written → LastWrites line old new end.WriteFault
last_unwritten line bytes old new is rose more = (rose, subst (λ b. AppendsPrefix b old.written new.written) is more)
