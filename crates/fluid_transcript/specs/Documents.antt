-- The steps of a document: `scribe`, `checkpoint`, `restart`, `reopen`, `sweep`, `count` and `tasks`.
use Rattle.std.specs.Prelude.{ℕ, nat_le, nat_lt, Bool, List, [], ◌∷◌, ◌++◌, length, Option, Some, None, if◌then◌else◌}
use Rattle.std.specs.Option.{option_map_or}
use Rattle.fluid_types.specs.declared.entries.Raw.TheVariants.{Leave, Report}
use Rattle.fluid_types.specs.Ledger.{Ledger, order}
use Rattle.fluid_types.specs.Blobs.{blobs}
use Rattle.fluid_tree.specs.Object.{object_bytes}
use Rattle.fluid_rules.specs.Scribe.{answer}
use Rattle.fluid_rules.specs.declared.limits.Limits.{Limits}
use Rattle.fluid_scribe.specs.Jobs.{job}
use Rattle.fluid_scribe.specs.declared.job.Job.{Job}
use Rattle.fluid_store.specs.Listed.{object_of, objects}
use Rattle.fluid_store.specs.Putting.{Putting, Clashing, putting}
use Rattle.fluid_store.specs.declared.listing.StoredObject.{StoredObject}
use Rattle.fluid_versions.specs.Versions.{version_tree, is_found}
use Rattle.fluid_document.specs.Entries.{entries_of}
use Rattle.fluid_document.specs.Kept.{checkpoint_text}
use Rattle.fluid_lane.specs.Laws.{first_silent_in}
use Rattle.fluid_transcript.specs.World.{Document, World, ledger_of, with_entries, farewells, Effect, says}
use Rattle.fluid_transcript.specs.Lines.{idle_line, answer_line, scribe_clash_line, stored_line, full_line, large_line, restarted_line, no_checkpoint_line, reopened_line, swept_line, nobody_swept_line, count_line, tasks_line}

-- ---- scribe

-- the objects that are put for a version, in this order: the four blobs, the tree of `.protocol`, and the version's
abbrev pub version_objects : Ledger → Job → (app : List ℕ) → List StoredObject
version_objects l j app = objects j.protocol ++ object_of (object_bytes (version_tree app (blobs (order l) j.reference))) ∷ []

-- the objects of the version are put where the tree is found
abbrev pub objects_for : Ledger → Bool → Job → List StoredObject
objects_for l found j = if found then option_map_or (version_objects l j) j.app [] else []

-- a report is entered, unless an object clashed
abbrev pub reported : World → Ledger → (d : List ℕ) → Job → Bool → Putting → Option Clashing → Effect
reported w l d j found p (Some clash) = record (says w (scribe_clash_line d clash.id ∷ [])) { store = p.held }
reported w l d j found p None =
    record (says w (answer_line d j.summary (answer (order l) j.summary found) ∷ [])) { entries = Report j.summary found w.moment ∷ []; store = p.held }

abbrev pub reported_by : World → Ledger → (d : List ℕ) → Job → Bool → Putting → Effect
reported_by w l d j found p = reported w l d j found p p.clash

abbrev pub job_done : World → Ledger → (d : List ℕ) → Job → Bool → Effect
job_done w l d j found = reported_by w l d j found (putting w.store (objects_for l found j))

-- what is done about the pending summarize
abbrev pub scribed_by : World → Ledger → (d : List ℕ) → Option Job → Effect
scribed_by w l d None = says w (idle_line d ∷ [])
scribed_by w l d (Some j) = job_done w l d j (is_found w.store j)

abbrev pub scribed : World → Document → (name : List ℕ) → Effect
scribed w d name = scribed_by w (ledger_of d) name (job (order (ledger_of d)))

-- ---- checkpoint, restart

-- the text of a checkpoint of all entries of a ledger
abbrev pub checkpoint_of : Ledger → List ℕ
checkpoint_of l = checkpoint_text (entries_of l)

-- a text of so many bytes is stored, unless it is too large
abbrev pub stored : Limits → World → Document → (name : List ℕ) → (bytes : ℕ) → Effect
stored limits w d name bytes =
    if nat_lt limits.bytes bytes then says w (large_line name bytes ∷ [])
    else record (says w (stored_line name (length d.checkpoints) (length d.raws) ∷ [])) { checkpoints = length d.raws ∷ [] }

abbrev pub checkpointed : Limits → World → Document → (name : List ℕ) → Effect
checkpointed limits w d name =
    if nat_le limits.checkpoints (length d.checkpoints) then says w (full_line name ∷ [])
    else stored limits w d name (length (checkpoint_of (ledger_of d)))

abbrev pub restarted : World → Document → (name : List ℕ) → (checkpoint : ℕ) → Effect
restarted w d name checkpoint =
    says w
    ((if nat_le (length d.checkpoints) checkpoint then no_checkpoint_line name checkpoint (length d.checkpoints)
    else restarted_line name checkpoint (ledger_of d))
    ∷ [])

-- ---- reopen, sweep, count, tasks

-- all that are joined leave
abbrev pub reopened : World → Document → (name : List ℕ) → Effect
reopened w d name =
    record (says w (reopened_line name (ledger_of (with_entries (farewells w.moment d) d)) ∷ [])) { entries = farewells w.moment d }

-- the first joined client in byte order of ids that is silent leaves
abbrev pub swept_by : World → (name : List ℕ) → Option (List ℕ) → Effect
swept_by w name None = says w (nobody_swept_line name ∷ [])
swept_by w name (Some id) = record (says w (swept_line name id ∷ [])) { entries = Leave id w.moment ∷ [] }

abbrev pub swept : World → Document → (name : List ℕ) → (silence : ℕ) → Effect
swept w d name silence = swept_by w name (first_silent_in w.moment silence (ledger_of d))

abbrev pub counted_up : World → Document → (name : List ℕ) → Effect
counted_up w d name = says w (count_line name (ledger_of d) ∷ [])

-- the queues and tasks of its messages
abbrev pub told_tasks : World → Document → (name : List ℕ) → Effect
told_tasks w d name = says w (tasks_line name (ledger_of d) ∷ [])
