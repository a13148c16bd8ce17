-- The steps of a container: `load`, `pump`, `edit`, `beat`, `summarize` and `show`.
use Rattle.std.specs.Prelude.{ℕ, ◌+◌, Bool, true, false, ◌&&◌, List, [], ◌∷◌, ◌++◌, take, drop, length, count_by, Option, Some, None, is_some, option_map, bytes_eq, Result, Ok, Err, if◌then◌else◌}
use Rattle.sha1.specs.Sha1.{sha1}
use Rattle.fluid_json.specs.Tree.{Tree, null}
use Rattle.fluid_types.specs.declared.entries.Raw.{Raw}
use Rattle.fluid_types.specs.declared.entries.Raw.TheVariants.{Join, Leave, Submit, Report}
use Rattle.fluid_types.specs.declared.entries.Scopes.{Scopes}
use Rattle.fluid_types.specs.declared.entries.Submission.{Submission}
use Rattle.fluid_types.specs.declared.entries.Offered.{Offered}
use Rattle.fluid_types.specs.declared.entries.Offered.TheVariants.{Op, Noop, Summarize}
use Rattle.fluid_types.specs.declared.nacks.NackRule.{NackRule}
use Rattle.fluid_types.specs.declared.nacks.NackRule.TheVariants.{Full}
use Rattle.fluid_types.specs.declared.verdicts.Verdict.{Verdict}
use Rattle.fluid_types.specs.declared.verdicts.Verdict.TheVariants.{Sequenced, Nacked, Dropped, Absorbed}
use Rattle.fluid_types.specs.Ledger.{Ledger, order, seq}
use Rattle.fluid_types.specs.Names.{entry_name}
use Rattle.fluid_tree.specs.declared.id.SummaryRef.{SummaryRef}
use Rattle.fluid_rules.specs.Scribe.{last_ack}
use Rattle.fluid_rules.specs.declared.limits.Limits.{Limits}
use Rattle.fluid_edits.specs.declared.edit.Edit.{Edit}
use Rattle.fluid_edits.specs.Replay.{Channels, no_channels, replay, replay_edits}
use Rattle.fluid_runtime.specs.App.{is_op}
use Rattle.fluid_runtime.specs.AppTree.{app_tree}
use Rattle.fluid_runtime.specs.Refused.{answer}
use Rattle.fluid_runtime.specs.Shown.{shown}
use Rattle.fluid_runtime.specs.declared.fault.EditFault.{EditFault}
use Rattle.fluid_store.specs.Held.{Held}
use Rattle.fluid_store.specs.Listed.{own_bytes, objects}
use Rattle.fluid_store.specs.Putting.{Putting, Clashing, putting}
use Rattle.fluid_loader.specs.Container.{is_from}
use Rattle.fluid_loader.specs.Link.{picked}
use Rattle.fluid_loader.specs.Submitting.{numbered, summarize_tree}
use Rattle.fluid_loader.specs.Version.{AVersion, version_at}
use Rattle.fluid_loader.specs.declared.link.Pick.{Pick}
use Rattle.fluid_loader.specs.declared.link.Pick.TheVariants.{Empty, Latest, Handle}
use Rattle.fluid_voice.specs.declared.ends.ActEnd.{ActEnd}
use Rattle.fluid_voice.specs.declared.ends.ActEnd.TheVariants.{Entered, FullNow, TooMany}
use Rattle.fluid_voice.specs.declared.refusals.ConnectRefusal.{ConnectRefusal}
use Rattle.fluid_voice.specs.declared.refusals.ConnectRefusal.TheVariants.{DocumentFull, TooManyClients, TooManyDocuments}
use Rattle.fluid_voice.specs.declared.actions.Act.TheVariants as act
use Rattle.fluid_voice.specs.Ends.{join_of, join_end, entry_end}
use Rattle.fluid_voice.specs.Ends.Outcome.{ends}
use Rattle.fluid_transcript.specs.World.{Document, Container, Name, container, used_up, World, ledger_of, raws_added, with_entries, Effect, says}
use Rattle.fluid_transcript.specs.Lines.{refused_line, turned_away_line, clash_line, loaded_line, no_summary_line, bad_summary_line, pumped_line, edited_line, edit_fault_line, beat_line, summarized_line, shown_line}

-- ---- what a container has

-- the id of its client, which is made of the number of entries before its join
abbrev pub id_of : Container → List ℕ
id_of k = entry_name k.entries

-- its channels: those that it was loaded from, and the messages behind their number up to its own
abbrev pub channels : Ledger → Container → Channels
channels l k = replay k.from (drop k.base (take k.number (order l)))

-- what it shows: its own edits on their way, as if they were next in the order
abbrev pub visible : Ledger → Container → Channels
visible l k = replay_edits (channels l k) k.pending

abbrev pub is_taken : Verdict → Bool
is_taken (Sequenced message) = true
is_taken Absorbed = true
is_taken (Nacked nack) = false
is_taken Dropped = false

-- an entry is a submission of this client
abbrev pub is_submission_of : List ℕ → Raw → Bool
is_submission_of id (Submit own submission moment) = bytes_eq own id
is_submission_of id (Join own scopes detail moment) = false
is_submission_of id (Leave own moment) = false
is_submission_of id (Report summary found moment) = false

-- one that was sequenced or absorbed
abbrev pub is_taken_from : List ℕ → Raw × Verdict → Bool
is_taken_from id entry = is_submission_of id entry.0 && is_taken entry.1

-- the client number of its last submission: so many were taken since its join
abbrev pub last : Ledger → Container → ℕ
last l k = count_by (is_taken_from (id_of k)) (drop k.entries l)

-- ---- submissions

-- an entry of a container, where it is entered, and why it is refused, where it is
pub record Submitted : Type 0 where
  pub entries : List Raw
  pub refused : Option NackRule

-- a full document refuses it before it is entered
abbrev pub refusal_in : ActEnd → Option NackRule
refusal_in FullNow = Some Full
refusal_in (Entered (Nacked nack)) = Some nack.rule
refusal_in end = None

abbrev pub submitted_as : Ledger → Raw → ActEnd → Submitted
submitted_as l raw end = record { entries = raws_added l (act.Enter raw) (ends end); refused = refusal_in end }

-- a submission with the next client number, at the container's number
abbrev pub submission_of : Ledger → Container → Offered → Tree → Submission
submission_of l k kind contents = numbered (last l k + 1) k.number kind contents

-- as an entry of its client
abbrev pub entry_of : World → Ledger → Container → Offered → Tree → Raw
entry_of w l k kind contents = Submit (id_of k) (submission_of l k kind contents) w.moment

abbrev pub submitting : Limits → World → Ledger → Container → Offered → Tree → Submitted
submitting limits w l k kind contents =
    submitted_as l (entry_of w l k kind contents) (entry_end limits l (entry_of w l k kind contents))

-- what is written, by why it was refused, if it was
abbrev pub line_for : (p line : List ℕ) → Option NackRule → List ℕ
line_for p line None = line
line_for p line (Some rule) = refused_line p rule

-- the container stands so where it wasn't refused, and as it stood where it was
abbrev pub submitted : World → (p : List ℕ) → (before after : Container) → (line : List ℕ) → Submitted → Effect
submitted w p before after line s =
    record (says w (line_for p line s.refused ∷ [])) { entries = s.entries; name = Some (p, container (standing before after s.refused)) } where
      standing : Container → Container → Option NackRule → Container
      standing before after None = after
      standing before after (Some rule) = before

-- ---- load

-- what became of a load: the join was refused, there is no such summary, the object at a path of it isn't held or is outside its
-- form, or a container
pub data Loading : Type 0 where
  turned_away : ConnectRefusal → Loading
  no_summary : Loading
  bad_summary : (path : List ℕ) → Loading
  loaded : Container → Loading

abbrev pub all_scopes : Scopes
all_scopes = record { read = true; write = true; summary = true }

-- the join of a container's client
abbrev pub join_for : World → Ledger → Raw
join_for w l = join_of l all_scopes null w.moment

abbrev pub joining : Limits → World → Ledger → ActEnd
joining limits w l = join_end limits l (join_for w l)

abbrev pub join_refusal : ActEnd → Option ConnectRefusal
join_refusal FullNow = Some DocumentFull
join_refusal TooMany = Some TooManyClients
join_refusal end = None

-- a container of these channels with this number, brought to the last message
abbrev pub begun : (name : List ℕ) → (entries : ℕ) → Ledger → Channels → ℕ → Loading
begun name entries l from base = loaded (record { document = name; entries = entries; from = from; base = base; number = seq l; pending = [] })

abbrev pub begun_with : (name : List ℕ) → (entries : ℕ) → Ledger → ℕ → Result AVersion (List ℕ) → Loading
begun_with name entries l base (Ok version) = begun name entries l version.channels base
begun_with name entries l base (Err path) = bad_summary path

-- from the version of the picked summary
abbrev pub begun_from : Held → (name : List ℕ) → (entries : ℕ) → Ledger → Option SummaryRef → Loading
begun_from held name entries l None = no_summary
begun_from held name entries l (Some summary) = begun_with name entries l summary.number (version_at held summary)

-- behind the client's join
abbrev pub begun_at : Held → (name : List ℕ) → (entries : ℕ) → Ledger → Pick → Loading
begun_at held name entries l Empty = begun name entries l no_channels 0
begun_at held name entries l Latest = begun_from held name entries l (picked Latest (order l))
begun_at held name entries l (Handle handle) = begun_from held name entries l (picked (Handle handle) (order l))

abbrev pub loading_by : World → Document → (name : List ℕ) → Pick → Option ConnectRefusal → Loading
loading_by w d name pick (Some refusal) = turned_away refusal
loading_by w d name pick None =
    begun_at w.store name (length d.raws) (ledger_of (with_entries (join_for w (ledger_of d) ∷ []) d)) pick

-- the client joins, and then the container is loaded
abbrev pub loading : Limits → World → Document → (name : List ℕ) → Pick → Loading
loading limits w d name pick = loading_by w d name pick (join_refusal (joining limits w (ledger_of d)))

-- the join, unless it is refused
abbrev pub joined_for : Limits → World → Document → List Raw
joined_for limits w d = if is_some (join_refusal (joining limits w (ledger_of d))) then [] else join_for w (ledger_of d) ∷ []

-- the container has the name from then on; that of one that wasn't loaded is used up
abbrev pub name_for : Loading → Name
name_for (turned_away refusal) = used_up
name_for no_summary = used_up
name_for (bad_summary path) = used_up
name_for (loaded k) = container k

abbrev pub load_line : (p name : List ℕ) → Loading → List ℕ
load_line p name (turned_away refusal) = turned_away_line p refusal
load_line p name no_summary = no_summary_line p
load_line p name (bad_summary path) = bad_summary_line p path
load_line p name (loaded k) = loaded_line p name k.number

abbrev pub loaded_as : Limits → World → Document → (p name : List ℕ) → Loading → Effect
loaded_as limits w d p name l = record (says w (load_line p name l ∷ [])) { entries = joined_for limits w d; name = Some (p, name_for l) }

abbrev pub load : Limits → World → Document → (p name : List ℕ) → Pick → Effect
load limits w d p name pick = loaded_as limits w d p name (loading limits w d name pick)

-- as many documents as may be are open: nobody joins, and the name is used up
abbrev pub load_beyond : World → (p : List ℕ) → Effect
load_beyond w p = record (says w (turned_away_line p TooManyDocuments ∷ [])) { name = Some (p, used_up) }

-- ---- pump

-- so many ops of its own stand behind its number
abbrev pub own_ops : Ledger → Container → ℕ
own_ops l k = count_by (λ m. is_from (id_of k) m.client && is_op m) (drop k.number (order l))

-- with the messages up to the last; its own edits that stand in the order now are no longer on their way
abbrev pub caught_up : Ledger → Container → Container
caught_up l k = record k { number = seq l; pending = drop (own_ops l k) k.pending }

abbrev pub pumped : World → Document → (p : List ℕ) → Container → Effect
pumped w d p k =
    record (says w (pumped_line p (caught_up (ledger_of d) k).number ∷ [])) { name = Some (p, container (caught_up (ledger_of d) k)) }

-- ---- edit, beat

-- an edit of what is shown is refused, or its op is submitted; where that isn't refused, the edit is on its way
abbrev pub edited_by : Limits → World → Ledger → (p : List ℕ) → Container → Edit → Result Tree EditFault → Effect
edited_by limits w l p k edit (Err fault) = says w (edit_fault_line p fault ∷ [])
edited_by limits w l p k edit (Ok contents) =
    submitted w p k (record k { pending = k.pending ++ edit ∷ [] }) (edited_line p) (submitting limits w l k Op contents)

abbrev pub edited : Limits → World → Document → (p : List ℕ) → Container → Edit → Effect
edited limits w d p k edit = edited_by limits w (ledger_of d) p k edit (answer (visible (ledger_of d) k) edit)

-- a noop with contents null
abbrev pub beaten : Limits → World → Document → (p : List ℕ) → Container → Effect
beaten limits w d p k = submitted w p k k (beat_line p k.number) (submitting limits w (ledger_of d) k Noop null)

-- ---- summarize

-- the tree of its channels, and the id of that
abbrev pub app_id : Channels → List ℕ
app_id channels = sha1 (own_bytes (app_tree channels))

-- the handle of the last acknowledgement up to its number
abbrev pub head : Ledger → Container → Option (List ℕ)
head l k = option_map (λ ack. ack.handle) (last_ack (take k.number (order l)))

abbrev pub proposed : Limits → World → Ledger → Container → Submitted
proposed limits w l k = submitting limits w l k Summarize (summarize_tree (app_id (channels l k)) (head l k) k.number)

-- the objects that were put stay, also where a later one clashed or the summarize was refused
abbrev pub summarized_by : Limits → World → Ledger → (p : List ℕ) → Container → Putting → Option Clashing → Effect
summarized_by limits w l p k put (Some clash) = record (says w (clash_line p clash.id ∷ [])) { store = put.held }
summarized_by limits w l p k put None =
    record (submitted w p k k (summarized_line p k.number) (proposed limits w l k)) { store = put.held }

abbrev pub summarized_with : Limits → World → Ledger → (p : List ℕ) → Container → Putting → Effect
summarized_with limits w l p k put = summarized_by limits w l p k put put.clash

-- the objects of its channels' tree are put, and then the tree is proposed
abbrev pub summarized : Limits → World → Document → (p : List ℕ) → Container → Effect
summarized limits w d p k =
    summarized_with limits w (ledger_of d) p k (putting w.store (objects (app_tree (channels (ledger_of d) k))))

-- ---- show

abbrev pub showing : World → Document → (p : List ℕ) → Container → Effect
showing w d p k = says w (shown_line p k.number (shown (visible (ledger_of d) k)) ∷ [])
