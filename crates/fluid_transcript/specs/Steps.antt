-- The table of steps: which document each reaches, what it changes, and what it writes.
use Rattle.std.specs.Prelude.{ℕ, Bool, true, false, if◌then◌else◌, List, [], ◌∷◌, Option, Some, None, option_and_then, Result, Ok, Err}
use Rattle.std.specs.FinMap.{get}
use Rattle.fluid_json.specs.declared.fault.JsonFault.{JsonFault}
use Rattle.fluid_edits.specs.declared.edit.Edit.{Edit as AnEdit}
use Rattle.fluid_rules.specs.declared.limits.Limits.{Limits}
use Rattle.fluid_steps.specs.declared.steps.Step.{Step}
use Rattle.fluid_steps.specs.declared.steps.Step.TheVariants.{Send, Collect, Close, Scribe, Checkpoint, Restart, Reopen, Sweep, Count, Tasks, Load, Pump, Edit, Beat, Summarize, Show, Roam, Say, Lose, Back, Acked}
use Rattle.fluid_steps.specs.declared.refusal.LineWhy.{LineWhy}
use Rattle.fluid_steps.specs.declared.refusal.LineWhy.TheVariants.{NameInUse, UnknownName, Json}
use Rattle.fluid_voice.specs.declared.refusals.ConnectRefusal.TheVariants.{TooManyDocuments}
use Rattle.fluid_voice.specs.States as states
use Rattle.fluid_transcript.specs.World.{Document, new_document, Container, Roamer, Name, connection, container, roamer, used_up, World, Effect, says}
use Rattle.fluid_transcript.specs.Lines.{turned_away_line}
use Rattle.fluid_transcript.specs.Connections.{voice_of, sent, sent_to, collected, closed}
use Rattle.fluid_transcript.specs.Documents.{scribed, checkpointed, restarted, reopened, swept, counted_up, told_tasks}
use Rattle.fluid_transcript.specs.Containers.{load, load_beyond, pumped, edited, beaten, summarized, showing}
use Rattle.fluid_transcript.specs.Roamers.{roamed, said, lost, came_back, acked}

-- ---- names

abbrev pub container_in : Option Name → Option Container
container_in None = None
container_in (Some (connection voice)) = None
container_in (Some (container k)) = Some k
container_in (Some (roamer k)) = None
container_in (Some used_up) = None

-- the container of a name
abbrev pub container_of : World → List ℕ → Option Container
container_of w p = container_in (get w.names p)

abbrev pub roamer_in : Option Name → Option Roamer
roamer_in None = None
roamer_in (Some (connection voice)) = None
roamer_in (Some (container k)) = None
roamer_in (Some (roamer k)) = Some k
roamer_in (Some used_up) = None

-- the roamer of a name
abbrev pub roamer_of : World → List ℕ → Option Roamer
roamer_of w r = roamer_in (get w.names r)

-- the container of a name, or of its roamer's client
abbrev pub shown_in : Option Name → Option Container
shown_in None = None
shown_in (Some (connection voice)) = None
shown_in (Some (container k)) = Some k
shown_in (Some (roamer k)) = Some k.client
shown_in (Some used_up) = None

abbrev pub shown_of : World → List ℕ → Option Container
shown_of w p = shown_in (get w.names p)

-- a name for a connection, which may be new
abbrev pub refusal_to_send : Option Name → Option LineWhy
refusal_to_send None = None
refusal_to_send (Some (connection voice)) = None
refusal_to_send (Some (container k)) = Some UnknownName
refusal_to_send (Some (roamer k)) = Some UnknownName
refusal_to_send (Some used_up) = Some UnknownName

-- one that is a connection
abbrev pub refusal_as_connection : Option Name → Option LineWhy
refusal_as_connection None = Some UnknownName
refusal_as_connection (Some (connection voice)) = None
refusal_as_connection (Some (container k)) = Some UnknownName
refusal_as_connection (Some (roamer k)) = Some UnknownName
refusal_as_connection (Some used_up) = Some UnknownName

-- one that is a container
abbrev pub refusal_as_container : Option Name → Option LineWhy
refusal_as_container None = Some UnknownName
refusal_as_container (Some (connection voice)) = Some UnknownName
refusal_as_container (Some (container k)) = None
refusal_as_container (Some (roamer k)) = Some UnknownName
refusal_as_container (Some used_up) = Some UnknownName

-- one that is a roamer
abbrev pub refusal_as_roamer : Option Name → Option LineWhy
refusal_as_roamer None = Some UnknownName
refusal_as_roamer (Some (connection voice)) = Some UnknownName
refusal_as_roamer (Some (container k)) = Some UnknownName
refusal_as_roamer (Some (roamer k)) = None
refusal_as_roamer (Some used_up) = Some UnknownName

-- one that is a roamer which is lost, or which isn't
abbrev pub refusal_as_lost : (is_lost : Bool) → Option Name → Option LineWhy
refusal_as_lost is_lost None = Some UnknownName
refusal_as_lost is_lost (Some (connection voice)) = Some UnknownName
refusal_as_lost is_lost (Some (container k)) = Some UnknownName
refusal_as_lost true (Some (roamer k)) = if k.is_lost then None else Some UnknownName
refusal_as_lost false (Some (roamer k)) = if k.is_lost then Some UnknownName else None
refusal_as_lost is_lost (Some used_up) = Some UnknownName

-- one that is a container or a roamer
abbrev pub refusal_to_show : Option Name → Option LineWhy
refusal_to_show None = Some UnknownName
refusal_to_show (Some (connection voice)) = Some UnknownName
refusal_to_show (Some (container k)) = None
refusal_to_show (Some (roamer k)) = None
refusal_to_show (Some used_up) = Some UnknownName

-- one that was never given
abbrev pub refusal_as_new : Option Name → Option LineWhy
refusal_as_new None = None
refusal_as_new (Some name) = Some NameInUse

-- the fault of an edit's JSON is looked at behind its name
abbrev pub refusal_of_edit : Result AnEdit JsonFault → Option LineWhy → Option LineWhy
refusal_of_edit op (Some why) = Some why
refusal_of_edit (Ok edit) None = None
refusal_of_edit (Err fault) None = Some (Json fault)

-- why a step is refused: by what its name stands for, and never by a document
abbrev pub refusal : World → Step → Option LineWhy
refusal w (Send c text) = refusal_to_send (get w.names c)
refusal w (Collect c) = refusal_as_connection (get w.names c)
refusal w (Close c) = refusal_as_connection (get w.names c)
refusal w (Scribe name) = None
refusal w (Checkpoint name) = None
refusal w (Restart name checkpoint) = None
refusal w (Reopen name) = None
refusal w (Sweep name silence) = None
refusal w (Count name) = None
refusal w (Tasks name) = None
refusal w (Load p name pick) = refusal_as_new (get w.names p)
refusal w (Pump p) = refusal_as_container (get w.names p)
refusal w (Edit p op) = refusal_of_edit op (refusal_as_container (get w.names p))
refusal w (Beat p) = refusal_as_container (get w.names p)
refusal w (Summarize p) = refusal_as_container (get w.names p)
refusal w (Show p) = refusal_to_show (get w.names p)
refusal w (Roam r name) = refusal_as_new (get w.names r)
refusal w (Say r op) = refusal_of_edit op (refusal_as_roamer (get w.names r))
refusal w (Lose r) = refusal_as_lost false (get w.names r)
refusal w (Back r) = refusal_as_lost true (get w.names r)
refusal w (Acked r) = refusal_as_roamer (get w.names r)

-- ---- documents

abbrev pub container_document : World → List ℕ → Option (List ℕ)
container_document w p = option_and_then (λ k. Some k.document) (container_of w p)

abbrev pub roamer_document : World → List ℕ → Option (List ℕ)
roamer_document w r = option_and_then (λ k. Some k.client.document) (roamer_of w r)

abbrev pub shown_document : World → List ℕ → Option (List ℕ)
shown_document w p = option_and_then (λ k. Some k.document) (shown_of w p)

-- the document that a step reaches, which is open while the step is done
abbrev pub about : World → Step → Option (List ℕ)
about w (Send c text) = sent_to w c text
about w (Collect c) = states.document_name (voice_of w c)
about w (Close c) = states.document_name (voice_of w c)
about w (Scribe name) = Some name
about w (Checkpoint name) = Some name
about w (Restart name checkpoint) = Some name
about w (Reopen name) = Some name
about w (Sweep name silence) = Some name
about w (Count name) = Some name
about w (Tasks name) = Some name
about w (Load p name pick) = Some name
about w (Pump p) = container_document w p
about w (Edit p op) = container_document w p
about w (Beat p) = container_document w p
about w (Summarize p) = container_document w p
about w (Show p) = shown_document w p
about w (Roam r name) = Some name
about w (Say r op) = roamer_document w r
about w (Lose r) = roamer_document w r
about w (Back r) = roamer_document w r
about w (Acked r) = roamer_document w r

-- ---- what each step does

-- a step of a container, where the name is one's
abbrev pub on_container : World → Option Container → (Container → Effect) → Effect
on_container w None does = says w []
on_container w (Some k) does = does k

-- a step of a roamer, where the name is one's
abbrev pub on_roamer : World → Option Roamer → (Roamer → Effect) → Effect
on_roamer w None does = says w []
on_roamer w (Some k) does = does k

abbrev pub edit_effect : Limits → World → Document → List ℕ → Result AnEdit JsonFault → Container → Effect
edit_effect limits w d p (Ok edit) k = edited limits w d p k edit
edit_effect limits w d p (Err fault) k = says w []

abbrev pub say_effect : Limits → World → Document → List ℕ → Result AnEdit JsonFault → Roamer → Effect
say_effect limits w d r (Ok edit) k = said limits w d r k edit
say_effect limits w d r (Err fault) k = says w []

-- read from the world before it, in which its document is open
abbrev pub effect : Limits → World → Document → Step → Effect
effect limits w d (Send c text) = sent limits w d c text
effect limits w d (Collect c) = collected w d c
effect limits w d (Close c) = closed w c
effect limits w d (Scribe name) = scribed w d name
effect limits w d (Checkpoint name) = checkpointed limits w d name
effect limits w d (Restart name checkpoint) = restarted w d name checkpoint
effect limits w d (Reopen name) = reopened w d name
effect limits w d (Sweep name silence) = swept w d name silence
effect limits w d (Count name) = counted_up w d name
effect limits w d (Tasks name) = told_tasks w d name
effect limits w d (Load p name pick) = load limits w d p name pick
effect limits w d (Pump p) = on_container w (container_of w p) (pumped w d p)
effect limits w d (Edit p op) = on_container w (container_of w p) (edit_effect limits w d p op)
effect limits w d (Beat p) = on_container w (container_of w p) (beaten limits w d p)
effect limits w d (Summarize p) = on_container w (container_of w p) (summarized limits w d p)
effect limits w d (Show p) = on_container w (shown_of w p) (showing w d p)
effect limits w d (Roam r name) = roamed limits w d r name
effect limits w d (Say r op) = on_roamer w (roamer_of w r) (say_effect limits w d r op)
effect limits w d (Lose r) = on_roamer w (roamer_of w r) (lost w r)
effect limits w d (Back r) = on_roamer w (roamer_of w r) (came_back limits w d r)
effect limits w d (Acked r) = on_roamer w (roamer_of w r) (acked w d r)

-- what is done in its place where its document isn't open and as many as may be are. Steps of connections but for a connect, and those
-- of containers, speak to a document that is open
abbrev pub beyond : Limits → World → (name : List ℕ) → Step → Effect
beyond limits w name (Send c text) = sent limits w new_document c text
beyond limits w name (Load p other pick) = load_beyond w p
beyond limits w name (Roam r other) = load_beyond w r
beyond limits w name step = says w (turned_away_line name TooManyDocuments ∷ [])
