-- What the step of the scribe owes.
use Rattle.std.specs.Prelude.{◌≡◌, ◌≤◌, ◌+◌, ℕ, ⊤, Bool, List, [], ◌∷◌, ◌++◌, Some, Result, Ok, Err, unwrap_or}
use Rattle.std.specs.Option.{option_map_or}
use Rattle.fluid_json.specs.Tree as json
use Rattle.fluid_json.specs.Tree.{Tree, as_text}
use Rattle.fluid_types.specs.Texts.{name_of}
use Rattle.fluid_types.specs.declared.fault.Field.TheVariants as field
use Rattle.fluid_types.specs.declared.verdicts.Verdict.{Verdict}
use Rattle.fluid_types.specs.declared.verdicts.Verdict.TheVariants.{Sequenced, Dropped}
use Rattle.fluid_types.specs.declared.entries.Raw.TheVariants.{Report}
use Rattle.fluid_types.specs.Ledger.{order}
use Rattle.fluid_rules.specs.Scribe as scribe
use Rattle.fluid_rules.specs.Scribe.{reported}
use Rattle.fluid_rules.specs.declared.answers.Answer.{Answer}
use Rattle.fluid_rules.specs.declared.answers.Answer.TheVariants as answer
use Rattle.fluid_rules.specs.declared.limits.Limits.{Limits}
use Rattle.fluid_store.specs.Storing.{Storing}
use Rattle.fluid_store.specs.Keeping.{IsNoted}
use Rattle.fluid_store.specs.declared.fault.StoreFault.{StoreFault}
use Rattle.fluid_store.specs.declared.fault.StoreFault.TheVariants as store
use Rattle.fluid_lane.specs.Standing.{Standing}
use Rattle.fluid_lanes.specs.Opened.{Opened}
use Rattle.fluid_transcript.specs.World.{Document, Effect, grown, ledger_of, Told}
use Rattle.fluid_transcript.specs.Lines as lines
use Rattle.fluid_desk.specs.declared.stop.Stop.{Stop}
use Rattle.fluid_desk.specs.declared.stop.Stop.TheVariants.{StoreFault as StoreFailed, BadStored, NoMemory}
use Rattle.fluid_desk.specs.declared.stop.StoredFault.TheVariants.{Object}
use Rattle.fluid_desk.specs.Stands.{IsLaneOf, StoreStands}
use Rattle.fluid_desk.specs.Stopping.{IsHonest, steps_on, MayStop, LaneEnds, AreFew, HasRun, EndsFor}
use Rattle.fluid_desk.specs.Acting.{IsLine, Acts, Done}

-- ---- lines

-- a text, and nothing where it is none
abbrev pub text_of : Tree → List ℕ
text_of t = unwrap_or (as_text t) []

-- the member `message` of contents, where it is a text
abbrev pub message_in : Tree → List ℕ
message_in contents = option_map_or text_of (json.find (name_of field.Message) contents) []

-- the verdict on a report is that of this answer: a message of its kind with its contents, or none
abbrev pub IsReplied : (summary : ℕ) → Answer → Verdict → Type 0
IsReplied summary said (Sequenced m) = reported summary said ≡ Some (m.kind, m.contents)
IsReplied summary said Dropped = said ≡ answer.Dropped
IsReplied summary said other = ⊥

-- what is written where the objects of a version weren't put
abbrev pub SaysUnput : (name : List ℕ) → StoreFault → Result (List ℕ) Stop → Type 0
SaysUnput name (store.Clash id kept bytes) result = IsLine (lines.scribe_clash_line name id) result
SaysUnput name (store.StoreFailed note) result = result ≡ Err (StoreFailed note)
SaysUnput name store.NoMemory result = result ≡ Err NoMemory
SaysUnput name other result = result ≡ Err (BadStored (Object other))

-- ---- on a lane

-- the lane stands for the document and the store holds what the world has stored then
pub record ActsWith (limits : Limits) (e : Effect) (d : Document) (new : Standing) (store : Storing) (line : List ℕ) : Type 0 where
  pub acts : Acts limits e d new line
  pub held : store.content ≡ Some e.store

abbrev pub ActDoesWith : Limits → Effect → Document → Standing → Storing → Result (List ℕ) Stop → Type 0
ActDoesWith limits e d new store (Ok line) = ActsWith limits e d new store line
ActDoesWith limits e d new store (Err stop) = IsHonest (steps_on (grown e d) new) stop

-- why it ends the script: the store's count rose, or as for any other call on a lane
abbrev pub EndsWith : (old new : Standing) → (before now : Storing) → Stop → Type 0
EndsWith old new before now (StoreFailed note) = IsNoted before now note
EndsWith old new before now (BadStored (Object fault)) = ⊥
EndsWith old new before now stop = LaneEnds old new stop

abbrev pub EndsWithBy : {A : Type 0} → (old new : Standing) → (before now : Storing) → Result A Stop → Type 0
EndsWithBy old new before now (Ok a) = ⊤
EndsWithBy old new before now (Err stop) = EndsWith old new before now stop

pub record LaneRunsWith {A : Type 0} (old new : Standing) (before now : Storing) (result : Result A Stop) : Type 0 where
  pub later : old.keeping.faults ≤ new.keeping.faults
  pub sides : new.sides ≤ old.sides + 1
  pub counts : before.faults ≤ now.faults
  pub ends : EndsWithBy old new before now result

-- a report was entered on the summarize of this number, and the line of the scribe's answer was written
pub record HasConcluded (limits : Limits) (d : Document) (name : List ℕ) (summary : ℕ) (found : Bool) (moment : ℕ) (new : Standing) (line : List ℕ) : Type 0 where
  pub stands : IsLaneOf limits new (record { raws = d.raws ++ Report summary found moment ∷ []; checkpoints = d.checkpoints ++ [] })
  pub says : line ≡ lines.answer_line name summary (scribe.answer (order (ledger_of d)) summary found)

abbrev pub Concludes : Limits → Document → (name : List ℕ) → (summary : ℕ) → Bool → (moment : ℕ) → Standing → Result (List ℕ) Stop → Type 0
Concludes limits d name summary found moment new (Ok line) = HasConcluded limits d name summary found moment new line
Concludes limits d name summary found moment new (Err stop) = IsHonest (steps_on d new) stop

-- ---- on a desk

pub record DoneWith (told : Told) (o : Opened) (store : Storing) (line : List ℕ) : Type 0 where
  pub done : Done told o line
  pub held : StoreStands store told.world

abbrev pub DeskDoesWith : Told → Opened → Storing → Result (List ℕ) Stop → Type 0
DeskDoesWith told o store (Ok line) = DoneWith told o store line
DeskDoesWith told o store (Err stop) = MayStop told.world o stop

-- why a step that uses the store ends the script
abbrev pub EndsForWith : ℕ → (before now : Storing) → Opened → Stop → Type 0
EndsForWith first before now o (StoreFailed note) = IsNoted before now note
EndsForWith first before now o stop = EndsFor first o stop

pub record StopsForWith (first steps : ℕ) (before : Storing) (o : Opened) (now : Storing) (stop : Stop) : Type 0 where
  pub shelves : first ≤ o.shelving.faults
  pub few : AreFew steps o
  pub ends : EndsForWith first before now o stop

-- the last of so many steps in a run whose shelves had counted so many faults when it began
abbrev pub RunsWith : {A : Type 0} → (first steps : ℕ) → (before : Storing) → Opened → (now : Storing) → Result A Stop → Type 0
RunsWith first steps before o now (Ok a) = HasRun first steps o
RunsWith first steps before o now (Err stop) = StopsForWith first steps before o now stop
