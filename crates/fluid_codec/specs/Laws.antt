-- What the answers of the readers mean.
use Rattle.std.specs.Prelude.{◌≡◌, ◌↔◌, ◌≤◌, ℕ, ℤ, pos, negsuc, ◌≤ℤ◌, List, length, IfSome, Ok}
use Rattle.fluid_json.specs.Tree.{Tree, depth, IsCanonical}
use Rattle.fluid_json.specs.Spelled as json
use Rattle.fluid_types.specs.Records.{raw_spelled}
use Rattle.fluid_types.specs.Messages.{message_spelled}
use Rattle.fluid_types.specs.Names.{IsName}
use Rattle.fluid_types.specs.Forms.{largest}
use Rattle.fluid_types.specs.Printed.{raw_printed, message_printed}
use Rattle.fluid_types.specs.Fits.{Fits, longest_record}
use Rattle.fluid_types.specs.Spellings.{SpellsRaw, SpellsMessage}
use Rattle.fluid_types.specs.declared.entries.Submission.{Submission}
use Rattle.fluid_types.specs.declared.entries.Raw.{Raw}
use Rattle.fluid_types.specs.declared.entries.Raw.TheVariants.{Join, Leave, Submit, Report}
use Rattle.fluid_types.specs.declared.messages.Message.{Message}
use Rattle.fluid_codec.specs.declared.events.Event.{Event}
use Rattle.fluid_codec.specs.Events.{event_spelled}
use Rattle.fluid_codec.specs.EventSpellings.{SpellsEvent}

-- a text is answered by a raw entry exactly where it is the JSON of a value that spells the entry
abbrev pub RecordsAreSpelled : Type 0
RecordsAreSpelled = (s : List ℕ) (raw : Raw) → (raw_spelled s ≡ Ok raw) ↔ ((t : Tree) × (json.answer s ≡ Ok t) × SpellsRaw raw t)

-- likewise a message
abbrev pub MessagesAreSpelled : Type 0
MessagesAreSpelled = (s : List ℕ) (m : Message) → (message_spelled s ≡ Ok m) ↔ ((t : Tree) × (json.answer s ≡ Ok t) × SpellsMessage m t)

-- likewise an event
abbrev pub EventsAreSpelled : Type 0
EventsAreSpelled = (s : List ℕ) (e : Event) → (event_spelled s ≡ Ok e) ↔ ((t : Tree) × (json.answer s ≡ Ok t) × SpellsEvent e t)

-- ---- what is printed is read back: records and messages whose names, numbers and nesting are in the grammar

-- a value nested at most this deep
pub record IsNested (most : ℕ) (t : Tree) : Type 0 where
  pub canonical : IsCanonical t
  pub shallow : depth t ≤ most

-- a whole number from -1 to 2^53 - 1
pub record IsReference (n : ℤ) : Type 0 where
  pub least : negsuc 0 ≤ℤ n
  pub most : n ≤ℤ pos largest

-- the contents of a submission stand in its record and in its operation
pub record IsSubmission (s : Submission) : Type 0 where
  pub client_number : s.client_number ≤ largest
  pub reference : IsReference s.reference
  pub contents : IsNested 98 s.contents
  pub metadata : IfSome s.metadata (IsNested 98)

pub record IsJoin (id : List ℕ) (detail : Tree) (moment : ℕ) : Type 0 where
  pub name : IsName id
  pub nested : IsNested 99 detail
  pub bound : moment ≤ largest

pub record IsLeave (id : List ℕ) (moment : ℕ) : Type 0 where
  pub name : IsName id
  pub bound : moment ≤ largest

pub record IsSubmit (id : List ℕ) (submission : Submission) (moment : ℕ) : Type 0 where
  pub name : IsName id
  pub operation : IsSubmission submission
  pub bound : moment ≤ largest

pub record IsReport (summary moment : ℕ) : Type 0 where
  pub least : 1 ≤ summary
  pub most : summary ≤ largest
  pub bound : moment ≤ largest

abbrev pub IsInGrammar : Raw → Type 0
IsInGrammar (Join id scopes detail moment) = IsJoin id detail moment
IsInGrammar (Leave id moment) = IsLeave id moment
IsInGrammar (Submit id submission moment) = IsSubmit id submission moment
IsInGrammar (Report summary found moment) = IsReport summary moment

-- an entry in the grammar is read back from its record as itself
abbrev pub RecordsAreReadBack : Type 0
RecordsAreReadBack = (raw : Raw) → IsInGrammar raw → raw_spelled (raw_printed raw) ≡ Ok raw

-- so it fits a log where its record isn't too long
abbrev pub ShortRecordsFit : Type 0
ShortRecordsFit = (raw : Raw) → IsInGrammar raw → length (raw_printed raw) ≤ longest_record → Fits raw

pub record IsMessage (m : Message) : Type 0 where
  pub client : IfSome m.client IsName
  pub client_number : IsReference m.client_number
  pub reference : IsReference m.reference
  pub number : m.number ≤ largest
  pub minimum : m.minimum ≤ largest
  pub moment : m.moment ≤ largest
  pub contents : IsNested 99 m.contents
  pub metadata : IfSome m.metadata (IsNested 99)

-- a message in the grammar is read back from its text as itself
abbrev pub MessagesAreReadBack : Type 0
MessagesAreReadBack = (m : Message) → IsMessage m → message_spelled (message_printed m) ≡ Ok m
