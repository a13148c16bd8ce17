-- What a step owes, on the lane of its document and on a desk.
use Rattle.std.specs.Prelude.{◌≡◌, ℕ, ⊤, Bool, true, false, List, [], ◌∷◌, length, Option, Some, None, Result, Ok, Err, MatchResult}
use Rattle.fluid_types.specs.Ledger.{Ledger, seq}
use Rattle.fluid_types.specs.declared.entries.Raw.{Raw}
use Rattle.fluid_types.specs.declared.entries.Raw.TheVariants.{Leave}
use Rattle.fluid_types.specs.declared.messages.Message.{Message}
use Rattle.fluid_rules.specs.Rules.{minimum}
use Rattle.fluid_rules.specs.declared.limits.Limits.{Limits}
use Rattle.fluid_lane.specs.declared.fault.LaneFault.{LaneFault}
use Rattle.fluid_lane.specs.declared.fault.LaneFault.TheVariants as lane
use Rattle.fluid_lane.specs.Standing.{Standing}
use Rattle.fluid_lanes.specs.Opened.{Opened}
use Rattle.fluid_lanes.specs.Using.{Uses, IsOneTooMany}
use Rattle.fluid_voice.specs.Ends.{is_beyond}
use Rattle.fluid_transcript.specs.World.{Document, World, Effect, grown, Told}
use Rattle.fluid_transcript.specs.Transcript.{readied}
use Rattle.fluid_transcript.specs.Lines as lines
use Rattle.fluid_desk.specs.declared.lines.Numbers.{Numbers}
use Rattle.fluid_desk.specs.declared.stop.Stop.{Stop}
use Rattle.fluid_desk.specs.declared.stop.Stop.TheVariants.{NoMemory}
use Rattle.fluid_desk.specs.Stands.{IsLaneOf, DeskStands}
use Rattle.fluid_desk.specs.Stopping.{stop_of, IsHonest, steps_on, MayStop}

-- ---- lines

-- the numbers of a ledger
pub record AreNumbers (n : Numbers) (l : Ledger) : Type 0 where
  pub entries : n.entries ≡ length l
  pub sequence : n.sequence ≡ seq l
  pub least : n.minimum ≡ minimum l

-- this line, or want of memory for it
abbrev pub IsLine : List ℕ → Result (List ℕ) Stop → Type 0
IsLine line result = MatchResult result (λ text. text ≡ line) (λ stop. stop ≡ NoMemory)

-- what is written where no checkpoint was stored, and where a document didn't begin again
abbrev pub SaysUnstored : (name : List ℕ) → LaneFault → Result (List ℕ) Stop → Type 0
SaysUnstored name lane.CheckpointsFull result = IsLine (lines.full_line name) result
SaysUnstored name (lane.TooLarge bytes) result = IsLine (lines.large_line name bytes) result
SaysUnstored name other result = result ≡ Err (stop_of other)

abbrev pub SaysUnrestarted : (name : List ℕ) → LaneFault → Result (List ℕ) Stop → Type 0
SaysUnrestarted name (lane.NoCheckpoint asked stored) result = IsLine (lines.no_checkpoint_line name asked stored) result
SaysUnrestarted name other result = result ≡ Err (stop_of other)

-- a leave, and the client that leaves by it
abbrev pub IsLeave : Raw → Type 0
IsLeave (Leave id moment) = ⊤
IsLeave raw = ⊥

abbrev pub left_id : Raw → List ℕ
left_id (Leave id moment) = id
left_id raw = []

-- the leave that a sweep entered, where it entered one
abbrev pub IsLeft : Option (Raw × Message) → Type 0
IsLeft None = ⊤
IsLeft (Some left) = IsLeave left.0

abbrev pub left_line : (name : List ℕ) → Option (Raw × Message) → List ℕ
left_line name None = lines.nobody_swept_line name
left_line name (Some left) = lines.swept_line name (left_id left.0)

-- ---- on a lane

-- the lane stands for the document with what the step adds to it, and the step writes this one line
pub record Acts (limits : Limits) (e : Effect) (d : Document) (new : Standing) (line : List ℕ) : Type 0 where
  pub stands : IsLaneOf limits new (grown e d)
  pub says : e.lines ≡ line ∷ []

abbrev pub ActDoes : Limits → Effect → Document → Standing → Result (List ℕ) Stop → Type 0
ActDoes limits e d new (Ok line) = Acts limits e d new line
ActDoes limits e d new (Err stop) = IsHonest (steps_on (grown e d) new) stop

-- ---- on a desk

-- the desk stands for the world behind the step, and the step writes this one line
pub record Done (told : Told) (o : Opened) (line : List ℕ) : Type 0 where
  pub stands : DeskStands o told.world
  pub says : told.lines ≡ line ∷ []

abbrev pub DeskDoes : Told → Opened → Result (List ℕ) Stop → Type 0
DeskDoes told o (Ok line) = Done told o line
DeskDoes told o (Err stop) = MayStop told.world o stop

-- a document wasn't opened, though it isn't one too many
pub record IsUnready (w : World) (name : List ℕ) (o : Opened) (stop : Stop) : Type 0 where
  pub within : is_beyond w.opened name ≡ false
  pub may : MayStop (readied w name) o stop

-- a document is open then, or as many as may be are and it isn't one
abbrev pub IsReadied : (name : List ℕ) → (moment : ℕ) → Opened → Opened → Bool → Type 0
IsReadied name moment old new true = Uses {A = Unit {0}} name moment old new (Ok tt)
IsReadied name moment old new false = (count : ℕ) × IsOneTooMany name old new count
