-- What a client submits, by what it is to say.
use Rattle.std.specs.Prelude.{◌≡◌, ◌≤◌, ◌-◌, ℕ, ⊤, List, length, Option, Some, None, if◌then◌else◌, bytes_eq}
use Rattle.fluid_types.specs.Fits.{Fits}
use Rattle.fluid_types.specs.Names.{IsName}
use Rattle.fluid_types.specs.declared.entries.Raw.TheVariants.{Submit}
use Rattle.fluid_types.specs.declared.entries.Submission.{Submission}
use Rattle.fluid_voice.specs.declared.states.VoiceState.{VoiceState}
use Rattle.fluid_voice.specs.declared.states.VoiceState.TheVariants.{Fresh, Reading, Writing, Used}
use Rattle.fluid_json.specs.Printed.{printed}
use Rattle.fluid_codec.specs.Laws.{IsNested}
use Rattle.fluid_edits.specs.declared.edit.Edit.{Edit}
use Rattle.fluid_edits.specs.Forms.{contents_of}
use Rattle.fluid_loader.specs.Fitting.{most_contents}
use Rattle.fluid_transcript.specs.World.{World}
use Rattle.fluid_transcript.specs.Connections.{voice_of}
use Rattle.fluid_workload.specs.Working.{Workload, named, id_at, last_collected, first_noop, last_again, op, op_behind_gap}
use Rattle.fluid_turns.specs.declared.saying.Saying.{Saying}
use Rattle.fluid_turns.specs.declared.saying.Saying.TheVariants as say
use Rattle.fluid_turns.specs.declared.writer.Writer.{Writer}

-- a log takes it from any client, at the moment 0
abbrev pub FitsAll : Submission → Type 0
FitsAll s = (id : List ℕ) → IsName id → Fits (Submit id s 0)

-- the contents of its op aren't nested too deep, and aren't too long, for a record
pub record IsShort (edit : Edit) : Type 0 where
  pub nested : IsNested 98 (contents_of edit)
  pub short : length (printed (contents_of edit)) ≤ most_contents

abbrev pub IsShortSaying : Saying → Type 0
IsShortSaying (say.Op edit) = IsShort edit
IsShortSaying saying = ⊤

-- what a client has to submit then
abbrev pub has_for : Saying → Workload → (client : ℕ) → (id : List ℕ) → Option Submission
has_for say.Noop w client id = first_noop w client id
has_for say.Again w client id = last_again w client id
has_for say.Gap w client id = op_behind_gap w client id
has_for (say.Op edit) w client id = op edit w client id

-- the writer of a name, by where its connection stands
abbrev pub writer_for : (name document : List ℕ) → VoiceState → Option Writer
writer_for name document Fresh = None
writer_for name document (Reading own next) = None
writer_for name document (Writing own id next) = if bytes_eq own document then Some (record { name = name; id = id; collected = next - 1 }) else None
writer_for name document Used = None

-- the client writes to the document so, or doesn't
pub record Writes (w : World) (client : ℕ) (writer : Writer) : Type 0 where
  pub name : writer.name ≡ named client
  pub id : id_at (voice_of w (named client)) ≡ Some writer.id
  pub collected : writer.collected ≡ last_collected w client

abbrev pub IsWriter : World → (client : ℕ) → Option Writer → Type 0
IsWriter w client None = id_at (voice_of w (named client)) ≡ None
IsWriter w client (Some writer) = Writes w client writer
