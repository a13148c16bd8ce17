-- The words of events.
use Rattle.std.specs.Prelude.{ℕ, List, [], ◌∷◌, codes}
use Rattle.fluid_codec.specs.declared.names.EventName.{EventName}
use Rattle.fluid_codec.specs.declared.names.EventName.TheVariants as heard
use Rattle.fluid_codec.specs.declared.names.Mode.{Mode}
use Rattle.fluid_codec.specs.declared.names.Mode.TheVariants as mode

abbrev pub event_word : EventName → List ℕ
event_word heard.ConnectDocument = codes "connect_document"
event_word heard.SubmitOp = codes "submitOp"
event_word heard.GetDeltas = codes "getDeltas"
event_word heard.GetSummary = codes "getSummary"
event_word heard.GetObject = codes "getObject"
event_word heard.PutObject = codes "putObject"

abbrev pub event_names : List EventName
event_names = heard.ConnectDocument ∷ heard.SubmitOp ∷ heard.GetDeltas ∷ heard.GetSummary ∷ heard.GetObject ∷ heard.PutObject ∷ []

abbrev pub mode_word : Mode → List ℕ
mode_word mode.Read = codes "read"
mode_word mode.Write = codes "write"

abbrev pub modes : List Mode
modes = mode.Read ∷ mode.Write ∷ []

-- the pick that asks for the last summary
abbrev pub latest : List ℕ
latest = codes "latest"
