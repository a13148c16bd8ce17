-- The document that the acts of a text reach, and acts that reach none that is open.
use Rattle.std.specs.Prelude.{◌≡◌, ℕ, ⊤, true, false, List, Option, slice_get}
use Rattle.std.specs.List.{filter_map}
use Rattle.std.specs.Option.{option_or}
use Rattle.fluid_voice.specs.declared.states.VoiceState.{VoiceState}
use Rattle.fluid_voice.specs.declared.actions.Act.{Act}
use Rattle.fluid_voice.specs.declared.actions.Act.TheVariants as act
use Rattle.fluid_voice.specs.declared.ends.ActEnd.{ActEnd}
use Rattle.fluid_voice.specs.declared.ends.ActEnd.TheVariants.{Said, Given}
use Rattle.fluid_voice.specs.declared.refusals.ConnectRefusal.TheVariants.{TooManyDocuments}
use Rattle.fluid_voice.specs.Refusals.{refused}
use Rattle.fluid_voice.specs.States.{document_name}
use Rattle.fluid_voice.specs.Ends.{is_beyond}
use Rattle.fluid_transcript.specs.Connections.{connects}

-- the document that the first connect among acts is for
abbrev pub connected_to : List Act → Option (List ℕ)
connected_to acts = slice_get (filter_map connects acts) 0

-- or else that of the connection
abbrev pub reached : List Act → VoiceState → Option (List ℕ)
reached acts voice = option_or (connected_to acts) (document_name voice)

-- a document that is connected to isn't one too many
abbrev pub IsWithin : (opened : List (List ℕ)) → Act → Type 0
IsWithin opened (act.Connect name write scopes detail moment) = is_beyond opened name ≡ false
IsWithin opened act = ⊤

-- something is said, or a document is connected to that is one too many
abbrev pub IsNowhere : (opened : List (List ℕ)) → Act → Type 0
IsNowhere opened (act.Say reply) = ⊤
IsNowhere opened (act.Connect name write scopes detail moment) = is_beyond opened name ≡ true
IsNowhere opened act = ⊥

-- how an act ends there
abbrev pub end_nowhere : Act → ActEnd
end_nowhere (act.Connect name write scopes detail moment) = Given (refused TooManyDocuments)
end_nowhere act = Said
