-- What is written of a container's call that was answered, where neither lane nor store failed.
use Rattle.std.specs.Prelude.{◌≡◌, ℕ, List, Result, Ok, Err}
use Rattle.fluid_loader.specs.Container.{AContainer}
use Rattle.fluid_loader.specs.declared.fault.LoadFault.{LoadFault}
use Rattle.fluid_loader.specs.declared.fault.LoadFault.TheVariants.{NoSummary, BadSummary, Edit as EditRefused, Refused, Clash}
use Rattle.fluid_transcript.specs.Lines as lines
use Rattle.fluid_desk.specs.declared.stop.Stop.{Stop}
use Rattle.fluid_desk.specs.declared.stop.Stop.TheVariants as stop
use Rattle.fluid_desk.specs.Acting.{IsLine}
use Rattle.fluid_containers.specs.declared.loading.Loaded.{Loaded}
use Rattle.fluid_containers.specs.declared.loading.Loaded.TheVariants.{Held, NoSummary as Without, BadSummary as Bad}

-- memory was wanting
abbrev pub IsWanting : {A : Type 0} → Result A Stop → Type 0
IsWanting result = result ≡ Err stop.NoMemory

abbrev pub SaysPumped : (p : List ℕ) → Result ℕ LoadFault → Result (List ℕ) Stop → Type 0
SaysPumped p (Ok number) result = IsLine (lines.pumped_line p number) result
SaysPumped p (Err fault) result = IsWanting result

abbrev pub SaysEdited : (p : List ℕ) → Result (Unit {0}) LoadFault → Result (List ℕ) Stop → Type 0
SaysEdited p (Ok done) result = IsLine (lines.edited_line p) result
SaysEdited p (Err (EditRefused fault)) result = IsLine (lines.edit_fault_line p fault) result
SaysEdited p (Err (Refused nack)) result = IsLine (lines.refused_line p nack.rule) result
SaysEdited p (Err fault) result = IsWanting result

abbrev pub SaysBeaten : (p : List ℕ) → ℕ → Result (Unit {0}) LoadFault → Result (List ℕ) Stop → Type 0
SaysBeaten p number (Ok done) result = IsLine (lines.beat_line p number) result
SaysBeaten p number (Err (Refused nack)) result = IsLine (lines.refused_line p nack.rule) result
SaysBeaten p number (Err fault) result = IsWanting result

abbrev pub SaysProposed : (p : List ℕ) → ℕ → Result (List ℕ) LoadFault → Result (List ℕ) Stop → Type 0
SaysProposed p number (Ok id) result = IsLine (lines.summarized_line p number) result
SaysProposed p number (Err (Refused nack)) result = IsLine (lines.refused_line p nack.rule) result
SaysProposed p number (Err (Clash id kept bytes)) result = IsLine (lines.clash_line p id) result
SaysProposed p number (Err fault) result = IsWanting result

-- what became of a load: a container with its document and client, or none
abbrev pub IsHeldBy : (document client : List ℕ) → Result AContainer LoadFault → Result Loaded Stop → Type 0
IsHeldBy document client (Ok c) result = result ≡ Ok (Held (record { document = document; client = client; container = c }))
IsHeldBy document client (Err NoSummary) result = result ≡ Ok Without
IsHeldBy document client (Err (BadSummary path)) result = result ≡ Ok (Bad path)
IsHeldBy document client (Err fault) result = IsWanting result
