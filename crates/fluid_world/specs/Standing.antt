-- When the parts of a script stand for a world, and what a step owes.
use Rattle.std.specs.Prelude.{◌≡◌, ℕ, ⊤, List, [], ◌∷◌, Option, Some, None, Result, Ok, Err}
use Rattle.std.specs.FinMap.{get}
use Rattle.fluid_table.specs.Table.{Values}
use Rattle.fluid_store.specs.Storing.{Storing}
use Rattle.fluid_lanes.specs.Opened.{Opened}
use Rattle.fluid_transcript.specs.World.{Name, connection, container, roamer, used_up, World, Told}
use Rattle.fluid_transcript.specs.Transcript.{written}
use Rattle.fluid_transcript.specs.Sound.{IsSound}
use Rattle.fluid_desk.specs.declared.stop.Stop.{Stop}
use Rattle.fluid_desk.specs.declared.stop.Stop.TheVariants.{NoMemory}
use Rattle.fluid_desk.specs.Stands.{DeskStands, StoreStands}
use Rattle.fluid_desk.specs.Stopping.{MayStop}
use Rattle.fluid_containers.specs.Holders.{IsHolderOf}
use Rattle.fluid_roamers.specs.Roaming.{IsRoamerOf}
use Rattle.fluid_world.specs.declared.named.Named.{Named}
use Rattle.fluid_world.specs.declared.named.Named.TheVariants as a

-- what a name stands for is what it stands for in a world
abbrev pub IsNamed : World → Option Named → Option Name → Type 0
IsNamed w None None = ⊤
IsNamed w (Some (a.Connection voice)) (Some (connection state)) = voice ≡ state
IsNamed w (Some (a.Container holder)) (Some (container k)) = IsHolderOf w holder k
IsNamed w (Some (a.Roamer h)) (Some (roamer k)) = IsRoamerOf w h k
IsNamed w (Some a.Used) (Some used_up) = ⊤
IsNamed w named other = ⊥

-- the open documents, the store and the names stand for a sound world
pub record WorldStands (lanes : Opened) (store : Storing) (names : Values Named) (w : World) : Type 0 where
  pub desk : DeskStands lanes w
  pub held : StoreStands store w
  pub named : (q : List ℕ) → IsNamed w (get names q) (get w.names q)
  pub sound : IsSound w

-- they stand for the world behind a step, which writes these bytes
pub record Took (told : Told) (lanes : Opened) (store : Storing) (names : Values Named) (bytes : List ℕ) : Type 0 where
  pub stands : WorldStands lanes store names told.world
  pub says : bytes ≡ written told.lines

abbrev pub StepTakes : Told → Opened → Storing → Values Named → Result (List ℕ) Stop → Type 0
StepTakes told lanes store names (Ok bytes) = Took told lanes store names bytes
StepTakes told lanes store names (Err stop) = MayStop told.world lanes stop

-- the bytes of this one line, or want of memory for them
abbrev pub IsWrittenOf : Result (List ℕ) Stop → Result (List ℕ) Stop → Type 0
IsWrittenOf (Ok line) (Ok bytes) = bytes ≡ written (line ∷ [])
IsWrittenOf (Ok line) (Err stop) = stop ≡ NoMemory
IsWrittenOf (Err stop) (Ok bytes) = ⊥
IsWrittenOf (Err stop) (Err same) = same ≡ stop
