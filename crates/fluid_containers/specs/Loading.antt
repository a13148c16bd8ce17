-- What a load owes on the lane of its document.
use Rattle.std.specs.Prelude.{◌≡◌, ℕ, List, Some, Result, Ok, Err}
use Rattle.fluid_types.specs.Ledger.{Ledger}
use Rattle.fluid_rules.specs.declared.limits.Limits.{Limits}
use Rattle.fluid_runtime.specs.Shown.{shown}
use Rattle.fluid_store.specs.Held.{Held}
use Rattle.fluid_store.specs.Storing.{Storing}
use Rattle.fluid_lane.specs.Standing.{Standing}
use Rattle.fluid_loader.specs.declared.link.Pick.{Pick}
use Rattle.fluid_transcript.specs.World.{World, Document, ledger_of}
use Rattle.fluid_transcript.specs.Lines.{turned_away_line, no_summary_line, bad_summary_line, shown_line}
use Rattle.fluid_transcript.specs.Containers as steps
use Rattle.fluid_transcript.specs.Containers.{Loading, turned_away, no_summary, bad_summary, loaded, visible}
use Rattle.fluid_desk.specs.declared.stop.Stop.{Stop}
use Rattle.fluid_desk.specs.declared.stop.Stop.TheVariants.{NoMemory}
use Rattle.fluid_desk.specs.Stands.{IsLaneOf}
use Rattle.fluid_voice.specs.declared.refusals.ConnectRefusal.TheVariants.{TooManyDocuments}
use Rattle.fluid_desk.specs.Stopping.{IsHonest, steps_on}
use Rattle.fluid_containers.specs.Holders.{IsHolderIn}
use Rattle.fluid_containers.specs.Joining.{joined_to}
use Rattle.fluid_containers.specs.declared.loading.Loaded.{Loaded}
use Rattle.fluid_containers.specs.declared.loading.Loaded.TheVariants.{Held as Kept, TurnedAway, NoSummary, BadSummary}

-- what became of a load is what the world says
abbrev pub Becomes : Ledger → Held → Loading → Loaded → Type 0
Becomes l held (turned_away refusal) (TurnedAway told) = told ≡ refusal
Becomes l held (turned_away refusal) other = ⊥
Becomes l held no_summary NoSummary = Unit {0}
Becomes l held no_summary other = ⊥
Becomes l held (bad_summary path) (BadSummary told) = told ≡ path
Becomes l held (bad_summary path) other = ⊥
Becomes l held (loaded k) (Kept h) = IsHolderIn l held h k
Becomes l held (loaded k) other = ⊥

-- nobody joined, since as many documents are open as may be
abbrev pub IsTurnedAway : (p : List ℕ) → Result (List ℕ × Loaded) Stop → Type 0
IsTurnedAway p (Ok made) = (made.0 ≡ turned_away_line p TooManyDocuments) × (made.1 ≡ TurnedAway TooManyDocuments)
IsTurnedAway p (Err stop) = stop ≡ NoMemory

pub record LaneLoaded (limits : Limits) (w : World) (d : Document) (name : List ℕ) (pick : Pick) (new : Standing) (store : Storing) (made : Loaded) : Type 0 where
  pub stands : IsLaneOf limits new (joined_to limits w d)
  pub held : store.content ≡ Some w.store
  pub becomes : Becomes (ledger_of (joined_to limits w d)) w.store (steps.loading limits w d name pick) made

abbrev pub LaneLoads : Limits → World → Document → (name : List ℕ) → Pick → Standing → Storing → Result Loaded Stop → Type 0
LaneLoads limits w d name pick new store (Ok made) = LaneLoaded limits w d name pick new store made
LaneLoads limits w d name pick new store (Err stop) = IsHonest (steps_on (joined_to limits w d) new) stop

-- with the line that is written of it
pub record LaneLoadedAs (limits : Limits) (w : World) (d : Document) (p name : List ℕ) (pick : Pick) (new : Standing) (store : Storing) (line : List ℕ) (made : Loaded) : Type 0 where
  pub loaded_is : LaneLoaded limits w d name pick new store made
  pub says : line ≡ steps.load_line p name (steps.loading limits w d name pick)

abbrev pub LaneLoadsAs : Limits → World → Document → (p name : List ℕ) → Pick → Standing → Storing → Result (List ℕ × Loaded) Stop → Type 0
LaneLoadsAs limits w d p name pick new store (Ok made) = LaneLoadedAs limits w d p name pick new store made.0 made.1
LaneLoadsAs limits w d p name pick new store (Err stop) = IsHonest (steps_on (joined_to limits w d) new) stop

-- ---- the last container

-- what is written of a container that is loaded at the end
abbrev pub end_line : Ledger → (name : List ℕ) → Loading → List ℕ
end_line l name (turned_away refusal) = turned_away_line name refusal
end_line l name no_summary = no_summary_line name
end_line l name (bad_summary path) = bad_summary_line name path
end_line l name (loaded k) = shown_line name k.number (shown (visible l k))

pub record LaneEnded (limits : Limits) (w : World) (d : Document) (name : List ℕ) (pick : Pick) (new : Standing) (store : Storing) (line : List ℕ) : Type 0 where
  pub stands : IsLaneOf limits new (joined_to limits w d)
  pub held : store.content ≡ Some w.store
  pub says : line ≡ end_line (ledger_of (joined_to limits w d)) name (steps.loading limits w d name pick)

abbrev pub LaneEndsIn : Limits → World → Document → (name : List ℕ) → Pick → Standing → Storing → Result (List ℕ) Stop → Type 0
LaneEndsIn limits w d name pick new store (Ok line) = LaneEnded limits w d name pick new store line
LaneEndsIn limits w d name pick new store (Err stop) = IsHonest (steps_on (joined_to limits w d) new) stop
