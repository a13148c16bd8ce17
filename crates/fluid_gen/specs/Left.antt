-- The acts that a workload has left, by what it keeps.
use Rattle.std.specs.Prelude.{◌≡◌, ℕ, suc, ◌+◌, ◌-◌, ◌<◌, ◌≤◌, List, [], ◌∷◌, ◌++◌, Option, Some, None}
use Rattle.fluid_gen.specs.Acts.{Choice, joins, turns, rounds}
use Rattle.fluid_gen.specs.Drawing.{next_state, state_after}
use Rattle.fluid_gen.specs.declared.act.Act.{Act}
use Rattle.fluid_gen.specs.declared.act.Act.TheVariants.{Begin, Join, Collect, Noop, Round, Finish}
use Rattle.fluid_gen.specs.declared.workload.Chosen.{Chosen}
use Rattle.fluid_gen.specs.declared.workload.Stage.{Stage}
use Rattle.fluid_gen.specs.declared.workload.Stage.TheVariants as stage

-- the turns behind this one, and the end
abbrev pub behind_turn : (clients ops turn x : ℕ) → List Act
behind_turn clients ops turn x = turns clients (turn + 1) (ops - turn) x ++ Finish ∷ []

-- the clients from this one on, all turns, and the end
abbrev pub from_client : (clients ops client x : ℕ) → List Act
from_client clients ops client x = joins client (clients - client) ++ behind_turn clients ops 0 x

-- what is left where this stage comes next
abbrev pub left : (clients ops x : ℕ) → Stage → List Act
left clients ops x stage.Begin = Begin ∷ from_client clients ops 0 x
left clients ops x (stage.Join client) = from_client clients ops client x
left clients ops x (stage.FirstCollect client) = Collect client ∷ Noop client ∷ from_client clients ops (client + 1) x
left clients ops x (stage.Noop client) = Noop client ∷ from_client clients ops (client + 1) x
left clients ops x (stage.Turn turn) = turns clients turn (ops + 1 - turn) x ++ Finish ∷ []
left clients ops x (stage.Collect client turn) = Collect client ∷ (rounds turn ++ behind_turn clients ops turn x)
left clients ops x (stage.Round turn) = Round ∷ behind_turn clients ops turn x
left clients ops x stage.Finish = Finish ∷ []
left clients ops x stage.End = []

-- a stage that a workload of so many clients and ops can reach
abbrev pub IsReachable : (clients ops : ℕ) → Stage → Type 0
IsReachable clients ops stage.Begin = Unit {0}
IsReachable clients ops (stage.Join client) = client < clients
IsReachable clients ops (stage.FirstCollect client) = client < clients
IsReachable clients ops (stage.Noop client) = client < clients
IsReachable clients ops (stage.Turn turn) = (0 < turn) × (turn ≤ ops)
IsReachable clients ops (stage.Collect client turn) = turn ≤ ops
IsReachable clients ops (stage.Round turn) = turn ≤ ops
IsReachable clients ops stage.Finish = Unit {0}
IsReachable clients ops stage.End = Unit {0}

-- a workload that can go on from this stage
pub record CanGo (clients ops : ℕ) (at : Stage) : Type 0 where
  pub clients_join : 0 < clients
  pub ops_come : 0 < ops
  pub reached : IsReachable clients ops at

-- ---- a step

-- these acts are left where this stage comes next, and it can be reached
abbrev pub IsNextStage : (clients ops x : ℕ) → List Act → Stage → Type 0
IsNextStage clients ops x acts next = (left clients ops x next ≡ acts) × IsReachable clients ops next

-- a stage with the state x gives this act and goes on with the state y, or is the end
abbrev pub Goes : (clients ops : ℕ) → Stage → (x y : ℕ) → Option (Act × Stage) → Type 0
Goes clients ops at x y None = (left clients ops x at ≡ []) × (y ≡ x)
Goes clients ops at x y (Some step) = (left clients ops x at ≡ step.0 ∷ left clients ops y step.1) × IsReachable clients ops step.1

-- the same of a turn
abbrev pub IsTurn : (clients ops turn x y : ℕ) → Act × Stage → Type 0
IsTurn clients ops turn x y step =
    (turns clients turn (ops + 1 - turn) x ++ Finish ∷ [] ≡ step.0 ∷ left clients ops y step.1) × IsReachable clients ops step.1

-- the client and the act are those of a choice from the state x, and its draws left the state y
abbrev pub IsChosen : Choice → (x y : ℕ) → Chosen → Type 0
IsChosen c x y chosen = (chosen.client ≡ c.client) × (chosen.act ≡ c.act) × (y ≡ state_after c.draws x)

-- the same of an act alone
abbrev pub IsEdit : Choice → (x y : ℕ) → Act → Type 0
IsEdit c x y act = (act ≡ c.act) × (y ≡ state_after c.draws x)
