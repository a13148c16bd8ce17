-- At most one side step more a call.
use Rattle.std.proofs.Common.{◌≡◌, ℕ, ◌+◌, ◌≤◌, arith, Bool, true, false, cond, List, Option, Some, None, Err, bytes_eq, sym, ap, subst, ◌∙◌}
use Rattle.std.specs.FinMap.{get}
use Rattle.fluid_table.proofs.Places.{get_inserted, get_removed}
use Rattle.fluid_types.specs.declared.entries.Raw.{Raw}
use Rattle.fluid_types.specs.declared.messages.Message.{Message}
use Rattle.fluid_lane.specs.declared.fault.LaneFault.{LaneFault}
use Rattle.fluid_lane.specs.declared.fault.LaneFault.TheVariants as lane
use Rattle.fluid_lane.specs.declared.steps.Step.{Step}
use Rattle.fluid_lane.specs.Steps.{asides, fault_steps, swept_by}
use Rattle.fluid_lane.specs.Standing.{Standing}
use Rattle.fluid_opening.specs.declared.fault.DoorFault.{DoorFault}
use Rattle.fluid_opening.specs.declared.fault.DoorFault.TheVariants as door
use Rattle.fluid_lanes.specs.Opened.{Opened, with_lane}
use Rattle.fluid_lanes.specs.Using.{Uses, OpensNew, Ends}
use Rattle.fluid_desk.specs.Stopping.{AreFew}

same_some : {A : Type 0} (a b : A) → ◌≡◌ {A = Option A} (Some a) (Some b) → a ≡ b
same_some a b same = cc

none_some : {A : Type 0} (a : A) → ◌≡◌ {A = Option A} None (Some a) → ⊥
none_some a same = cc

-- ---- of a call on a lane

pub fault_few : (fault : LaneFault) → asides (fault_steps fault) ≤ 1
fault_few (lane.LogFailed note) = omega arith
fault_few (lane.DeltaFailed note) = omega arith
fault_few lane.NoMemory = omega arith
fault_few lane.Worn = omega arith
fault_few (lane.BadRecord k) = omega arith
fault_few (lane.BadCheckpoint k f) = omega arith
fault_few (lane.Full k) = omega arith
fault_few (lane.NoCheckpoint k m) = omega arith
fault_few lane.CheckpointsFull = omega arith
fault_few lane.TooManyClients = omega arith
fault_few (lane.TooLarge k) = omega arith

pub swept_few : (swept : Option (Raw × Message)) → asides (swept_by swept) ≤ 1
swept_few None = omega arith
swept_few (Some (raw, message)) = omega arith

pub fault_aside : (old new : ℕ) (fault : LaneFault) → new ≡ old + asides (fault_steps fault) → new ≤ old + 1
fault_aside old new fault is = omega (arith, fault_few fault, is)

pub swept_aside : (old new : ℕ) (swept : Option (Raw × Message)) → new ≡ old + asides (swept_by swept) → new ≤ old + 1
swept_aside old new swept is = omega (arith, swept_few swept, is)

-- it adds no more than one
pub one_aside : (old new : Standing) (added : List Step) → asides added ≤ 1 → new.sides ≡ old.sides + asides added → new.sides ≤ old.sides + 1
one_aside old new added le is = omega (arith, le, is)

-- ---- on a desk

pub few_more : (n : ℕ) (o : Opened) → AreFew n o → AreFew (n + 1) o
few_more n o few name there is = omega (arith, few name there is)

module _ (n : ℕ) (o : Opened) (name : List ℕ) (few : AreFew n o) where
  lane_at : (q : List ℕ) (b : Bool) (new there : Standing) → new.sides ≤ n + 1 → cond b (Some new) (get o.lanes q) ≡ Some there → there.sides ≤ n + 1
  lane_at q true new there le is = omega (arith, le, ap (λ (s : Standing). s.sides) (same_some new there is))
  lane_at q false new there le is = omega (arith, few q there is)

  -- behind a call on the lane of an open document
  pub lane_few : (old new : Standing) → get o.lanes name ≡ Some old → new.sides ≤ old.sides + 1 → AreFew (n + 1) (with_lane o name new)
  lane_few old new there le q lane is = lane_at q (bytes_eq q name) new lane (omega (arith, le, few name old there)) (sym (get_inserted o.lanes name new q) ∙ is)

  opened_at : (q : List ℕ) (b : Bool) (new there : Standing) → new.sides ≡ 0 → cond b (Some new) (get o.lanes q) ≡ Some there → there.sides ≤ n
  opened_at q true new there none is = omega (arith, none, ap (λ (s : Standing). s.sides) (same_some new there is))
  opened_at q false new there none is = few q there is

  -- a document is opened at its first use
  pub opened_few : (p : Opened) (moment : ℕ) → OpensNew name moment o p → AreFew n p
  opened_few p moment opens q lane is =
      opened_at q (bytes_eq q name) opens.lane lane opens.opens.starts.fresh.sides (sym (ap (λ lanes. get lanes q) opens.lanes ∙ get_inserted o.lanes name opens.lane q) ∙ is)

  -- or it wasn't
  pub unopened_few : (p : Opened) (moment : ℕ) (fault : DoorFault) → Uses {A = Unit {0}} name moment o p (Err fault) → AreFew n p
  unopened_few p moment (door.TooManyDocuments count) uses = subst (AreFew n) (sym uses.same) few
  unopened_few p moment (door.ShelfFailed note) uses = λ q lane is. few q lane (sym (ap (λ lanes. get lanes q) uses.lanes) ∙ is)
  unopened_few p moment (door.Lane fault) uses = λ q lane is. few q lane (sym (ap (λ lanes. get lanes q) uses.lanes) ∙ is)
  unopened_few p moment door.NoMemory uses = λ q lane is. few q lane (sym (ap (λ lanes. get lanes q) uses.lanes) ∙ is)

  ended_at : (q : List ℕ) (b : Bool) (there : Standing) → cond b None (get o.lanes q) ≡ Some there → there.sides ≤ n
  ended_at q true there is = absurd (none_some there is)
  ended_at q false there is = few q there is

  -- it is closed
  pub end_few : (closed : Opened) (l : Option Standing) → Ends name l o closed → AreFew n closed
  end_few closed None same = subst (AreFew n) (sym same) few
  end_few closed (Some lane) ended = λ q there is. ended_at q (bytes_eq q name) there (sym (ap (λ lanes. get lanes q) ended.lanes ∙ get_removed o.lanes name q) ∙ is)
