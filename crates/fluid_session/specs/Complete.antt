-- When a session ends as its wire does.
use Rattle.std.specs.Prelude.{◌≡◌, ◌⊎◌, ⊤, ℕ, ◌<◌, ◌≤◌, List, [], ◌∷◌, length, All, Some}
use Rattle.fluid_io.specs.Causes.{Rose}
use Rattle.fluid_io.specs.declared.lines.TheConstants.{LONGEST_TEXT}
use Rattle.fluid_store.specs.Storing.{Storing}
use Rattle.fluid_store.specs.declared.fault.StoreFault.TheVariants as store
use Rattle.fluid_deltas.specs.declared.fault.DeltaFault.TheVariants as delta
use Rattle.fluid_lane.specs.declared.fault.LaneFault.TheVariants as lane
use Rattle.fluid_lines.specs.Wires.{Wiring}
use Rattle.fluid_opening.specs.declared.fault.DoorFault.TheVariants as door
use Rattle.fluid_opening.specs.declared.shelf.ShelfStep.{ShelfStep}
use Rattle.fluid_opening.specs.declared.shelf.ShelfStep.TheVariants.{Failed}
use Rattle.fluid_ends.specs.declared.fault.TalkFault.TheVariants.{Door, Lane, Delta, Store}
use Rattle.fluid_talk.specs.Talking.{Talking}
use Rattle.fluid_session.specs.declared.report.SessionEnd.{SessionEnd}
use Rattle.fluid_session.specs.declared.report.SessionEnd.TheVariants.{Closed, Other, NoMemory}
use Rattle.fluid_session.specs.declared.report.Report.{Report}
use Rattle.fluid_session.specs.Ends.{most_unread}
use Rattle.fluid_session.specs.Outcome.{HasNote}
use Rattle.fluid_session.specs.Whole.{Serves}

-- an opening that failed is noted among the steps
abbrev pub HasRefusal : List ShelfStep → Type 0
HasRefusal [] = ⊥
HasRefusal (Failed name fault ∷ steps) = ⊤
HasRefusal (step ∷ steps) = HasRefusal steps

-- the end carries that other bytes are held under an object's id, that a document or the shelf is worn, or that a message doesn't decode
abbrev pub IsCarried : SessionEnd → Type 0
IsCarried (Other (Store (store.Clash id kept new))) = ⊤
IsCarried (Other (Lane lane.Worn)) = ⊤
IsCarried (Other (Delta delta.Worn)) = ⊤
IsCarried (Other (Delta (delta.BadDelta number))) = ⊤
IsCarried (Other (Door (door.Lane lane.Worn))) = ⊤
IsCarried end = ⊥

-- the wire's texts end and none is too long, fewer texts than may be are unread, nothing outside failed, and nothing of this is carried
pub record NothingFailed (u : Talking) (before now : Storing) (old new : Wiring) (report : Report) : Type 0 where
  pub texts : List (List ℕ)
  pub told : old.texts ≡ Some texts
  pub short : All (λ text. length text ≤ LONGEST_TEXT) texts
  pub few : report.unread < most_unread
  pub wire : Rose old.faults new.faults → ⊥
  pub objects : Rose before.faults now.faults → ⊥
  pub pass : HasNote u.pass.mine → ⊥
  pub key : HasRefusal u.key.mine → ⊥
  pub carried : IsCarried report.end → ⊥

-- the session ends as its wire does, or memory was wanting
abbrev pub EndsWithItsWire : Type 0
EndsWithItsWire =
    (s u : Talking) (before now : Storing) (old new : Wiring) (report : Report) → Serves s u before now old new report → NothingFailed u before now old new report
    → (report.end ≡ Closed) ⊎ (report.end ≡ NoMemory)
