-- The shelves that come back tell the documents of the world.
use Rattle.std.proofs.Common.{◌≡◌, Bool, Option, Some, None, option_map, unwrap_or, refl, sym, subst}
use Rattle.std.specs.Option.{option_or}
use Rattle.std.specs.FinMap.{FinMap, get}
use Rattle.fluid_table.specs.Table.{byte_order}
use Rattle.fluid_log.specs.Keeping.{Keeping}
use Rattle.fluid_log.specs.Shelving.{fresh}
use Rattle.fluid_rules.specs.declared.limits.Limits.{Limits}
use Rattle.fluid_lane.specs.Standing.{Standing}
use Rattle.fluid_lanes.specs.Closing.{HeldBehind}
use Rattle.fluid_transcript.specs.World.{Document, document, is_open}
use Rattle.fluid_desk.specs.Stands.{IsKeeperOf, IsDocument, ShelvesTell}
use Rattle.fluid_desk.specs.Laws.{DesksComeBack, FaultsAreCounted}
use Rattle.fluid_desk.proofs.Desks.{lane_there, keeper_there}
use Rattle.fluid_desk.proofs.Opening.{keeper_of}
use Rattle.fluid_desk.proofs.Running.{risen_at_last}

came_back : (limits : Limits) (l : Option Standing) (there back : Option Keeping) (x : Bool) (d : Document) → IsDocument limits l (unwrap_or there fresh) x d
    → back ≡ option_or (option_map (λ (lane : Standing). lane.keeping) l) there → IsKeeperOf (unwrap_or back fresh) d
came_back limits (Some lane) there back x d is same =
    subst (λ o. IsKeeperOf (unwrap_or o fresh) d) (sym same) (keeper_of limits lane d (lane_there limits lane (unwrap_or there fresh) x d is).1)
came_back limits None there back x d is same = subst (λ o. IsKeeperOf (unwrap_or o fresh) d) (sym same) (keeper_there limits (unwrap_or there fresh) x d is).1

pub desks_come_back : DesksComeBack
desks_come_back o w s desk closes = by s.held refl (subst (λ h. HeldBehind o.lanes h s.held) desk.told closes.held)
  where
    by : (back : Option (FinMap byte_order Keeping)) → s.held ≡ back → HeldBehind o.lanes (Some desk.held) s.held → ShelvesTell s w
    by None is held = absurd (subst (HeldBehind o.lanes (Some desk.held)) is held)
    by (Some back) is held = record {
      held = back;
      told = is;
      documents = λ name.
          came_back o.limits (get o.lanes name) (get desk.held name) (get back name) (is_open w name) (document w name) (desk.documents name)
          (subst (HeldBehind o.lanes (Some desk.held)) is held name);
    }

pub faults_are_counted : FaultsAreCounted
faults_are_counted before steps o note s stops closes = risen_at_last before steps o s note stops closes
