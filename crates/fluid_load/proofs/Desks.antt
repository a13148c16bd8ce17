-- What a desk tells before a workload and behind it, and why one ends whose desk comes back.
use Rattle.std.proofs.Common.{◌≡◌, arith, ℕ, Bool, true, false, Option, Some, None, is_some, refl, sym, ap, subst, ◌∙◌}
use Rattle.std.specs.Prelude.{IfSome}
use Rattle.std.specs.FinMap.{FinMap, get, empty, get-empty, len-empty}
use Rattle.fluid_table.specs.Table.{byte_order}
use Rattle.fluid_log.specs.Shelving.{Shelving, keeper_under}
use Rattle.fluid_store.specs.Held.{Held, IsShort}
use Rattle.fluid_store.specs.Storing.{Storing}
use Rattle.fluid_lane.specs.Standing.{Standing}
use Rattle.fluid_lanes.specs.Opened.{Opened, nothing_open}
use Rattle.fluid_lanes.specs.Closing.{Closes}
use Rattle.fluid_rules.specs.declared.limits.Limits.{Limits}
use Rattle.fluid_transcript.specs.World.{Document, World, first_world, document}
use Rattle.fluid_transcript.specs.Laws.{FirstIsSound}
use Rattle.fluid_desk.specs.declared.stop.Stop.{Stop}
use Rattle.fluid_desk.specs.declared.stop.Stop.TheVariants.{KeeperFault, StoreFault, BadStored, NoMemory}
use Rattle.fluid_desk.specs.Laws.{DesksComeBack, FaultsAreCounted}
use Rattle.fluid_desk.specs.Stands.{IsDocument, DeskStands, ShelvesTell, StoreStands}
use Rattle.fluid_holding.specs.Holding.{HoldsOwn}
use Rattle.fluid_door_link.specs.Hushing.{hushed, IsHushed, IsShortAsTold}
use Rattle.fluid_containers.specs.Ending.{StopsForLinking}
use Rattle.fluid_world.specs.Standing.{IsNamed, WorldStands}
use Rattle.fluid_world.specs.Ending.{end_for, Outside, IsQuiet, HasCause, IsDeskOf, ComesBackAs}

-- ---- before a workload

-- shelves on which no keeper is out stand for a world in which no document is open
desk_at_first : (shelves : Shelving) (limits : Limits) (documents : FinMap byte_order Document) (store : Held) → ShelvesTell shelves (first_world documents store)
    → DeskStands (nothing_open shelves limits) (first_world documents store)
desk_at_first shelves limits documents store tell = record {
  held = tell.held;
  told = tell.told;
  documents = λ name. subst (λ lane. IsDocument limits lane (keeper_under tell.held name) false (document (first_world documents store) name)) (sym (get-empty byte_order name)) (tell.documents name);
  count = len-empty byte_order Standing;
  few = omega (arith, len-empty byte_order Standing);
}

pub world_at_first : (shelves : Shelving) (limits : Limits) (objects : Storing) (w : World) → FirstIsSound → IsDeskOf shelves objects w → WorldStands (nothing_open shelves limits) objects empty w
world_at_first shelves limits objects w first is =
    subst (WorldStands (nothing_open shelves limits) objects empty) (sym is.first) (record {
      desk = desk_at_first shelves limits w.documents w.store (subst (ShelvesTell shelves) is.first is.told);
      held = is.held;
      named = λ q.
          subst (λ n. IsNamed (first_world w.documents w.store) n (get (first_world w.documents w.store).names q)) (sym (get-empty byte_order q))
          (subst (IsNamed (first_world w.documents w.store) None) (sym (get-empty byte_order q)) tt);
      sound = first w.documents w.store;
    })

pub moment_at_first : (shelves : Shelving) (objects : Storing) (w : World) → IsDeskOf shelves objects w → w.moment ≡ 0
moment_at_first shelves objects w is = ap (λ (v : World). v.moment) is.first

pub short_at_first : (objects : Storing) (told : Option World) (shelves : Shelving) → IfSome told (IsDeskOf shelves objects) → is_some told ≡ true → IsShortAsTold objects
short_at_first objects None shelves is some = absurd (cc)
short_at_first objects (Some w) shelves is some = λ held told. subst IsShort (by held is.held told) is.short
  where
    by : (held : Held) → objects.content ≡ Some w.store → objects.content ≡ Some held → w.store ≡ held
    by held one other = let both : ◌≡◌ {A = Option Held} (Some w.store) (Some held) = sym one ∙ other in cc

-- ---- behind it

same_hushed : (store told : Storing) (held : Held) → IsHushed store told → told.content ≡ Some held → told ≡ store
same_hushed store told held is there = by is.may is.is
  where
    by : (may : Bool) → told ≡ hushed may store → told ≡ store
    by true same = same
    by false same = let none : ◌≡◌ {A = Option Held} (Some held) None = sym there ∙ ap (λ s. s.content) same in absurd (cc)

tells_first : (s : Shelving) (w : World) → ShelvesTell s w → ShelvesTell s (first_world w.documents w.store)
tells_first s w h = record { held = h.held; told = h.told; documents = h.documents }

pub comes_back : DesksComeBack → (o : Opened) (store : Storing) (w : World) (now : Outside) → Closes o now.shelves → IsHushed now.store store → IsShortAsTold store → DeskStands o w → StoreStands store w → HoldsOwn w.store → ComesBackAs now w
comes_back come o store w now closed hush short desk held owned = record {
  told = tells_first now.shelves w (come o w now.shelves desk closed);
  held = ap (λ k. k.content) (sym (same_hushed now.store store w.store hush held)) ∙ held;
  short = short w.store held;
  owned = owned;
  first = refl;
}

hushed_counts : (store told : Storing) → IsHushed store told → told.faults ≡ store.faults
hushed_counts store told is = by is.may is.is
  where
    by : (may : Bool) → told ≡ hushed may store → told.faults ≡ store.faults
    by true same = ap (λ s. s.faults) same
    by false same = ap (λ s. s.faults) same

-- why a step ended it
pub stop_cause : FaultsAreCounted → (steps : ℕ) (before now : Outside) (good : Bool) (o : Opened) (store : Storing) (stop : Stop) → IsQuiet before now → Closes o now.shelves → IsHushed now.store store
    → StopsForLinking before.shelves.faults steps (hushed good before.store) store o stop → HasCause before now (end_for stop)
stop_cause counted steps before now good o store (KeeperFault note) quiet closed hush h = (quiet, (h.ends.0, counted before.shelves.faults steps o note now.shelves (record { shelves = h.shelves; few = h.few; ends = h.ends }) closed))
stop_cause counted steps before now good o store (StoreFault note) quiet closed hush h = (
  quiet,
  record {
    before = omega (arith, h.ends.before, hushed_counts before.store (hushed good before.store) (record { may = good; is = refl }));
    after = h.ends.after ∙ hushed_counts now.store store hush;
    rose = h.ends.rose;
  },
)
stop_cause counted steps before now good o store (BadStored fault) quiet closed hush h = (quiet, record { opened = o; closed = closed; store = store; hush = hush; since = hushed good before.store; refused = h.ends })
stop_cause counted steps before now good o store NoMemory quiet closed hush h = quiet
