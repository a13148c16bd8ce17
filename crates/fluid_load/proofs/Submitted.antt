-- A workload behind a client's submission.
use Rattle.std.proofs.Common.{◌≡◌, ℕ, arith, true, false, List, All, Option, Some, None, bytes_eq, refl, sym, ap, subst, ◌∙◌}
use Rattle.std.specs.Prelude.{IfSome}
use Rattle.std.specs.List.{list_any}
use Rattle.std.specs.FinMap.{get}
use Rattle.fluid_table.specs.Table.{Values}
use Rattle.fluid_types.specs.declared.entries.Raw.TheVariants.{Submit}
use Rattle.fluid_types.specs.declared.entries.Submission.{Submission}
use Rattle.fluid_rules.specs.declared.limits.Limits.{Limits}
use Rattle.fluid_lanes.specs.Opened.{Opened}
use Rattle.fluid_loader.specs.Laws.{IsBased}
use Rattle.fluid_transcript.specs.World.{Container, Roamer as ARoamer, Name, connection, container, roamer, used_up, World, document, is_open}
use Rattle.fluid_transcript.specs.Sound.{ledger_in, IsSoundName}
use Rattle.fluid_transcript.specs.Connections.{voice_of}
use Rattle.fluid_transcript.proofs.Fitting.{length_ledger}
use Rattle.fluid_desk.specs.Stands.{DeskStands}
use Rattle.fluid_store.specs.Storing.{Storing}
use Rattle.fluid_holding.specs.Holding.{is_made_by, IsContainerOf}
use Rattle.fluid_holding.specs.Laws.{OthersLeave}
use Rattle.fluid_containers.specs.Holders.{IsHolderOf}
use Rattle.fluid_containers.specs.declared.holder.Holder.{Holder}
use Rattle.fluid_roamers.specs.Roaming.{IsRoamerOf}
use Rattle.fluid_roamers.specs.declared.roamer.Roamer.{Roamer}
use Rattle.fluid_world.specs.declared.named.Named.{Named}
use Rattle.fluid_world.specs.declared.named.Named.TheVariants as a
use Rattle.fluid_world.specs.Standing.{IsNamed, WorldStands}
use Rattle.fluid_world.proofs.Behind.{few_of, roamer_beside}
use Rattle.fluid_workload.specs.Working.{named, id_at, behind_entry}
use Rattle.fluid_turns.specs.Leaving.{LeavesAll, SubmissionsLeaveAll}

-- names stand for what they stood for
module _ (w new : World) (left : LeavesAll w new) (others : OthersLeave) (o : Opened) (desk : DeskStands o new) (sound_names : (name : List ℕ) → IfSome (get w.names name) (IsSoundName w)) where
  open_stays : (name : List ℕ) → is_open w name ≡ true → is_open new name ≡ true
  open_stays name is = ap (λ opened. list_any (bytes_eq name) opened) left.opened ∙ is

  holder_stays : (q : List ℕ) (h : Holder) (k : Container) → get w.names q ≡ Some (container k) → IsHolderOf w h k → IsHolderOf new h k
  holder_stays q h k there is =
      let was = subst (λ n. IfSome n (IsSoundName w)) there (sound_names q) in
      let goes = (left.names q).container k there (few_of o new k.document desk (open_stays k.document was.open_is)) in
      record {
        document = is.document;
        container =
            subst (λ l. IsContainerOf l h.client h.container k) (sym goes.is)
            (others (ledger_in w k.document) goes.more h.client h.container k
            (record { entries = omega (arith, was.entries, length_ledger (document w k.document).raws); base = was.base; number = was.number })
            (subst (λ own. All (λ entry. is_made_by own entry.0 ≡ false) goes.more) (sym is.container.client_is) goes.beside) is.container);
        based = subst (λ held. IsBased held h.container) (sym left.store) is.based;
      }

  roamer_stays : (q : List ℕ) (h : Roamer) (k : ARoamer) → get w.names q ≡ Some (roamer k) → IsRoamerOf w h k → IsRoamerOf new h k
  roamer_stays q h k there is =
      let was = (subst (λ n. IfSome n (IsSoundName w)) there (sound_names q)).client in
      roamer_beside others w new h k was ((left.names q).roamer k there (few_of o new k.client.document desk (open_stays k.client.document was.open_is))) is

  name_stays : (q : List ℕ) (n : Option Named) (m : Option Name) → get w.names q ≡ m → IsNamed w n m → IsNamed new n m
  name_stays q None None there is = is
  name_stays q None (Some m) there is = absurd is
  name_stays q (Some (a.Connection v)) None there is = absurd is
  name_stays q (Some (a.Connection v)) (Some (connection s)) there is = is
  name_stays q (Some (a.Connection v)) (Some (container k)) there is = absurd is
  name_stays q (Some (a.Connection v)) (Some (roamer k)) there is = absurd is
  name_stays q (Some (a.Connection v)) (Some used_up) there is = absurd is
  name_stays q (Some (a.Container h)) None there is = absurd is
  name_stays q (Some (a.Container h)) (Some (connection s)) there is = absurd is
  name_stays q (Some (a.Container h)) (Some (container k)) there is = holder_stays q h k there is
  name_stays q (Some (a.Container h)) (Some (roamer k)) there is = absurd is
  name_stays q (Some (a.Container h)) (Some used_up) there is = absurd is
  name_stays q (Some (a.Roamer h)) None there is = absurd is
  name_stays q (Some (a.Roamer h)) (Some (connection s)) there is = absurd is
  name_stays q (Some (a.Roamer h)) (Some (container k)) there is = absurd is
  name_stays q (Some (a.Roamer h)) (Some (roamer k)) there is = roamer_stays q h k there is
  name_stays q (Some (a.Roamer h)) (Some used_up) there is = absurd is
  name_stays q (Some a.Used) None there is = absurd is
  name_stays q (Some a.Used) (Some (connection s)) there is = absurd is
  name_stays q (Some a.Used) (Some (container k)) there is = absurd is
  name_stays q (Some a.Used) (Some (roamer k)) there is = absurd is
  name_stays q (Some a.Used) (Some used_up) there is = is

-- open documents, names and store stand for the world behind a submission
pub submitted_stands : (leave : SubmissionsLeaveAll) (others : OthersLeave) (limits : Limits) (old new : Opened) (store : Storing) (names : Values Named) (w : World) (client : ℕ) (id : List ℕ) (s : Submission)
    → WorldStands old store names w → id_at (voice_of w (named client)) ≡ Some id → DeskStands new (behind_entry limits w client (Submit id s 0)) → WorldStands new store names (behind_entry limits w client (Submit id s 0))
submitted_stands leave others limits old new store names w client id s stands writes desk =
    let left = leave limits w client id s 0 stands.sound writes in
    let now = behind_entry limits w client (Submit id s 0) in
    record {
      desk = desk;
      held = stands.held ∙ ap Some (sym left.store);
      named = λ q.
          subst (IsNamed now (get names q)) (sym (left.names q).name)
          (name_stays w now left others new desk stands.sound.names q (get names q) (get w.names q) refl (stands.named q));
      sound = left.sound;
    }
