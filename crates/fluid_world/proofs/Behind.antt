-- Names stand for what they stand for in the world behind a step.
use Rattle.std.proofs.Common.{◌≡◌, ℕ, ◌≤◌, ◌^◌, arith, Bool, true, false, not, if◌then◌else◌, List, [], length, All, Option, Some, None, is_some, bytes_eq, refl, sym, ap, subst}
use Rattle.std.specs.Prelude.{IfSome}
use Rattle.std.specs.FinMap.{get}
use Rattle.std.proofs.lemmas.Slice.Eq.{bytes_eq-Decides}
use Rattle.fluid_table.specs.Table.{Values}
use Rattle.fluid_log.specs.Keeping.{Keeping}
use Rattle.fluid_log.specs.Shelving.{keeper_under}
use Rattle.fluid_rules.specs.declared.limits.Limits.{Limits}
use Rattle.fluid_lane.specs.Standing.{Standing}
use Rattle.fluid_lanes.specs.Opened.{Opened}
use Rattle.fluid_loader.specs.Laws.{StayBased}
use Rattle.fluid_steps.specs.declared.steps.Step.{Step}
use Rattle.fluid_steps.specs.declared.steps.Step.TheVariants.{Send, Collect, Close, Scribe, Checkpoint, Restart, Reopen, Sweep, Count, Tasks, Load, Pump, Edit, Beat, Summarize, Show, Roam, Say, Lose, Back, Acked}
use Rattle.fluid_steps.specs.declared.refusal.LineWhy.TheVariants.{UnknownName}
use Rattle.fluid_rules.proofs.Legal.{ledger-legal}
use Rattle.fluid_rules.specs.Rules.{IsLegal}
use Rattle.fluid_transcript.specs.World.{Document, Container, Roamer as ARoamer, Name, connection, container, roamer, used_up, World, document, is_open}
use Rattle.fluid_transcript.specs.Containers.{id_of}
use Rattle.fluid_transcript.specs.Sound.{ledger_in, IsSoundContainer, IsSoundName, IsSound}
use Rattle.fluid_transcript.specs.Steps.{refusal_to_send, refusal_as_connection, refusal_as_container, refusal_as_roamer, refusal_as_lost, refusal_to_show, refusal_as_new, refusal_of_edit, refusal}
use Rattle.fluid_transcript.specs.Transcript.{done}
use Rattle.fluid_transcript.proofs.Fitting.{length_ledger}
use Rattle.fluid_transcript.proofs.Sounds.{open_stays}
use Rattle.fluid_transcript.proofs.Stepping.{done_leaves}
use Rattle.fluid_desk.specs.Stands.{IsDocument, DeskStands}
use Rattle.fluid_desk.proofs.Laned.{is_told}
use Rattle.fluid_holding.specs.Holding.{is_made_by, IsContainerOf}
use Rattle.fluid_holding.specs.Laws.{OthersLeave}
use Rattle.fluid_beside.specs.Beside.{own_name, IsOther, GoesOnBeside, StepsLeaveOthers}
use Rattle.fluid_containers.specs.Holders.{IsHolderOf}
use Rattle.fluid_containers.specs.declared.holder.Holder.{Holder}
use Rattle.fluid_world.specs.declared.named.Named.{Named}
use Rattle.fluid_world.specs.declared.named.Named.TheVariants as a
use Rattle.fluid_roamers.specs.Roaming.{IsRoamerIn, IsRoamerOf}
use Rattle.fluid_roamers.specs.declared.roamer.Roamer.{Roamer}
use Rattle.fluid_roamers.proofs.Roaming.{others_leave}
use Rattle.fluid_roamers.proofs.Saying.{lost_known}
use Rattle.fluid_world.specs.Naming.{sender_refusal, connection_refusal, container_refusal, roamer_refusal, is_lost, lost_refusal, shown_refusal, new_refusal, refusal_by}
use Rattle.fluid_world.specs.Standing.{IsNamed}

-- ---- an open document has as many entries as a log may have

few_entries : (limits : Limits) (lane : Option Standing) (k : Keeping) (x : Bool) (d : Document) → x ≡ true → IsDocument limits lane k x d → length d.raws ≤ 2 ^ 64
few_entries limits None k true d opened is = absurd is
few_entries limits (Some lane) k true d opened of =
    omega (arith, (is_told limits lane d of).stands.kept.few, ap length of.entries, length_ledger d.raws)
few_entries limits lane k false d opened is = absurd (cc)

pub few_of : (o : Opened) (w : World) (name : List ℕ) → DeskStands o w → is_open w name ≡ true → length (document w name).raws ≤ 2 ^ 64
few_of o w name desk opened = few_entries o.limits (get o.lanes name) (keeper_under desk.held name) (is_open w name) (document w name) opened (desk.documents name)

-- a roamer stays where its document goes on beside its client
pub roamer_beside : (others : OthersLeave) (w new : World) (h : Roamer) (k : ARoamer) → IsSoundContainer w k.client → GoesOnBeside (id_of k.client) (ledger_in w k.client.document) (ledger_in new k.client.document) → IsRoamerOf w h k
    → IsRoamerOf new h k
roamer_beside others w new h k was goes is =
    subst (λ l. IsRoamerIn l h k) (sym goes.is)
    (others_leave others (ledger_in w k.client.document) goes.more h k [] (subst IsLegal goes.is (ledger-legal (document new k.client.document).raws))
    (record { entries = omega (arith, was.entries, length_ledger (document w k.client.document).raws); base = was.base; number = was.number }) goes.beside is)

-- ---- refusals

module _ (w : World) where
  as_sender : (n : Option Named) (m : Option Name) → IsNamed w n m → refusal_to_send m ≡ sender_refusal n
  as_sender None None is = refl
  as_sender None (Some m) is = absurd is
  as_sender (Some (a.Connection v)) None is = absurd is
  as_sender (Some (a.Connection v)) (Some (connection s)) is = refl
  as_sender (Some (a.Connection v)) (Some (container k)) is = absurd is
  as_sender (Some (a.Connection v)) (Some (roamer k)) is = absurd is
  as_sender (Some (a.Connection v)) (Some used_up) is = absurd is
  as_sender (Some (a.Container h)) None is = absurd is
  as_sender (Some (a.Container h)) (Some (connection s)) is = absurd is
  as_sender (Some (a.Container h)) (Some (container k)) is = refl
  as_sender (Some (a.Container h)) (Some (roamer k)) is = absurd is
  as_sender (Some (a.Container h)) (Some used_up) is = absurd is
  as_sender (Some (a.Roamer h)) None is = absurd is
  as_sender (Some (a.Roamer h)) (Some (connection s)) is = absurd is
  as_sender (Some (a.Roamer h)) (Some (container k)) is = absurd is
  as_sender (Some (a.Roamer h)) (Some (roamer k)) is = refl
  as_sender (Some (a.Roamer h)) (Some used_up) is = absurd is
  as_sender (Some a.Used) None is = absurd is
  as_sender (Some a.Used) (Some (connection s)) is = absurd is
  as_sender (Some a.Used) (Some (container k)) is = absurd is
  as_sender (Some a.Used) (Some (roamer k)) is = absurd is
  as_sender (Some a.Used) (Some used_up) is = refl

  as_connection : (n : Option Named) (m : Option Name) → IsNamed w n m → refusal_as_connection m ≡ connection_refusal n
  as_connection None None is = refl
  as_connection None (Some m) is = absurd is
  as_connection (Some (a.Connection v)) None is = absurd is
  as_connection (Some (a.Connection v)) (Some (connection s)) is = refl
  as_connection (Some (a.Connection v)) (Some (container k)) is = absurd is
  as_connection (Some (a.Connection v)) (Some (roamer k)) is = absurd is
  as_connection (Some (a.Connection v)) (Some used_up) is = absurd is
  as_connection (Some (a.Container h)) None is = absurd is
  as_connection (Some (a.Container h)) (Some (connection s)) is = absurd is
  as_connection (Some (a.Container h)) (Some (container k)) is = refl
  as_connection (Some (a.Container h)) (Some (roamer k)) is = absurd is
  as_connection (Some (a.Container h)) (Some used_up) is = absurd is
  as_connection (Some (a.Roamer h)) None is = absurd is
  as_connection (Some (a.Roamer h)) (Some (connection s)) is = absurd is
  as_connection (Some (a.Roamer h)) (Some (container k)) is = absurd is
  as_connection (Some (a.Roamer h)) (Some (roamer k)) is = refl
  as_connection (Some (a.Roamer h)) (Some used_up) is = absurd is
  as_connection (Some a.Used) None is = absurd is
  as_connection (Some a.Used) (Some (connection s)) is = absurd is
  as_connection (Some a.Used) (Some (container k)) is = absurd is
  as_connection (Some a.Used) (Some (roamer k)) is = absurd is
  as_connection (Some a.Used) (Some used_up) is = refl

  as_container : (n : Option Named) (m : Option Name) → IsNamed w n m → refusal_as_container m ≡ container_refusal n
  as_container None None is = refl
  as_container None (Some m) is = absurd is
  as_container (Some (a.Connection v)) None is = absurd is
  as_container (Some (a.Connection v)) (Some (connection s)) is = refl
  as_container (Some (a.Connection v)) (Some (container k)) is = absurd is
  as_container (Some (a.Connection v)) (Some (roamer k)) is = absurd is
  as_container (Some (a.Connection v)) (Some used_up) is = absurd is
  as_container (Some (a.Container h)) None is = absurd is
  as_container (Some (a.Container h)) (Some (connection s)) is = absurd is
  as_container (Some (a.Container h)) (Some (container k)) is = refl
  as_container (Some (a.Container h)) (Some (roamer k)) is = absurd is
  as_container (Some (a.Container h)) (Some used_up) is = absurd is
  as_container (Some (a.Roamer h)) None is = absurd is
  as_container (Some (a.Roamer h)) (Some (connection s)) is = absurd is
  as_container (Some (a.Roamer h)) (Some (container k)) is = absurd is
  as_container (Some (a.Roamer h)) (Some (roamer k)) is = refl
  as_container (Some (a.Roamer h)) (Some used_up) is = absurd is
  as_container (Some a.Used) None is = absurd is
  as_container (Some a.Used) (Some (connection s)) is = absurd is
  as_container (Some a.Used) (Some (container k)) is = absurd is
  as_container (Some a.Used) (Some (roamer k)) is = absurd is
  as_container (Some a.Used) (Some used_up) is = refl

  as_roamer : (n : Option Named) (m : Option Name) → IsNamed w n m → refusal_as_roamer m ≡ roamer_refusal n
  as_roamer None None is = refl
  as_roamer None (Some m) is = absurd is
  as_roamer (Some (a.Connection v)) None is = absurd is
  as_roamer (Some (a.Connection v)) (Some (connection s)) is = refl
  as_roamer (Some (a.Connection v)) (Some (container k)) is = absurd is
  as_roamer (Some (a.Connection v)) (Some (roamer k)) is = absurd is
  as_roamer (Some (a.Connection v)) (Some used_up) is = absurd is
  as_roamer (Some (a.Container h)) None is = absurd is
  as_roamer (Some (a.Container h)) (Some (connection s)) is = absurd is
  as_roamer (Some (a.Container h)) (Some (container k)) is = refl
  as_roamer (Some (a.Container h)) (Some (roamer k)) is = absurd is
  as_roamer (Some (a.Container h)) (Some used_up) is = absurd is
  as_roamer (Some (a.Roamer h)) None is = absurd is
  as_roamer (Some (a.Roamer h)) (Some (connection s)) is = absurd is
  as_roamer (Some (a.Roamer h)) (Some (container k)) is = absurd is
  as_roamer (Some (a.Roamer h)) (Some (roamer k)) is = refl
  as_roamer (Some (a.Roamer h)) (Some used_up) is = absurd is
  as_roamer (Some a.Used) None is = absurd is
  as_roamer (Some a.Used) (Some (connection s)) is = absurd is
  as_roamer (Some a.Used) (Some (container k)) is = absurd is
  as_roamer (Some a.Used) (Some (roamer k)) is = absurd is
  as_roamer (Some a.Used) (Some used_up) is = refl

  to_show : (n : Option Named) (m : Option Name) → IsNamed w n m → refusal_to_show m ≡ shown_refusal n
  to_show None None is = refl
  to_show None (Some m) is = absurd is
  to_show (Some (a.Connection v)) None is = absurd is
  to_show (Some (a.Connection v)) (Some (connection s)) is = refl
  to_show (Some (a.Connection v)) (Some (container k)) is = absurd is
  to_show (Some (a.Connection v)) (Some (roamer k)) is = absurd is
  to_show (Some (a.Connection v)) (Some used_up) is = absurd is
  to_show (Some (a.Container h)) None is = absurd is
  to_show (Some (a.Container h)) (Some (connection s)) is = absurd is
  to_show (Some (a.Container h)) (Some (container k)) is = refl
  to_show (Some (a.Container h)) (Some (roamer k)) is = absurd is
  to_show (Some (a.Container h)) (Some used_up) is = absurd is
  to_show (Some (a.Roamer h)) None is = absurd is
  to_show (Some (a.Roamer h)) (Some (connection s)) is = absurd is
  to_show (Some (a.Roamer h)) (Some (container k)) is = absurd is
  to_show (Some (a.Roamer h)) (Some (roamer k)) is = refl
  to_show (Some (a.Roamer h)) (Some used_up) is = absurd is
  to_show (Some a.Used) None is = absurd is
  to_show (Some a.Used) (Some (connection s)) is = absurd is
  to_show (Some a.Used) (Some (container k)) is = absurd is
  to_show (Some a.Used) (Some (roamer k)) is = absurd is
  to_show (Some a.Used) (Some used_up) is = refl

  -- a roamer that is lost has no client
  pub gone_is : (h : Roamer) (k : ARoamer) → IsRoamerOf w h k → k.is_lost ≡ is_lost h
  gone_is h k is = sym (lost_known (ledger_in w k.client.document) h k [] is (is_lost h) (ap (λ o. not (is_some o)) is.outbox.own))

  as_lost : (n : Option Named) (m : Option Name) → IsNamed w n m → refusal_as_lost true m ≡ lost_refusal true n
  as_lost None None is = refl
  as_lost None (Some m) is = absurd is
  as_lost (Some (a.Connection v)) None is = absurd is
  as_lost (Some (a.Connection v)) (Some (connection s)) is = refl
  as_lost (Some (a.Connection v)) (Some (container k)) is = absurd is
  as_lost (Some (a.Connection v)) (Some (roamer k)) is = absurd is
  as_lost (Some (a.Connection v)) (Some used_up) is = absurd is
  as_lost (Some (a.Container h)) None is = absurd is
  as_lost (Some (a.Container h)) (Some (connection s)) is = absurd is
  as_lost (Some (a.Container h)) (Some (container k)) is = refl
  as_lost (Some (a.Container h)) (Some (roamer k)) is = absurd is
  as_lost (Some (a.Container h)) (Some used_up) is = absurd is
  as_lost (Some (a.Roamer h)) None is = absurd is
  as_lost (Some (a.Roamer h)) (Some (connection s)) is = absurd is
  as_lost (Some (a.Roamer h)) (Some (container k)) is = absurd is
  as_lost (Some (a.Roamer h)) (Some (roamer k)) is = ap (λ (b : Bool). if b then None else Some UnknownName) (gone_is h k is)
  as_lost (Some (a.Roamer h)) (Some used_up) is = absurd is
  as_lost (Some a.Used) None is = absurd is
  as_lost (Some a.Used) (Some (connection s)) is = absurd is
  as_lost (Some a.Used) (Some (container k)) is = absurd is
  as_lost (Some a.Used) (Some (roamer k)) is = absurd is
  as_lost (Some a.Used) (Some used_up) is = refl

  as_going : (n : Option Named) (m : Option Name) → IsNamed w n m → refusal_as_lost false m ≡ lost_refusal false n
  as_going None None is = refl
  as_going None (Some m) is = absurd is
  as_going (Some (a.Connection v)) None is = absurd is
  as_going (Some (a.Connection v)) (Some (connection s)) is = refl
  as_going (Some (a.Connection v)) (Some (container k)) is = absurd is
  as_going (Some (a.Connection v)) (Some (roamer k)) is = absurd is
  as_going (Some (a.Connection v)) (Some used_up) is = absurd is
  as_going (Some (a.Container h)) None is = absurd is
  as_going (Some (a.Container h)) (Some (connection s)) is = absurd is
  as_going (Some (a.Container h)) (Some (container k)) is = refl
  as_going (Some (a.Container h)) (Some (roamer k)) is = absurd is
  as_going (Some (a.Container h)) (Some used_up) is = absurd is
  as_going (Some (a.Roamer h)) None is = absurd is
  as_going (Some (a.Roamer h)) (Some (connection s)) is = absurd is
  as_going (Some (a.Roamer h)) (Some (container k)) is = absurd is
  as_going (Some (a.Roamer h)) (Some (roamer k)) is = ap (λ (b : Bool). if b then Some UnknownName else None) (gone_is h k is)
  as_going (Some (a.Roamer h)) (Some used_up) is = absurd is
  as_going (Some a.Used) None is = absurd is
  as_going (Some a.Used) (Some (connection s)) is = absurd is
  as_going (Some a.Used) (Some (container k)) is = absurd is
  as_going (Some a.Used) (Some (roamer k)) is = absurd is
  as_going (Some a.Used) (Some used_up) is = refl

  as_new : (n : Option Named) (m : Option Name) → IsNamed w n m → refusal_as_new m ≡ new_refusal n
  as_new None None is = refl
  as_new None (Some m) is = absurd is
  as_new (Some (a.Connection v)) None is = absurd is
  as_new (Some (a.Container h)) None is = absurd is
  as_new (Some (a.Roamer h)) None is = absurd is
  as_new (Some a.Used) None is = absurd is
  as_new (Some n) (Some m) is = refl

-- names refuse what the world refuses
pub same_refusal : (names : Values Named) (w : World) → ((q : List ℕ) → IsNamed w (get names q) (get w.names q)) → (step : Step) → refusal w step ≡ refusal_by names step
same_refusal names w named (Send c text) = as_sender w (get names c) (get w.names c) (named c)
same_refusal names w named (Collect c) = as_connection w (get names c) (get w.names c) (named c)
same_refusal names w named (Close c) = as_connection w (get names c) (get w.names c) (named c)
same_refusal names w named (Scribe name) = refl
same_refusal names w named (Checkpoint name) = refl
same_refusal names w named (Restart name checkpoint) = refl
same_refusal names w named (Reopen name) = refl
same_refusal names w named (Sweep name silence) = refl
same_refusal names w named (Count name) = refl
same_refusal names w named (Tasks name) = refl
same_refusal names w named (Load p name pick) = as_new w (get names p) (get w.names p) (named p)
same_refusal names w named (Pump p) = as_container w (get names p) (get w.names p) (named p)
same_refusal names w named (Edit p op) = ap (refusal_of_edit op) (as_container w (get names p) (get w.names p) (named p))
same_refusal names w named (Beat p) = as_container w (get names p) (get w.names p) (named p)
same_refusal names w named (Summarize p) = as_container w (get names p) (get w.names p) (named p)
same_refusal names w named (Show p) = to_show w (get names p) (get w.names p) (named p)
same_refusal names w named (Roam r name) = as_new w (get names r) (get w.names r) (named r)
same_refusal names w named (Say r op) = ap (refusal_of_edit op) (as_roamer w (get names r) (get w.names r) (named r))
same_refusal names w named (Lose r) = as_going w (get names r) (get w.names r) (named r)
same_refusal names w named (Back r) = as_lost w (get names r) (get w.names r) (named r)
same_refusal names w named (Acked r) = as_roamer w (get names r) (get w.names r) (named r)

-- ---- a step

-- the step's own name stands for what it stands for in this world
abbrev pub OwnNamed : World → Values Named → Option (List ℕ) → Type 0
OwnNamed w names None = Unit {0}
OwnNamed w names (Some own) = IsNamed w (get names own) (get w.names own)

-- the other names stay
abbrev pub OthersStay : (old new : Values Named) → Option (List ℕ) → Type 0
OthersStay old new own = (q : List ℕ) → IsOther own q → get new q ≡ get old q

module _ (limits : Limits) (w : World) (step : Step) (sound : IsSound w) (ok : refusal w step ≡ None) (leave : StepsLeaveOthers) (others : OthersLeave) (based : StayBased)
    (o : Opened) (desk : DeskStands o (done limits w step).world) where
  abbrev behind : World
  behind = (done limits w step).world

  pub holder_stays : (q : List ℕ) (h : Holder) (k : Container) → IsOther (own_name step) q → get w.names q ≡ Some (container k) → IsHolderOf w h k → IsHolderOf behind h k
  holder_stays q h k other there is =
      let grows = (done_leaves limits w sound step ok).leaves.grows in
      let was = subst (λ n. IfSome n (IsSoundName w)) there (sound.names q) in
      let goes = (leave limits w step q sound ok other).container k there (few_of o behind k.document desk (open_stays w behind grows k.document was.open_is)) in
      record {
        document = is.document;
        container =
            subst (λ l. IsContainerOf l h.client h.container k) (sym goes.is)
            (others (ledger_in w k.document) goes.more h.client h.container k
            (record { entries = omega (arith, was.entries, length_ledger (document w k.document).raws); base = was.base; number = was.number })
            (subst (λ own. All (λ entry. is_made_by own entry.0 ≡ false) goes.more) (sym is.container.client_is) goes.beside) is.container);
        based = based.store_grows w.store behind.store h.container grows.held is.based;
      }

  pub roamer_stays : (q : List ℕ) (h : Roamer) (k : ARoamer) → IsOther (own_name step) q → get w.names q ≡ Some (roamer k) → IsRoamerOf w h k → IsRoamerOf behind h k
  roamer_stays q h k other there is =
      let grows = (done_leaves limits w sound step ok).leaves.grows in
      let was = (subst (λ n. IfSome n (IsSoundName w)) there (sound.names q)).client in
      roamer_beside others w behind h k was
      ((leave limits w step q sound ok other).roamer k there (few_of o behind k.client.document desk (open_stays w behind grows k.client.document was.open_is))) is

  pub name_stays : (q : List ℕ) → IsOther (own_name step) q → (n : Option Named) (m : Option Name) → get w.names q ≡ m → IsNamed w n m → IsNamed behind n m
  name_stays q other None None there is = is
  name_stays q other None (Some m) there is = absurd is
  name_stays q other (Some (a.Connection v)) None there is = absurd is
  name_stays q other (Some (a.Connection v)) (Some (connection s)) there is = is
  name_stays q other (Some (a.Connection v)) (Some (container k)) there is = absurd is
  name_stays q other (Some (a.Connection v)) (Some (roamer k)) there is = absurd is
  name_stays q other (Some (a.Connection v)) (Some used_up) there is = absurd is
  name_stays q other (Some (a.Container h)) None there is = absurd is
  name_stays q other (Some (a.Container h)) (Some (connection s)) there is = absurd is
  name_stays q other (Some (a.Container h)) (Some (container k)) there is = holder_stays q h k other there is
  name_stays q other (Some (a.Container h)) (Some (roamer k)) there is = absurd is
  name_stays q other (Some (a.Container h)) (Some used_up) there is = absurd is
  name_stays q other (Some (a.Roamer h)) None there is = absurd is
  name_stays q other (Some (a.Roamer h)) (Some (connection s)) there is = absurd is
  name_stays q other (Some (a.Roamer h)) (Some (container k)) there is = absurd is
  name_stays q other (Some (a.Roamer h)) (Some (roamer k)) there is = roamer_stays q h k other there is
  name_stays q other (Some (a.Roamer h)) (Some used_up) there is = absurd is
  name_stays q other (Some a.Used) None there is = absurd is
  name_stays q other (Some a.Used) (Some (connection s)) there is = absurd is
  name_stays q other (Some a.Used) (Some (container k)) there is = absurd is
  name_stays q other (Some a.Used) (Some (roamer k)) there is = absurd is
  name_stays q other (Some a.Used) (Some used_up) there is = is

  other_named : (old new : Values Named) → ((q : List ℕ) → IsNamed w (get old q) (get w.names q)) → (q : List ℕ) → IsOther (own_name step) q → get new q ≡ get old q
      → IsNamed behind (get new q) (get behind.names q)
  other_named old new named q other stays =
      subst (λ n. IsNamed behind n (get behind.names q)) (sym stays)
      (subst (IsNamed behind (get old q)) (sym (leave limits w step q sound ok other).name) (name_stays q other (get old q) (get w.names q) refl (named q)))

  by_own : (own : Option (List ℕ)) → own_name step ≡ own → (old new : Values Named) → ((q : List ℕ) → IsNamed w (get old q) (get w.names q)) → OthersStay old new own → OwnNamed behind new own
      → (q : List ℕ) → IsNamed behind (get new q) (get behind.names q)
  by_own None is old new named stay own_named q = other_named old new named q (subst (λ n. IsOther n q) (sym is) tt) (stay q tt)
  by_own (Some own) is old new named stay own_named q = by (bytes_eq q own) refl
    where
      by : (b : Bool) → bytes_eq q own ≡ b → IsNamed behind (get new q) (get behind.names q)
      by true same = subst (λ n. IsNamed behind (get new n) (get behind.names n)) (sym ((bytes_eq-Decides q own).0 same)) own_named
      by false other = other_named old new named q (subst (λ n. IsOther n q) (sym is) other) (stay q other)

  pub named_behind : (old new : Values Named) → ((q : List ℕ) → IsNamed w (get old q) (get w.names q)) → OthersStay old new (own_name step) → OwnNamed behind new (own_name step)
      → (q : List ℕ) → IsNamed behind (get new q) (get behind.names q)
  named_behind = by_own (own_name step) refl

  pub sound_behind : IsSound behind
  sound_behind = (done_leaves limits w sound step ok).leaves.sound
