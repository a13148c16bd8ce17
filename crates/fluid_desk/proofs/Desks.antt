-- A desk on which one document changes stands for a world in which that document changes.
use Rattle.std.proofs.Common.{◌≡◌, ℕ, ◌+◌, arith, Bool, true, false, cond, List, length, Option, Some, None, bytes_eq, refl, sym, ap, subst, ◌∙◌}
use Rattle.std.specs.Prelude.{unwrap_or, IsSome}
use Rattle.std.specs.FinMap.{FinMap, get, insert, len, len-insert}
use Rattle.std.proofs.lemmas.Slice.Eq.{bytes_eq-Decides}
use Rattle.fluid_table.specs.Table.{byte_order}
use Rattle.fluid_table.proofs.Places.{byte_order_total, get_inserted}
use Rattle.fluid_log.specs.Keeping.{Keeping}
use Rattle.fluid_log.specs.Shelving.{keeper_under}
use Rattle.fluid_rules.specs.declared.limits.Limits.{Limits}
use Rattle.fluid_lane.specs.Standing.{Standing}
use Rattle.fluid_lanes.specs.Opened.{Opened, with_lane}
use Rattle.fluid_transcript.specs.World.{Document, World, new_document, document, is_open, Effect, grown, changed}
use Rattle.fluid_desk.specs.Stands.{IsLaneOf, IsKeeperOf, IsDocument, DeskStands}

-- ---- one document

pub moved : (limits : Limits) (a b : Option Standing) (k m : Keeping) (x y : Bool) (d e : Document) → a ≡ b → k ≡ m → x ≡ y → d ≡ e → IsDocument limits a k x d → IsDocument limits b m y e
moved limits a b k m x y d e lanes keepers opens documents is =
    subst (IsDocument limits b m y) documents
    (subst (λ o. IsDocument limits b m o d) opens (subst (λ q. IsDocument limits b q x d) keepers (subst (λ l. IsDocument limits l k x d) lanes is)))

-- a document that is open has its lane
pub lane_there : (limits : Limits) (lane : Standing) (k : Keeping) (x : Bool) (d : Document) → IsDocument limits (Some lane) k x d → (x ≡ true) × IsLaneOf limits lane d
lane_there limits lane k true d is = (refl, is)
lane_there limits lane k false d is = absurd is

pub keeper_there : (limits : Limits) (k : Keeping) (x : Bool) (d : Document) → IsDocument limits None k x d → (x ≡ false) × IsKeeperOf k d
keeper_there limits k true d is = absurd is
keeper_there limits k false d is = (refl, is)

pub lane_is : (limits : Limits) (lane : Standing) (k : Keeping) (d : Document) → IsLaneOf limits lane d → IsDocument limits (Some lane) k true d
lane_is limits lane k d is = is

-- ---- the documents of a world

-- under the name that changed there is the new one, and elsewhere what was there
pub document_at : (documents : FinMap byte_order Document) (name : List ℕ) (new : Document) (q : List ℕ)
    → unwrap_or (get (insert documents name new) q) new_document ≡ cond (bytes_eq q name) new (unwrap_or (get documents q) new_document)
document_at documents name new q = ap (λ o. unwrap_or o new_document) (get_inserted documents name new q) ∙ by (bytes_eq q name)
  where
    by : (b : Bool) → unwrap_or (cond b (Some new) (get documents q)) new_document ≡ cond b new (unwrap_or (get documents q) new_document)
    by true = refl
    by false = refl

same_name : (name : List ℕ) → bytes_eq name name ≡ true
same_name name = (bytes_eq-Decides name name).1 refl

-- ---- a step on an open document

-- what a desk is behind a step on one document: the same, with another lane under its name
pub record Relaned (name : List ℕ) (lane : Standing) (o n : Opened) : Type 0 where
  pub lanes : (q : List ℕ) → get n.lanes q ≡ cond (bytes_eq q name) (Some lane) (get o.lanes q)
  pub count : len n.lanes ≡ len o.lanes
  pub limits : n.limits ≡ o.limits
  pub keepers : (held : FinMap byte_order Keeping) → o.shelving.held ≡ Some held → (now : FinMap byte_order Keeping) × ((n.shelving.held ≡ Some now)
      × ((q : List ℕ) → bytes_eq q name ≡ false → keeper_under now q ≡ keeper_under held q))

module _ (o n : Opened) (w v : World) (name : List ℕ) (lane : Standing) (d : Document) (stands : DeskStands o w) (relaned : Relaned name lane o n)
    (documents : (q : List ℕ) → document v q ≡ cond (bytes_eq q name) d (document w q)) (opens : (q : List ℕ) → bytes_eq q name ≡ false → is_open v q ≡ is_open w q) (own : is_open v name ≡ true)
    (as_many : length v.opened ≡ length w.opened) (of : IsLaneOf o.limits lane d) where
  keepers : (now : FinMap byte_order Keeping) × ((n.shelving.held ≡ Some now) × ((q : List ℕ) → bytes_eq q name ≡ false → keeper_under now q ≡ keeper_under stands.held q))
  keepers = relaned.keepers stands.held stands.told

  changes_at : (q : List ℕ) (b : Bool) → bytes_eq q name ≡ b → IsDocument n.limits (get n.lanes q) (keeper_under keepers.0 q) (is_open v q) (document v q)
  changes_at q true is =
      let there = relaned.lanes q ∙ ap (λ b. cond b (Some lane) (get o.lanes q)) is in
      let document_is = documents q ∙ ap (λ b. cond b d (document w q)) is in
      let open_is : is_open v q ≡ true = ap (is_open v) ((bytes_eq-Decides q name).0 is) ∙ own in
      moved n.limits (Some lane) (get n.lanes q) (keeper_under keepers.0 q) (keeper_under keepers.0 q) true (is_open v q) d (document v q) (sym there) refl (sym open_is) (sym document_is)
      (subst (λ limits. IsLaneOf limits lane d) (sym relaned.limits) of)
  changes_at q false is =
      let there = relaned.lanes q ∙ ap (λ b. cond b (Some lane) (get o.lanes q)) is in
      let document_is = documents q ∙ ap (λ b. cond b d (document w q)) is in
      moved n.limits (get o.lanes q) (get n.lanes q) (keeper_under stands.held q) (keeper_under keepers.0 q) (is_open w q) (is_open v q) (document w q) (document v q) (sym there)
      (sym (keepers.1.1 q is)) (sym (opens q is)) (sym document_is)
      (subst (λ limits. IsDocument limits (get o.lanes q) (keeper_under stands.held q) (is_open w q) (document w q)) (sym relaned.limits) (stands.documents q))

  pub relaned_stands : DeskStands n v
  relaned_stands = record {
    held = keepers.0;
    told = keepers.1.0;
    documents = λ q. changes_at q (bytes_eq q name) refl;
    count = relaned.count ∙ stands.count ∙ sym as_many;
    few = omega (arith, relaned.count, stands.few);
  }

-- the lane of an open document is left as another
with_lane_count : (o : Opened) (name : List ℕ) (lane : Standing) → IsSome (get o.lanes name) → len (insert o.lanes name lane) ≡ len o.lanes
with_lane_count o name lane there = len-insert byte_order_total o.lanes name lane ∙ ap (λ b. cond b (len o.lanes) (len o.lanes + 1)) there

pub lent_back : (o : Opened) (name : List ℕ) (lane : Standing) → IsSome (get o.lanes name) → Relaned name lane o (with_lane o name lane)
lent_back o name lane there = record {
  lanes = λ q. get_inserted o.lanes name lane q;
  count = with_lane_count o name lane there;
  limits = refl;
  keepers = λ held is. (held, (is, λ q other. refl));
}

-- a step on an open document, by what it leaves of its lane
pub acts : (o : Opened) (w : World) (name : List ℕ) (lane : Standing) (e : Effect) → DeskStands o w → IsSome (get o.lanes name) → is_open w name ≡ true → IsLaneOf o.limits lane (grown e (document w name))
    → DeskStands (with_lane o name lane) (changed e (Some name) w)
acts o w name lane e stands there opened of =
    relaned_stands o (with_lane o name lane) w (changed e (Some name) w) name lane (grown e (document w name)) stands (lent_back o name lane there)
    (λ q. document_at w.documents name (grown e (document w name)) q) (λ q other. refl) opened refl of

-- a desk of which nothing changes but what the world's names and store are
pub stays_desk : (o : Opened) (w : World) (e : Effect) → DeskStands o w → DeskStands o (changed e None w)
stays_desk o w e stands = record { held = stands.held; told = stands.told; documents = stands.documents; count = stands.count; few = stands.few }
