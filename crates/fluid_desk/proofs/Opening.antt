-- A document that is opened, at its first use or anew.
use Rattle.std.proofs.Common.{◌≡◌, ◌⊎◌, inl, inr, ℕ, zero, suc, ◌+◌, ◌-◌, ◌≤◌, ◌<◌, arith, Bool, true, false, cond, not, ◌&&◌, if◌then◌else◌, List, [], ◌∷◌, ◌++◌, length, map, Option, Some, None, Result, Ok, Err, bytes_eq, refl, sym, ap, ap₂, subst, ◌∙◌, append-nil, length-append}
use Rattle.std.specs.Prelude.{nat_le, unwrap_or, is_some, option_map, ◌||◌, IfErr}
use Rattle.std.specs.List.{list_any}
use Rattle.std.specs.FinMap.{FinMap, get, insert, remove, len, len-insert, len-remove, empty_of_len, get-empty}
use Rattle.std.proofs.lemmas.Bool.{le-leb, leb-true, leb-false}
use Rattle.std.proofs.lemmas.List.{length-map, map-append}
use Rattle.std.proofs.lemmas.List.Folds.{list_any-append}
use Rattle.std.proofs.lemmas.Option.{slice_get_past}
use Rattle.std.proofs.lemmas.Slice.Eq.{bytes_eq-Decides}
use Rattle.fluid_io.specs.Causes.{Tells}
use Rattle.fluid_table.specs.Table.{byte_order, Values}
use Rattle.fluid_table.proofs.Places.{byte_order_total, get_inserted, get_removed, get_own}
use Rattle.fluid_types.specs.declared.entries.Raw.{Raw}
use Rattle.fluid_types.specs.declared.entries.Raw.TheVariants.{Leave}
use Rattle.fluid_types.specs.declared.verdicts.Verdict.{Verdict}
use Rattle.fluid_types.specs.Ledger.{Ledger, raws}
use Rattle.fluid_rules.specs.Rules.{IsLegal, joined, ledger as ledger_by_rules}
use Rattle.fluid_rules.specs.declared.limits.Limits.{Limits}
use Rattle.fluid_rules.proofs.Legal.{ledger-only, ledger-raws, ledger-legal}
use Rattle.fluid_log.specs.Keeping.{Content, Keeping}
use Rattle.fluid_log.specs.Shelving.{keeper_under, fresh}
use Rattle.fluid_ticket.proofs.JoinedRows.{rows-joined}
use Rattle.fluid_core.specs.Entering.{State, state_of}
use Rattle.fluid_core.proofs.Entered.{stands-sequencer}
use Rattle.fluid_types.specs.Forms.{largest}
use Rattle.fluid_document.specs.Entries.{Entries, entries_of}
use Rattle.fluid_document.specs.Kept.{IsKept}
use Rattle.fluid_document.specs.Laws.{KeptIsLoaded, CheckpointIsLoaded}
use Rattle.fluid_document.specs.declared.fault.LoadFault.{LoadFault}
use Rattle.fluid_document.specs.declared.fault.LoadFault.TheVariants as loading
use Rattle.fluid_document.proofs.Foldings.{entered-entries_of, state-entries_of}
use Rattle.fluid_lane.specs.declared.steps.Step.{Step}
use Rattle.fluid_lane.specs.declared.fault.LaneFault.{LaneFault}
use Rattle.fluid_lane.specs.declared.fault.LaneFault.TheVariants as lane
use Rattle.fluid_lane.specs.Steps.{ledger, steps, stored}
use Rattle.fluid_lane.specs.Standing.{Standing, IsTold, LaneStands}
use Rattle.fluid_lane.specs.Starting.{opening, run, leaves, Starts, HasNoRoom, StartsBad, StartsPartly}
use Rattle.fluid_lane.specs.Restarts.{IsNotBad}
use Rattle.fluid_document.specs.Loading.{begun, begun_in, folded_behind, loaded, newest}
use Rattle.fluid_lane.proofs.Beginning.{ledger-steps}
use Rattle.fluid_lane.proofs.Says.{opening_leaves}
use Rattle.fluid_opening.specs.declared.opening.TheConstants.{MOST_DOCUMENTS}
use Rattle.fluid_opening.specs.declared.fault.DoorFault.{DoorFault}
use Rattle.fluid_opening.specs.declared.fault.DoorFault.TheVariants as door
use Rattle.fluid_lanes.specs.Opened.{Opened}
use Rattle.fluid_lanes.specs.Using.{Uses, UsesBy, OpensNew, IsOneTooMany, EndsLane}
use Rattle.fluid_voice.specs.Ends.{is_beyond}
use Rattle.fluid_transcript.specs.World.{Document, World, document, is_open, ledger_of, with_entries, farewells, grown, changed}
use Rattle.fluid_transcript.specs.Transcript.{readied}
use Rattle.fluid_transcript.specs.Documents.{reopened}
use Rattle.fluid_desk.specs.declared.stop.Stop.{Stop}
use Rattle.fluid_desk.specs.Stands.{IsLaneOf, IsKeeperOf, IsDocument, DeskStands}
use Rattle.fluid_desk.specs.Stopping.{stop_of, turned_by, IsHonest, steps_in, MayStop}
use Rattle.fluid_desk.specs.Acting.{IsUnready}
use Rattle.fluid_desk.proofs.Honest.{length_ledger, honest_more}
use Rattle.fluid_desk.proofs.Laned.{told_in, some_there, is_told}
use Rattle.fluid_desk.proofs.Desks.{moved, lane_there, keeper_there, document_at, Relaned, relaned_stands}

-- ---- the ledger of an opening

raws-append : (l more : Ledger) → raws (l ++ more) ≡ raws l ++ raws more
unfolding raws
raws-append l more = map-append (λ entry. entry.0) l more

raws_map : (l : Ledger) → raws l ≡ map (λ (entry : Raw × Verdict). entry.0) l
unfolding raws
raws_map l = refl

-- the ledger with the leaves is that of the raw entries with a leave of each joined client
opening_is : (moment : ℕ) (d : Document) → IsLegal (opening moment (ledger_of d)) → opening moment (ledger_of d) ≡ ledger_of (with_entries (farewells moment d) d)
opening_is moment d legal =
    let l = ledger_of d in
    ledger-only (opening moment l) legal
    ∙ ap ledger_by_rules
    (raws-append l (run (state_of l) (leaves moment (state_of l))) ∙ ap₂ (λ a b. a ++ b) (ledger-raws d.raws) (raws_map (run (state_of l) (leaves moment (state_of l))) ∙ opening_leaves moment l (ledger-legal d.raws)))

stored-steps : (l : Ledger) → stored (steps l) ≡ 0
stored-steps [] = refl
stored-steps (entry ∷ l) = stored-steps l

-- ---- a lane that was started

module _ (limits : Limits) (keeper : Keeping) (lane : Standing) (moment : ℕ) (d : Document) (starts : Starts keeper limits moment lane) (of : IsKeeperOf keeper d) where
  abbrev list : List Step
  list = steps (opening moment (ledger_of d))

  kept : Tells keeper.content (IsKept false (ledger_of d))
  kept = subst (λ o. Tells o (IsKept false (ledger_of d))) (sym of.told) of.kept

  stands : LaneStands lane list
  stands = told_in (λ _. LaneStands lane list) keeper.content of.content of.told (starts.stands (ledger_of d) kept)

  there : (content : Content) × (lane.keeping.content ≡ Some content)
  there = some_there lane.keeping.content (starts.fresh.told ∙ ap is_some of.told)

  told : IsTold lane list there.0
  told = told_in (IsTold lane list) lane.keeping.content there.0 there.1 stands.told

  pub started : IsLaneOf limits lane (with_entries (farewells moment d) d)
  started = record {
    list = list;
    stands = stands;
    entries = ledger-steps (opening moment (ledger_of d)) ∙ opening_is moment d (subst IsLegal (ledger-steps (opening moment (ledger_of d))) told.stands.kept.legal);
    level = starts.fresh.owed;
    content = there.0;
    told = there.1;
    limits_are = starts.fresh.limits_are;
    checkpoints = omega (arith, told.checkpoints, stored-steps (opening moment (ledger_of d)), starts.fresh.opened, of.checkpoints);
  }

-- ---- a first use

any_push : (q name : List ℕ) (opened : List (List ℕ)) → list_any (bytes_eq q) (opened ++ name ∷ []) ≡ (list_any (bytes_eq q) opened || (bytes_eq q name || false))
any_push q name opened = list_any-append (bytes_eq q) opened (name ∷ [])

or_false : (a : Bool) → (a || (false || false)) ≡ a
or_false true = refl
or_false false = refl

or_true : (a : Bool) → (a || (true || false)) ≡ true
or_true true = refl
or_true false = refl

keeper_elsewhere : (held : FinMap byte_order Keeping) (name q : List ℕ) → bytes_eq q name ≡ false → keeper_under (remove held name) q ≡ keeper_under held q
keeper_elsewhere held name q other = ap (λ o. unwrap_or o fresh) (get_removed held name q ∙ ap (λ b. cond b None (get held q)) other)

keeper_own : (held : FinMap byte_order Keeping) (name : List ℕ) (k : Keeping) → keeper_under (insert held name k) name ≡ k
keeper_own held name k = ap (λ o. unwrap_or o fresh) (get_own held name k)

-- the world in which a document that isn't open is opened
abbrev pub opened_world : World → List ℕ → World
opened_world w name = record w { documents = insert w.documents name (with_entries (farewells w.moment (document w name)) (document w name)); opened = w.opened ++ name ∷ [] }

pub readied_new : (w : World) (name : List ℕ) → is_open w name ≡ false → readied w name ≡ opened_world w name
readied_new w name is = ap (λ b. if b then w else opened_world w name) is

pub readied_same : (w : World) (name : List ℕ) → is_open w name ≡ true → readied w name ≡ w
readied_same w name is = ap (λ b. if b then w else opened_world w name) is

module _ (o n : Opened) (w : World) (name : List ℕ) (moment : ℕ) (desk : DeskStands o w) (at : w.moment ≡ moment) (absent : get o.lanes name ≡ None) (opens : OpensNew name moment o n) where
  own : (is_open w name ≡ false) × IsKeeperOf (keeper_under desk.held name) (document w name)
  own = keeper_there o.limits (keeper_under desk.held name) (is_open w name) (document w name)
      (subst (λ l. IsDocument o.limits l (keeper_under desk.held name) (is_open w name) (document w name)) absent (desk.documents name))

  keeper_is : opens.opens.keeper ≡ keeper_under desk.held name
  keeper_is = subst (λ h. Tells h (λ held. opens.opens.keeper ≡ keeper_under held name)) desk.told opens.opens.gives.is

  new_document_is : IsLaneOf o.limits opens.lane (with_entries (farewells w.moment (document w name)) (document w name))
  new_document_is =
      subst (λ m. IsLaneOf o.limits opens.lane (with_entries (farewells m (document w name)) (document w name))) (sym at)
      (started o.limits (keeper_under desk.held name) opens.lane moment (document w name) (subst (λ k. Starts k o.limits moment opens.lane) keeper_is opens.opens.starts) own.1)

  held_is : n.shelving.held ≡ Some (remove desk.held name)
  held_is = opens.opens.gives.held ∙ ap (option_map (λ held. remove held name)) desk.told

  opened_at : (q : List ℕ) (b : Bool) → bytes_eq q name ≡ b → IsDocument n.limits (get n.lanes q) (keeper_under (remove desk.held name) q) (is_open (opened_world w name) q) (document (opened_world w name) q)
  opened_at q true is =
      let lane_is = ap (λ lanes. get lanes q) opens.lanes ∙ get_inserted o.lanes name opens.lane q ∙ ap (λ b. cond b (Some opens.lane) (get o.lanes q)) is in
      let open_is : is_open (opened_world w name) q ≡ true = any_push q name w.opened ∙ ap (λ b. list_any (bytes_eq q) w.opened || (b || false)) is ∙ or_true (list_any (bytes_eq q) w.opened) in
      let document_is = document_at w.documents name (with_entries (farewells w.moment (document w name)) (document w name)) q ∙ ap (λ b. cond b (with_entries (farewells w.moment (document w name)) (document w name)) (document w q)) is in
      moved n.limits (Some opens.lane) (get n.lanes q) (keeper_under (remove desk.held name) q) (keeper_under (remove desk.held name) q) true (is_open (opened_world w name) q)
      (with_entries (farewells w.moment (document w name)) (document w name)) (document (opened_world w name) q) (sym lane_is) refl (sym open_is) (sym document_is)
      (subst (λ limits. IsLaneOf limits opens.lane (with_entries (farewells w.moment (document w name)) (document w name))) (sym opens.limits) new_document_is)
  opened_at q false is =
      let lane_is = ap (λ lanes. get lanes q) opens.lanes ∙ get_inserted o.lanes name opens.lane q ∙ ap (λ b. cond b (Some opens.lane) (get o.lanes q)) is in
      let open_is : is_open (opened_world w name) q ≡ is_open w q = any_push q name w.opened ∙ ap (λ b. list_any (bytes_eq q) w.opened || (b || false)) is ∙ or_false (list_any (bytes_eq q) w.opened) in
      let document_is = document_at w.documents name (with_entries (farewells w.moment (document w name)) (document w name)) q ∙ ap (λ b. cond b (with_entries (farewells w.moment (document w name)) (document w name)) (document w q)) is in
      moved n.limits (get o.lanes q) (get n.lanes q) (keeper_under desk.held q) (keeper_under (remove desk.held name) q) (is_open w q) (is_open (opened_world w name) q) (document w q) (document (opened_world w name) q)
      (sym lane_is) (sym (keeper_elsewhere desk.held name q is)) (sym open_is) (sym document_is)
      (subst (λ limits. IsDocument limits (get o.lanes q) (keeper_under desk.held q) (is_open w q) (document w q)) (sym opens.limits) (desk.documents q))

  count_is : len n.lanes ≡ len o.lanes + 1
  count_is = ap len opens.lanes ∙ len-insert byte_order_total o.lanes name opens.lane ∙ ap (λ l. cond (is_some l) (len o.lanes) (len o.lanes + 1)) absent

  opened_stands : DeskStands n (opened_world w name)
  opened_stands = record {
    held = remove desk.held name;
    told = held_is;
    documents = λ q. opened_at q (bytes_eq q name) refl;
    count = omega (arith, count_is, desk.count, length-append w.opened (name ∷ []));
    few = omega (arith, count_is, opens.room);
  }

  pub opens_new : DeskStands n (readied w name)
  opens_new = subst (DeskStands n) (sym (readied_new w name own.0)) opened_stands

  pub new_is_no_more : is_beyond w.opened name ≡ false
  new_is_no_more = ap (λ b. not b && nat_le MOST_DOCUMENTS (length w.opened)) own.0 ∙ not_le (nat_le MOST_DOCUMENTS (length w.opened)) refl
    where
      not_le : (b : Bool) → nat_le MOST_DOCUMENTS (length w.opened) ≡ b → b ≡ false
      not_le false is = refl
      not_le true is = absurd (omega (arith, leb-true MOST_DOCUMENTS (length w.opened) is, desk.count, opens.room))

-- a document that is open is no more than may be
pub open_is_no_more : (w : World) (name : List ℕ) → is_open w name ≡ true → is_beyond w.opened name ≡ false
open_is_no_more w name is = ap (λ b. not b && nat_le MOST_DOCUMENTS (length w.opened)) is

-- what a use leaves, for a world: the document is open in both, and none is one too many
pub record IsUsed (n : Opened) (w : World) (name : List ℕ) : Type 0 where
  pub stands : DeskStands n (readied w name)
  pub within : is_beyond w.opened name ≡ false

pub uses : (o n : Opened) (w : World) (name : List ℕ) (moment : ℕ) → DeskStands o w → w.moment ≡ moment → Uses {A = Unit {0}} name moment o n (Ok tt) → IsUsed n w name
uses o n w name moment desk at is = by (get o.lanes name) refl is
  where
    by : (l : Option Standing) → get o.lanes name ≡ l → UsesBy l name moment o n → IsUsed n w name
    by None absent opens = record { stands = opens_new o n w name moment desk at absent opens; within = new_is_no_more o n w name moment desk at absent opens }
    by (Some lane) there same =
        let opened = (lane_there o.limits lane (keeper_under desk.held name) (is_open w name) (document w name)
        (subst (λ l. IsDocument o.limits l (keeper_under desk.held name) (is_open w name) (document w name)) there (desk.documents name))).0 in
        record { stands = subst (DeskStands n) (sym (readied_same w name opened)) (subst (λ k. DeskStands k w) (sym same) desk); within = open_is_no_more w name opened }

-- as many are open as may be, and this isn't one
pub too_many : (o n : Opened) (w : World) (name : List ℕ) (count : ℕ) → DeskStands o w → IsOneTooMany name o n count → (is_beyond w.opened name ≡ true) × DeskStands n w
too_many o n w name count desk many =
    let closed = (keeper_there o.limits (keeper_under desk.held name) (is_open w name) (document w name)
    (subst (λ l. IsDocument o.limits l (keeper_under desk.held name) (is_open w name) (document w name)) many.absent (desk.documents name))).0 in (
      ap (λ b. not b && nat_le MOST_DOCUMENTS (length w.opened)) closed ∙ le-leb MOST_DOCUMENTS (length w.opened) (omega (arith, many.counted, many.most, desk.count)),
      subst (λ k. DeskStands k w) (sym many.same) desk,
    )

-- ---- a keeper that isn't refused

-- what is read of a keeper that is kept is what its ledger says, from wherever it is read
past_all : (content : Content) (number : ℕ) → length content.checkpoints ≤ number → loaded content (Some number) ≡ loaded content None
unfolding begun
past_all content number le =
    ap (λ text. folded_behind content.log (begun_in number (length content.log) (length content.deltas) text)) (slice_get_past content.checkpoints number le)

loaded_all : KeptIsLoaded → CheckpointIsLoaded → (l : Ledger) (content : Content) (from : Option ℕ) → IsKept false l content → loaded content from ≡ Ok (entries_of l)
loaded_all first law l content None kept = first l content kept
loaded_all first law l content (Some number) kept = by (nat_le (length content.checkpoints) number) refl
  where
    by : (b : Bool) → nat_le (length content.checkpoints) number ≡ b → loaded content (Some number) ≡ Ok (entries_of l)
    by true past = past_all content number (leb-true (length content.checkpoints) number past) ∙ first l content kept
    by false there = law l content number kept (leb-false (length content.checkpoints) number there)

-- as many leave as have rows
leaves_are : (moment : ℕ) (d : Document) → len (entries_of (ledger_of d)).state.sequencer.rows ≡ length (farewells moment d)
leaves_are moment d =
    let l = ledger_of d in
    ap (λ (s : State). len s.sequencer.rows) (state-entries_of l)
    ∙ (rows-joined (state_of l).sequencer l (stands-sequencer (state_of l) l (record { legal = ledger-legal d.raws; is = refl }))).as_many
    ∙ sym (length-map (joined l) (λ id. Leave id moment))

same_entries : (a b : Entries) → ◌≡◌ {A = Result Entries LoadFault} (Ok a) (Ok b) → a ≡ b
same_entries a b same = cc

never_worn : (a : Entries) → ◌≡◌ {A = Result Entries LoadFault} (Ok a) (Err loading.Worn) → ⊥
never_worn a same = cc

-- how many entries the document has once all have left
abbrev pub opened_steps : ℕ → Document → ℕ
opened_steps moment d = length (with_entries (farewells moment d) d).raws

-- the numbers don't suffice for its entries and the leaves
worn_start : KeptIsLoaded → CheckpointIsLoaded → (from : Option ℕ) (content : Content) (d : Document) (moment : ℕ) → IsKept false (ledger_of d) content → StartsBad from content lane.Worn → largest ≤ opened_steps moment d + 1
worn_start first law from content d moment kept bad = by bad
  where
    is : loaded content from ≡ Ok (entries_of (ledger_of d))
    is = loaded_all first law (ledger_of d) content from kept

    by : (loaded content from ≡ Err loading.Worn) ⊎ HasNoRoom from content → largest ≤ opened_steps moment d + 1
    by (inl worn) = absurd (never_worn (entries_of (ledger_of d)) (sym is ∙ worn))
    by (inr no_room) =
        let same = same_entries no_room.entries (entries_of (ledger_of d)) (sym no_room.is ∙ is) in
        omega (
          arith,
          no_room.full,
          ap (λ (e : Entries). e.entered) same,
          entered-entries_of (ledger_of d),
          ap (λ (e : Entries). len e.state.sequencer.rows) same,
          leaves_are moment d,
          length_ledger d.raws,
          length-append d.raws (farewells moment d),
        )

honest_start : KeptIsLoaded → CheckpointIsLoaded → (keeper left : Keeping) (moment when : ℕ) (fault : LaneFault) (d : Document) (content : Content) → keeper.content ≡ Some content → IsKept false (ledger_of d) content
    → StartsPartly keeper left moment fault → IsHonest (opened_steps when d) (stop_of fault)
honest_start first law keeper left moment when fault d content is kept partly =
    let kept_is : Tells keeper.content (IsKept false (ledger_of d)) = subst (λ o. Tells o (IsKept false (ledger_of d))) (sym is) kept in
    by fault (told_in (λ _. IsNotBad fault) keeper.content content is (partly.never (ledger_of d) kept_is)) (told_in (λ c. StartsBad (newest keeper.checkpoints) c fault) keeper.content content is partly.bad)
  where
    by : (f : LaneFault) → IsNotBad f → StartsBad (newest keeper.checkpoints) content f → IsHonest (opened_steps when d) (stop_of f)
    by (lane.LogFailed note) not_bad bad = tt
    by (lane.DeltaFailed note) not_bad bad = tt
    by lane.NoMemory not_bad bad = tt
    by lane.Worn not_bad bad = worn_start first law (newest keeper.checkpoints) content d when kept bad
    by (lane.BadRecord n) not_bad bad = absurd not_bad
    by (lane.BadCheckpoint n f) not_bad bad = absurd not_bad
    by (lane.Full n) not_bad bad = absurd bad
    by (lane.NoCheckpoint n m) not_bad bad = absurd bad
    by lane.CheckpointsFull not_bad bad = absurd bad
    by lane.TooManyClients not_bad bad = absurd bad
    by (lane.TooLarge n) not_bad bad = absurd bad

-- the keeper that is in under a name is kept for the ledger of a document
pub record IsKeptUnder (o : Opened) (name : List ℕ) (d : Document) : Type 0 where
  pub held : FinMap byte_order Keeping
  pub told : o.shelving.held ≡ Some held
  pub content : Content
  pub content_is : (keeper_under held name).content ≡ Some content
  pub kept : IsKept false (ledger_of d) content

-- a document that wasn't opened
pub unopened_honest : KeptIsLoaded → CheckpointIsLoaded → (o n : Opened) (name : List ℕ) (moment when : ℕ) (fault : DoorFault) (d : Document) → IsKeptUnder o name d → Uses {A = Unit {0}} name moment o n (Err fault)
    → IfErr (turned_by fault) (IsHonest (opened_steps when d))
unopened_honest first law o n name moment when (door.ShelfFailed note) d was_kept uses = tt
unopened_honest first law o n name moment when (door.TooManyDocuments count) d was_kept uses = tt
unopened_honest first law o n name moment when door.NoMemory d was_kept uses = tt
unopened_honest first law o n name moment when (door.Lane fault) d was_kept uses =
    let fails = uses.does.1 in
    let keeper_is : fails.keeper ≡ keeper_under was_kept.held name = subst (λ h. Tells h (λ held. fails.keeper ≡ keeper_under held name)) was_kept.told fails.gives.is in
    honest_start first law fails.keeper fails.comes_back.left moment when fault d was_kept.content (ap (λ k. k.content) keeper_is ∙ was_kept.content_is) was_kept.kept fails.comes_back.partly

-- a document that isn't open, on a desk that stands for a world
module _ (o : Opened) (w : World) (name : List ℕ) (desk : DeskStands o w) (absent : get o.lanes name ≡ None) where
  closed_is : (is_open w name ≡ false) × IsKeeperOf (keeper_under desk.held name) (document w name)
  closed_is = keeper_there o.limits (keeper_under desk.held name) (is_open w name) (document w name)
      (subst (λ l. IsDocument o.limits l (keeper_under desk.held name) (is_open w name) (document w name)) absent (desk.documents name))

  pub kept_closed : IsKeptUnder o name (document w name)
  kept_closed = record { held = desk.held; told = desk.told; content = closed_is.1.content; content_is = closed_is.1.told; kept = closed_is.1.kept }

  -- it isn't one too many where there is room
  room_within : len o.lanes < MOST_DOCUMENTS → is_beyond w.opened name ≡ false
  room_within room = ap (λ b. not b && nat_le MOST_DOCUMENTS (length w.opened)) closed_is.0 ∙ not_le (nat_le MOST_DOCUMENTS (length w.opened)) refl
    where
      not_le : (b : Bool) → nat_le MOST_DOCUMENTS (length w.opened) ≡ b → b ≡ false
      not_le false is = refl
      not_le true is = absurd (omega (arith, leb-true MOST_DOCUMENTS (length w.opened) is, desk.count, room))

  document_then : document (readied w name) name ≡ with_entries (farewells w.moment (document w name)) (document w name)
  document_then =
      ap (λ v. document v name) (readied_new w name closed_is.0) ∙ document_at w.documents name (with_entries (farewells w.moment (document w name)) (document w name)) name
      ∙ ap (λ b. cond b (with_entries (farewells w.moment (document w name)) (document w name)) (document w name)) ((bytes_eq-Decides name name).1 refl)

  may_ready : (n : Opened) (stop : Stop) → IsHonest (opened_steps w.moment (document w name)) stop → MayStop (readied w name) n stop
  may_ready n stop h =
      (name, honest_more (opened_steps w.moment (document w name)) (steps_in (readied w name) n name) stop (omega (arith, ap (λ (d : Document). length d.raws) document_then)) h)

  pub unready : KeptIsLoaded → CheckpointIsLoaded → (n : Opened) (moment : ℕ) (fault : DoorFault) (stop : Stop) → len o.lanes < MOST_DOCUMENTS → Uses {A = Unit {0}} name moment o n (Err fault) → Err stop ≡ turned_by fault
      → IsUnready w name n stop
  unready first law n moment fault stop room uses is = record {
    within = room_within room;
    may = may_ready n stop
        (subst (λ r. IfErr r (IsHonest (opened_steps w.moment (document w name)))) (sym is) (unopened_honest first law o n name moment w.moment fault (document w name) kept_closed uses));
  }

-- ---- closed and opened again

-- what a lane leaves of its keeper is kept for its document
pub keeper_of : (limits : Limits) (lane : Standing) (d : Document) → IsLaneOf limits lane d → IsKeeperOf lane.keeping d
keeper_of limits lane d of =
    let told = is_told limits lane d of in
    record {
      content = of.content;
      told = of.told;
      kept = subst (λ l. IsKept false l of.content) of.entries (subst (λ owed. IsKept owed (ledger of.list) of.content) of.level told.stands.kept);
      checkpoints = of.checkpoints;
    }

none_is : {A : Type 0} (a : A) → ◌≡◌ {A = Option A} None (Some a) → ⊥
none_is a same = cc

-- a map with a value has some
some_len : {X : Type 0} (m : Values X) (k : List ℕ) (v : X) → get m k ≡ Some v → 1 ≤ len m
some_len m k v found = by (len m) refl
  where
    by : (n : ℕ) → len m ≡ n → 1 ≤ len m
    by zero is = absurd (none_is v (sym (ap (λ other. get other k) (empty_of_len m is) ∙ get-empty byte_order k) ∙ found))
    by (suc n) is = omega (arith, is)

some_held : (a b : FinMap byte_order Keeping) → ◌≡◌ {A = Option (FinMap byte_order Keeping)} (Some a) (Some b) → a ≡ b
some_held a b same = cc

gone : {V : Type 0} (b : Bool) (x y : Option V) → cond b x (cond b None y) ≡ cond b x y
gone true x y = refl
gone false x y = refl

-- the desk on which an open document was closed
module _ (o closed : Opened) (w : World) (name : List ℕ) (lane : Standing) (desk : DeskStands o w) (there : get o.lanes name ≡ Some lane) (ended : EndsLane name lane o closed) where
  was : (is_open w name ≡ true) × IsLaneOf o.limits lane (document w name)
  was = lane_there o.limits lane (keeper_under desk.held name) (is_open w name) (document w name)
      (subst (λ l. IsDocument o.limits l (keeper_under desk.held name) (is_open w name) (document w name)) there (desk.documents name))

  held_back : closed.shelving.held ≡ Some (insert desk.held name lane.keeping)
  held_back = ended.back.held ∙ ap (option_map (λ held. insert held name lane.keeping)) desk.told

  kept_back : IsKeeperOf (keeper_under (insert desk.held name lane.keeping) name) (document w name)
  kept_back = subst (λ k. IsKeeperOf k (document w name)) (sym (keeper_own desk.held name lane.keeping)) (keeper_of o.limits lane (document w name) was.1)

  pub kept_ended : IsKeptUnder closed name (document w name)
  kept_ended = record {
    held = insert desk.held name lane.keeping;
    told = held_back;
    content = kept_back.content;
    content_is = kept_back.told;
    kept = kept_back.kept;
  }

  pub absent_then : get closed.lanes name ≡ None
  absent_then = ap (λ lanes. get lanes name) ended.lanes ∙ get_removed o.lanes name name ∙ ap (λ b. cond b None (get o.lanes name)) ((bytes_eq-Decides name name).1 refl)

  count_then : len closed.lanes + 1 ≡ len o.lanes
  count_then =
      omega (arith, ap len ended.lanes, len-remove byte_order_total o.lanes name, ap (λ (l : Option Standing). cond (is_some l) (len o.lanes - 1) (len o.lanes)) there, some_len o.lanes name lane there)

  -- no room is wanting for one that was open
  pub room_again : (n : Opened) (count : ℕ) → IsOneTooMany name closed n count → ⊥
  room_again n count many = omega (arith, many.counted, many.most, count_then, desk.few)

  module _ (n : Opened) (moment : ℕ) (at : w.moment ≡ moment) (opens : OpensNew name moment closed n) where
    keeper_again : opens.opens.keeper ≡ keeper_under (insert desk.held name lane.keeping) name
    keeper_again = subst (λ h. Tells h (λ held. opens.opens.keeper ≡ keeper_under held name)) held_back opens.opens.gives.is

    abbrev again_document : Document
    again_document = grown (reopened w (document w name) name) (document w name)

    pub lane_again : IsLaneOf o.limits opens.lane again_document
    lane_again =
        subst (λ checkpoints. IsLaneOf o.limits opens.lane (record { raws = (document w name).raws ++ farewells w.moment (document w name); checkpoints = checkpoints })) (sym (append-nil (document w name).checkpoints))
        (subst (λ m. IsLaneOf o.limits opens.lane (with_entries (farewells m (document w name)) (document w name))) (sym at)
        (started o.limits (keeper_under (insert desk.held name lane.keeping) name) opens.lane moment (document w name)
        (subst (λ k. Starts k o.limits moment opens.lane) keeper_again (subst (λ limits. Starts opens.opens.keeper limits moment opens.lane) ended.limits opens.opens.starts)) kept_back))

    held_again : n.shelving.held ≡ Some (remove (insert desk.held name lane.keeping) name)
    held_again = opens.opens.gives.held ∙ ap (option_map (λ held. remove held name)) held_back

    relaned_again : Relaned name opens.lane o n
    relaned_again = record {
      lanes = λ q.
          ap (λ lanes. get lanes q) opens.lanes ∙ get_inserted closed.lanes name opens.lane q
          ∙ ap (cond (bytes_eq q name) (Some opens.lane)) (ap (λ lanes. get lanes q) ended.lanes ∙ get_removed o.lanes name q)
          ∙ gone (bytes_eq q name) (Some opens.lane) (get o.lanes q);
      count = omega (arith, ap len opens.lanes, len-insert byte_order_total closed.lanes name opens.lane, ap (λ (l : Option Standing). cond (is_some l) (len closed.lanes) (len closed.lanes + 1)) absent_then, count_then);
      limits = opens.limits ∙ ended.limits;
      keepers = λ held is. (
        remove (insert desk.held name lane.keeping) name,
        (
          held_again,
          λ q other.
              keeper_elsewhere (insert desk.held name lane.keeping) name q other
              ∙ ap (λ l. unwrap_or l fresh) (get_inserted desk.held name lane.keeping q ∙ ap (λ b. cond b (Some lane.keeping) (get desk.held q)) other)
              ∙ ap (λ m. keeper_under m q) (some_held desk.held held (sym desk.told ∙ is)),
        ),
      );
    }

    pub again_stands : DeskStands n (changed (reopened w (document w name) name) (Some name) w)
    again_stands =
        relaned_stands o n w (changed (reopened w (document w name) name) (Some name) w) name opens.lane again_document desk relaned_again
        (λ q. document_at w.documents name again_document q) (λ q other. refl) was.0 refl lane_again

    pub lane_there_again : get n.lanes name ≡ Some opens.lane
    lane_there_again = ap (λ lanes. get lanes name) opens.lanes ∙ get_own closed.lanes name opens.lane

-- ---- by the answer of a call

pub ready_honest : KeptIsLoaded → CheckpointIsLoaded → (o n : Opened) (w : World) (name : List ℕ) (moment : ℕ) (fault : DoorFault) (stop : Stop) → Uses {A = Unit {0}} name moment o n (Err fault) → DeskStands o w
    → Err stop ≡ turned_by fault → IsUnready w name n stop
ready_honest first law o n w name moment (door.ShelfFailed note) stop uses desk is = unready o w name desk uses.absent first law n moment (door.ShelfFailed note) stop uses.room uses is
ready_honest first law o n w name moment (door.Lane fault) stop uses desk is = unready o w name desk uses.absent first law n moment (door.Lane fault) stop uses.room uses is
ready_honest first law o n w name moment (door.TooManyDocuments count) stop uses desk is = absurd (cc)
ready_honest first law o n w name moment door.NoMemory stop uses desk is = unready o w name desk uses.absent first law n moment door.NoMemory stop uses.room uses is

pub ready_many : (o n : Opened) (name : List ℕ) (moment : ℕ) (fault : DoorFault) → Uses {A = Unit {0}} name moment o n (Err fault) → (done : Unit {0}) → Ok done ≡ turned_by fault → (count : ℕ) × IsOneTooMany name o n count
ready_many o n name moment (door.TooManyDocuments count) uses done is = (count, uses)
ready_many o n name moment (door.ShelfFailed note) uses done is = absurd (cc)
ready_many o n name moment (door.Lane fault) uses done is = absurd (cc)
ready_many o n name moment door.NoMemory uses done is = absurd (cc)
