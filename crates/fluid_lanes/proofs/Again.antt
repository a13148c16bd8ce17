-- A document that is closed and opened again.
use Rattle.std.proofs.Common.{◌≡◌, inl, inr, ℕ, ◌≤◌, Bool, true, false, cond, List, [], ◌∷◌, ◌++◌, Option, Some, None, Result, Ok, Err, IfOk, IfErr, option_map, unwrap_or, bytes_eq, refl, sym, ap, subst, ◌∙◌, arith}
use Rattle.std.specs.FinMap.{FinMap, get, insert}
use Rattle.std.proofs.lemmas.Slice.Eq.{bytes_eq-Decides}
use Rattle.fluid_io.specs.Causes.{Rose, Tells}
use Rattle.fluid_io.specs.declared.faults.FaultNote.{FaultNote}
use Rattle.fluid_table.specs.Table.{byte_order}
use Rattle.fluid_table.proofs.Places.{get_own, get_removed}
use Rattle.fluid_types.specs.Ledger.{Ledger}
use Rattle.fluid_rules.specs.Rules.{verdict}
use Rattle.fluid_log.specs.Keeping.{Content, Keeping}
use Rattle.fluid_log.specs.Shelving.{keeper_under, fresh}
use Rattle.fluid_deltas.specs.Ranges.{IsNoted}
use Rattle.fluid_document.specs.Kept.{IsKept}
use Rattle.fluid_lane.specs.declared.steps.Step.{Step}
use Rattle.fluid_lane.specs.declared.fault.LaneFault.{LaneFault}
use Rattle.fluid_lane.specs.declared.fault.LaneFault.TheVariants as lane
use Rattle.fluid_lane.specs.Steps.{ledger, steps}
use Rattle.fluid_lane.specs.Standing.{Standing, LaneStands, IsTold, IsLeftFor}
use Rattle.fluid_lane.specs.Starting.{opening}
use Rattle.fluid_opening.specs.Opening.{IsRisen, IsRisenFor}
use Rattle.fluid_opening.specs.declared.fault.DoorFault.{DoorFault}
use Rattle.fluid_opening.specs.declared.fault.DoorFault.TheVariants.{ShelfFailed, Lane, TooManyDocuments, NoMemory}
use Rattle.fluid_lanes.specs.Opened.{Opened}
use Rattle.fluid_lanes.specs.Using.{Uses, UsesBy, OpensNew, Ends, EndsLane, StandsAgain, IsLeftWith, StandsAgainPerhapsWith}

some_same : (a b : Standing) → ◌≡◌ {A = Option Standing} (Some a) (Some b) → a ≡ b
some_same a b same = cc

tells_kept : (s : Standing) (l : List Step) → LaneStands s l → s.owed ≡ false → Tells s.keeping.content (IsKept false (ledger l))
tells_kept s l stands level = by s.keeping.content stands.told
  where
    by : (o : Option Content) → Tells o (IsTold s l) → Tells o (IsKept false (ledger l))
    by None told = tt
    by (Some content) told = subst (λ owed. IsKept owed (ledger l) content) level told.stands.kept

-- what was left may have one entry more
perhaps : (P : Ledger → Type 0) (l : Ledger) (content : Option Content) (owed : Bool) → owed ≡ true → Tells content (IsLeftFor owed l)
    → ((m : Ledger) → Tells content (IsKept false m) → Tells content (λ _. P m)) → Tells content (λ _. (m : Ledger) × (IsLeftWith l m × P m))
perhaps P l None owed owes left starts = tt
perhaps P l (Some content) owed owes left starts = by (subst (λ b. IsLeftFor b l content) owes left)
  where
    by : IsLeftFor true l content → (m : Ledger) × (IsLeftWith l m × P m)
    by (inl kept) = (l, (inl refl, starts l kept))
    by (inr more) = (l ++ (more.0, verdict l more.0) ∷ [], (inr (more.0, refl), starts (l ++ (more.0, verdict l more.0) ∷ []) more.1))

at_own : {A : Type 0} (name : List ℕ) (found : Option A) → cond (bytes_eq name name) None found ≡ None
at_own name found = ap (λ b. cond b None found) ((bytes_eq-Decides name name).1 refl)

module _ (name : List ℕ) (moment : ℕ) (old closed new : Opened) (before now : Standing) (l : List Step) (ended : EndsLane name before old closed) where
  gone : get closed.lanes name ≡ None
  gone = ap (λ lanes. get lanes name) ended.lanes ∙ get_removed old.lanes name name ∙ at_own name (get old.lanes name)

  -- the keeper that was given is the one that came back
  same_keeper : (held : FinMap byte_order Keeping) → old.shelving.held ≡ Some held → (keeper : Keeping) → Tells closed.shelving.held (λ h. keeper ≡ keeper_under h name) → keeper ≡ before.keeping
  same_keeper held is keeper given =
      let back = ended.back.held ∙ ap (option_map (λ h. insert h name before.keeping)) is in
      subst (λ o. Tells o (λ h. keeper ≡ keeper_under h name)) back given ∙ ap (λ o. unwrap_or o fresh) (get_own held name before.keeping)

  stands_again : OpensNew name moment closed new → get new.lanes name ≡ Some now → before.owed ≡ false → LaneStands before l
      → Tells old.shelving.held (λ _. Tells before.keeping.content (λ _. LaneStands now (steps (opening moment (ledger l)))))
  stands_again opens there level stands = by old.shelving.held refl
    where
      by : (o : Option (FinMap byte_order Keeping)) → old.shelving.held ≡ o → Tells o (λ _. Tells before.keeping.content (λ _. LaneStands now (steps (opening moment (ledger l)))))
      by None is = tt
      by (Some held) is =
          let keeper = same_keeper held is opens.opens.keeper opens.opens.gives.is in
          let lane : opens.lane ≡ now = some_same opens.lane now (sym (ap (λ lanes. get lanes name) opens.lanes ∙ get_own closed.lanes name opens.lane) ∙ there) in
          subst (λ (s : Standing). Tells before.keeping.content (λ _. LaneStands s (steps (opening moment (ledger l))))) lane
          (subst (λ (k : Keeping). Tells k.content (IsKept false (ledger l)) → Tells k.content (λ _. LaneStands opens.lane (steps (opening moment (ledger l))))) keeper
          (opens.opens.starts.stands (ledger l)) (tells_kept before l stands level))

  stands_perhaps : OpensNew name moment closed new → get new.lanes name ≡ Some now → before.owed ≡ true → LaneStands before l
      → Tells old.shelving.held (λ _. Tells before.keeping.content (λ _. (m : Ledger) × (IsLeftWith (ledger l) m × LaneStands now (steps (opening moment m)))))
  stands_perhaps opens there owes stands = by old.shelving.held refl
    where
      by : (o : Option (FinMap byte_order Keeping)) → old.shelving.held ≡ o
          → Tells o (λ _. Tells before.keeping.content (λ _. (m : Ledger) × (IsLeftWith (ledger l) m × LaneStands now (steps (opening moment m)))))
      by None is = tt
      by (Some held) is =
          let keeper = same_keeper held is opens.opens.keeper opens.opens.gives.is in
          let lane : opens.lane ≡ now = some_same opens.lane now (sym (ap (λ lanes. get lanes name) opens.lanes ∙ get_own closed.lanes name opens.lane) ∙ there) in
          subst (λ (s : Standing). Tells before.keeping.content (λ _. (m : Ledger) × (IsLeftWith (ledger l) m × LaneStands s (steps (opening moment m))))) lane
          (perhaps (λ m. LaneStands opens.lane (steps (opening moment m))) (ledger l) before.keeping.content before.owed owes (ended.left l stands)
          (λ m. subst (λ (k : Keeping). Tells k.content (IsKept false m) → Tells k.content (λ _. LaneStands opens.lane (steps (opening moment m)))) keeper (opens.opens.starts.stands m)))

again : (name : List ℕ) (moment : ℕ) (old closed new : Opened) → Ends name (get old.lanes name) old closed → UsesBy (get closed.lanes name) name moment closed new → StandsAgain name moment old new
again name moment old closed new ends uses = λ before now l was there level stands.
    let ended = subst (λ o. Ends name o old closed) was ends in
    let none = gone name moment old closed new before now l ended in
    stands_again name moment old closed new before now l ended (subst (λ o. UsesBy o name moment closed new) none uses) there level stands

again_perhaps : (name : List ℕ) (moment : ℕ) (old closed new : Opened) → Ends name (get old.lanes name) old closed → UsesBy (get closed.lanes name) name moment closed new → StandsAgainPerhapsWith name moment old new
again_perhaps name moment old closed new ends uses = λ before now l was there owes stands.
    let ended = subst (λ o. Ends name o old closed) was ends in
    let none = gone name moment old closed new before now l ended in
    stands_perhaps name moment old closed new before now l ended (subst (λ o. UsesBy o name moment closed new) none uses) there owes stands

pub reopened_perhaps : {A : Type 0} (name : List ℕ) (moment : ℕ) (old closed new : Opened) (result : Result A DoorFault) → Ends name (get old.lanes name) old closed → Uses name moment closed new result
    → IfOk result (λ _. StandsAgainPerhapsWith name moment old new)
reopened_perhaps name moment old closed new (Ok done) ends uses = again_perhaps name moment old closed new ends uses
reopened_perhaps name moment old closed new (Err fault) ends uses = tt

pub reopened : {A : Type 0} (name : List ℕ) (moment : ℕ) (old closed new : Opened) (result : Result A DoorFault) → Ends name (get old.lanes name) old closed → Uses name moment closed new result
    → IfOk result (λ _. StandsAgain name moment old new)
reopened name moment old closed new (Ok done) ends uses = again name moment old closed new ends uses
reopened name moment old closed new (Err fault) ends uses = tt

-- ---- counts of faults

pub ends_later : (name : List ℕ) (o : Option Standing) (old closed : Opened) → Ends name o old closed → old.shelving.faults ≤ closed.shelving.faults
ends_later name None old closed same = subst (λ (c : Opened). old.shelving.faults ≤ c.shelving.faults) (sym same) (omega arith)
ends_later name (Some before) old closed ended = ended.back.later

rose_earlier : (first before now : ℕ) → first ≤ before → Rose before now → Rose first now
rose_earlier first before now le rose = omega (arith, le, rose)
