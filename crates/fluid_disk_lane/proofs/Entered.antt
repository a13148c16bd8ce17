-- A log that is left whole has the records of the entries for which it is kept.
use Rattle.std.proofs.Common.{inl, inr, ℕ, Bool, List, [], ◌∷◌, ◌++◌, Option, Some, None, ap, ◌∙◌, append_assoc}
use Rattle.fluid_io.specs.Causes.{Tells}
use Rattle.fluid_types.specs.Ledger.{Ledger}
use Rattle.fluid_log.specs.Keeping.{Content}
use Rattle.fluid_document.specs.Kept.{records, IsKept}
use Rattle.fluid_disk_keeper.specs.Growing.{LeavesWhole}
use Rattle.fluid_disk_lane.specs.Entered.{HoldsEntered}

holds : (owed : Bool) (l : Ledger) (c : Content) (image : List ℕ) → IsKept owed l c → LeavesWhole c.log image → HoldsEntered l image
holds owed l c image kept (found, finds, inl is) = record { found = found; finds = finds; behind = kept.log.behind; entered = is ∙ kept.log.splits }
holds owed l c image kept (found, finds, inr (bytes, is)) = record {
  found = found;
  finds = finds;
  behind = kept.log.behind ++ bytes ∷ [];
  entered = is ∙ ap (λ (log : List (List ℕ)). log ++ bytes ∷ []) kept.log.splits ∙ append_assoc (records l) kept.log.behind (bytes ∷ []);
}

pub all_hold : (told : Option Content) (owed : Bool) (l : Ledger) (may_leave : List ℕ → Type 0) → Tells told (IsKept owed l)
    → Tells told (λ c. (image : List ℕ) → may_leave image → LeavesWhole c.log image) → Tells told (λ _. (image : List ℕ) → may_leave image → HoldsEntered l image)
all_hold None owed l may_leave kept leaves = tt
all_hold (Some c) owed l may_leave kept leaves = λ image now. holds owed l c image kept (leaves image now)
