-- The records of a ledger.
use Rattle.std.proofs.Common.{◌≡◌, [], ◌∷◌, ◌++◌, length}
use Rattle.std.proofs.lemmas.List.{length-map, map-append}
use Rattle.fluid_types.specs.declared.entries.Raw.{Raw}
use Rattle.fluid_types.specs.declared.verdicts.Verdict.{Verdict}
use Rattle.fluid_types.specs.Ledger.{Ledger}
use Rattle.fluid_types.specs.Printed.{raw_printed}
use Rattle.fluid_document.specs.Kept.{records}

pub length-records : (l : Ledger) → length (records l) ≡ length l
length-records l = length-map l (λ (entry : Raw × Verdict). raw_printed entry.0)

pub records-push : (l : Ledger) (entry : Raw × Verdict) → records (l ++ entry ∷ []) ≡ records l ++ raw_printed entry.0 ∷ []
records-push l entry = map-append (λ (entry : Raw × Verdict). raw_printed entry.0) l (entry ∷ [])
