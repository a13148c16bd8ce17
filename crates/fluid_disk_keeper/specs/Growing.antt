-- A log that only grows: what a crash leaves of it.
use Rattle.std.specs.Prelude.{◌≡◌, ◌⊎◌, ⊤, ℕ, List, [], ◌∷◌, ◌++◌}
use Rattle.fluid_disk.specs.Disk.{Stored}
use Rattle.fluid_disk.specs.Records.{Finds}
use Rattle.fluid_disk.specs.Files.{Owing, Nothing, Appending, Cutting, Row, Recording, StandsFor}
use Rattle.fluid_disk_keeper.specs.Keepers.{Texts}

-- opening finds the whole list in this image; one record may stand behind it
abbrev pub LeavesWhole : Texts → List ℕ → Type 0
LeavesWhole records image = (found : Texts) × Finds found image × ((found ≡ records) ⊎ ((bytes : List ℕ) × (found ≡ records ++ bytes ∷ [])))

-- no cut is in progress or owed
abbrev pub IsUncut : Owing → Type 0
IsUncut Nothing = ⊤
IsUncut (Appending bytes) = ⊤
IsUncut (Cutting count) = ⊥

-- of a file no cut is owed
abbrev pub OwesNoCut : {D : Type 0} → (D → Stored) → (D → List ℕ → Type 0) → Recording D → Type 0
OwesNoCut seen may_leave file = (row : Row) × StandsFor seen may_leave row file × IsUncut row.owing
