-- What a file stands for behind a step of a writing call.
use Rattle.std.proofs.Common.{◌≡◌, ◌≢◌, ◌<◌, ℕ, List, [], length, refl, sym, ◌∙◌, ap, subst}
use Rattle.std.specs.Prelude.{Option, Some, None, is_some}
use Rattle.std.specs.Option.{option_map}
use Rattle.std.specs.List.{AllByRecursion}
use Rattle.std.proofs.lemmas.Bool.{false≢true}
use Rattle.fluid_io.specs.Causes.{Tells}
use Rattle.fluid_disk.specs.declared.owed.Owed.{Owed}
use Rattle.fluid_disk.specs.declared.owed.Owed.TheVariants as debts
use Rattle.fluid_disk.specs.Disk.{Stored, Only, IsDurable}
use Rattle.fluid_disk.specs.Records.{IsShort, spelled, gates_from, IsAtRest}
use Rattle.fluid_disk.specs.Files.{Nothing, Row, settled, Keeps, MayOwe, IsNoted, Stands}

-- ---- told bytes

pub tells_from : (told : Option (List ℕ)) (P : List ℕ → Type 0) → ((bytes : List ℕ) → told ≡ Some bytes → P bytes) → Tells told P
tells_from None P f = tt
tells_from (Some bytes) P f = f bytes refl

pub tells_at : (told : Option (List ℕ)) (P : List ℕ → Type 0) (bytes : List ℕ) → told ≡ Some bytes → Tells told P → P bytes
tells_at told P bytes is tells = let here : Tells (Some bytes) P = subst (λ (o : Option (List ℕ)). Tells o P) is tells in here

-- what tells its bytes did so before
pub told_before : (old new : Option (List ℕ)) (bytes : List ℕ) → is_some new ≡ is_some old → new ≡ Some bytes → (held : List ℕ) × (old ≡ Some held)
told_before None new bytes same is = absurd (false≢true (sym same ∙ ap is_some is))
told_before (Some held) new bytes same is = (held, refl)

pub mapped : (f : List ℕ → List ℕ) (old new : Option (List ℕ)) → new ≡ option_map f old → is_some new ≡ is_some old
mapped f None new is = ap is_some is
mapped f (Some held) new is = ap is_some is

pub mapped_at : (f : List ℕ → List ℕ) (old new : Option (List ℕ)) (held : List ℕ) → new ≡ option_map f old → old ≡ Some held → new ≡ Some (f held)
mapped_at f old new held is told = is ∙ ap (option_map f) told

abbrev the : Option (List ℕ) → List ℕ
the None = []
the (Some bytes) = bytes

pub same_told : (told : Option (List ℕ)) (one other : List ℕ) → told ≡ Some one → told ≡ Some other → one ≡ other
same_told told one other is also = ap the (sym is ∙ also)

-- what is told of a value that was mapped
pub mapped_from : (f : List ℕ → List ℕ) (old new : Option (List ℕ)) (bytes : List ℕ) → new ≡ option_map f old → new ≡ Some bytes → (held : List ℕ) × (old ≡ Some held) × (bytes ≡ f held)
mapped_from f None new bytes is told = absurd (false≢true (ap is_some (sym is ∙ told)))
mapped_from f (Some held) new bytes is told = (held, refl, same_told new bytes (f held) told is)

-- ---- files

module _ {D : Type 0} (seen : D → Stored) (may_leave : D → List ℕ → Type 0) where
  -- what a read gives of a file where nothing is owed, and that a crash leaves it
  pub at_rest : (records : List (List ℕ)) (disk : D) (gates : List ℕ) (owed : Owed) (held : List ℕ) → Stands seen may_leave (settled records) disk gates owed
      → Tells (seen disk).bytes (may_leave disk) → (seen disk).bytes ≡ Some held → IsAtRest records held
  at_rest records disk gates owed held s leaves told =
      tells_at (seen disk).bytes _ held told s.keeps held (tells_at (seen disk).bytes (may_leave disk) held told leaves)

  pub only : (records : List (List ℕ)) (disk : D) (gates : List ℕ) (owed : Owed) (held : List ℕ) → Stands seen may_leave (settled records) disk gates owed
      → (seen disk).bytes ≡ Some held → Only held (may_leave disk)
  only records disk gates owed held s told = tells_at (seen disk).bytes (λ bytes. Only bytes (may_leave disk)) held told (s.durable refl)

  -- nothing is owed behind a sync
  pub settles : (records : List (List ℕ)) (disk : D) (gates : List ℕ) → gates ≡ gates_from 0 records → AllByRecursion IsShort records → length (spelled records) < (seen disk).size
      → IsDurable (seen disk) (may_leave disk) → ((held : List ℕ) → (seen disk).bytes ≡ Some held → IsAtRest records held)
      → Stands seen may_leave (settled records) disk gates debts.Nothing
  settles records disk gates gates_are short room durable rest = record {
    gates_are = gates_are;
    short = short;
    fits = tt;
    noted = refl;
    room = room;
    keeps = tells_from (seen disk).bytes _ (λ held told image now.
        subst (IsAtRest records) (sym (tells_at (seen disk).bytes (λ bytes. Only bytes (may_leave disk)) held told durable image now)) (rest held told));
    durable = λ _. durable;
  }

  -- something is owed behind a step
  pub owes : (row : Row) (disk : D) (gates : List ℕ) (owed : Owed) → gates ≡ gates_from 0 row.records → AllByRecursion IsShort row.records → MayOwe row.records row.owing → IsNoted row.owing owed
      → length (spelled row.records) < (seen disk).size → row.owing ≢ Nothing
      → ((held : List ℕ) → (seen disk).bytes ≡ Some held → (image : List ℕ) → may_leave disk image → Keeps row.records row.owing image)
      → Stands seen may_leave row disk gates owed
  owes row disk gates owed gates_are short fits noted room some keeps = record {
    gates_are = gates_are;
    short = short;
    fits = fits;
    noted = noted;
    room = room;
    keeps = tells_from (seen disk).bytes _ keeps;
    durable = λ nothing. absurd (some nothing);
  }

  -- the same under an equal list of gates
  pub under : (row : Row) (disk : D) (gates other : List ℕ) (owed : Owed) → gates ≡ other → Stands seen may_leave row disk gates owed → Stands seen may_leave row disk other owed
  under row disk gates other owed is s = subst (λ (l : List ℕ). Stands seen may_leave row disk l owed) is s
