-- What each call of a keeper does to what it keeps, by its answer.
use Rattle.std.specs.Prelude.{◌≡◌, ℕ, ◌+◌, ◌≤◌, ◌⊎◌, ⊤, List, [], ◌∷◌, ◌++◌, length, take, slice_get, Some, Result, Ok, Err, IfErr}
use Rattle.std.specs.Option.{option_map}
use Rattle.fluid_io.specs.Causes.{Rose, Tells, one_more}
use Rattle.fluid_io.specs.declared.faults.Failed.{Failed as Fault}
use Rattle.fluid_log.specs.declared.fault.KeeperFault.{KeeperFault}
use Rattle.fluid_log.specs.declared.fault.KeeperFault.TheVariants.{Failed, NoMemory}
use Rattle.fluid_log.specs.Keeping.{Content, Keeping}

-- ---- what writing makes of a keeper

-- one more record at the end of the log
abbrev pub add_record : List ℕ → Content → Content
add_record bytes c = record c { log = c.log ++ bytes ∷ [] }

-- these records more, at the end of the log
abbrev pub add_records : List (List ℕ) → Content → Content
add_records more c = record c { log = c.log ++ more }

-- the first n records of the log alone
abbrev pub keep_records : ℕ → Content → Content
keep_records n c = record c { log = take n c.log }

-- one more delta
abbrev pub add_delta : List ℕ → Content → Content
add_delta bytes c = record c { deltas = c.deltas ++ bytes ∷ [] }

-- one more checkpoint
abbrev pub add_checkpoint : List ℕ → Content → Content
add_checkpoint bytes c = record c { checkpoints = c.checkpoints ++ bytes ∷ [] }

-- the same of a keeper, whether it tells its content or not
abbrev pub with_record : List ℕ → Keeping → Keeping
with_record bytes k = record k { content = option_map (add_record bytes) k.content; records = k.records + 1 }

abbrev pub with_records : List (List ℕ) → Keeping → Keeping
with_records more k = record k { content = option_map (add_records more) k.content; records = k.records + length more }

abbrev pub cut_to : ℕ → Keeping → Keeping
cut_to n k = record k { content = option_map (keep_records n) k.content; records = n }

abbrev pub with_delta : List ℕ → Keeping → Keeping
with_delta bytes k = record k { content = option_map (add_delta bytes) k.content; deltas = k.deltas + 1 }

abbrev pub with_checkpoint : List ℕ → Keeping → Keeping
with_checkpoint bytes k = record k { content = option_map (add_checkpoint bytes) k.content; checkpoints = k.checkpoints + 1 }

-- the one keeps what the other keeps: the same content, where it is told, and the same lengths. Their counts of faults
-- and of records read may differ
pub record KeepsSame (one other : Keeping) : Type 0 where
  pub content : other.content ≡ one.content
  pub records : other.records ≡ one.records
  pub deltas : other.deltas ≡ one.deltas
  pub checkpoints : other.checkpoints ≡ one.checkpoints

-- ---- why a call fails

-- `Failed` comes only where the count of faults rose; want of memory comes at any time
abbrev pub RoseAt : ℕ → ℕ → KeeperFault → Type 0
RoseAt before now Failed = Rose before now
RoseAt before now NoMemory = ⊤

-- the count of faults never falls, and it rose in a call that failed
pub record IsCaused {A : Type 0} (before now : ℕ) (result : Result A KeeperFault) : Type 0 where
  pub later : before ≤ now
  pub failed : IfErr result (RoseAt before now)

-- ---- the calls

-- an append adds its record. One that failed has added it or not, and without memory nothing is added
abbrev pub AppendDoes : List ℕ → Keeping → Keeping → Result (Unit {0}) KeeperFault → Type 0
AppendDoes bytes old new (Ok done) = KeepsSame (with_record bytes old) new
AppendDoes bytes old new (Err Failed) = KeepsSame old new ⊎ KeepsSame (with_record bytes old) new
AppendDoes bytes old new (Err NoMemory) = KeepsSame old new

-- a cut leaves the first n records, or fails and leaves all
abbrev pub CutDoes : ℕ → Keeping → Keeping → Result (Unit {0}) Fault → Type 0
CutDoes n old new (Ok done) = KeepsSame (cut_to n old) new
CutDoes n old new (Err fault) = KeepsSame old new

-- a delta is put behind the others, or nothing is
abbrev pub PutDeltaDoes : List ℕ → Keeping → Keeping → Result (Unit {0}) KeeperFault → Type 0
PutDeltaDoes bytes old new (Ok done) = KeepsSame (with_delta bytes old) new
PutDeltaDoes bytes old new (Err fault) = KeepsSame old new

-- a checkpoint is stored behind the others, under the number that is answered, or nothing is
abbrev pub StoreDoes : List ℕ → Keeping → Keeping → Result ℕ KeeperFault → Type 0
StoreDoes bytes old new (Ok number) = (number ≡ old.checkpoints) × KeepsSame (with_checkpoint bytes old) new
StoreDoes bytes old new (Err fault) = KeepsSame old new

-- the text that is given is the one in this place of a list of the content
abbrev pub Gives : (Content → List (List ℕ)) → ℕ → Keeping → Result (List ℕ) KeeperFault → Type 0
Gives texts place old (Ok bytes) = Tells old.content (λ c. slice_get (texts c) place ≡ Some bytes)
Gives texts place old (Err fault) = ⊤

-- how many records of the log were read after a read: one more, or as many where it gave none
abbrev pub reads_after : {A : Type 0} → ℕ → Result A KeeperFault → ℕ
reads_after reads (Ok bytes) = one_more reads
reads_after reads (Err fault) = reads
