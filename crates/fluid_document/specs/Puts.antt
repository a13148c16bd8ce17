-- What putting messages among a keeper's deltas does, by the answer, and which go there early: those before the ones in memory.
use Rattle.std.specs.Prelude.{◌≡◌, ℕ, ◌+◌, ◌-◌, ◌≤◌, ⊤, List, Result, Ok, Err, IfErr}
use Rattle.fluid_types.specs.declared.messages.Message.{Message}
use Rattle.fluid_log.specs.Keeping.{Keeping}
use Rattle.fluid_deltas.specs.declared.pages.TheConstants.{PAGE, RESIDENT}
use Rattle.fluid_deltas.specs.declared.fault.DeltaFault.{DeltaFault}
use Rattle.fluid_deltas.specs.declared.fault.DeltaFault.TheVariants as deltas
use Rattle.fluid_deltas.specs.Ranges.{IsNoted}
use Rattle.fluid_deltas.specs.Flushes.{Puts, PutsPrefix}
use Rattle.fluid_document.specs.declared.fault.FlushFault.{FlushFault}
use Rattle.fluid_document.specs.declared.fault.FlushFault.TheVariants.{DeltaFailed, NoMemory}

-- a fault of the keeper has the counts that were read round the call that failed
abbrev pub IsFlushFault : (before now : ℕ) → FlushFault → Type 0
IsFlushFault before now (DeltaFailed note) = IsNoted before now note
IsFlushFault before now NoMemory = ⊤

-- all were put, or after a fault some from the front
abbrev pub PutsUpTo : List Message → Keeping → Keeping → Result (Unit {0}) FlushFault → Type 0
PutsUpTo messages old new (Ok done) = Puts messages old new
PutsUpTo messages old new (Err fault) = PutsPrefix messages old new

-- a call that puts these messages
pub record Flushes (messages : List Message) (old new : Keeping) (result : Result (Unit {0}) FlushFault) : Type 0 where
  pub later : old.faults ≤ new.faults
  pub reads : new.reads ≡ old.reads
  pub cause : IfErr result (IsFlushFault old.faults new.faults)
  pub puts : PutsUpTo messages old new result

-- ---- messages that are put early

-- as many as the keeper lacked of the first messages, so many of them
abbrev pub PutsFirst : ℕ → Keeping → Keeping → Type 0
PutsFirst before old new = new.deltas ≡ old.deltas + (before - old.deltas)

-- the same behind a call that put some before
abbrev pub PutsEarly : (before now : ℕ) → Keeping → Keeping → Type 0
PutsEarly before now old new = (before ≤ now) × PutsFirst now old new

-- of so many entries no delta is put above their number less the messages that are in memory without a page
abbrev pub PutsFew : (entered : ℕ) → Keeping → Keeping → Type 0
PutsFew entered old new = new.deltas ≤ old.deltas + (entered - (RESIDENT - PAGE) - old.deltas)

-- ---- for private clauses: the same answer of the messages in memory

abbrev pub of_flush : FlushFault → DeltaFault
of_flush (DeltaFailed note) = deltas.DeltaFailed note
of_flush NoMemory = deltas.NoMemory

abbrev pub unflushed : Result (Unit {0}) FlushFault → Result (Unit {0}) DeltaFault
unflushed (Ok done) = Ok done
unflushed (Err fault) = Err (of_flush fault)
