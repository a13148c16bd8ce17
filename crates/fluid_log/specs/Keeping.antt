-- What a keeper keeps of one document, and what is known of every keeper.
use Rattle.std.specs.Prelude.{◌≡◌, ℕ, List, [], length, Option, true}
use Rattle.std.specs.Str.{is_utf8}
use Rattle.fluid_io.specs.Causes.{Tells}

-- the kept texts of one document
pub record Content : Type 0 where
  -- the records of the log, oldest first
  pub log : List (List ℕ)
  -- what was put as the texts of the first messages, by their numbers from 1
  pub deltas : List (List ℕ)
  -- the texts of the checkpoints, by their numbers from 0
  pub checkpoints : List (List ℕ)

-- nothing is kept yet
abbrev pub nothing_kept : Content
nothing_kept = record { log = []; deltas = []; checkpoints = [] }

-- a keeper: the content where it tells it, and five numbers that are known of all keepers
pub record Keeping : Type 0 where
  pub content : Option Content
  -- how many records, deltas and checkpoints are kept
  pub records : ℕ
  pub deltas : ℕ
  pub checkpoints : ℕ
  -- how many faults were counted, and how many records of the log were read
  pub faults : ℕ
  pub reads : ℕ

-- the three lengths are those of the content
pub record HasLengths (keeping : Keeping) (content : Content) : Type 0 where
  pub records : keeping.records ≡ length content.log
  pub deltas : keeping.deltas ≡ length content.deltas
  pub checkpoints : keeping.checkpoints ≡ length content.checkpoints

-- a keeper that tells its content has the lengths of it
abbrev pub IsSized : Keeping → Type 0
IsSized keeping = Tells keeping.content (HasLengths keeping)

-- bytes that are a text. A keeper keeps bytes of any kind, so of what it keeps this has to be said apart
abbrev pub IsText : List ℕ → Type 0
IsText bytes = is_utf8 bytes ≡ true
