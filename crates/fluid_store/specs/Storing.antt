-- What is known of a store, and what one call does to it.
use Rattle.std.specs.Prelude.{◌≡◌, ◌⊎◌, ℕ, ◌+◌, ◌^◌, ◌<◌, ◌≤◌, List, Option, Result, Ok, Err, ⊤}
use Rattle.std.specs.Option.{option_map}
use Rattle.std.specs.FinMap.{get, insert}
use Rattle.fluid_io.specs.Causes.{Rose, Tells}
use Rattle.fluid_store.specs.Held.{Held}
use Rattle.fluid_store.specs.declared.fault.ObjectFault.{ObjectFault}
use Rattle.fluid_store.specs.declared.fault.ObjectFault.TheVariants.{Failed, NoMemory}

-- a store: what it holds, where it tells it, and its counts of faults and of gets
pub record Storing : Type 0 where
  pub content : Option Held
  pub faults : ℕ
  pub gets : ℕ

-- one more get was counted. A count near the end of its type may stand still
pub record IsCounted (before now : ℕ) : Type 0 where
  pub later : before ≤ now
  pub most : now ≤ before + 1
  pub exact : before < 2 ^ 63 → now ≡ before + 1

-- what a get says, by its answer
abbrev pub GetSays : List ℕ → Storing → Storing → Result (Option (List ℕ)) ObjectFault → Type 0
GetSays id old new (Ok found) = Tells old.content (λ held. found ≡ get held id)
GetSays id old new (Err Failed) = Rose old.faults new.faults
GetSays id old new (Err NoMemory) = ⊤

-- a get: it is counted, and changes nothing that is held
pub record Gets (id : List ℕ) (old new : Storing) (result : Result (Option (List ℕ)) ObjectFault) : Type 0 where
  pub content : new.content ≡ old.content
  pub gets : IsCounted old.gets new.gets
  pub later : old.faults ≤ new.faults
  pub says : GetSays id old new result

-- these bytes stand under the id, and all else is as it was
abbrev pub IsPut : List ℕ → List ℕ → Storing → Storing → Type 0
IsPut id bytes old new = new.content ≡ option_map (λ held. insert held id bytes) old.content

-- what a put did, by its answer: the one call that may do it and fail
abbrev pub PutDoes : List ℕ → List ℕ → Storing → Storing → Result (Unit {0}) ObjectFault → Type 0
PutDoes id bytes old new (Ok done) = IsPut id bytes old new
PutDoes id bytes old new (Err Failed) = Rose old.faults new.faults × ((new.content ≡ old.content) ⊎ IsPut id bytes old new)
PutDoes id bytes old new (Err NoMemory) = new.content ≡ old.content

-- a put: it is no get
pub record Puts (id bytes : List ℕ) (old new : Storing) (result : Result (Unit {0}) ObjectFault) : Type 0 where
  pub gets : new.gets ≡ old.gets
  pub later : old.faults ≤ new.faults
  pub does : PutDoes id bytes old new result
