-- A front: what one `accept`, and what one `station`, does, by its answer.
use Rattle.std.specs.Prelude.{◌≡◌, ℕ, ◌+◌, ◌≤◌, Option, Some, None, Result, Ok, Err}
use Rattle.std.specs.Option.{option_map}
use Rattle.fluid_io.specs.Causes.{Rose, Tells, one_more}
use Rattle.fluid_front.specs.declared.front.FrontFault.{FrontFault}
use Rattle.fluid_front.specs.declared.front.FrontFault.TheVariants.{Failed, NoMemory}

pub record Fronting : Type 0 where
  -- how many wires it has left to give, where it tells them
  pub left : Option ℕ
  -- how many wires it gave, how often it answered that it gives no more, and how many faults it counted
  pub given : ℕ
  pub nones : ℕ
  pub faults : ℕ

-- no count falls
pub record CountsStay (old new : Fronting) : Type 0 where
  pub given : old.given ≤ new.given
  pub nones : old.nones ≤ new.nones
  pub faults : old.faults ≤ new.faults

-- no wire was given and no end was told
pub record GivesNothing (old new : Fronting) : Type 0 where
  pub left : new.left ≡ old.left
  pub given : new.given ≡ old.given
  pub nones : new.nones ≡ old.nones

-- one wire was given
pub record GivesWire (old new : Fronting) : Type 0 where
  pub left : old.left ≡ option_map (λ left. left + 1) new.left
  pub given : new.given ≡ one_more old.given
  pub nones : new.nones ≡ old.nones

-- there is no wire left
pub record GivesNoMore (old new : Fronting) : Type 0 where
  pub left : new.left ≡ old.left
  pub ended : Tells old.left (λ left. left ≡ 0)
  pub given : new.given ≡ old.given
  pub nones : new.nones ≡ one_more old.nones

pub record FrontFails (old new : Fronting) : Type 0 where
  pub same : GivesNothing old new
  pub rose : Rose old.faults new.faults

abbrev pub Accepts : {W : Type 0} → Fronting → Fronting → Result (Option W) FrontFault → Type 0
Accepts old new (Ok (Some wire)) = GivesWire old new
Accepts old new (Ok None) = GivesNoMore old new
Accepts old new (Err Failed) = FrontFails old new
Accepts old new (Err NoMemory) = GivesNothing old new

-- a station takes no wire, and where none can be had the front counts its fault
abbrev pub Opens : {S : Type 0} → Fronting → Fronting → Result S FrontFault → Type 0
Opens old new (Ok station) = new ≡ old
Opens old new (Err Failed) = FrontFails old new
Opens old new (Err NoMemory) = new ≡ old
