-- Objects that are put one after the other, up to the first clash.
use Rattle.std.specs.Prelude.{◌≡◌, ℕ, List, [], ◌∷◌, Option, Some, None, Result, Ok, Err, ⊤, bytes_eq, if◌then◌else◌}
use Rattle.std.specs.FinMap.{get, insert}
use Rattle.fluid_io.specs.Causes.{Tells}
use Rattle.fluid_store.specs.Held.{Held}
use Rattle.fluid_store.specs.declared.listing.StoredObject.{StoredObject}
use Rattle.fluid_store.specs.declared.fault.StoreFault.{StoreFault}
use Rattle.fluid_store.specs.declared.fault.StoreFault.TheVariants.{Clash}

-- an object that is to be put, and other bytes that are held under its id
pub record Clashing : Type 0 where
  pub id : List ℕ
  pub kept : List ℕ
  pub bytes : List ℕ

-- what is held then, the objects that were put or found, and the clash that ended it, where one did
pub record Putting : Type 0 where
  pub held : Held
  pub put : List StoredObject
  pub clash : Option Clashing

-- one more was put before the others
abbrev pub behind : StoredObject → Putting → Putting
behind o later = record later { put = o ∷ later.put }

-- the first one, by what is held under its id, and then the others
abbrev pub put_first : Held → StoredObject → Option (List ℕ) → Putting → Putting
put_first held o None later = behind o later
put_first held o (Some kept) later =
    if bytes_eq kept o.bytes then behind o later
    else record { held = held; put = []; clash = Some (record { id = o.id; kept = kept; bytes = o.bytes }) }

-- these objects put into what is held
abbrev pub putting : Held → List StoredObject → Putting
putting held [] = record { held = held; put = []; clash = None }
putting held (o ∷ os) = put_first held o (get held o.id) (putting (insert held o.id o.bytes) os)

-- this is what a store holds behind a call that put them, by its answer: at Ok there was no clash, and a clash is the first. What
-- other faults leave is no more than some of them
abbrev pub IsPutting : {A : Type 0} → Putting → Option Held → Result A StoreFault → Type 0
IsPutting p new (Ok done) = (p.clash ≡ None) × Tells new (λ held. held ≡ p.held)
IsPutting p new (Err (Clash id kept bytes)) =
    (p.clash ≡ Some (record { id = id; kept = kept; bytes = bytes })) × Tells new (λ held. held ≡ p.held)
IsPutting p new (Err fault) = ⊤
