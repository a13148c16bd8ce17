-- What an act does to the store of objects, whether it tells what it holds or not.
use Rattle.std.specs.Prelude.{◌≡◌, ◌⊎◌, ◌≤◌, false, Result, Ok, Err}
use Rattle.std.specs.Option.{option_map}
use Rattle.fluid_store.specs.Storing.{Storing}
use Rattle.fluid_store.specs.declared.fault.StoreFault.TheVariants as store
use Rattle.fluid_voice.specs.declared.actions.Act.{Act}
use Rattle.fluid_voice.specs.declared.ends.ActEnd.{ActEnd}
use Rattle.fluid_voice.specs.Ends.{held_behind}
use Rattle.fluid_ends.specs.declared.fault.TalkFault.{TalkFault}
pub use Rattle.fluid_ends.specs.Asking.{is_asked_of_store, IsClash, IsStoreCause}
use Rattle.fluid_ends.specs.declared.fault.TalkFault.TheVariants.{Store}

-- what it holds behind an act: an object that is put. A put that the store failed may have been made all the same
abbrev pub HoldsBy : Act → Storing → Storing → Result ActEnd TalkFault → Type 0
HoldsBy act old new (Ok end) = new.content ≡ option_map (λ held. held_behind held act) old.content
HoldsBy act old new (Err (Store (store.StoreFailed note))) =
    (new.content ≡ old.content) ⊎ (new.content ≡ option_map (λ held. held_behind held act) old.content)
HoldsBy act old new (Err fault) = new.content ≡ old.content

-- what an act does to the store, whether it tells what it holds or not
pub record OnStore (act : Act) (old new : Storing) (result : Result ActEnd TalkFault) : Type 0 where
  pub holds : HoldsBy act old new result
  pub later : old.faults ≤ new.faults
  pub untouched : is_asked_of_store act ≡ false → new ≡ old
