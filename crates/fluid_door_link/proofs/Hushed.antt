-- What a store does it does too as far as it is told.
use Rattle.std.proofs.Common.{◌≡◌, ◌⊎◌, inl, inr, ℕ, ◌<◌, ◌^◌, Bool, true, false, List, length, Option, Some, None, option_map, Result, Ok, Err, refl, sym, subst, ◌∙◌}
use Rattle.std.specs.FinMap.{insert}
use Rattle.fluid_store.specs.Held.{Held, IsShort}
use Rattle.fluid_store.specs.Storing.{Storing, Gets, Puts}
use Rattle.fluid_store.specs.declared.fault.ObjectFault.{ObjectFault}
use Rattle.fluid_store.specs.declared.fault.ObjectFault.TheVariants.{Failed, NoMemory}
use Rattle.fluid_store.proofs.Short.{short_more}
use Rattle.fluid_door_link.specs.Hushing.{hushed, IsShortAsTold}

pub puts_hushed : (may : Bool) (id bytes : List ℕ) (old new : Storing) (result : Result (Unit {0}) ObjectFault) → Puts id bytes old new result → Puts id bytes (hushed may old) (hushed may new) result
puts_hushed true id bytes old new result puts = puts
puts_hushed false id bytes old new (Ok done) puts = record { gets = puts.gets; later = puts.later; does = refl }
puts_hushed false id bytes old new (Err Failed) puts = record { gets = puts.gets; later = puts.later; does = (puts.does.0, inl refl) }
puts_hushed false id bytes old new (Err NoMemory) puts = record { gets = puts.gets; later = puts.later; does = refl }

same_held : (a b : Held) → ◌≡◌ {A = Option Held} (Some a) (Some b) → a ≡ b
same_held a b same = cc

no_held : (a : Held) → ◌≡◌ {A = Option Held} None (Some a) → ⊥
no_held a same = cc

-- what is told of at first
none_short : (store : Storing) → IsShortAsTold (record store { content = None })
none_short store held is = absurd (no_held held is)

pub short_told : (may : Bool) (store : Storing) → (may ≡ true → IsShortAsTold store) → IsShortAsTold (hushed may store)
short_told true store short = short refl
short_told false store short = none_short store

short_same : (old new : Storing) → new.content ≡ old.content → IsShortAsTold old → IsShortAsTold new
short_same old new same short held is = short held (sym same ∙ is)

short_put : (id bytes : List ℕ) (old new : Storing) → length bytes < 2 ^ 53 → new.content ≡ option_map (λ held. insert held id bytes) old.content → IsShortAsTold old → IsShortAsTold new
short_put id bytes old new few put short held is = by old.content refl (sym put ∙ is)
  where
    by : (o : Option Held) → old.content ≡ o → option_map (λ k. insert k id bytes) o ≡ Some held → IsShort held
    by None e k = absurd (no_held held k)
    by (Some kept) e k = subst IsShort (same_held (insert kept id bytes) held k) (short_more kept id bytes (short kept e) few)

pub short_puts : (id bytes : List ℕ) (old new : Storing) (result : Result (Unit {0}) ObjectFault) → length bytes < 2 ^ 53 → Puts id bytes old new result → IsShortAsTold old → IsShortAsTold new
short_puts id bytes old new (Ok done) few puts short = short_put id bytes old new few puts.does short
short_puts id bytes old new (Err Failed) few puts short = by puts.does.1
  where
    by : (new.content ≡ old.content) ⊎ (new.content ≡ option_map (λ held. insert held id bytes) old.content) → IsShortAsTold new
    by (inl same) = short_same old new same short
    by (inr put) = short_put id bytes old new few put short
short_puts id bytes old new (Err NoMemory) few puts short = short_same old new puts.does short
