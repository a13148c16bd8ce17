-- The messages of an order, as they are pushed one by one.
use Rattle.std.specs.Prelude.{◌≡◌, ℕ, ◌+◌, ◌-◌, ◌≤◌, List, ◌++◌, length, take, drop, map, All, Ok, refl}
use Rattle.std.specs.Coded.{Coded, code_by, coded×, coded_ℕ, coded_list}
use Rattle.fluid_types.specs.declared.messages.Message.{Message}
use Rattle.fluid_types.specs.contracts.messages.Message as message
use Rattle.fluid_types.specs.Printed.{message_printed}
use Rattle.fluid_types.specs.Messages.{message_spelled}
use Rattle.fluid_types.specs.Order.{AreNumberedFrom, AreFirst}
use Rattle.fluid_log.specs.declared.keeper.TheConstants.{LONGEST_KEPT}
use Rattle.fluid_log.specs.Keeping.{Content, IsText}
use Rattle.fluid_deltas.specs.declared.pages.TheConstants.{PAGE, RESIDENT}

pub record Pushed : Type 0 where
  -- how many messages stand before those in memory; their texts are the first deltas of a keeper
  pub before : ℕ
  -- the messages in memory, in the order of their numbers
  pub held : List Message
  -- for how many more there is room already
  pub spare : ℕ

-- how many messages were pushed
abbrev pub pushed : Pushed → ℕ
pushed d = d.before + length d.held

-- a message whose text a keeper takes, and which is read back from it as it was
pub record IsKeepable (m : Message) : Type 0 where
  pub short : length (message_printed m) ≤ LONGEST_KEPT
  pub read_back : message_spelled (message_printed m) ≡ Ok m

-- what holds of the messages in memory, behind the first `before` and up to the number `last`
pub record AreInOrder (before last : ℕ) (held : List Message) : Type 0 where
  pub numbered : AreNumberedFrom (before + 1) held
  pub keepable : All IsKeepable held
  pub counted : last ≡ before + length held

-- the most pages are in memory, and all are full
abbrev pub IsFull : Pushed → Type 0
IsFull d = length d.held ≡ RESIDENT

-- the oldest page of those in memory was dropped: its messages stand before them now
pub record DropsPage (old new : Pushed) : Type 0 where
  pub before : new.before ≡ old.before + PAGE
  pub held : new.held ≡ drop PAGE old.held
  pub spare : new.spare ≡ old.spare

-- the messages `from` up to, but without, `to` of an order
abbrev pub slice : List Message → (from to : ℕ) → List Message
slice order from to = take (to - from) (drop (from - 1) order)

-- ---- the whole order

-- the deltas are the texts of the first messages of the order
pub record AreDeltasOf (order : List Message) (deltas : List (List ℕ)) : Type 0 where
  pub rest : List (List ℕ)
  pub first : map message_printed order ≡ deltas ++ rest
  pub texts : All IsText deltas

-- the messages in memory are those of the order behind its first `before` ones, as far as they were pushed
pub record ArePartOf (d : Pushed) (order : List Message) : Type 0 where
  -- the messages before those in memory, and those that aren't pushed yet
  pub first : List Message
  pub behind : List Message
  pub splits : order ≡ first ++ (d.held ++ behind)
  pub before : length first ≡ d.before
  -- every message of the order can be kept, and they are numbered from 1
  pub numbered : AreFirst order
  pub keepable : All IsKeepable order

-- a keeper's deltas and the messages in memory behind them are of this order
pub record StandIn (d : Pushed) (order : List Message) (content : Content) : Type 0 where
  pub part : ArePartOf d order
  pub deltas : AreDeltasOf order content.deltas
  -- the deltas reach up to those in memory
  pub reached : d.before ≤ length content.deltas

-- together they are the whole order: each of its messages was pushed
pub record StandFor (d : Pushed) (order : List Message) (content : Content) : Type 0 where
  pub stand : StandIn d order content
  pub whole : length order ≡ pushed d

-- as a triple of its parts
abbrev pub pushed_code : Coded Pushed
pushed_code =
    code_by (ℕ × (List Message × ℕ)) (coded× coded_ℕ (coded× (coded_list message.the_row.coded) coded_ℕ)) (λ d. (d.before, (d.held, d.spare)))
    (λ parts. record { before = parts.0; held = parts.1.0; spare = parts.1.1 }) (λ _. refl)
