-- The order of a ledger that a log takes is one that a container's link may tell.
use Rattle.std.specs.Prelude.{◌≤◌, length, All}
use Rattle.fluid_types.specs.Ledger.{Ledger, order}
use Rattle.fluid_rules.specs.Rules.{IsLegal}
use Rattle.fluid_types.specs.Forms.{largest}
use Rattle.fluid_document.specs.Kept.{IsLoggable}
use Rattle.fluid_loader.specs.Link.{IsOrder}

-- its messages are numbered one by one from 1, each is read back from its text, which is UTF-8, as itself, and none refers to one
-- behind it
abbrev pub OrdersAreTold : Type 0
OrdersAreTold = (l : Ledger) → IsLegal l → length l ≤ largest → All IsLoggable l → IsOrder (order l)
