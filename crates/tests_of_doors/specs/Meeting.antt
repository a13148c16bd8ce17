-- Two callers of a document who meet.
use Rattle.std.specs.Prelude.{◌≡◌, List, ◌++◌}
use Rattle.fluid_types.specs.declared.entries.Raw.{Raw}
use Rattle.fluid_types.specs.Ledger.{raws}
use Rattle.fluid_turn.specs.declared.view.Numbered.{Numbered}
use Rattle.fluid_turn.specs.Entries.{made_by}
use Rattle.fluid_lane.specs.declared.steps.Step.{Step}
use Rattle.fluid_lane.specs.Steps.{ledger}
use Rattle.fluid_doors.specs.Laws.{IsLegalHistory}
use Rattle.fluid_doors.specs.Passing.{APass}

-- the same pass has entered these entries more, in their order
pub record HasEntered (raw_entries : List Raw) (p q : APass) : Type 0 where
  pub turn : q.turn ≡ p.turn
  pub number : q.number ≡ p.number
  pub mine : raws (ledger q.mine) ≡ raws (ledger p.mine) ++ raw_entries

-- what was seen is a legal ledger, in which each of two passes has the steps that it entered, and no others
pub record HasBoth (p q : APass) (seen : List (Numbered Step)) : Type 0 where
  pub legal : IsLegalHistory seen
  pub first : made_by p.number seen ≡ p.mine
  pub second : made_by q.number seen ≡ q.mine
