-- The documents that are open, by name, and the shelves from which their keepers are out.
use Rattle.std.specs.Prelude.{◌≡◌, ℕ, ◌≤◌, List, is_some, refl}
use Rattle.std.specs.Coded.{Coded, code_by, coded×}
use Rattle.std.specs.FinMap.{empty, get, insert, len}
use Rattle.fluid_table.specs.Table.{Values, values_code}
use Rattle.fluid_log.specs.declared.keeper.TheConstants.{LONGEST_KEPT}
use Rattle.fluid_log.specs.Shelving.{Shelving}
use Rattle.fluid_log.specs.Codes.{shelving_code}
use Rattle.fluid_rules.specs.declared.limits.Limits.{Limits}
use Rattle.fluid_rules.specs.contracts.limits.Limits as limits
use Rattle.fluid_lane.specs.Codes.{standing_code}
use Rattle.fluid_lane.specs.Standing.{Standing}
use Rattle.fluid_opening.specs.declared.opening.TheConstants.{MOST_DOCUMENTS}

pub record Opened : Type 0 where
  pub shelving : Shelving
  -- the lane of each open document
  pub lanes : Values Standing
  -- the limits of each document
  pub limits : Limits

abbrev pub opened_code : Coded Opened
opened_code =
    code_by (Shelving × (Values Standing × Limits)) (coded× shelving_code (coded× (values_code Standing standing_code) limits.the_row.coded))
    (λ o. (o.shelving, (o.lanes, o.limits))) (λ p. record { shelving = p.0; lanes = p.1.0; limits = p.1.1 }) (λ _. refl)

-- no document is open
abbrev pub nothing_open : Shelving → Limits → Opened
nothing_open shelving limits = record { shelving = shelving; lanes = empty; limits = limits }

-- the same, with another lane of this document
abbrev pub with_lane : Opened → List ℕ → Standing → Opened
with_lane o name lane = record o { lanes = insert o.lanes name lane }

-- the keepers that are out are those of the open documents
abbrev pub AreShelved : Values Standing → Shelving → Type 0
AreShelved lanes shelving = (name : List ℕ) → is_some (get shelving.out name) ≡ is_some (get lanes name)

-- what always holds of them
pub record AreOut (o : Opened) : Type 0 where
  pub out : AreShelved o.lanes o.shelving
  -- and no more are open than may be
  pub few : len o.lanes ≤ MOST_DOCUMENTS
  pub small : o.limits.bytes ≤ LONGEST_KEPT
