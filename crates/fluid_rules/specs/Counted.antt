-- Which entries count against the limits of a document: on its entries, and on the clients that are joined at once.
use Rattle.std.specs.Prelude.{ℕ, ◌-◌, Bool, true, false, not, ◌&&◌, nat_le, length, count_by}
use Rattle.fluid_types.specs.Ledger.{Ledger}
use Rattle.fluid_types.specs.declared.entries.Raw.{Raw}
use Rattle.fluid_types.specs.declared.entries.Raw.TheVariants.{Join, Leave, Submit, Report}
use Rattle.fluid_rules.specs.Rules.{is_joined, joined}

-- joins and submissions count, whatever their verdict; leaves and reports don't
abbrev pub is_counted : Raw → Bool
is_counted (Join id scopes detail moment) = true
is_counted (Leave id moment) = false
is_counted (Submit id submission moment) = true
is_counted (Report summary found moment) = false

-- how many entries of a ledger count
unfoldable pub counted : Ledger → ℕ
counted l = count_by (λ entry. is_counted entry.0) l

-- a join of an id that isn't joined
abbrev pub is_new_client : Ledger → Raw → Bool
is_new_client l (Join id scopes detail moment) = not (is_joined l id)
is_new_client l (Leave id moment) = false
is_new_client l (Submit id submission moment) = false
is_new_client l (Report summary found moment) = false

-- ---- at limits

-- as many entries count as may, and this one counts
abbrev pub is_full : ℕ → Ledger → Raw → Bool
is_full entries l raw = is_counted raw && nat_le entries (counted l)

-- as many clients are joined as may be, and this is a new one
abbrev pub has_too_many_clients : ℕ → Ledger → Raw → Bool
has_too_many_clients clients l raw = is_new_client l raw && nat_le clients (length (joined l))

-- how many more entries may count
abbrev pub room : ℕ → Ledger → ℕ
room entries l = entries - counted l
