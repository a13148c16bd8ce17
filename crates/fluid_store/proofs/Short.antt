-- Objects that are short.
use Rattle.std.proofs.Common.{◌≡◌, ℕ, ◌^◌, ◌<◌, Bool, true, false, cond, List, length, Some, None, sym, subst, ◌∙◌}
use Rattle.std.specs.Ordering.{eq_by_cmp}
use Rattle.std.specs.FinMap.{empty, get, insert, get-empty, get-insert}
use Rattle.fluid_store.specs.Held.{byte_order, Held, IsShort}
use Rattle.fluid_store.proofs.Maps.{byte_order_total}

pub short_none : IsShort empty
short_none id bytes is = let none : None ≡ Some bytes = sym (get-empty byte_order id) ∙ is in cc

pub short_more : (held : Held) (id bytes : List ℕ) → IsShort held → length bytes < 2 ^ 53 → IsShort (insert held id bytes)
short_more held id bytes short few other found is = by_key (eq_by_cmp byte_order other id) (sym (get-insert byte_order_total held id bytes other) ∙ is)
  where
    by_key : (b : Bool) → cond b (Some bytes) (get held other) ≡ Some found → length found < 2 ^ 53
    by_key true e = let same : bytes ≡ found = cc in subst (λ l. length l < 2 ^ 53) same few
    by_key false e = short other found e
