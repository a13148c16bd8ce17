use Rattle.std.proofs.Common.{◌≡◌, ◌∙◌, refl, ap, sym, subst}
use Rattle.std.specs.Prelude.{IsTrue}
use Rattle.std.specs.FinMap.{from_sorted, empty, is_sorted}
use Rattle.fluid_store.specs.Held.{byte_order, IsShort}
use Rattle.fluid_store.proofs.Maps.{from_sorted_nothing}
use Rattle.fluid_store.proofs.Short.{short_none}
use Rattle.fluid_store.proofs.memory.MemoryObjects.new.Goals as goal

pub returns : goal.returns
returns c =
    let none : from_sorted {R = byte_order} c.new.result.entries ≡ empty = ap (from_sorted {R = byte_order}) c.new.ensures.empty ∙ from_sorted_nothing in
    λ i. record { held = none i; gets = 0; plan = c.new-2.ensures i }

pub invariant_of-result : goal.invariant_of-result
invariant_of-result c =
    let none : from_sorted {R = byte_order} c.new.result.entries ≡ empty = ap (from_sorted {R = byte_order}) c.new.ensures.empty ∙ from_sorted_nothing in
    (subst (λ es. IsTrue (is_sorted byte_order es)) (sym c.new.ensures.empty) refl, subst IsShort (sym none) short_none)
