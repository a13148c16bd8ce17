use Rattle.std.proofs.Common.{◌≡◌, ℕ, zero, suc, ◌-◌, ◌<◌, List, [], ◌∷◌, length, get_or, refl, sym, ap, arith, ◌∙◌}
use Rattle.fluid_table.specs.Table.{byte_order}
use Rattle.fluid_table.specs.Keyed.{IsAt, table_of}
use Rattle.fluid_table.proofs.Maps.{from_sorted_nothing}
use Rattle.fluid_table.proofs.KeyedPlaces.{remove_there, in_order_removed, value_read}
use Rattle.fluid_lanes.specs.Rows.{name_of, value_of}
use Rattle.fluid_lanes.proofs.rows.Rows.take_last.Goals as goal

-- there are no rows
nothing : {A : Type 0} (xs : List A) → length xs ≡ 0 → xs ≡ []
nothing [] is = refl
nothing (x ∷ xs) is = absurd (omega (arith, is))

-- what is read in a place doesn't depend on what is given for a place beyond
read_any : {A : Type 0} (xs : List A) (i : ℕ) (a b : A) → i < length xs → get_or xs i a ≡ get_or xs i b
read_any [] i a b lt = absurd (omega (arith, lt))
read_any (x ∷ xs) zero a b lt = refl
read_any (x ∷ xs) (suc i) a b lt = read_any xs i a b (omega (arith, lt))

-- the row in this place has its own name
at_own : {V : Type 0} (rows : List (List ℕ × V)) (i : ℕ) (row : List ℕ × V) → i < length rows → row ≡ get_or rows i row → IsAt name_of rows (name_of row) i
at_own rows i row lt read = record { in_range = lt; has_key = λ d. ap name_of (read_any rows i d row lt ∙ sym read) }

below : (count size : ℕ) → count ≡ size → (count ≡ 0 → ⊥) → count - 1 < size
below zero size is some = absurd (some refl)
below (suc count) size is some = omega (arith, is)

pub returns-then-count-eq0 : goal.returns-then-count-eq0
returns-then-count-eq0 g c =
    let none = nothing c.self.inside.rows.items (sym (c.len-count.ensures ∙ c.self.inside.rows.ok.0) ∙ c.if-count-eq0.true) in
    (sym (ap (λ t. t.values) c.self.view_is) ∙ ap (table_of name_of value_of) none ∙ from_sorted_nothing byte_order, refl)

pub invariant_of-self : goal.invariant_of-self
invariant_of-self g c =
    let lt = below c.len-count.result (length c.self.inside.rows.items) (c.len-count.ensures ∙ c.self.inside.rows.ok.0) c.if-count-eq0.false in
    let is = at_own c.self.inside.rows.items (c.len-count.result - 1) c.remove.result lt c.remove.ensures.value in
    rw c.remove.ensures.items (in_order_removed name_of value_of c.self.inside.rows.items c.self.invariant (name_of c.remove.result) (c.len-count.result - 1) is c.remove.result)

pub returns : goal.returns
returns g c =
    let lt = below c.len-count.result (length c.self.inside.rows.items) (c.len-count.ensures ∙ c.self.inside.rows.ok.0) c.if-count-eq0.false in
    let is = at_own c.self.inside.rows.items (c.len-count.result - 1) c.remove.result lt c.remove.ensures.value in
    rw (c.remove.ensures.items, ← c.self.view_is) (
      value_read name_of value_of c.self.inside.rows.items c.self.invariant (name_of c.remove.result) (c.len-count.result - 1) is c.remove.result c.remove.ensures.value,
      remove_there name_of value_of c.self.inside.rows.items c.self.invariant (name_of c.remove.result) (c.len-count.result - 1) is c.remove.result,
    )
