-- How deep the items of a checkpoint's lists are.
use Rattle.std.proofs.Common.{ℕ, ◌≤◌, List, [], ◌∷◌, ◌++◌, map, Option, Some, None, option_map, IfSome, arith, All}
use Rattle.std.proofs.lemmas.List.Elements.{All-head, All-tail}
use Rattle.fluid_json.specs.Tree.{Tree, text, trees, members, depth, trees_depth, members_depth}
use Rattle.fluid_types.specs.Printed.{Row as Pair, or_null, row_if_any, scope_words, message_rows, message_tree}
use Rattle.fluid_types.specs.declared.fault.Field.{Field}
use Rattle.fluid_types.specs.declared.messages.Message.{Message}
use Rattle.fluid_clients.specs.declared.table.Row.{Row}
use Rattle.fluid_codec.specs.Laws.{IsNested, IsMessage}
use Rattle.fluid_checkpoint.specs.Text.{client_tree}

pub list_shallow : {X : Type 0} (f : X → Tree) (most : ℕ) (xs : List X) → All (λ x. depth (f x) ≤ most) xs → trees_depth (trees (map f xs)) ≤ most
list_shallow f most [] all = omega arith
list_shallow f most (x ∷ xs) all = omega (arith, All-head (λ y. depth (f y) ≤ most) x xs all, list_shallow f most xs (All-tail (λ y. depth (f y) ≤ most) x xs all))

pub client_shallow : (client : List ℕ × Row) → depth (client_tree client) ≤ 2
client_shallow (id, row) = omega (arith, list_shallow text 0 (scope_words row.scopes) (λ k d lt. omega arith))

-- ---- messages

abbrev AreShallow : List Pair → Type 0
AreShallow [] = Unit {0}
AreShallow (r ∷ rs) = (depth r.1 ≤ 99) × AreShallow rs

members_shallow : (rs : List Pair) → AreShallow rs → members_depth (members rs) ≤ 99
members_shallow [] h = omega arith
members_shallow (r ∷ rs) h = omega (arith, h.0, members_shallow rs h.1)

append_shallow : (rs more : List Pair) → AreShallow rs → AreShallow more → AreShallow (rs ++ more)
append_shallow [] more h g = g
append_shallow (r ∷ rs) more h g = (h.0, append_shallow rs more h.1 g)

any_shallow : (f : Field) (o : Option Tree) → IfSome o (IsNested 99) → AreShallow (row_if_any f o)
any_shallow f None h = tt
any_shallow f (Some t) h = (h.shallow, tt)

text_shallow : (f : Field) (o : Option (List ℕ)) → AreShallow (row_if_any f (option_map text o))
text_shallow f None = tt
text_shallow f (Some s) = (omega arith, tt)

name_shallow : (o : Option (List ℕ)) → depth (or_null text o) ≤ 99
name_shallow None = omega arith
name_shallow (Some id) = omega arith

pub message_shallow : (m : Message) → IsMessage m → depth (message_tree m) ≤ 100
unfolding message_rows
message_shallow m is =
    let h = members_shallow (message_rows m) (
      name_shallow m.client,
      (
        omega arith,
        (
          is.contents.shallow,
          append_shallow (row_if_any _ (option_map text m.system)) _ (text_shallow _ m.system)
              (append_shallow (row_if_any _ m.metadata) _ (any_shallow _ m.metadata is.metadata) (omega arith, (omega arith, (omega arith, (omega arith, (omega arith, tt)))))),
        ),
      ),
    ) in
    omega (arith, h)
