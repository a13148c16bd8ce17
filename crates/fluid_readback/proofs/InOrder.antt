-- A value that was read is in order, nested as deep as its tokens, and not longer than them.
use Rattle.std.proofs.Common.{◌≡◌, ℕ, suc, ◌+◌, ◌-◌, ◌≤◌, max, List, length, true, false, Option, Some, None, option_map, option_and_then, Ordering, Less, Equal, Greater, refl, ap, ◌∙◌, arith}
use Rattle.std.specs.Prelude.{⊤}
use Rattle.std.specs.Ordering.{nat_cmp, match_ordering, ordering_reverse}
use Rattle.std.specs.Cmp.Lexicographic.{slice_cmp}
use Rattle.std.proofs.lemmas.Cmp.{nat_list_cmp_total}
use Rattle.json.specs.Print.{quoted}
use Rattle.json.specs.Json as json
use Rattle.json.specs.Tree as tree
use Rattle.serde_json.specs.Data as serde
use Rattle.serde_json.specs.Read.{number_of, of_json, of_items, of_members}
use Rattle.fluid_readback.proofs.Parsed.{json_size, items_size, members_size}
use Rattle.fluid_readback.proofs.Numerals.{number_size, IsNegative, IsNumber, number_short}

-- ---- the bytes of a value

abbrev mutual
  pub data_size : serde.Data → ℕ
  data_size serde.null = 4
  data_size (serde.boolean true) = 4
  data_size (serde.boolean false) = 5
  data_size (serde.number n) = number_size n
  data_size (serde.string s) = length (quoted s)
  data_size (serde.array ds) = 2 + data_items_size ds
  data_size (serde.object ms) = 2 + data_members_size ms

  pub data_items_size : serde.Items → ℕ
  data_items_size serde.no_items = 0
  data_items_size (serde.item d ds) = data_size d + data_items_size ds

  pub data_members_size : serde.Members → ℕ
  data_members_size serde.no_members = 0
  data_members_size (serde.member k d ms) = length (quoted k) + (data_size d + data_members_size ms)

-- ---- keys in byte order, each once

abbrev pub IsBelowEach : List ℕ → serde.Members → Type 0
IsBelowEach k serde.no_members = ⊤
IsBelowEach k (serde.member l d ms) = (slice_cmp nat_cmp k l ≡ Less) × IsBelowEach k ms

abbrev mutual
  pub IsSorted : serde.Data → Type 0
  IsSorted serde.null = ⊤
  IsSorted (serde.boolean b) = ⊤
  IsSorted (serde.number n) = IsNegative n
  IsSorted (serde.string s) = ⊤
  IsSorted (serde.array ds) = AreSorted ds
  IsSorted (serde.object ms) = HasSorted ms

  pub AreSorted : serde.Items → Type 0
  AreSorted serde.no_items = ⊤
  AreSorted (serde.item d ds) = IsSorted d × AreSorted ds

  pub HasSorted : serde.Members → Type 0
  HasSorted serde.no_members = ⊤
  HasSorted (serde.member k d ms) = IsBelowEach k ms × (IsSorted d × HasSorted ms)

pub record IsBoundedAndSorted (size deep : ℕ) (d : serde.Data) : Type 0 where
  pub short : data_size d ≤ size
  pub shallow : serde.depth d ≤ deep
  pub sorted : IsSorted d

record AreBoundedAndSorted (size deep : ℕ) (ds : serde.Items) : Type 0 where
  pub short : data_items_size ds ≤ size
  pub shallow : serde.items_depth ds ≤ deep
  pub sorted : AreSorted ds

record HasBoundedAndSorted (size deep : ℕ) (ms : serde.Members) : Type 0 where
  pub short : data_members_size ms ≤ size
  pub shallow : serde.members_depth ms ≤ deep
  pub sorted : HasSorted ms

-- ---- a member that is put among others

below_more : (k l : List ℕ) (ms : serde.Members) → slice_cmp nat_cmp k l ≡ Less → IsBelowEach l ms → IsBelowEach k ms
below_more k l serde.no_members h g = tt
below_more k l (serde.member m d ms) h g = (nat_list_cmp_total.trans k l m h g.0, below_more k l ms h g.1)

reversed : (k l : List ℕ) → slice_cmp nat_cmp k l ≡ Greater → slice_cmp nat_cmp l k ≡ Less
reversed k l h = nat_list_cmp_total.antisymm l k ∙ ap ordering_reverse h

below_put : (l k : List ℕ) (d : serde.Data) (ms : serde.Members) → slice_cmp nat_cmp l k ≡ Less → IsBelowEach l ms → IsBelowEach l (serde.put k d ms)
below_put l k d serde.no_members h g = (h, tt)
below_put l k d (serde.member m e ms) h g = of (slice_cmp nat_cmp k m) (below_put l k d ms h g.1)
  where
    of : (o : Ordering) → IsBelowEach l (serde.put k d ms) → IsBelowEach l (match_ordering o (serde.member k d (serde.member m e ms)) (serde.member m d ms) (serde.member m e (serde.put k d ms)))
    of Less more = (h, g)
    of Equal more = g
    of Greater more = (g.0, more)

put_on : (size deep : ℕ) (k l : List ℕ) (d e : serde.Data) (ms : serde.Members) → IsBoundedAndSorted size deep d → (o : Ordering) → slice_cmp nat_cmp k l ≡ o
    → (n : ℕ) → HasBoundedAndSorted n deep (serde.member l e ms)
    → HasBoundedAndSorted (length (quoted k) + (size + (n - (length (quoted l) + data_size e)))) deep (serde.put k d ms)
    → HasBoundedAndSorted (length (quoted k) + (size + n)) deep (match_ordering o (serde.member k d (serde.member l e ms)) (serde.member l d ms) (serde.member l e (serde.put k d ms)))
put_on size deep k l d e ms h Less is n g more = record {
  short = omega (arith, h.short, g.short);
  shallow = omega (arith, h.shallow, g.shallow);
  sorted = ((is, below_more k l ms is g.sorted.0), (h.sorted, g.sorted));
}
put_on size deep k l d e ms h Equal is n g more = record {
  short = omega (arith, h.short, g.short);
  shallow = omega (arith, h.shallow, g.shallow);
  sorted = (g.sorted.0, (h.sorted, g.sorted.1.1));
}
put_on size deep k l d e ms h Greater is n g more = record {
  short = omega (arith, more.short, g.short);
  shallow = omega (arith, more.shallow, g.shallow);
  sorted = (below_put l k d ms (reversed k l is) g.sorted.0, (g.sorted.1.0, more.sorted));
}

put_kept : (size deep : ℕ) (k : List ℕ) (d : serde.Data) (ms : serde.Members) (n : ℕ) → IsBoundedAndSorted size deep d → HasBoundedAndSorted n deep ms → HasBoundedAndSorted (length (quoted k) + (size + n)) deep (serde.put k d ms)
put_kept size deep k d serde.no_members n h g = record { short = omega (arith, h.short); shallow = omega (arith, h.shallow); sorted = (tt, (h.sorted, tt)) }
put_kept size deep k d (serde.member l e ms) n h g =
    put_on size deep k l d e ms h (slice_cmp nat_cmp k l) refl n g
    (put_kept size deep k d ms (n - (length (quoted l) + data_size e)) h (record { short = omega (arith, g.short); shallow = omega (arith, g.shallow); sorted = g.sorted.1.1 }))

-- ---- what is made of a parsed value

abbrev pub Kept : ℕ → ℕ → Option serde.Data → Type 0
Kept size deep None = ⊤
Kept size deep (Some d) = IsBoundedAndSorted size deep d

abbrev ItemsKept : ℕ → ℕ → Option serde.Items → Type 0
ItemsKept size deep None = ⊤
ItemsKept size deep (Some ds) = AreBoundedAndSorted size deep ds

abbrev MembersKept : ℕ → ℕ → Option serde.Members → Type 0
MembersKept size deep None = ⊤
MembersKept size deep (Some ms) = HasBoundedAndSorted size deep ms

number_kept : (s : List ℕ) (o : Option serde.Num) → ((n : serde.Num) → o ≡ Some n → IsNumber (length s) n) → Kept (length s) 0 (option_map serde.number o)
number_kept s None h = tt
number_kept s (Some n) h = let k = h n refl in record { short = k.short; shallow = omega arith; sorted = k.signed }

array_kept : (size deep : ℕ) (o : Option serde.Items) → ItemsKept size deep o → Kept (2 + size) (suc deep) (option_map serde.array o)
array_kept size deep None h = tt
array_kept size deep (Some ds) h = record { short = omega (arith, h.short); shallow = omega (arith, h.shallow); sorted = h.sorted }

object_kept : (size deep : ℕ) (o : Option serde.Members) → MembersKept size deep o → Kept (2 + size) (suc deep) (option_map serde.object o)
object_kept size deep None h = tt
object_kept size deep (Some ms) h = record { short = omega (arith, h.short); shallow = omega (arith, h.shallow); sorted = h.sorted }

item_kept : (size deep more most : ℕ) (d : serde.Data) (o : Option serde.Items) → IsBoundedAndSorted size deep d → ItemsKept more most o → ItemsKept (size + more) (max deep most) (option_map (serde.item d) o)
item_kept size deep more most d None h g = tt
item_kept size deep more most d (Some ds) h g = record { short = omega (arith, h.short, g.short); shallow = omega (arith, h.shallow, g.shallow); sorted = (h.sorted, g.sorted) }

items_kept_then : (size deep more most : ℕ) (o : Option serde.Data) (os : Option serde.Items) → Kept size deep o → ItemsKept more most os
    → ItemsKept (size + more) (max deep most) (option_and_then (λ d. option_map (serde.item d) os) o)
items_kept_then size deep more most None os h g = tt
items_kept_then size deep more most (Some d) os h g = item_kept size deep more most d os h g

longer : (size more deep : ℕ) (o : Option serde.Members) → MembersKept size deep o → size ≤ more → MembersKept more deep o
longer size more deep None h k = tt
longer size more deep (Some ms) h k = record { short = omega (arith, h.short); shallow = h.shallow; sorted = h.sorted }

then_members : (deep : ℕ) (size more : ℕ) (o : Option serde.Data) (f : serde.Data → Option serde.Members) → Kept size deep o → ((d : serde.Data) → IsBoundedAndSorted size deep d → MembersKept more deep (f d)) → MembersKept more deep (option_and_then f o)
then_members deep size more None f h g = tt
then_members deep size more (Some d) f h g = g d h

raised : (size deep most : ℕ) (o : Option serde.Data) → Kept size deep o → deep ≤ most → Kept size most o
raised size deep most None h k = tt
raised size deep most (Some d) h k = record { short = h.short; shallow = omega (arith, h.shallow); sorted = h.sorted }

mutual
  pub kept : (j : json.Json) → Kept (json_size j) (tree.depth j) (of_json j)
  kept json.null = record { short = omega arith; shallow = omega arith; sorted = tt }
  kept (json.boolean true) = record { short = omega arith; shallow = omega arith; sorted = tt }
  kept (json.boolean false) = record { short = omega arith; shallow = omega arith; sorted = tt }
  kept (json.number s) = number_kept s (number_of s) (number_short s)
  kept (json.string s) = record { short = omega arith; shallow = omega arith; sorted = tt }
  kept (json.array js) = array_kept (items_size js) (tree.items_depth js) (of_items js) (items_kept js)
  kept (json.object ms) = object_kept (members_size ms) (tree.members_depth ms) (of_members ms serde.no_members)
      (longer (members_size ms + 0) (members_size ms) (tree.members_depth ms) (of_members ms serde.no_members)
      (members_kept ms serde.no_members 0 (tree.members_depth ms) (omega arith) (record { short = omega arith; shallow = omega arith; sorted = tt })) (omega arith))

  items_kept : (js : json.Items) → ItemsKept (items_size js) (tree.items_depth js) (of_items js)
  items_kept json.no_items = record { short = omega arith; shallow = omega arith; sorted = tt }
  items_kept (json.item j js) = items_kept_then (json_size j) (tree.depth j) (items_size js) (tree.items_depth js) (of_json j) (of_items js) (kept j) (items_kept js)

  members_kept : (ms : json.Members) (found : serde.Members) (n deep : ℕ) → tree.members_depth ms ≤ deep → HasBoundedAndSorted n deep found → MembersKept (members_size ms + n) deep (of_members ms found)
  members_kept json.no_members found n deep k h = record { short = omega (arith, h.short); shallow = h.shallow; sorted = h.sorted }
  members_kept (json.member key j ms) found n deep k h =
      then_members deep (json_size j) (length (quoted key) + (json_size j + members_size ms) + n) (of_json j) (λ d. of_members ms (serde.put key d found))
      (raised (json_size j) (tree.depth j) deep (of_json j) (kept j) (omega arith))
      (λ d g.
      longer (members_size ms + (length (quoted key) + (json_size j + n))) (length (quoted key) + (json_size j + members_size ms) + n) deep (of_members ms (serde.put key d found))
      (members_kept ms (serde.put key d found) (length (quoted key) + (json_size j + n)) deep (omega arith) (put_kept (json_size j) deep key d found n g h)) (omega arith))
