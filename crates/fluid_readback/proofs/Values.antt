-- A value that was read is in order, at most 100 deep, and its printed text has at most twice the bytes of the text that it was read from.
use Rattle.std.proofs.Common.{◌≡◌, ℕ, suc, ◌+◌, ◌*◌, ◌<◌, ◌≤◌, ◌^◌, max, ℤ, pos, negsuc, List, [], ◌∷◌, ◌++◌, length, length-append, decimal, Bool, true, false, cond, nat_lt, Option, Some, None, Result, Ok, Err, option_map, option_and_then, refl, subst, arith}
use Rattle.std.specs.Prelude.{⊤, codes}
use Rattle.std.specs.Fmt.{signed_decimal}
use Rattle.std.proofs.lemmas.Bool.{ltb-true}
use Rattle.std.proofs.lemmas.Fmt.{decimal_is_IsNumeral}
use Rattle.json.specs.Print.{quoted}
use Rattle.json.specs.Token.{Token}
use Rattle.json.specs.Lex.{tokens}
use Rattle.json.specs.Json as json
use Rattle.json.specs.Tree as parse_tree
use Rattle.serde_json.specs.Data as serde
use Rattle.serde_json.specs.Find.{as_i64}
use Rattle.serde_json.specs.Read.{of_json, max_depth, read}
use Rattle.fluid_json.specs.Spelled.{of_data, of_items, of_members, reaches, json_or, whole_or, answer_within}
use Rattle.fluid_json.specs.declared.nesting.Place.TheVariants.{Outside}
use Rattle.fluid_json.specs.declared.fault.JsonFault.{JsonFault}
use Rattle.fluid_json.specs.declared.fault.JsonFault.TheVariants.{TooDeep}
use Rattle.fluid_json.specs.Printed.{printed, printed_items, printed_more_items, printed_members, printed_more_members}
use Rattle.fluid_json.specs.Tree.{Tree, whole, list, object, Trees, tree, Members, member, depth, trees_depth, members_depth, IsSigned, IsBelowAll, IsCanonical, AreCanonical, HasCanonical}
use Rattle.fluid_readback.specs.Laws.{ValuesAreBounded}
use Rattle.fluid_readback.proofs.Numerals.{number_size, IsNegative}
use Rattle.fluid_readback.proofs.Punctuated.{tokens_short, tokens_shallow}
use Rattle.fluid_readback.proofs.Parsed.{json_size, parsed}
use Rattle.fluid_readback.proofs.InOrder.{data_size, data_items_size, data_members_size, IsBelowEach, IsSorted, AreSorted, HasSorted, IsBoundedAndSorted, Kept, kept}

-- ---- what is made of a value's data

record IsMade (size deep : ℕ) (t : Tree) : Type 0 where
  pub canonical : IsCanonical t
  pub shallow : depth t ≤ deep
  pub short : length (printed t) + 1 ≤ 2 * size

record AreMade (size deep : ℕ) (ts : Trees) : Type 0 where
  pub canonical : AreCanonical ts
  pub shallow : trees_depth ts ≤ deep
  pub short : length (printed_items ts) ≤ 2 * size
  pub short_more : length (printed_more_items ts) ≤ 2 * size

record HasMade (size deep : ℕ) (ds : serde.Members) (ms : Members) : Type 0 where
  pub canonical : HasCanonical ms
  pub shallow : members_depth ms ≤ deep
  pub short : length (printed_members ms) ≤ 2 * size
  pub short_more : length (printed_more_members ms) ≤ 2 * size
  pub below : (k : List ℕ) → IsBelowEach k ds → IsBelowAll k ms

abbrev Made : ℕ → ℕ → Option Tree → Type 0
Made size deep None = ⊤
Made size deep (Some t) = IsMade size deep t

abbrev ItemsMade : ℕ → ℕ → Option Trees → Type 0
ItemsMade size deep None = ⊤
ItemsMade size deep (Some ts) = AreMade size deep ts

abbrev MembersMade : ℕ → ℕ → serde.Members → Option Members → Type 0
MembersMade size deep ds None = ⊤
MembersMade size deep ds (Some ms) = HasMade size deep ds ms

some_digits : (n : ℕ) → n < 2 ^ 64 → 0 < length (decimal n)
some_digits n h = (decimal_is_IsNumeral n h).0.0

whole_made : (z : ℤ) → IsSigned z → IsMade (length (signed_decimal z)) 0 (whole z)
whole_made (pos n) h = record { canonical = h; shallow = omega arith; short = omega (arith, some_digits n (omega (arith, h))) }
whole_made (negsuc n) h = record { canonical = h; shallow = omega arith; short = omega arith }

unsigned_made : (n : ℕ) (b : Bool) → nat_lt n (2 ^ 63) ≡ b → Made (length (decimal n)) 0 (option_map whole (cond b (Some (pos n)) None))
unsigned_made n true h = whole_made (pos n) (ltb-true n (2 ^ 63) h)
unsigned_made n false h = tt

number_made : (n : serde.Num) → IsNegative n → Made (number_size n) 0 (option_map whole (as_i64 n))
number_made (serde.unsigned n) h = unsigned_made n (nat_lt n (2 ^ 63)) refl
number_made (serde.negative z) h = whole_made z h
number_made (serde.float x) h = tt

list_made : (size deep : ℕ) (o : Option Trees) → ItemsMade size deep o → Made (2 + size) (suc deep) (option_map list o)
list_made size deep None h = tt
list_made size deep (Some ts) h = record {
  canonical = h.canonical;
  shallow = omega (arith, h.shallow);
  short = omega (arith, h.short, length-append (printed_items ts) (codes "]"));
}

object_made : (size deep : ℕ) (ds : serde.Members) (o : Option Members) → MembersMade size deep ds o → Made (2 + size) (suc deep) (option_map object o)
object_made size deep ds None h = tt
object_made size deep ds (Some ms) h = record {
  canonical = h.canonical;
  shallow = omega (arith, h.shallow);
  short = omega (arith, h.short, length-append (printed_members ms) (codes "}"));
}

item_made : (size deep more most : ℕ) (t : Tree) (o : Option Trees) → IsMade size deep t → ItemsMade more most o → ItemsMade (size + more) (max deep most) (option_map (tree t) o)
item_made size deep more most t None h g = tt
item_made size deep more most t (Some ts) h g = record {
  canonical = (h.canonical, g.canonical);
  shallow = omega (arith, h.shallow, g.shallow);
  short = omega (arith, h.short, g.short_more, length-append (printed t) (printed_more_items ts));
  short_more = omega (arith, h.short, g.short_more, length-append (printed t) (printed_more_items ts));
}

items_made_then : (size deep more most : ℕ) (o : Option Tree) (os : Option Trees) → Made size deep o → ItemsMade more most os
    → ItemsMade (size + more) (max deep most) (option_and_then (λ t. option_map (tree t) os) o)
items_made_then size deep more most None os h g = tt
items_made_then size deep more most (Some t) os h g = item_made size deep more most t os h g

member_made : (size deep more most : ℕ) (k : List ℕ) (d : serde.Data) (ds : serde.Members) (t : Tree) (o : Option Members) → IsBelowEach k ds → IsMade size deep t → MembersMade more most ds o
    → MembersMade (length (quoted k) + (size + more)) (max deep most) (serde.member k d ds) (option_map (member k t) o)
member_made size deep more most k d ds t None b h g = tt
member_made size deep more most k d ds t (Some ms) b h g =
    let long = length-append (quoted k) (codes ":" ++ (printed t ++ printed_more_members ms)) in
    let behind = length-append (printed t) (printed_more_members ms) in
    record {
      canonical = (g.below k b, (h.canonical, g.canonical));
      shallow = omega (arith, h.shallow, g.shallow);
      short = omega (arith, h.short, g.short_more, long, behind);
      short_more = omega (arith, h.short, g.short_more, long, behind);
      below = λ l f. (f.0, g.below l f.1);
    }

members_made_then : (size deep more most : ℕ) (k : List ℕ) (d : serde.Data) (ds : serde.Members) (o : Option Tree) (os : Option Members) → IsBelowEach k ds → Made size deep o → MembersMade more most ds os
    → MembersMade (length (quoted k) + (size + more)) (max deep most) (serde.member k d ds) (option_and_then (λ t. option_map (member k t) os) o)
members_made_then size deep more most k d ds None os b h g = tt
members_made_then size deep more most k d ds (Some t) os b h g = member_made size deep more most k d ds t os b h g

mutual
  made : (d : serde.Data) → IsSorted d → Made (data_size d) (serde.depth d) (of_data d)
  made serde.null h = record { canonical = tt; shallow = omega arith; short = omega arith }
  made (serde.boolean true) h = record { canonical = tt; shallow = omega arith; short = omega arith }
  made (serde.boolean false) h = record { canonical = tt; shallow = omega arith; short = omega arith }
  made (serde.number n) h = number_made n h
  made (serde.string s) h = record { canonical = tt; shallow = omega arith; short = omega arith }
  made (serde.array ds) h = list_made (data_items_size ds) (serde.items_depth ds) (of_items ds) (items_made ds h)
  made (serde.object ms) h = object_made (data_members_size ms) (serde.members_depth ms) ms (of_members ms) (members_made ms h)

  items_made : (ds : serde.Items) → AreSorted ds → ItemsMade (data_items_size ds) (serde.items_depth ds) (of_items ds)
  items_made serde.no_items h = record { canonical = tt; shallow = omega arith; short = omega arith; short_more = omega arith }
  items_made (serde.item d ds) h = items_made_then (data_size d) (serde.depth d) (data_items_size ds) (serde.items_depth ds) (of_data d) (of_items ds) (made d h.0) (items_made ds h.1)

  members_made : (ms : serde.Members) → HasSorted ms → MembersMade (data_members_size ms) (serde.members_depth ms) ms (of_members ms)
  members_made serde.no_members h = record { canonical = tt; shallow = omega arith; short = omega arith; short_more = omega arith; below = λ k f. tt }
  members_made (serde.member k d ms) h =
      members_made_then (data_size d) (serde.depth d) (data_members_size ms) (serde.members_depth ms) k d ms (of_data d) (of_members ms) h.0 (made d h.1.0) (members_made ms h.1.1)

-- ---- a text

then_some : {A B : Type 0} (f : A → Option B) (o : Option A) (b : B) → option_and_then f o ≡ Some b → (a : A) × (o ≡ Some a) × (f a ≡ Some b)
then_some f None b h = cc
then_some f (Some a) b h = (a, refl, h)

only : (j k : json.Json) (r : List Token) → json.if_last j r ≡ Some k → j ≡ k
only j k [] h = cc
only j k (t ∷ r) h = cc

shallow_text : (b : Bool) (r : Result Tree JsonFault) (t : Tree) → cond b (Err TooDeep) r ≡ Ok t → (b ≡ false) × (r ≡ Ok t)
shallow_text true r t h = cc
shallow_text false r t h = (refl, h)

whole_of : (o : Option Tree) (t : Tree) → whole_or o ≡ Ok t → o ≡ Some t
whole_of None t h = cc
whole_of (Some u) t h = cc

json_of : (o : Option serde.Data) (t : Tree) → json_or o ≡ Ok t → (d : serde.Data) × (o ≡ Some d) × (of_data d ≡ Some t)
json_of None t h = cc
json_of (Some d) t h = (d, refl, whole_of (of_data d) t h)

-- a value that was read of a text in which brackets don't stand so deep inside one another
pub record IsReadBelow (top : ℕ) (s : List ℕ) (t : Tree) : Type 0 where
  pub canonical : IsCanonical t
  pub shallow : depth t < top
  pub short : length (printed t) ≤ 2 * length s

pub read_below : (top : ℕ) (s : List ℕ) (t : Tree) → 0 < top → reaches top Outside 0 s ≡ false → json_or (read s) ≡ Ok t → IsReadBelow top s t
read_below top s t above test read_as =
    let value = json_of (read s) t read_as in
    let tree = then_some of_json (option_and_then (λ p. json.if_last p.0 p.1) (json.value max_depth (tokens s))) value.0 value.1 in
    let parse = then_some (λ p. json.if_last p.0 p.1) (json.value max_depth (tokens s)) tree.0 tree.1 in
    let same : parse.0.0 ≡ tree.0 = only parse.0.0 tree.0 parse.0.1 parse.2 in
    let bounds = parsed top max_depth (tokens s) parse.0.1 parse.0.0 above (tokens_shallow top s test) parse.1 in
    let is_kept : IsBoundedAndSorted (json_size tree.0) (parse_tree.depth tree.0) value.0 = subst (Kept (json_size tree.0) (parse_tree.depth tree.0)) tree.2 (kept tree.0) in
    let is_made : IsMade (data_size value.0) (serde.depth value.0) t = subst (Made (data_size value.0) (serde.depth value.0)) value.2 (made value.0 is_kept.sorted) in
    let deep : parse_tree.depth tree.0 < top = subst (λ j. parse_tree.depth j < top) same (omega (arith, bounds.0)) in
    let long : json_size tree.0 ≤ length s = subst (λ j. json_size j ≤ length s) same (omega (arith, bounds.1, tokens_short s)) in
    record {
      canonical = is_made.canonical;
      shallow = omega (arith, is_made.shallow, is_kept.shallow, deep);
      short = omega (arith, is_made.short, is_kept.short, long);
    }

pub values_are_bounded : ValuesAreBounded
unfolding answer_within
values_are_bounded s t h =
    let test = shallow_text (reaches 101 Outside 0 s) (json_or (read s)) t h in
    let is = read_below 101 s t (omega arith) test.0 test.1 in
    record { canonical = is.canonical; shallow = omega (arith, is.shallow); short = omega (arith, is.short) }
