-- What is parsed of tokens has their size at most, and their depth.
use Rattle.std.proofs.Common.{◌≡◌, ℕ, zero, suc, ◌+◌, ◌-◌, ◌<◌, ◌≤◌, ◌||◌, nat_le, List, [], ◌∷◌, length, Bool, true, false, Option, Some, None, option_and_then, refl, sym, subst, arith}
use Rattle.std.specs.Prelude.{⊤}
use Rattle.std.proofs.lemmas.Bool.{or_parts, leb-false}
use Rattle.json.specs.Token.{Token}
use Rattle.json.specs.Print.{quoted}
use Rattle.json.specs.Json.{Json, null, boolean, number, string, array, object, Items, no_items, item, Members, no_members, member, Parse, parse_map, after_end_array, read_key, items_step, members_step, items, members, value_with, value}
use Rattle.json.specs.Tree.{depth, items_depth, members_depth}
use Rattle.json.proofs.Grammar.{closed_array, read_key_is}
use Rattle.fluid_readback.proofs.Words.{size}
use Rattle.fluid_readback.proofs.Punctuated.{tokens_size, tokens_reach}

-- the bytes of a value's tokens
abbrev mutual
  pub json_size : Json → ℕ
  json_size null = 4
  json_size (boolean true) = 4
  json_size (boolean false) = 5
  json_size (number s) = length s
  json_size (string s) = length (quoted s)
  json_size (array js) = 2 + items_size js
  json_size (object ms) = 2 + members_size ms

  pub items_size : Items → ℕ
  items_size no_items = 0
  items_size (item j js) = json_size j + items_size js

  pub members_size : Members → ℕ
  members_size no_members = 0
  members_size (member k j ms) = length (quoted k) + (json_size j + members_size ms)

-- what was read between these tokens and those that are left: `inner` is the depth inside, `outer` that behind
record IsParsed (top inner outer size depth : ℕ) (ts r : List Token) : Type 0 where
  pub shallow : inner + depth < top
  pub reach : tokens_reach top outer r ≡ false
  pub short : size + tokens_size r ≤ tokens_size ts

abbrev ValueParsed : ℕ → ℕ → List Token → Option (Json × List Token) → Type 0
ValueParsed top d ts None = ⊤
ValueParsed top d ts (Some q) = IsParsed top d d (json_size q.0) (depth q.0) ts q.1

-- with the closing bracket
abbrev ItemsParsed : ℕ → ℕ → List Token → Option (Items × List Token) → Type 0
ItemsParsed top d ts None = ⊤
ItemsParsed top d ts (Some q) = IsParsed top (suc d) d (1 + items_size q.0) (items_depth q.0) ts q.1

abbrev MembersParsed : ℕ → ℕ → List Token → Option (Members × List Token) → Type 0
MembersParsed top d ts None = ⊤
MembersParsed top d ts (Some q) = IsParsed top (suc d) d (1 + members_size q.0) (members_depth q.0) ts q.1

abbrev Values : ℕ → Parse Json → Type 0
Values top p = (ts : List Token) (d : ℕ) → d < top → tokens_reach top d ts ≡ false → ValueParsed top d ts (p ts)

abbrev ItemsOf : ℕ → Parse Items → Type 0
ItemsOf top p = (ts : List Token) (d : ℕ) → suc d < top → tokens_reach top (suc d) ts ≡ false → ItemsParsed top d ts (p ts)

abbrev MembersOf : ℕ → Parse Members → Type 0
MembersOf top p = (ts : List Token) (d : ℕ) → suc d < top → tokens_reach top (suc d) ts ≡ false → MembersParsed top d ts (p ts)

closes : (top d : ℕ) (r : List Token) → tokens_reach top (suc d - 1) r ≡ false → tokens_reach top d r ≡ false
closes top d r h = let e : suc d - 1 ≡ d = omega arith in subst (λ n. tokens_reach top n r ≡ false) e h

item_behind : (top d : ℕ) (ts : List Token) (q : Json × List Token) (o : Option (Items × List Token)) → IsParsed top (suc d) (suc d) (json_size q.0) (depth q.0) ts q.1
    → ItemsParsed top d q.1 o → ItemsParsed top d ts (parse_map (item q.0) o)
item_behind top d ts q None h k = tt
item_behind top d ts q (Some r) h k = record { shallow = omega (arith, h.shallow, k.shallow); reach = k.reach; short = omega (arith, h.short, k.short) }

items_behind : (top d : ℕ) (ts : List Token) (more : Parse Items) (o : Option (Json × List Token)) → ItemsOf top more → suc d < top → ValueParsed top (suc d) ts o
    → ItemsParsed top d ts (option_and_then (λ q. parse_map (item q.0) (more q.1)) o)
items_behind top d ts more None again below h = tt
items_behind top d ts more (Some q) again below h = item_behind top d ts q (more q.1) h (again q.1 d below h.reach)

member_behind : (top d : ℕ) (k : List ℕ) (ts : List Token) (q : Json × List Token) (o : Option (Members × List Token)) → IsParsed top (suc d) (suc d) (json_size q.0) (depth q.0) ts q.1
    → MembersParsed top d q.1 o → MembersParsed top d (Token.key k ∷ ts) (parse_map (member k q.0) o)
member_behind top d k ts q None h g = tt
member_behind top d k ts q (Some r) h g = record { shallow = omega (arith, h.shallow, g.shallow); reach = g.reach; short = omega (arith, h.short, g.short) }

members_behind : (top d : ℕ) (k : List ℕ) (ts : List Token) (more : Parse Members) (o : Option (Json × List Token)) → MembersOf top more → suc d < top → ValueParsed top (suc d) ts o
    → MembersParsed top d (Token.key k ∷ ts) (option_and_then (λ q. parse_map (member k q.0) (more q.1)) o)
members_behind top d k ts more None again below h = tt
members_behind top d k ts more (Some q) again below h = member_behind top d k ts q (more q.1) h (again q.1 d below h.reach)

module _ (top : ℕ) (p : Parse Json) (within : Values top p) where
  item_turn : (more : Parse Items) → ItemsOf top more → (ts : List Token) (d : ℕ) → suc d < top → tokens_reach top (suc d) ts ≡ false → (o : Option (List Token)) → after_end_array ts ≡ o
      → ItemsParsed top d ts (items_step p more ts o)
  item_turn more again ts d below h (Some r) e =
      let is = closed_array ts r e in
      subst (λ us. ItemsParsed top d us (Some (no_items, r))) (sym is)
      (record { shallow = omega arith; reach = closes top d r (subst (λ us. tokens_reach top (suc d) us ≡ false) is h); short = omega arith })
  item_turn more again ts d below h None e = items_behind top d ts more (p ts) again below (within ts (suc d) below h)

  all_items : (n : ℕ) → ItemsOf top (items p n)
  unfolding items
  all_items zero ts d below h = tt
  all_items (suc n) ts d below h = item_turn (items p n) (all_items n) ts d below h (after_end_array ts) refl

  member_turn : (more : Parse Members) → MembersOf top more → (ts : List Token) (d : ℕ) → suc d < top → tokens_reach top (suc d) ts ≡ false → (o : Option (Option (List ℕ) × List Token)) → read_key ts ≡ o
      → MembersParsed top d ts (option_and_then (λ q. members_step p more q.0 q.1) o)
  member_turn more again ts d below h None e = tt
  member_turn more again ts d below h (Some (None, r)) e =
      let is = read_key_is ts None r e in
      subst (λ us. MembersParsed top d us (Some (no_members, r))) (sym is)
      (record { shallow = omega arith; reach = closes top d r (subst (λ us. tokens_reach top (suc d) us ≡ false) is h); short = omega arith })
  member_turn more again ts d below h (Some (Some k, s)) e =
      let is = read_key_is ts (Some k) s e in
      subst (λ us. MembersParsed top d us (option_and_then (λ q. parse_map (member k q.0) (more q.1)) (p s))) (sym is)
      (members_behind top d k s more (p s) again below (within s (suc d) below (subst (λ us. tokens_reach top (suc d) us ≡ false) is h)))

  all_members : (n : ℕ) → MembersOf top (members p n)
  unfolding members
  all_members zero ts d below h = tt
  all_members (suc n) ts d below h = member_turn (members p n) (all_members n) ts d below h (read_key ts) refl

array_parsed : (top d : ℕ) (ts : List Token) (o : Option (Items × List Token)) → ItemsParsed top d ts o → ValueParsed top d (Token.begin_array ∷ ts) (parse_map array o)
array_parsed top d ts None h = tt
array_parsed top d ts (Some q) h = record { shallow = omega (arith, h.shallow); reach = h.reach; short = omega (arith, h.short) }

object_parsed : (top d : ℕ) (ts : List Token) (o : Option (Members × List Token)) → MembersParsed top d ts o → ValueParsed top d (Token.begin_object ∷ ts) (parse_map object o)
object_parsed top d ts None h = tt
object_parsed top d ts (Some q) h = record { shallow = omega (arith, h.shallow); reach = h.reach; short = omega (arith, h.short) }

plain_parsed : (top d n : ℕ) (t : Token) (ts : List Token) → d < top → tokens_reach top d ts ≡ false → n ≤ size t → IsParsed top d d n 0 (t ∷ ts) ts
plain_parsed top d n t ts below h short = record { shallow = omega arith; reach = h; short = omega (arith, short) }

boolean_size : (b : Bool) → json_size (boolean b) ≤ size (Token.boolean b)
boolean_size true = omega arith
boolean_size false = omega arith

opened : (top d : ℕ) (ts : List Token) → (nat_le top (suc d) || tokens_reach top (suc d) ts) ≡ false → (suc d < top) × (tokens_reach top (suc d) ts ≡ false)
opened top d ts h = let parts = or_parts (nat_le top (suc d)) (tokens_reach top (suc d) ts) h in (leb-false top (suc d) parts.0, parts.1)

one_level : (top : ℕ) (a : Parse Items) (o : Parse Members) → ItemsOf top a → MembersOf top o → Values top (value_with a o)
one_level top a o p q [] d below h = tt
one_level top a o p q (Token.begin_object ∷ ts) d below h = let k = opened top d ts h in object_parsed top d ts (o ts) (q ts d k.0 k.1)
one_level top a o p q (Token.end_object ∷ ts) d below h = tt
one_level top a o p q (Token.begin_array ∷ ts) d below h = let k = opened top d ts h in array_parsed top d ts (a ts) (p ts d k.0 k.1)
one_level top a o p q (Token.end_array ∷ ts) d below h = tt
one_level top a o p q (Token.key s ∷ ts) d below h = tt
one_level top a o p q (Token.string s ∷ ts) d below h = plain_parsed top d (length (quoted s)) (Token.string s) ts below h (omega arith)
one_level top a o p q (Token.number s ∷ ts) d below h = plain_parsed top d (length s) (Token.number s) ts below h (omega arith)
one_level top a o p q (Token.boolean b ∷ ts) d below h = plain_parsed top d (json_size (boolean b)) (Token.boolean b) ts below h (boolean_size b)
one_level top a o p q (Token.null ∷ ts) d below h = plain_parsed top d 4 Token.null ts below h (omega arith)
one_level top a o p q (Token.bad ∷ ts) d below h = tt

all_values : (top n : ℕ) → Values top (value n)
unfolding value
all_values top zero = one_level top (λ ts. None) (λ ts. None) (λ ts d below h. tt) (λ ts d below h. tt)
all_values top (suc n) =
    one_level top (λ ts. items (value n) (length ts) ts) (λ ts. members (value n) (length ts) ts) (λ ts d below h. all_items top (value n) (all_values top n) (length ts) ts d below h)
    (λ ts d below h. all_members top (value n) (all_values top n) (length ts) ts d below h)

pub parsed : (top n : ℕ) (ts r : List Token) (j : Json) → 0 < top → tokens_reach top 0 ts ≡ false → value n ts ≡ Some (j, r) → (depth j < top) × (json_size j ≤ tokens_size ts)
parsed top n ts r j below h e =
    let is : IsParsed top 0 0 (json_size j) (depth j) ts r = subst (ValueParsed top 0 ts) e (all_values top n ts 0 below h) in
    (omega (arith, is.shallow), omega (arith, is.short))
