-- The texts of a value that is read from a text in UTF-8.
use Rattle.std.proofs.Common.{◌≡◌, ℕ, zero, suc, List, [], ◌∷◌, length, Bool, true, false, cond, Option, Some, None, option_map, option_and_then, Result, Ok, Err, Ordering, Less, Equal, Greater, IsUtf8, refl, subst}
use Rattle.std.specs.Prelude.{⊤}
use Rattle.std.specs.Ordering.{nat_cmp, match_ordering}
use Rattle.std.specs.Cmp.Lexicographic.{slice_cmp}
use Rattle.json.specs.Token.{Token}
use Rattle.json.specs.Lex.{tokens}
use Rattle.json.specs.Json as json
use Rattle.json.specs.Json.{Json, Items, Members, Parse, parse_map, after_end_array, read_key, items_step, members_step, items, members, value_with, value}
use Rattle.json.proofs.Grammar.{closed_array, read_key_is}
use Rattle.serde_json.specs.Data as serde
use Rattle.serde_json.specs.Find.{as_i64}
use Rattle.serde_json.specs.Read.{number_of, of_json, of_items, of_members, max_depth, read}
use Rattle.fluid_json.specs.Spelled as spelled
use Rattle.fluid_json.specs.Spelled.{of_data, reaches, json_or, whole_or, answer_within}
use Rattle.fluid_json.specs.declared.nesting.Place.TheVariants.{Outside}
use Rattle.fluid_json.specs.declared.fault.JsonFault.{JsonFault}
use Rattle.fluid_json.specs.declared.fault.JsonFault.TheVariants.{TooDeep}
use Rattle.fluid_json.specs.Tree.{Tree, whole, list, object, tree, member}
use Rattle.fluid_texts.specs.Laws.{TextsAreRead}
use Rattle.fluid_texts.specs.Texts.{IsText, AreTexts, HasTexts}
use Rattle.fluid_texts.proofs.Lexed.{AreTextTokens, tokens_text}

-- ---- what is parsed of tokens

abbrev mutual
  IsTextJson : Json → Type 0
  IsTextJson json.null = ⊤
  IsTextJson (json.boolean b) = ⊤
  IsTextJson (json.number s) = ⊤
  IsTextJson (json.string s) = IsUtf8 s
  IsTextJson (json.array js) = AreTextItems js
  IsTextJson (json.object ms) = HasTextMembers ms

  AreTextItems : Items → Type 0
  AreTextItems json.no_items = ⊤
  AreTextItems (json.item j js) = IsTextJson j × AreTextItems js

  HasTextMembers : Members → Type 0
  HasTextMembers json.no_members = ⊤
  HasTextMembers (json.member k j ms) = IsUtf8 k × (IsTextJson j × HasTextMembers ms)

abbrev Gives : {A : Type 0} → (A → Type 0) → Option (A × List Token) → Type 0
Gives P None = ⊤
Gives P (Some q) = P q.0 × AreTextTokens q.1

abbrev Parses : {A : Type 0} → (A → Type 0) → Parse A → Type 0
Parses P p = (ts : List Token) → AreTextTokens ts → Gives P (p ts)

mapped : {A B : Type 0} (P : A → Type 0) (Q : B → Type 0) (f : A → B) (o : Option (A × List Token)) → ((a : A) → P a → Q (f a)) → Gives P o → Gives Q (parse_map f o)
mapped P Q f None make h = tt
mapped P Q f (Some q) make h = (make q.0 h.0, h.1)

items_then : (more : Parse Items) (o : Option (Json × List Token)) → Parses AreTextItems more → Gives IsTextJson o → Gives AreTextItems (option_and_then (λ q. parse_map (json.item q.0) (more q.1)) o)
items_then more None again h = tt
items_then more (Some q) again h = mapped AreTextItems AreTextItems (json.item q.0) (more q.1) (λ js g. (h.0, g)) (again q.1 h.1)

members_then : (k : List ℕ) (more : Parse Members) (o : Option (Json × List Token)) → IsUtf8 k → Parses HasTextMembers more → Gives IsTextJson o
    → Gives HasTextMembers (option_and_then (λ q. parse_map (json.member k q.0) (more q.1)) o)
members_then k more None u again h = tt
members_then k more (Some q) u again h = mapped HasTextMembers HasTextMembers (json.member k q.0) (more q.1) (λ ms g. (u, (h.0, g))) (again q.1 h.1)

module _ (p : Parse Json) (one : Parses IsTextJson p) where
  item_turn : (more : Parse Items) → Parses AreTextItems more → (ts : List Token) → AreTextTokens ts → (o : Option (List Token)) → after_end_array ts ≡ o → Gives AreTextItems (items_step p more ts o)
  item_turn more again ts h None e = items_then more (p ts) again (one ts h)
  item_turn more again ts h (Some r) e = (tt, (subst AreTextTokens (closed_array ts r e) h).1)

  all_items : (n : ℕ) → Parses AreTextItems (items p n)
  unfolding items
  all_items zero ts h = tt
  all_items (suc n) ts h = item_turn (items p n) (all_items n) ts h (after_end_array ts) refl

  member_turn : (more : Parse Members) → Parses HasTextMembers more → (ts : List Token) → AreTextTokens ts → (o : Option (Option (List ℕ) × List Token)) → read_key ts ≡ o
      → Gives HasTextMembers (option_and_then (λ q. members_step p more q.0 q.1) o)
  member_turn more again ts h None e = tt
  member_turn more again ts h (Some (None, r)) e = (tt, (subst AreTextTokens (read_key_is ts None r e) h).1)
  member_turn more again ts h (Some (Some k, s)) e =
      let here = subst AreTextTokens (read_key_is ts (Some k) s e) h in
      members_then k more (p s) here.0 again (one s here.1)

  all_members : (n : ℕ) → Parses HasTextMembers (members p n)
  unfolding members
  all_members zero ts h = tt
  all_members (suc n) ts h = member_turn (members p n) (all_members n) ts h (read_key ts) refl

one_level : (a : Parse Items) (o : Parse Members) → Parses AreTextItems a → Parses HasTextMembers o → Parses IsTextJson (value_with a o)
one_level a o p q [] h = tt
one_level a o p q (Token.begin_object ∷ ts) h = mapped HasTextMembers IsTextJson json.object (o ts) (λ ms g. g) (q ts h.1)
one_level a o p q (Token.end_object ∷ ts) h = tt
one_level a o p q (Token.begin_array ∷ ts) h = mapped AreTextItems IsTextJson json.array (a ts) (λ js g. g) (p ts h.1)
one_level a o p q (Token.end_array ∷ ts) h = tt
one_level a o p q (Token.key s ∷ ts) h = tt
one_level a o p q (Token.string s ∷ ts) h = h
one_level a o p q (Token.number s ∷ ts) h = h
one_level a o p q (Token.boolean b ∷ ts) h = h
one_level a o p q (Token.null ∷ ts) h = h
one_level a o p q (Token.bad ∷ ts) h = tt

all_values : (n : ℕ) → Parses IsTextJson (value n)
unfolding value
all_values zero = one_level (λ ts. None) (λ ts. None) (λ ts h. tt) (λ ts h. tt)
all_values (suc n) =
    one_level (λ ts. items (value n) (length ts) ts) (λ ts. members (value n) (length ts) ts) (λ ts h. all_items (value n) (all_values n) (length ts) ts h) (λ ts h. all_members (value n) (all_values n) (length ts) ts h)

-- ---- what is made of it

abbrev mutual
  IsTextData : serde.Data → Type 0
  IsTextData serde.null = ⊤
  IsTextData (serde.boolean b) = ⊤
  IsTextData (serde.number n) = ⊤
  IsTextData (serde.string s) = IsUtf8 s
  IsTextData (serde.array ds) = AreTextData ds
  IsTextData (serde.object ms) = HasTextData ms

  AreTextData : serde.Items → Type 0
  AreTextData serde.no_items = ⊤
  AreTextData (serde.item d ds) = IsTextData d × AreTextData ds

  HasTextData : serde.Members → Type 0
  HasTextData serde.no_members = ⊤
  HasTextData (serde.member k d ms) = IsUtf8 k × (IsTextData d × HasTextData ms)

abbrev On : {A : Type 0} → (A → Type 0) → Option A → Type 0
On P None = ⊤
On P (Some a) = P a

on_map : {A B : Type 0} (P : A → Type 0) (Q : B → Type 0) (f : A → B) (o : Option A) → ((a : A) → P a → Q (f a)) → On P o → On Q (option_map f o)
on_map P Q f None make h = tt
on_map P Q f (Some a) make h = make a h

on_then : {A B : Type 0} (P : A → Type 0) (Q : B → Type 0) (f : A → Option B) (o : Option A) → ((a : A) → P a → On Q (f a)) → On P o → On Q (option_and_then f o)
on_then P Q f None make h = tt
on_then P Q f (Some a) make h = make a h

put_text : (k : List ℕ) (d : serde.Data) (ms : serde.Members) → IsUtf8 k → IsTextData d → HasTextData ms → HasTextData (serde.put k d ms)
put_text k d serde.no_members u h g = (u, (h, tt))
put_text k d (serde.member l e ms) u h g = of (slice_cmp nat_cmp k l) (put_text k d ms u h g.1.1)
  where
    of : (o : Ordering) → HasTextData (serde.put k d ms) → HasTextData (match_ordering o (serde.member k d (serde.member l e ms)) (serde.member l d ms) (serde.member l e (serde.put k d ms)))
    of Less more = (u, (h, g))
    of Equal more = (g.0, (h, g.1.1))
    of Greater more = (g.0, (g.1.0, more))

mutual
  data_text : (j : Json) → IsTextJson j → On IsTextData (of_json j)
  data_text json.null h = tt
  data_text (json.boolean b) h = tt
  data_text (json.number s) h = number_text (number_of s)
    where
      number_text : (o : Option serde.Num) → On IsTextData (option_map serde.number o)
      number_text None = tt
      number_text (Some n) = tt
  data_text (json.string s) h = h
  data_text (json.array js) h = on_map AreTextData IsTextData serde.array (of_items js) (λ ds g. g) (items_text js h)
  data_text (json.object ms) h = on_map HasTextData IsTextData serde.object (of_members ms serde.no_members) (λ ds g. g) (members_text ms serde.no_members h tt)

  items_text : (js : Items) → AreTextItems js → On AreTextData (of_items js)
  items_text json.no_items h = tt
  items_text (json.item j js) h =
      on_then IsTextData AreTextData (λ d. option_map (serde.item d) (of_items js)) (of_json j) (λ d g. on_map AreTextData AreTextData (serde.item d) (of_items js) (λ ds k. (g, k)) (items_text js h.1)) (data_text j h.0)

  members_text : (ms : Members) (found : serde.Members) → HasTextMembers ms → HasTextData found → On HasTextData (of_members ms found)
  members_text json.no_members found h g = g
  members_text (json.member k j ms) found h g =
      on_then IsTextData HasTextData (λ d. of_members ms (serde.put k d found)) (of_json j) (λ d e. members_text ms (serde.put k d found) h.1.1 (put_text k d found h.0 e g)) (data_text j h.1.0)

number_tree : (o : Option _) → On IsText (option_map whole o)
number_tree None = tt
number_tree (Some n) = tt

mutual
  tree_text : (d : serde.Data) → IsTextData d → On IsText (of_data d)
  tree_text serde.null h = tt
  tree_text (serde.boolean b) h = tt
  tree_text (serde.number n) h = number_tree (as_i64 n)
  tree_text (serde.string s) h = h
  tree_text (serde.array ds) h = on_map AreTexts IsText list (spelled.of_items ds) (λ ts g. g) (trees_text ds h)
  tree_text (serde.object ms) h = on_map HasTexts IsText object (spelled.of_members ms) (λ ts g. g) (named_text ms h)

  trees_text : (ds : serde.Items) → AreTextData ds → On AreTexts (spelled.of_items ds)
  trees_text serde.no_items h = tt
  trees_text (serde.item d ds) h =
      on_then IsText AreTexts (λ t. option_map (tree t) (spelled.of_items ds)) (of_data d) (λ t g. on_map AreTexts AreTexts (tree t) (spelled.of_items ds) (λ ts k. (g, k)) (trees_text ds h.1)) (tree_text d h.0)

  named_text : (ms : serde.Members) → HasTextData ms → On HasTexts (spelled.of_members ms)
  named_text serde.no_members h = tt
  named_text (serde.member k d ms) h =
      on_then IsText HasTexts (λ t. option_map (member k t) (spelled.of_members ms)) (of_data d) (λ t g. on_map HasTexts HasTexts (member k t) (spelled.of_members ms) (λ ts e. (h.0, (g, e))) (named_text ms h.1.1)) (tree_text d h.1.0)

-- ---- a text

then_some : {A B : Type 0} (f : A → Option B) (o : Option A) (b : B) → option_and_then f o ≡ Some b → (a : A) × (o ≡ Some a) × (f a ≡ Some b)
then_some f None b h = cc
then_some f (Some a) b h = (a, refl, h)

only : (j k : Json) (r : List Token) → json.if_last j r ≡ Some k → j ≡ k
only j k [] h = cc
only j k (t ∷ r) h = cc

shallow_text : (b : Bool) (r : Result Tree JsonFault) (t : Tree) → cond b (Err TooDeep) r ≡ Ok t → r ≡ Ok t
shallow_text true r t h = cc
shallow_text false r t h = h

whole_of : (o : Option Tree) (t : Tree) → whole_or o ≡ Ok t → o ≡ Some t
whole_of None t h = cc
whole_of (Some u) t h = cc

json_of : (o : Option serde.Data) (t : Tree) → json_or o ≡ Ok t → (d : serde.Data) × (o ≡ Some d) × (of_data d ≡ Some t)
json_of None t h = cc
json_of (Some d) t h = (d, refl, whole_of (of_data d) t h)

pub texts_are_read : TextsAreRead
unfolding answer_within
texts_are_read s t u h =
    let given = json_of (read s) t (shallow_text (reaches 101 Outside 0 s) (json_or (read s)) t h) in
    let parse = then_some of_json (option_and_then (λ p. json.if_last p.0 p.1) (value max_depth (tokens s))) given.0 given.1 in
    let last = then_some (λ p. json.if_last p.0 p.1) (value max_depth (tokens s)) parse.0 parse.1 in
    let first : IsTextJson last.0.0 = (subst (Gives IsTextJson) last.1 (all_values max_depth (tokens s) (tokens_text s u))).0 in
    let whole_one : IsTextJson parse.0 = subst IsTextJson (only last.0.0 parse.0 last.0.1 last.2) first in
    let data_one : IsTextData given.0 = subst (On IsTextData) parse.2 (data_text parse.0 whole_one) in
    subst (On IsText) given.2 (tree_text given.0 data_one)
