-- A printed value is read back as itself.
use Rattle.std.proofs.Common.{◌≡◌, ℕ, suc, ◌+◌, ◌^◌, ◌<◌, ◌≤◌, max, ℤ, pos, negsuc, List, [], ◌∷◌, ◌++◌, true, false, cond, ◌==◌, drop, get_or, Some, option_map, option_and_then, Ok, Greater, decimal, refl, sym, ap, ap₂, ◌∙◌, arith, append_assoc, append-nil, lt-ltb, ne_eqb}
use Rattle.std.specs.Prelude.{codes}
use Rattle.std.specs.Cmp.Lexicographic.{slice_cmp}
use Rattle.std.specs.Fmt.{signed_decimal}
use Rattle.std.specs.Ordering.{nat_cmp, ordering_reverse}
use Rattle.std.proofs.lemmas.Cmp.{nat_list_cmp_total}
use Rattle.std.proofs.lemmas.Fmt.{first_decimal}
use Rattle.json.specs.Word.{head, after_whole, after_fraction, after_exponent, after_number}
use Rattle.json.specs.Json as json
use Rattle.json.specs.Lex.{tokens}
use Rattle.json.specs.Print.{print, quoted, IsNumber}
use Rattle.json.specs.Token.{Token}
use Rattle.json.specs.Tree as grammar
use Rattle.json.proofs.Printed.Decimals.{IsNumber-decimal}
use Rattle.json.proofs.Printed.Tokens.{tokens-print}
use Rattle.json.proofs.Printed.Trees.{value-json_tokens, ArePrintable-json_tokens}
use Rattle.serde_json.specs.Data as serde
use Rattle.serde_json.specs.Read.{read, of_json, of_items as of_json_items, of_members as of_json_members, max_depth}
use Rattle.serde_json.proofs.Numbers.{number_of-decimal, number_of-negative}
use Rattle.fluid_json.specs.Tree.{Tree, null, boolean, whole, text, list, object, Trees, no_trees, tree, Members, no_members, member, depth, trees_depth, members_depth, IsSigned, IsBelowAll, IsCanonical, AreCanonical, HasCanonical}
use Rattle.fluid_json.specs.Spelled.{of_data, of_items, of_members, answer_within, reaches}
use Rattle.fluid_json.specs.Printed.{printed, printed_items, printed_more_items, printed_members, printed_more_members}
use Rattle.fluid_json.specs.Tokens.{tokens_of, trees_tokens, members_tokens}
use Rattle.fluid_json.specs.declared.nesting.Place.TheVariants.{Outside}
use Rattle.fluid_json.proofs.Texts.{print-tokens_of}
use Rattle.fluid_json.proofs.Steps.{over_number, over_text, opens, closes, parts, over_word}

-- ---- the value in the grammar's terms, and as `serde_json` has it

abbrev mutual
  json_of : Tree → json.Json
  json_of null = json.null
  json_of (boolean b) = json.boolean b
  json_of (whole n) = json.number (signed_decimal n)
  json_of (text s) = json.string s
  json_of (list ts) = json.array (json_items ts)
  json_of (object ms) = json.object (json_members ms)

  json_items : Trees → json.Items
  json_items no_trees = json.no_items
  json_items (tree t ts) = json.item (json_of t) (json_items ts)

  json_members : Members → json.Members
  json_members no_members = json.no_members
  json_members (member k t ms) = json.member k (json_of t) (json_members ms)

abbrev number_of_whole : ℤ → serde.Num
number_of_whole (pos n) = serde.unsigned n
number_of_whole (negsuc n) = serde.negative (negsuc n)

abbrev mutual
  data_of : Tree → serde.Data
  data_of null = serde.null
  data_of (boolean b) = serde.boolean b
  data_of (whole n) = serde.number (number_of_whole n)
  data_of (text s) = serde.string s
  data_of (list ts) = serde.array (data_items ts)
  data_of (object ms) = serde.object (data_members ms)

  data_items : Trees → serde.Items
  data_items no_trees = serde.no_items
  data_items (tree t ts) = serde.item (data_of t) (data_items ts)

  data_members : Members → serde.Members
  data_members no_members = serde.no_members
  data_members (member k t ms) = serde.member k (data_of t) (data_members ms)

-- ---- the grammar reads the tokens

mutual
  same_tokens : (t : Tree) → grammar.json_tokens (json_of t) ≡ tokens_of t
  same_tokens null = refl
  same_tokens (boolean b) = refl
  same_tokens (whole n) = refl
  same_tokens (text s) = refl
  same_tokens (list ts) = ap (λ us. Token.begin_array ∷ us) (same_items ts)
  same_tokens (object ms) = ap (λ us. Token.begin_object ∷ us) (same_members ms)

  same_items : (ts : Trees) → grammar.items_tokens (json_items ts) ≡ trees_tokens ts
  same_items no_trees = refl
  same_items (tree t ts) = ap₂ (λ us vs. us ++ vs) (same_tokens t) (same_items ts)

  same_members : (ms : Members) → grammar.members_tokens (json_members ms) ≡ members_tokens ms
  same_members no_members = refl
  same_members (member k t ms) = ap₂ (λ us vs. Token.key k ∷ (us ++ vs)) (same_tokens t) (same_members ms)

mutual
  same_depth : (t : Tree) → grammar.depth (json_of t) ≡ depth t
  same_depth null = refl
  same_depth (boolean b) = refl
  same_depth (whole n) = refl
  same_depth (text s) = refl
  same_depth (list ts) = ap suc (same_items_depth ts)
  same_depth (object ms) = ap suc (same_members_depth ms)

  same_items_depth : (ts : Trees) → grammar.items_depth (json_items ts) ≡ trees_depth ts
  same_items_depth no_trees = refl
  same_items_depth (tree t ts) = ap₂ max (same_depth t) (same_items_depth ts)

  same_members_depth : (ms : Members) → grammar.members_depth (json_members ms) ≡ members_depth ms
  same_members_depth no_members = refl
  same_members_depth (member k t ms) = ap₂ max (same_depth t) (same_members_depth ms)

no_minus : (ds : List ℕ) → 48 < get_or ds 0 0 → (head ds == 45) ≡ false
no_minus [] h = absurd (omega arith)
no_minus (d ∷ ds) h = ne_eqb d 45 (λ e. omega arith)

behind_minus : (ds : List ℕ) → (head ds == 45) ≡ false → IsNumber ds → IsNumber (45 ∷ ds)
unfolding after_number
behind_minus ds digit h = ap (λ b. option_and_then after_exponent (option_and_then after_fraction (after_whole (cond b (drop 1 ds) ds)))) (sym digit) ∙ h

is_number : (z : ℤ) → IsSigned z → IsNumber (signed_decimal z)
is_number (pos n) h = IsNumber-decimal n (omega arith)
is_number (negsuc n) h =
    behind_minus (decimal (suc n)) (no_minus (decimal (suc n)) (first_decimal (suc n) (omega arith) (omega arith))) (IsNumber-decimal (suc n) (omega arith))

mutual
  has_numbers : (t : Tree) → IsCanonical t → grammar.HasNumbers (json_of t)
  has_numbers null h = tt
  has_numbers (boolean b) h = tt
  has_numbers (whole n) h = is_number n h
  has_numbers (text s) h = tt
  has_numbers (list ts) h = items_have_numbers ts h
  has_numbers (object ms) h = members_have_numbers ms h

  items_have_numbers : (ts : Trees) → AreCanonical ts → grammar.ItemsHaveNumbers (json_items ts)
  items_have_numbers no_trees h = tt
  items_have_numbers (tree t ts) h = (has_numbers t h.0, items_have_numbers ts h.1)

  members_have_numbers : (ms : Members) → HasCanonical ms → grammar.MembersHaveNumbers (json_members ms)
  members_have_numbers no_members h = tt
  members_have_numbers (member k t ms) h = (has_numbers t h.1.0, members_have_numbers ms h.1.1)

-- ---- what `serde_json` makes of it. Members go in one after another, each behind those before it.

abbrev behind : serde.Members → serde.Members → serde.Members
behind serde.no_members ns = ns
behind (serde.member k d ms) ns = serde.member k d (behind ms ns)

behind_none : (fs : serde.Members) → behind fs serde.no_members ≡ fs
behind_none serde.no_members = refl
behind_none (serde.member l e fs) = ap (serde.member l e) (behind_none fs)

behind_more : (fs : serde.Members) (k : List ℕ) (d : serde.Data) (ns : serde.Members) → behind (behind fs (serde.member k d serde.no_members)) ns ≡ behind fs (serde.member k d ns)
behind_more serde.no_members k d ns = refl
behind_more (serde.member l e fs) k d ns = ap (serde.member l e) (behind_more fs k d ns)

-- each key found is below each key to come
abbrev Before : serde.Members → Members → Type 0
Before serde.no_members ms = Unit {0}
Before (serde.member l e fs) ms = IsBelowAll l ms × Before fs ms

before_next : (fs : serde.Members) (k : List ℕ) (t : Tree) (d : serde.Data) (ms : Members) → Before fs (member k t ms) → IsBelowAll k ms → Before (behind fs (serde.member k d serde.no_members)) ms
before_next serde.no_members k t d ms b h = (h, tt)
before_next (serde.member l e fs) k t d ms b h = (b.0.1, before_next fs k t d ms b.1 h)

put_last : (fs : serde.Members) (k : List ℕ) (t : Tree) (d : serde.Data) (ms : Members) → Before fs (member k t ms) → serde.put k d fs ≡ behind fs (serde.member k d serde.no_members)
put_last serde.no_members k t d ms b = refl
put_last (serde.member l e fs) k t d ms b =
    let above : slice_cmp nat_cmp k l ≡ Greater = nat_list_cmp_total.antisymm k l ∙ ap ordering_reverse b.0.0 in
    rw above (ap (serde.member l e) (put_last fs k t d ms b.1))

of_number : (z : ℤ) → IsSigned z → of_json (json.number (signed_decimal z)) ≡ Some (serde.number (number_of_whole z))
of_number (pos n) h = ap (option_map serde.number) (number_of-decimal n (omega arith))
of_number (negsuc n) h = ap (option_map serde.number) (number_of-negative n h)

mutual
  kept : (t : Tree) → IsCanonical t → of_json (json_of t) ≡ Some (data_of t)
  kept null h = refl
  kept (boolean b) h = refl
  kept (whole n) h = of_number n h
  kept (text s) h = refl
  kept (list ts) h = ap (option_map serde.array) (kept_items ts h)
  kept (object ms) h = ap (option_map serde.object) (kept_members ms serde.no_members h tt)

  kept_items : (ts : Trees) → AreCanonical ts → of_json_items (json_items ts) ≡ Some (data_items ts)
  kept_items no_trees h = refl
  kept_items (tree t ts) h = rw (kept t h.0, kept_items ts h.1) refl

  kept_members : (ms : Members) (fs : serde.Members) → HasCanonical ms → Before fs ms → of_json_members (json_members ms) fs ≡ Some (behind fs (data_members ms))
  kept_members no_members fs h b = ap Some (sym (behind_none fs))
  kept_members (member k t ms) fs h b =
      ap (option_and_then (λ d. of_json_members (json_members ms) (serde.put k d fs))) (kept t h.1.0)
      ∙ ap (of_json_members (json_members ms)) (put_last fs k t (data_of t) ms b)
      ∙ kept_members ms (behind fs (serde.member k (data_of t) serde.no_members)) h.1.1 (before_next fs k t (data_of t) ms b h.0)
      ∙ ap Some (behind_more fs k (data_of t) (data_members ms))

whole_again : (z : ℤ) → IsSigned z → of_data (serde.number (number_of_whole z)) ≡ Some (whole z)
whole_again (pos n) h = rw (lt-ltb n (2 ^ 63) h) refl
whole_again (negsuc n) h = refl

mutual
  again : (t : Tree) → IsCanonical t → of_data (data_of t) ≡ Some t
  again null h = refl
  again (boolean b) h = refl
  again (whole n) h = whole_again n h
  again (text s) h = refl
  again (list ts) h = ap (option_map list) (items_again ts h)
  again (object ms) h = ap (option_map object) (members_again ms h)

  items_again : (ts : Trees) → AreCanonical ts → of_items (data_items ts) ≡ Some ts
  items_again no_trees h = refl
  items_again (tree t ts) h = rw (again t h.0, items_again ts h.1) refl

  members_again : (ms : Members) → HasCanonical ms → of_members (data_members ms) ≡ Some ms
  members_again no_members h = refl
  members_again (member k t ms) h = rw (again t h.1.0, members_again ms h.1.1) refl

read_back : (t : Tree) → IsCanonical t → depth t ≤ 127 → read (printed t) ≡ Some (data_of t)
read_back t h shallow =
    let printable = ArePrintable-json_tokens (json_of t) (has_numbers t h) in
    let same = ap tokens (sym (print-tokens_of t) ∙ ap print (sym (same_tokens t))) ∙ tokens-print (grammar.json_tokens (json_of t)) printable ∙ sym (append-nil (grammar.json_tokens (json_of t))) in
    ap (λ ts. option_and_then of_json (option_and_then (λ p. json.if_last p.0 p.1) (json.value max_depth ts))) same
    ∙ ap (λ r. option_and_then of_json (option_and_then (λ p. json.if_last p.0 p.1) r)) (value-json_tokens (json_of t) max_depth [] (omega (arith, same_depth t)))
    ∙ kept t h

-- ---- the walk passes over the text, and is as deep behind it as before

mutual
  over : (top n : ℕ) (t : Tree) (r : List ℕ) → IsCanonical t → n + depth t < top → reaches top Outside n (printed t ++ r) ≡ reaches top Outside n r
  over top n null r h below = (over_word top n r (omega arith)).0
  over top n (boolean true) r h below = (over_word top n r (omega arith)).1
  over top n (boolean false) r h below = (over_word top n r (omega arith)).2
  over top n (whole z) r h below = over_number top n z r (omega arith) h
  over top n (text s) r h below = over_text top n s r (omega arith)
  over top n (list ts) r h below =
      (opens top n ((printed_items ts ++ codes "]") ++ r) (omega arith)).0
      ∙ ap (reaches top Outside (suc n)) (append_assoc (printed_items ts) (codes "]") r)
      ∙ over_items top (suc n) ts (93 ∷ r) h (omega arith) ∙ (closes top n r (omega arith)).0
  over top n (object ms) r h below =
      (opens top n ((printed_members ms ++ codes "}") ++ r) (omega arith)).1
      ∙ ap (reaches top Outside (suc n)) (append_assoc (printed_members ms) (codes "}") r)
      ∙ over_members top (suc n) ms (125 ∷ r) h (omega arith) ∙ (closes top n r (omega arith)).1

  over_items : (top n : ℕ) (ts : Trees) (r : List ℕ) → AreCanonical ts → n + trees_depth ts < top → reaches top Outside n (printed_items ts ++ r) ≡ reaches top Outside n r
  over_items top n no_trees r h below = refl
  over_items top n (tree t ts) r h below =
      ap (reaches top Outside n) (append_assoc (printed t) (printed_more_items ts) r) ∙ over top n t (printed_more_items ts ++ r) h.0 (omega arith) ∙ over_more_items top n ts r h.1 (omega arith)

  over_more_items : (top n : ℕ) (ts : Trees) (r : List ℕ) → AreCanonical ts → n + trees_depth ts < top → reaches top Outside n (printed_more_items ts ++ r) ≡ reaches top Outside n r
  over_more_items top n no_trees r h below = refl
  over_more_items top n (tree t ts) r h below =
      (parts top n ((printed t ++ printed_more_items ts) ++ r) (omega arith)).0
      ∙ ap (reaches top Outside n) (append_assoc (printed t) (printed_more_items ts) r) ∙ over top n t (printed_more_items ts ++ r) h.0 (omega arith) ∙ over_more_items top n ts r h.1 (omega arith)

  over_members : (top n : ℕ) (ms : Members) (r : List ℕ) → HasCanonical ms → n + members_depth ms < top → reaches top Outside n (printed_members ms ++ r) ≡ reaches top Outside n r
  over_members top n no_members r h below = refl
  over_members top n (member k t ms) r h below =
      ap (reaches top Outside n) (append_assoc (quoted k) (58 ∷ (printed t ++ printed_more_members ms)) r)
      ∙ over_text top n k _ (omega arith) ∙ (parts top n ((printed t ++ printed_more_members ms) ++ r) (omega arith)).1
      ∙ ap (reaches top Outside n) (append_assoc (printed t) (printed_more_members ms) r) ∙ over top n t (printed_more_members ms ++ r) h.1.0 (omega arith) ∙ over_more_members top n ms r h.1.1 (omega arith)

  over_more_members : (top n : ℕ) (ms : Members) (r : List ℕ) → HasCanonical ms → n + members_depth ms < top → reaches top Outside n (printed_more_members ms ++ r) ≡ reaches top Outside n r
  over_more_members top n no_members r h below = refl
  over_more_members top n (member k t ms) r h below =
      (parts top n ((quoted k ++ 58 ∷ (printed t ++ printed_more_members ms)) ++ r) (omega arith)).0
      ∙ ap (reaches top Outside n) (append_assoc (quoted k) (58 ∷ (printed t ++ printed_more_members ms)) r)
      ∙ over_text top n k _ (omega arith) ∙ (parts top n ((printed t ++ printed_more_members ms) ++ r) (omega arith)).1
      ∙ ap (reaches top Outside n) (append_assoc (printed t) (printed_more_members ms) r) ∙ over top n t (printed_more_members ms ++ r) h.1.0 (omega arith) ∙ over_more_members top n ms r h.1.1 (omega arith)

shallow : (top : ℕ) (t : Tree) → IsCanonical t → depth t < top → reaches top Outside 0 (printed t) ≡ false
unfolding reaches
shallow top t h below = ap (reaches top Outside 0) (sym (append-nil (printed t))) ∙ over top 0 t [] h (omega arith)

pub answers_itself : (top : ℕ) (t : Tree) → IsCanonical t → depth t < top → depth t ≤ 127 → answer_within top (printed t) ≡ Ok t
unfolding answer_within
answers_itself top t h below within = rw (shallow top t h below, read_back t h within, again t h) refl
