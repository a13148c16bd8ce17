-- The text of a value's tokens is the one that is printed for it.
use Rattle.std.proofs.Common.{◌≡◌, ℕ, List, [], ◌∷◌, ◌++◌, Bool, true, false, refl, sym, ap, ◌∙◌, append_assoc, append-nil}
use Rattle.std.specs.Prelude.{codes}
use Rattle.json.specs.Token.{Token}
use Rattle.json.specs.Print.{print, print_from, quoted}
use Rattle.serde_json.specs.Written.{comma_if}
use Rattle.fluid_json.specs.Tree.{Tree, null, boolean, whole, text, list, object, Trees, no_trees, tree, Members, no_members, member}
use Rattle.fluid_json.specs.Printed.{printed, printed_items, printed_more_items, printed_members, printed_more_members}
use Rattle.fluid_json.specs.Tokens.{tokens_of, trees_tokens, members_tokens}

-- a value with its closing bracket's text, grouped in two ways
of_item : (a b c d : List ℕ) → a ++ ((b ++ c) ++ d) ≡ ((a ++ b) ++ c) ++ d
of_item a b c d = simp append_assoc

of_member : (q a b c d : List ℕ) → (q ++ 58 ∷ []) ++ (a ++ ((b ++ c) ++ d)) ≡ ((q ++ 58 ∷ (a ++ b)) ++ c) ++ d
of_member q a b c d = simp append_assoc

mutual
  unfolding print_from

  of_value : (later : Bool) (t : Tree) (ts : List Token) → print_from later (tokens_of t ++ ts) ≡ comma_if later ++ (printed t ++ print_from true ts)
  of_value true null ts = refl
  of_value false null ts = refl
  of_value true (boolean true) ts = refl
  of_value true (boolean false) ts = refl
  of_value false (boolean true) ts = refl
  of_value false (boolean false) ts = refl
  of_value true (whole n) ts = refl
  of_value false (whole n) ts = refl
  of_value true (text s) ts = refl
  of_value false (text s) ts = refl
  of_value true (list us) ts = ap (λ s. 44 ∷ 91 ∷ s) (of_items us ts)
  of_value false (list us) ts = ap (λ s. 91 ∷ s) (of_items us ts)
  of_value true (object ms) ts = ap (λ s. 44 ∷ 123 ∷ s) (of_members ms ts)
  of_value false (object ms) ts = ap (λ s. 123 ∷ s) (of_members ms ts)

  of_items : (us : Trees) (ts : List Token) → print_from false (trees_tokens us ++ ts) ≡ (printed_items us ++ codes "]") ++ print_from true ts
  of_items no_trees ts = refl
  of_items (tree t us) ts =
      ap (print_from false) (append_assoc (tokens_of t) (trees_tokens us) ts) ∙ of_value false t (trees_tokens us ++ ts) ∙ ap (λ s. printed t ++ s) (of_more_items us ts)
      ∙ of_item (printed t) (printed_more_items us) (codes "]") (print_from true ts)

  of_more_items : (us : Trees) (ts : List Token) → print_from true (trees_tokens us ++ ts) ≡ (printed_more_items us ++ codes "]") ++ print_from true ts
  of_more_items no_trees ts = refl
  of_more_items (tree t us) ts =
      ap (print_from true) (append_assoc (tokens_of t) (trees_tokens us) ts) ∙ of_value true t (trees_tokens us ++ ts) ∙ ap (λ s. 44 ∷ (printed t ++ s)) (of_more_items us ts)
      ∙ ap (λ s. 44 ∷ s) (of_item (printed t) (printed_more_items us) (codes "]") (print_from true ts))

  of_members : (ms : Members) (ts : List Token) → print_from false (members_tokens ms ++ ts) ≡ (printed_members ms ++ codes "}") ++ print_from true ts
  of_members no_members ts = refl
  of_members (member k t ms) ts =
      ap (λ s. (quoted k ++ 58 ∷ []) ++ s)
      (ap (print_from false) (append_assoc (tokens_of t) (members_tokens ms) ts) ∙ of_value false t (members_tokens ms ++ ts) ∙ ap (λ s. printed t ++ s) (of_more_members ms ts))
      ∙ of_member (quoted k) (printed t) (printed_more_members ms) (codes "}") (print_from true ts)

  of_more_members : (ms : Members) (ts : List Token) → print_from true (members_tokens ms ++ ts) ≡ (printed_more_members ms ++ codes "}") ++ print_from true ts
  of_more_members no_members ts = refl
  of_more_members (member k t ms) ts =
      ap (λ s. 44 ∷ ((quoted k ++ 58 ∷ []) ++ s))
      (ap (print_from false) (append_assoc (tokens_of t) (members_tokens ms) ts) ∙ of_value false t (members_tokens ms ++ ts) ∙ ap (λ s. printed t ++ s) (of_more_members ms ts))
      ∙ ap (λ s. 44 ∷ s) (of_member (quoted k) (printed t) (printed_more_members ms) (codes "}") (print_from true ts))

pub print-tokens_of : (t : Tree) → print (tokens_of t) ≡ printed t
unfolding print_from
print-tokens_of t = ap print (sym (append-nil (tokens_of t))) ∙ of_value false t [] ∙ append-nil (printed t)
