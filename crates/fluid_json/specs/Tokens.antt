-- The tokens of a value, in the order in which they are printed.
use Rattle.std.specs.Prelude.{ℕ, List, [], ◌∷◌, ◌++◌, refl}
use Rattle.std.specs.Coded.{Coded, code_by, coded×, coded_list, coded_ℕ}
use Rattle.std.specs.Fmt.{signed_decimal}
use Rattle.json.specs.Token as token
use Rattle.json.specs.Token.{Token, tokens_code}
use Rattle.fluid_json.specs.Tree.{Tree, null, boolean, whole, text, list, object, Trees, no_trees, tree, Members, no_members, member}

abbrev mutual
  pub tokens_of : Tree → List Token
  tokens_of null = token.null ∷ []
  tokens_of (boolean b) = token.boolean b ∷ []
  tokens_of (whole n) = token.number (signed_decimal n) ∷ []
  tokens_of (text s) = token.string s ∷ []
  tokens_of (list ts) = token.begin_array ∷ trees_tokens ts
  tokens_of (object ms) = token.begin_object ∷ members_tokens ms

  -- with the closing bracket
  pub trees_tokens : Trees → List Token
  trees_tokens no_trees = token.end_array ∷ []
  trees_tokens (tree t ts) = tokens_of t ++ trees_tokens ts

  pub members_tokens : Members → List Token
  members_tokens no_members = token.end_object ∷ []
  members_tokens (member k t ms) = token.key k ∷ (tokens_of t ++ members_tokens ms)

-- ---- what a printer has: the bytes that stood before, and the tokens that it printed behind them

pub record Printing : Type 0 where
  pub before : List ℕ
  pub tokens : List Token

abbrev pub printing_code : Coded Printing
printing_code =
    code_by (List ℕ × List Token) (coded× (coded_list coded_ℕ) tokens_code) (λ p. (p.before, p.tokens)) (λ p. record { before = p.0; tokens = p.1 }) (λ _. refl)
