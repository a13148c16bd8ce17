-- The texts that are written of a quorum.
use Rattle.std.proofs.Common.{◌≡◌, ℕ, List, [], ◌∷◌, ◌++◌, map, Option, Some, None, String, Global, string_bytes, append_assoc, append-nil, IsUtf8, refl, sym, ap, ◌∙◌}
use Rattle.std.specs.FinMap.{entries}
use Rattle.std.specs.FinMap as table
use Rattle.json.specs.Token.{Token}
use Rattle.fluid_json.specs.Printed.{printed}
use Rattle.fluid_json.specs.Tree.{Tree, list, trees}
use Rattle.fluid_json.specs.Tokens.{tokens_of, trees_tokens}
use Rattle.fluid_types.specs.declared.quorum.Accepted.{Accepted}
use Rattle.fluid_types.specs.declared.quorum.Member.{Member}
use Rattle.fluid_types.specs.declared.quorum.QuorumBlob.TheVariants.{Attributes, Members, Proposals, Values}
use Rattle.fluid_types.specs.Quorum.{Quorum}
use Rattle.fluid_types.specs.Blobs.{member_tree, value_tree, list_tree, blob_text}
use Rattle.fluid_quorum.specs.Rows.{place_tokens}
use Rattle.fluid_quorum.specs.Places.{Places, AreOrdered, held, table_at, with_place}
use Rattle.fluid_quorum.specs.Node.{AreTexts}
use Rattle.fluid_quorum.proofs.Placed.{listed}

pub places_text : (m : Places Accepted) → AreOrdered m → printed (list_tree value_tree (held m.entries)) ≡ printed (list_tree value_tree (entries (table_at m)))
places_text m order = ap (λ es. printed (list_tree value_tree es)) (sym (listed m order))

of_values : (es : List (List ℕ × Member)) → list_tree (λ e. member_tree e.1) es ≡ list_tree member_tree (map (λ e. e.1) es)
of_values es = ap (λ ts. list (trees ts)) (map-map es)
  where
    map-map : (es : List (List ℕ × Member)) → map (λ (e : List ℕ × Member). member_tree e.1) es ≡ map member_tree (map (λ (e : List ℕ × Member). e.1) es)
    map-map [] = refl
    map-map (e ∷ es) = ap (λ l. member_tree e.1 ∷ l) (map-map es)

pub members_text : (m : Places Member) → AreOrdered m → printed (list_tree (λ e. member_tree e.1) (held m.entries)) ≡ printed (list_tree member_tree (table.values (table_at m)))
members_text m order = ap printed (of_values (held m.entries)) ∙ ap (λ es. printed (list_tree member_tree (map (λ (e : List ℕ × Member). e.1) es))) (sym (listed m order))

-- ---- the tokens of a place

module _ {V : Type 0} where
  pub put_some : (tree_of : V → Tree) (o : Option V) (v : V) (old new : List Token) → o ≡ Some v → new ≡ old ++ tokens_of (tree_of v) → new ≡ old ++ place_tokens tree_of o
  put_some tree_of o v old new is put = put ∙ ap (λ p. old ++ place_tokens tree_of p) (sym is)

  pub put_none : (tree_of : V → Tree) (o : Option V) (old : List Token) → o ≡ None → old ≡ old ++ place_tokens tree_of o
  put_none tree_of o old is = sym (append-nil old) ∙ ap (λ p. old ++ place_tokens tree_of p) (sym is)

  module _ (tree_of : List ℕ × V → Tree) where
    abbrev pub tokens_at : List (List ℕ × V) → List Token
    tokens_at es = trees_tokens (trees (map tree_of es))

    split : (key : List ℕ) (o : Option V) (rest : List (List ℕ × V)) → tokens_at (with_place key o rest) ≡ place_tokens (λ v. tree_of (key, v)) o ++ tokens_at rest
    split key None rest = refl
    split key (Some v) rest = refl

    -- one place more
    pub put_on : (s : String Global) (key : List ℕ) (o : Option V) (left rest : List (String Global × Option V)) (old new all : List Token)
        → left ≡ (s, o) ∷ rest → key ≡ string_bytes s → new ≡ old ++ place_tokens (λ v. tree_of (key, v)) o → old ++ tokens_at (held left) ≡ all → new ++ tokens_at (held rest) ≡ all
    put_on s key o left rest old new all left_is key_is put before =
        ap (λ l. l ++ tokens_at (held rest)) (put ∙ ap (λ k. old ++ place_tokens (λ v. tree_of (k, v)) o) key_is)
        ∙ append_assoc old (place_tokens (λ v. tree_of (string_bytes s, v)) o) (tokens_at (held rest))
        ∙ ap (λ l. old ++ l) (sym (split (string_bytes s) o (held rest)))
        ∙ ap (λ l. old ++ tokens_at (held l)) (sym left_is)
        ∙ before

    pub put_all : (left : List (String Global × Option V)) (old all : List Token) → left ≡ [] → old ++ tokens_at (held left) ≡ all → old ++ tokens_at [] ≡ all
    put_all left old all none before = ap (λ l. old ++ tokens_at (held l)) (sym none) ∙ before

pub four_texts : (q : Quorum) → IsUtf8 (blob_text q Attributes) → IsUtf8 (blob_text q Members) → IsUtf8 (blob_text q Proposals) → IsUtf8 (blob_text q Values) → AreTexts q
four_texts q attributes members proposals values Attributes = attributes
four_texts q attributes members proposals values Members = members
four_texts q attributes members proposals values Proposals = proposals
four_texts q attributes members proposals values Values = values
