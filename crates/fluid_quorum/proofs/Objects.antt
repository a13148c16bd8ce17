-- Objects and lists are printed part by part.
use Rattle.std.proofs.Common.{◌≡◌, List, [], ◌∷◌, ◌++◌, refl, ap, sym, ◌∙◌, append_assoc, append-nil}
use Rattle.json.specs.Token.{Token, begin_object, end_object}
use Rattle.fluid_json.specs.Tree.{object, members}
use Rattle.fluid_json.specs.Tokens.{tokens_of, members_tokens}
use Rattle.fluid_types.specs.Printed.{Row}
use Rattle.fluid_quorum.specs.Rows.{row_tokens, rows_tokens}

members_of_rows : (rs : List Row) → members_tokens (members rs) ≡ rows_tokens rs ++ end_object ∷ []
unfolding row_tokens
members_of_rows [] = refl
members_of_rows (r ∷ rs) =
    ap (λ ts. row_tokens r ++ ts) (members_of_rows rs) ∙ sym (append_assoc (row_tokens r) (rows_tokens rs) (end_object ∷ []))

-- an object behind other tokens
object_behind : (before after : List Token) (rs : List Row) → after ≡ (before ++ begin_object ∷ []) ++ rows_tokens rs
    → after ++ end_object ∷ [] ≡ before ++ tokens_of (object (members rs))
object_behind before after rs h =
    ap (λ ts. ts ++ end_object ∷ []) h
    ∙ (append_assoc (before ++ begin_object ∷ []) (rows_tokens rs) (end_object ∷ [])
    ∙ (append_assoc before (begin_object ∷ []) (rows_tokens rs ++ end_object ∷ [])
    ∙ ap (λ ts. before ++ begin_object ∷ ts) (sym (members_of_rows rs))))

rows_end : (before : List Token) (r : Row) → before ++ row_tokens r ≡ before ++ rows_tokens (r ∷ [])
rows_end before r = ap (λ ts. before ++ ts) (sym (append-nil (row_tokens r)))

rows_more : (before : List Token) (r : Row) (rs : List Row) (after : List Token) → after ≡ (before ++ row_tokens r) ++ rows_tokens rs → after ≡ before ++ rows_tokens (r ∷ rs)
rows_more before r rs after h = h ∙ append_assoc before (row_tokens r) (rows_tokens rs)

-- objects of two, three and four members
pub object_of_two : (before : List Token) (a b : Row) → (((before ++ begin_object ∷ []) ++ row_tokens a) ++ row_tokens b) ++ end_object ∷ [] ≡ before ++ tokens_of (object (members (a ∷ b ∷ [])))
object_of_two before a b =
    let start = before ++ begin_object ∷ [] in
    object_behind before _ (a ∷ b ∷ []) (rows_more start a (b ∷ []) _ (rows_end (start ++ row_tokens a) b))

pub object_of_three : (before : List Token) (a b c : Row) → ((((before ++ begin_object ∷ []) ++ row_tokens a) ++ row_tokens b) ++ row_tokens c) ++ end_object ∷ [] ≡ before ++ tokens_of (object (members (a ∷ b ∷ c ∷ [])))
object_of_three before a b c =
    let start = before ++ begin_object ∷ [] in
    object_behind before _ (a ∷ b ∷ c ∷ []) (rows_more start a (b ∷ c ∷ []) _ (rows_more (start ++ row_tokens a) b (c ∷ []) _ (rows_end ((start ++ row_tokens a) ++ row_tokens b) c)))

pub object_of_four : (before : List Token) (a b c d : Row)
    → (((((before ++ begin_object ∷ []) ++ row_tokens a) ++ row_tokens b) ++ row_tokens c) ++ row_tokens d) ++ end_object ∷ [] ≡ before ++ tokens_of (object (members (a ∷ b ∷ c ∷ d ∷ [])))
object_of_four before a b c d =
    let start = before ++ begin_object ∷ [] in
    object_behind before _ (a ∷ b ∷ c ∷ d ∷ [])
    (rows_more start a (b ∷ c ∷ d ∷ []) _
    (rows_more (start ++ row_tokens a) b (c ∷ d ∷ []) _
    (rows_more ((start ++ row_tokens a) ++ row_tokens b) c (d ∷ []) _ (rows_end (((start ++ row_tokens a) ++ row_tokens b) ++ row_tokens c) d))))
