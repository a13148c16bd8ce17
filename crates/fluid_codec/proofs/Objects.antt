-- Objects are printed member by member.
use Rattle.std.proofs.Common.{◌≡◌, ℕ, map, Option, Some, None, option_map, List, [], ◌∷◌, ◌++◌, refl, ap, sym, ◌∙◌, append_assoc}
use Rattle.json.specs.Token.{Token, begin_object, end_object, begin_array, end_array}
use Rattle.fluid_json.specs.Tree.{Tree, text, list, trees, object, members}
use Rattle.fluid_json.specs.Tokens.{tokens_of, trees_tokens, members_tokens}
use Rattle.fluid_types.specs.Printed.{Row, row_if_any, message_rows}
use Rattle.fluid_types.specs.declared.fault.Field.TheVariants as field
use Rattle.fluid_types.specs.declared.messages.Message.{Message}
use Rattle.fluid_codec.specs.Parts.{first_rows, last_rows}
use Rattle.fluid_codec.specs.Rows.{row_tokens, rows_tokens, texts_tokens, item_tokens, items_tokens}

pub members_of_rows : (rs : List Row) → members_tokens (members rs) ≡ rows_tokens rs ++ end_object ∷ []
unfolding row_tokens
members_of_rows [] = refl
members_of_rows (r ∷ rs) =
    ap (λ ts. row_tokens r ++ ts) (members_of_rows rs) ∙ sym (append_assoc (row_tokens r) (rows_tokens rs) (end_object ∷ []))

-- an object behind other tokens
pub object_behind : (before after : List Token) (rs : List Row) → after ≡ (before ++ begin_object ∷ []) ++ rows_tokens rs
    → after ++ end_object ∷ [] ≡ before ++ tokens_of (object (members rs))
object_behind before after rs h =
    ap (λ ts. ts ++ end_object ∷ []) h
    ∙ (append_assoc (before ++ begin_object ∷ []) (rows_tokens rs) (end_object ∷ [])
    ∙ (append_assoc before (begin_object ∷ []) (rows_tokens rs ++ end_object ∷ [])
    ∙ ap (λ ts. before ++ begin_object ∷ ts) (sym (members_of_rows rs))))

-- ---- a list of texts

pub items_of_texts : (ss : List (List ℕ)) → trees_tokens (trees (map text ss)) ≡ texts_tokens ss ++ end_array ∷ []
items_of_texts [] = refl
items_of_texts (s ∷ ss) =
    ap (λ ts. tokens_of (text s) ++ ts) (items_of_texts ss) ∙ sym (append_assoc (tokens_of (text s)) (texts_tokens ss) (end_array ∷ []))

pub texts_tokens-append : (ss us : List (List ℕ)) → texts_tokens (ss ++ us) ≡ texts_tokens ss ++ texts_tokens us
texts_tokens-append [] us = refl
texts_tokens-append (s ∷ ss) us = ap (λ ts. tokens_of (text s) ++ ts) (texts_tokens-append ss us) ∙ sym (append_assoc (tokens_of (text s)) (texts_tokens ss) (texts_tokens us))

pub texts_behind : (before after : List Token) (ss : List (List ℕ)) → after ≡ (before ++ begin_array ∷ []) ++ texts_tokens ss
    → after ++ end_array ∷ [] ≡ before ++ tokens_of (list (trees (map text ss)))
texts_behind before after ss h =
    ap (λ ts. ts ++ end_array ∷ []) h
    ∙ (append_assoc (before ++ begin_array ∷ []) (texts_tokens ss) (end_array ∷ [])
    ∙ (append_assoc before (begin_array ∷ []) (texts_tokens ss ++ end_array ∷ [])
    ∙ ap (λ ts. before ++ begin_array ∷ ts) (sym (items_of_texts ss))))

-- three parts behind other tokens
pub words_behind : (before after : List Token) (a b c : List (List ℕ)) → after ≡ ((before ++ texts_tokens a) ++ texts_tokens b) ++ texts_tokens c
    → after ≡ before ++ texts_tokens (a ++ (b ++ c))
words_behind before after a b c h =
    h ∙ (append_assoc (before ++ texts_tokens a) (texts_tokens b) (texts_tokens c)
    ∙ (append_assoc before (texts_tokens a) (texts_tokens b ++ texts_tokens c)
    ∙ ap (λ ts. before ++ ts) (sym (texts_tokens-append a (b ++ c) ∙ ap (λ ts. texts_tokens a ++ ts) (texts_tokens-append b c)))))

-- ---- members in parts

pub rows_tokens_append : (rs qs : List Row) → rows_tokens (rs ++ qs) ≡ rows_tokens rs ++ rows_tokens qs
rows_tokens_append [] qs = refl
rows_tokens_append (r ∷ rs) qs = ap (λ ts. row_tokens r ++ ts) (rows_tokens_append rs qs) ∙ sym (append_assoc (row_tokens r) (rows_tokens rs) (rows_tokens qs))

pub rows_behind : (before after : List Token) (rs qs : List Row) → after ≡ (before ++ rows_tokens rs) ++ rows_tokens qs → after ≡ before ++ rows_tokens (rs ++ qs)
rows_behind before after rs qs h = h ∙ (append_assoc before (rows_tokens rs) (rows_tokens qs) ∙ ap (λ ts. before ++ ts) (sym (rows_tokens_append rs qs)))

-- four parts behind other tokens
pub four_parts : (before : List Token) (a b c d : List Row) → (((before ++ rows_tokens a) ++ rows_tokens b) ++ rows_tokens c) ++ rows_tokens d ≡ before ++ rows_tokens (a ++ (b ++ (c ++ d)))
four_parts before a b c d =
    rows_behind before _ a (b ++ (c ++ d)) (rows_behind (before ++ rows_tokens a) _ b (c ++ d) (rows_behind ((before ++ rows_tokens a) ++ rows_tokens b) _ c d refl))

-- a value is its own tree
option_map-same : (o : Option Tree) → o ≡ option_map (λ t. t) o
option_map-same None = refl
option_map-same (Some t) = refl

pub message_parts : (m : Message)
    → message_rows m ≡ first_rows m ++ (row_if_any field.Data (option_map text m.system) ++ (row_if_any field.Metadata (option_map (λ t. t) m.metadata) ++ last_rows m))
unfolding message_rows first_rows last_rows
message_parts m = ap (λ o. first_rows m ++ (row_if_any field.Data (option_map text m.system) ++ (row_if_any field.Metadata o ++ last_rows m))) (option_map-same m.metadata)

-- ---- lists

pub items_of_list : (ts : List Tree) → trees_tokens (trees ts) ≡ items_tokens ts ++ end_array ∷ []
unfolding item_tokens
items_of_list [] = refl
items_of_list (t ∷ ts) = ap (λ us. tokens_of t ++ us) (items_of_list ts) ∙ sym (append_assoc (tokens_of t) (items_tokens ts) (end_array ∷ []))

pub list_behind : (before after : List Token) (ts : List Tree) → after ≡ (before ++ begin_array ∷ []) ++ items_tokens ts
    → after ++ end_array ∷ [] ≡ before ++ tokens_of (list (trees ts))
list_behind before after ts h =
    ap (λ us. us ++ end_array ∷ []) h
    ∙ (append_assoc (before ++ begin_array ∷ []) (items_tokens ts) (end_array ∷ [])
    ∙ (append_assoc before (begin_array ∷ []) (items_tokens ts ++ end_array ∷ [])
    ∙ ap (λ us. before ++ begin_array ∷ us) (sym (items_of_list ts))))
