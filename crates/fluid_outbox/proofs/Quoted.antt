-- The JSON text of an id.
use Rattle.std.proofs.Common.{◌≡◌, ℕ, ◌-◌, ◌<◌, nat_le, Bool, true, false, not, ◌&&◌, List, [], ◌∷◌, ◌++◌, length, take, drop, refl, sym, ◌∙◌, ap, bytes_eq, arith, inl, inr, length-append, IsTrue}
use Rattle.std.specs.List.{list_all}
use Rattle.std.proofs.lemmas.Bool.{agree_below_at, lt-leb, ne_eqb, and_parts, false_from_ne_true, not-false, cases_lt}
use Rattle.std.proofs.lemmas.List.{take-append-drop, drop_at, append_cancel_left, append_cancel_right}
use Rattle.json.specs.Print.{escape_byte, escape}
use Rattle.fluid_json.specs.Tree.{text}
use Rattle.fluid_json.specs.Printed.{printed}
use Rattle.fluid_types.specs.Names.{is_name_byte, is_name, IsName}
use Rattle.fluid_rules.proofs.Ids.{same_id, own_id, and_false}
use Rattle.fluid_outbox.proofs.Tests.{same_test, no_test}

-- ---- a name has no character that is written in another way

is_single : ℕ → Bool
unfolding escape_byte
is_single x = bytes_eq (escape_byte x) (x ∷ [])

is_odd : ℕ → Bool
unfolding is_single
is_odd x = is_name_byte x && not (is_single x)

above : (x : ℕ) → 122 < x → is_name_byte x ≡ false
above x h =
    rw (
      lt-leb x 90 (omega (arith, h)),
      lt-leb x 122 h,
      lt-leb x 57 (omega (arith, h)),
      and_false (nat_le 65 x),
      and_false (nat_le 97 x),
      and_false (nat_le 48 x),
      ne_eqb x 95 (λ is. omega (arith, h, is)),
      ne_eqb x 45 (λ is. omega (arith, h, is)),
    )
    refl

single : (x : ℕ) → is_name_byte x ≡ true → escape_byte x ≡ x ∷ []
unfolding is_single is_odd escape_byte
single x name = elim (cases_lt 122 x) [
  | inl over ↦ absurd (no_test _ name (above x over))
  | inr within ↦
      let odd : (is_name_byte x && not (is_single x)) ≡ false = agree_below_at is_odd (λ _. false) 123 x refl (omega (arith, within)) in
      let not_single : not (is_single x) ≡ false = rw name at odd in
      same_id (escape_byte x) (x ∷ []) (not-false (is_single x) not_single)
]

as_they_are : (s : List ℕ) → list_all is_name_byte s ≡ true → escape s ≡ s
as_they_are [] names = refl
as_they_are (x ∷ s) names =
    let parts = and_parts (is_name_byte x) (list_all is_name_byte s) names in
    rw (single x parts.0) (ap (λ rest. x ∷ rest) (as_they_are s parts.1))

escape_name : (id : List ℕ) → IsName id → escape id ≡ id
unfolding is_name
escape_name id name = as_they_are id (and_parts _ (list_all is_name_byte id) (is_true (is_name id) name)).1
  where
    is_true : (b : Bool) → IsTrue b → b ≡ true
    is_true b h = h

-- ---- between quotation marks

begins : (t : List ℕ) → bytes_eq (take 1 t) (34 ∷ []) ≡ true → t ≡ 34 ∷ drop 1 t
begins [] is = absurd (cc)
begins (x ∷ t) is = ap (λ (prefix : List ℕ). prefix ++ t) (same_id (x ∷ []) (34 ∷ []) is)

ends : (r : List ℕ) → bytes_eq (drop (length r - 1) r) (34 ∷ []) ≡ true → r ≡ take (length r - 1) r ++ 34 ∷ []
ends r is = sym (take-append-drop (length r - 1) r) ∙ ap (λ (last : List ℕ). take (length r - 1) r ++ last) (same_id (drop (length r - 1) r) (34 ∷ []) is)

last_of : (s : List ℕ) → drop (length (s ++ 34 ∷ []) - 1) (s ++ 34 ∷ []) ≡ 34 ∷ []
last_of s = drop_at s (34 ∷ []) (length (s ++ 34 ∷ []) - 1) (omega (arith, length-append s (34 ∷ [])))

-- a text that doesn't end so isn't that of an id
pub not_quoted : (t rest id : List ℕ) → bytes_eq (take 1 t) (34 ∷ []) ≡ true → rest ≡ drop 1 t → bytes_eq (drop (length rest - 1) rest) (34 ∷ []) ≡ false →
    bytes_eq t (printed (text id)) ≡ false
not_quoted t rest id starts rest_is stops =
    false_from_ne_true _ (λ is.
    let whole : t ≡ printed (text id) = same_id t (printed (text id)) is in
    let inside : rest ≡ escape id ++ 34 ∷ [] = rest_is ∙ ap (drop 1) whole in
    no_test _ (ap (λ (r : List ℕ). bytes_eq (drop (length r - 1) r) (34 ∷ [])) inside ∙ ap (λ (l : List ℕ). bytes_eq l (34 ∷ [])) (last_of (escape id))) stops)

-- one that does is where what stands between is the id
pub quoted : (t rest own id : List ℕ) → IsName id → bytes_eq (take 1 t) (34 ∷ []) ≡ true → rest ≡ drop 1 t → bytes_eq (drop (length rest - 1) rest) (34 ∷ []) ≡ true →
    own ≡ take (length rest - 1) rest → bytes_eq own id ≡ bytes_eq t (printed (text id))
quoted t rest own id name starts rest_is stops own_is =
    let inside : rest ≡ own ++ 34 ∷ [] = ends rest stops ∙ ap (λ (prefix : List ℕ). prefix ++ 34 ∷ []) (sym own_is) in
    let whole : t ≡ 34 ∷ (own ++ 34 ∷ []) = begins t starts ∙ ap (λ (r : List ℕ). 34 ∷ r) (sym rest_is ∙ inside) in
    let text_is : printed (text id) ≡ 34 ∷ (id ++ 34 ∷ []) = ap (λ (s : List ℕ). 34 ∷ (s ++ 34 ∷ [])) (escape_name id name) in
    same_test (bytes_eq own id) (bytes_eq t (printed (text id)))
    (λ is.
    ap (λ (s : List ℕ). bytes_eq s (printed (text id))) (whole ∙ ap (λ (s : List ℕ). 34 ∷ (s ++ 34 ∷ [])) (same_id own id is) ∙ sym text_is) ∙ own_id (printed (text id)))
    (λ is.
    let same : 34 ∷ (own ++ 34 ∷ []) ≡ 34 ∷ (id ++ 34 ∷ []) = sym whole ∙ same_id t (printed (text id)) is ∙ text_is in
    let between : own ≡ id = append_cancel_right own id (34 ∷ []) (append_cancel_left (34 ∷ []) (own ++ 34 ∷ []) (id ++ 34 ∷ []) same) in
    ap (λ (s : List ℕ). bytes_eq s id) between ∙ own_id id)
