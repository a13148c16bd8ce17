-- The members behind one more message.
use Rattle.std.proofs.Common.{◌≡◌, ℕ, Bool, true, false, cond, not, ◌||◌, if◌then◌else◌, List, [], ◌∷◌, ◌++◌, reverse, filter, fold, bytes_eq, Option, Some, None, refl, sym, ap, ap₂, ◌∙◌, append_assoc, append-nil}
use Rattle.std.specs.Prelude.{option_to_list}
use Rattle.std.specs.List.{list_any}
use Rattle.std.specs.Ordering.{eq_by_cmp}
use Rattle.std.specs.Cmp.Lexicographic.{nat_list_cmp_total}
use Rattle.std.specs.FinMap as table
use Rattle.std.specs.FinMap.{insert, remove, get-remove, same_map, IsAntisymmetric, nat_cmp-IsAntisymmetric, slice_cmp-IsAntisymmetric}
use Rattle.std.specs.FinMap.Entries.{find, find-where_key}
use Rattle.std.proofs.lemmas.Map.Text.{is_eq-slice_cmp}
use Rattle.std.proofs.lemmas.List.{reverse-append}
use Rattle.std.proofs.lemmas.List.Elements.{filter-append}
use Rattle.std.proofs.lemmas.List.Folds.{list_any-append}
use Rattle.fluid_table.specs.Table.{byte_order}
use Rattle.fluid_types.specs.declared.messages.Message.{Message}
use Rattle.fluid_types.specs.declared.quorum.Member.{Member}
use Rattle.fluid_types.specs.Quorum.{latest, member_of, left_by, leaves, unless_left, standing, members}
use Rattle.fluid_types.proofs.Tables.{get-latest}
use Rattle.fluid_quorum.specs.After.{without, with_member}

-- ---- the table of the last values

pub latest-push : {X : Type 0} (pairs : List (List ℕ × X)) (p : List ℕ × X) → latest (pairs ++ p ∷ []) ≡ insert (latest pairs) p.0 p.1
unfolding latest
latest-push pairs p = ap (λ es. table.from_entries es) (reverse-append pairs (p ∷ []))

pub latest-append : {X : Type 0} (pairs more : List (List ℕ × X)) → latest (pairs ++ more) ≡ fold (λ t p. insert t p.0 p.1) (latest pairs) more
latest-append pairs [] = ap latest (append-nil pairs)
latest-append pairs (p ∷ more) =
    ap latest (sym (append_assoc pairs (p ∷ []) more)) ∙ latest-append (pairs ++ p ∷ []) more ∙ ap (λ t. fold (λ u q. insert u q.0 q.1) t more) (latest-push pairs p)

filter-reverse : {X : Type 0} (p : X → Bool) (xs : List X) → filter p (reverse xs) ≡ reverse (filter p xs)
filter-reverse p [] = refl
filter-reverse p (x ∷ xs) =
    ap (filter p) (reverse-append (x ∷ []) xs) ∙ filter-append p (reverse xs) (x ∷ []) ∙ ap (λ l. l ++ filter p (x ∷ [])) (filter-reverse p xs)
    ∙ elim (p x) as (λ b. reverse (filter p xs) ++ cond b (x ∷ []) [] ≡ reverse (cond b (x ∷ filter p xs) (filter p xs))) [
      | true ↦ sym (reverse-append (x ∷ []) (filter p xs))
      | false ↦ append-nil (reverse (filter p xs))
    ]

turned : {A : Type 0} (b : Bool) (x : A) (y : A) → cond (not b) x y ≡ cond b y x
turned true x y = refl
turned false x y = refl

same_ties : (k id : List ℕ) → bytes_eq k id ≡ eq_by_cmp byte_order k id
same_ties k id = sym (is_eq-slice_cmp k id)

byte_order-IsAntisymmetric : IsAntisymmetric byte_order
byte_order-IsAntisymmetric = slice_cmp-IsAntisymmetric nat_cmp-IsAntisymmetric

-- leaving out an id is removing it
latest-others : {X : Type 0} (id : List ℕ) (pairs : List (List ℕ × X)) → latest (filter (λ e. not (eq_by_cmp byte_order e.0 id)) pairs) ≡ remove (latest pairs) id
latest-others id pairs = same_map nat_list_cmp_total byte_order-IsAntisymmetric _ _ (λ q.
    get-latest (filter (λ e. not (eq_by_cmp byte_order e.0 id)) pairs) q
    ∙ ap (find byte_order q) (sym (filter-reverse (λ e. not (eq_by_cmp byte_order e.0 id)) pairs))
    ∙ find-where_key byte_order (λ k. not (eq_by_cmp byte_order k id)) q (λ x e. ap (λ k. not (eq_by_cmp byte_order k id)) (sym (byte_order-IsAntisymmetric q x e))) (reverse pairs)
    ∙ turned (eq_by_cmp byte_order q id) _ _
    ∙ sym (get-remove nat_list_cmp_total (latest pairs) id q ∙ ap (cond (eq_by_cmp byte_order q id) None) (get-latest pairs q)))

-- ---- leaves

filter_same : {X : Type 0} (p q : X → Bool) (xs : List X) → ((x : X) → p x ≡ q x) → filter p xs ≡ filter q xs
filter_same p q [] same = refl
filter_same p q (x ∷ xs) same = rw (same x, filter_same p q xs same) refl

filter_all : {X : Type 0} (xs : List X) → filter (λ _. true) xs ≡ xs
filter_all [] = refl
filter_all (x ∷ xs) = ap (λ l. x ∷ l) (filter_all xs)

or_false : (b : Bool) → b || false ≡ b
or_false true = refl
or_false false = refl

latest-left : (o : Option (List ℕ)) (pairs : List (List ℕ × Member)) → latest (filter (λ e. not (list_any (bytes_eq e.0) (option_to_list o))) pairs) ≡ without o (latest pairs)
latest-left None pairs = ap latest (filter_all pairs)
latest-left (Some id) pairs =
    ap latest (filter_same _ (λ e. not (eq_by_cmp byte_order e.0 id)) pairs (λ e. ap not (or_false (bytes_eq e.0 id) ∙ same_ties e.0 id))) ∙ latest-others id pairs

-- ---- one more message

module _ (m : Message) where
  abbrev stays : List ℕ × Member → Bool
  stays e = not (leaves e.0 m)

  chosen : (e : List ℕ × Member) (a b : Bool) → stays e ≡ not b → (if a || (b || false) then [] else e ∷ []) ≡ filter stays (if a then [] else e ∷ [])
  chosen e true b is = refl
  chosen e false true is = rw is refl
  chosen e false false is = rw is refl

  unless_left-push : (behind : List Message) (o : Option Member) → unless_left (behind ++ m ∷ []) o ≡ filter stays (unless_left behind o)
  unless_left-push behind None = refl
  unless_left-push behind (Some j) =
      ap (λ b. if b then [] else (j.id, j) ∷ []) (list_any-append (leaves j.id) behind (m ∷ [])) ∙ chosen (j.id, j) (list_any (leaves j.id) behind) (leaves j.id m) refl

  standing-push : (ms : List Message) → standing (ms ++ m ∷ []) ≡ filter stays (standing ms) ++ unless_left [] (member_of m)
  unfolding standing
  standing-push [] = append-nil (unless_left [] (member_of m))
  standing-push (n ∷ ms) =
      ap₂ (λ a b. a ++ b) (unless_left-push ms (member_of n)) (standing-push ms)
      ∙ sym (append_assoc (filter stays (unless_left ms (member_of n))) (filter stays (standing ms)) (unless_left [] (member_of m)))
      ∙ ap (λ l. l ++ unless_left [] (member_of m)) (sym (filter-append stays (unless_left ms (member_of n)) (standing ms)))

  joined : (o : Option Member) (pairs : List (List ℕ × Member)) → latest (pairs ++ unless_left [] o) ≡ with_member o (latest pairs)
  joined None pairs = ap latest (append-nil pairs)
  joined (Some j) pairs = latest-push pairs (j.id, j)

  pub members-push : (ms : List Message) → members (ms ++ m ∷ []) ≡ with_member (member_of m) (without (left_by m) (members ms))
  unfolding members
  members-push ms =
      ap latest (standing-push ms) ∙ joined (member_of m) (filter stays (standing ms)) ∙ ap (with_member (member_of m)) (latest-left (left_by m) (standing ms))
