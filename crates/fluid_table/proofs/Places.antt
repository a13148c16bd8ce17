-- Maps from keys in byte order: what is found behind an edit.
use Rattle.std.proofs.Common.{◌≡◌, ℕ, Bool, true, false, cond, T, IsTrue, List, [], ◌∷◌, map, Some, None, Option, bytes_eq, refl, sym, ap, subst, ◌∙◌}
use Rattle.std.specs.Cmp.{IsTotalOrder}
use Rattle.std.specs.Cmp.Lexicographic.{nat_list_cmp_total}
use Rattle.std.specs.FinMap as finite
use Rattle.std.specs.FinMap.{IsAntisymmetric, nat_cmp-IsAntisymmetric, slice_cmp-IsAntisymmetric, get-insert, get-remove, same_map}
use Rattle.std.specs.FinMap.Entries.{is_sorted}
use Rattle.std.proofs.lemmas.Map.Text.{is_eq-slice_cmp}
use Rattle.std.proofs.lemmas.Slice.Eq.{bytes_eq-Decides}
use Rattle.fluid_table.specs.Table.{byte_order, Values}

pub byte_order_total : IsTotalOrder byte_order
byte_order_total = nat_list_cmp_total

pub byte_order-IsAntisymmetric : IsAntisymmetric byte_order
byte_order-IsAntisymmetric = slice_cmp-IsAntisymmetric nat_cmp-IsAntisymmetric

abbrev pub AreInOrder : {V : Type 0} → List (List ℕ × V) → Type 0
AreInOrder es = IsTrue (is_sorted byte_order es)

-- the two ways to say that a test holds
pub holds : (b : Bool) → IsTrue b → T b
holds b is = subst T (sym is) tt

pub is_true : (b : Bool) → T b → IsTrue b
is_true true p = refl
is_true false p = absurd p

-- pairs of a key and a value are those of their keys and values
pub same_pairs : {V : Type 0} (es : List (List ℕ × V)) → map (λ e. (e.0, e.1)) es ≡ es
same_pairs [] = refl
same_pairs (e ∷ es) = ap (λ rest. e ∷ rest) (same_pairs es)

-- ---- what is found behind an edit

pub get_inserted : {V : Type 0} (values : Values V) (key : List ℕ) (value : V) (other : List ℕ) → finite.get (finite.insert values key value) other ≡ cond (bytes_eq other key) (Some value) (finite.get values other)
get_inserted values key value other =
    get-insert byte_order_total values key value other ∙ ap (λ b. cond b (Some value) (finite.get values other)) (is_eq-slice_cmp other key)

pub get_removed : {V : Type 0} (values : Values V) (key other : List ℕ) → finite.get (finite.remove values key) other ≡ cond (bytes_eq other key) None (finite.get values other)
get_removed values key other =
    get-remove byte_order_total values key other ∙ ap (λ b. cond b None (finite.get values other)) (is_eq-slice_cmp other key)

-- two maps in which every key has the same are one
pub same_values : {V : Type 0} (one other : Values V) → ((key : List ℕ) → finite.get one key ≡ finite.get other key) → one ≡ other
same_values one other alike = same_map byte_order_total byte_order-IsAntisymmetric one other alike

twice : {V : Type 0} (b : Bool) (one other : V) (before : Option V) → cond b (Some other) (cond b (Some one) before) ≡ cond b (Some other) before
twice true one other before = refl
twice false one other before = refl

-- a value that is put over another
pub insert_again : {V : Type 0} (values : Values V) (key : List ℕ) (one other : V) → finite.insert (finite.insert values key one) key other ≡ finite.insert values key other
insert_again values key one other =
    same_values _ _ (λ q.
    get_inserted (finite.insert values key one) key other q
    ∙ ap (cond (bytes_eq q key) (Some other)) (get_inserted values key one q)
    ∙ twice (bytes_eq q key) one other (finite.get values q) ∙ sym (get_inserted values key other q))

gone : {V : Type 0} (b : Bool) (one : V) (before : Option V) → cond b None (cond b (Some one) before) ≡ cond b None before
gone true one before = refl
gone false one before = refl

-- a value that is put and taken out
pub remove_inserted : {V : Type 0} (values : Values V) (key : List ℕ) (one : V) → finite.remove (finite.insert values key one) key ≡ finite.remove values key
remove_inserted values key one =
    same_values _ _ (λ q.
    get_removed (finite.insert values key one) key q
    ∙ ap (cond (bytes_eq q key) None) (get_inserted values key one q)
    ∙ gone (bytes_eq q key) one (finite.get values q) ∙ sym (get_removed values key q))

-- a value that is put is found
pub get_own : {V : Type 0} (values : Values V) (key : List ℕ) (value : V) → finite.get (finite.insert values key value) key ≡ Some value
get_own values key value = get_inserted values key value key ∙ ap (λ b. cond b (Some value) (finite.get values key)) ((bytes_eq-Decides key key).1 refl)
