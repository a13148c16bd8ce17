-- The first of the joined clients that is silent, place by place.
use Rattle.std.proofs.Common.{◌≡◌, is_some, ℕ, zero, suc, ◌+◌, ◌<◌, ◌≤◌, Bool, true, false, List, [], ◌∷◌, length, drop, slice_get, Option, Some, None, refl, sym, ap, ◌∙◌, arith, get_or}
use Rattle.std.specs.Prelude.{IsSome, nat_lt, if◌then◌else◌}
use Rattle.std.specs.List.{list_any}
use Rattle.std.specs.Ordering.{eq_by_cmp}
use Rattle.std.specs.Option.{option_map, option_map_or}
use Rattle.std.specs.FinMap.{get, keys, len, contains_key-keys}
use Rattle.std.proofs.lemmas.Bool.{false≢true, lt-ltb, le-ltb, or_left, or_right}
use Rattle.std.proofs.Math.ListN.{drop_of_length-le}
use Rattle.std.proofs.lemmas.Option.{none-some, same_Some, slice_get-get_or}
use Rattle.std.proofs.lemmas.Slice.Eq.{bytes_eq-Decides}
use Rattle.fluid_types.specs.declared.entries.Raw.TheVariants.{Leave}
use Rattle.fluid_clients.specs.declared.table.Row.{Row}
use Rattle.fluid_clients.specs.Table.{Rows, byte_order}
use Rattle.fluid_rules.specs.Past.{is_sequenced}
use Rattle.fluid_rules.specs.Rules.{unsettled}
use Rattle.fluid_ticket.specs.State as ticket
use Rattle.fluid_ticket.proofs.Ledgers.{tied_back}
use Rattle.fluid_core.specs.Entering.{State, verdict_in}
use Rattle.fluid_lane.specs.Sweeps.{is_silent, first_by, first_silent}
use Rattle.fluid_lane.proofs.Ids.{length-keys}

-- ---- places

pub at_place : (ids : List (List ℕ)) (n : ℕ) → n < length ids → (id : List ℕ) × (slice_get ids n ≡ Some id)
at_place ids n lt = (get_or ids n [], slice_get-get_or ids n [] lt)

-- a place among the joined clients has an id
pub id_there : (rows : Rows) (place : ℕ) → place < len rows → None ≡ slice_get (keys rows) place → ⊥
id_there rows place lt none = none-some _ (none ∙ (at_place (keys rows) place (omega (arith, lt, length-keys rows))).1)

-- and an id that stands there has a row
any_at : (id : List ℕ) (ids : List (List ℕ)) (n : ℕ) → slice_get ids n ≡ Some id → list_any (eq_by_cmp byte_order id) ids ≡ true
any_at id [] n is = absurd (none-some _ is)
any_at id (x ∷ ids) zero is = or_left _ _ (tied_back id x ∙ (bytes_eq-Decides x id).1 (same_Some x id is))
any_at id (x ∷ ids) (suc n) is = or_right _ _ (any_at id ids n is)

pub row_there : (rows : Rows) (id : List ℕ) (place : ℕ) → slice_get (keys rows) place ≡ Some id → IsSome (get rows id)
row_there rows id place is = contains_key-keys rows id ∙ any_at id (keys rows) place is

pub row_absent : (rows : Rows) (id : List ℕ) (place : ℕ) → slice_get (keys rows) place ≡ Some id → None ≡ get rows id → ⊥
row_absent rows id place is none = false≢true (ap is_some none ∙ row_there rows id place is)

-- ---- the search

drop_at : (xs : List (List ℕ)) (n : ℕ) (x : List ℕ) → slice_get xs n ≡ Some x → drop n xs ≡ x ∷ drop (n + 1) xs
drop_at [] n x is = absurd (none-some _ is)
drop_at (y ∷ xs) zero x is = ap (λ z. z ∷ xs) (same_Some y x is)
drop_at (y ∷ xs) (suc n) x is =
    let on : suc (n + 1) ≡ suc n + 1 = omega arith in
    drop_at xs n x is ∙ ap (λ k. x ∷ drop k (y ∷ xs)) on

-- the client in this place was last heard of then
abbrev pub IsHeardAt : Rows → ℕ → ℕ → Type 0
IsHeardAt rows place heard = (id : List ℕ) → slice_get (keys rows) place ≡ Some id → option_map (λ (row : Row). row.heard) (get rows id) ≡ Some heard

-- the client in this place, with its row
record IsOne (rows : Rows) (place heard : ℕ) : Type 0 where
  id : List ℕ
  row : Row
  here : slice_get (keys rows) place ≡ Some id
  there : get rows id ≡ Some row
  at : row.heard ≡ heard

row_with : (o : Option Row) (heard : ℕ) → option_map (λ (row : Row). row.heard) o ≡ Some heard → (row : Row) × ((o ≡ Some row) × (row.heard ≡ heard))
row_with None heard is = absurd (none-some _ is)
row_with (Some row) heard is = (row, (refl, same_Some row.heard heard is))

one_at : (rows : Rows) (place heard : ℕ) → place < len rows → IsHeardAt rows place heard → IsOne rows place heard
one_at rows place heard lt is =
    let here = at_place (keys rows) place (omega (arith, lt, length-keys rows)) in
    let row = row_with (get rows here.0) heard (is here.0 here.1) in
    record { id = here.0; row = row.0; here = here.1; there = row.1.0; at = row.1.1 }

-- nobody before this place is silent
pub record IsQuiet (moment silence : ℕ) (rows : Rows) (place : ℕ) : Type 0 where
  pub rest : first_silent moment silence rows ≡ first_by (is_silent moment silence rows) (drop place (keys rows))

silent_at : (moment silence : ℕ) (rows : Rows) (id : List ℕ) (row : Row) (b : Bool) → get rows id ≡ Some row → nat_lt (row.heard + silence) moment ≡ b → is_silent moment silence rows id ≡ b
silent_at moment silence rows id row b there is = ap (λ o. option_map_or (λ r. nat_lt (r.heard + silence) moment) o false) there ∙ is

by_test : {X : Type 0} (p : X → Bool) (x : X) (xs : List X) (b : Bool) → p x ≡ b → first_by p (x ∷ xs) ≡ (if b then Some x else first_by p xs)
by_test p x xs b is = ap (λ c. if c then Some x else first_by p xs) is

pub quiet_more : (moment silence : ℕ) (rows : Rows) (place heard : ℕ) → IsQuiet moment silence rows place → place < len rows → IsHeardAt rows place heard → moment ≤ heard + silence → IsQuiet moment silence rows (place + 1)
quiet_more moment silence rows place heard quiet lt is late =
    let one = one_at rows place heard lt is in
    record {
      rest = quiet.rest ∙ ap (first_by (is_silent moment silence rows)) (drop_at (keys rows) place one.id one.here)
          ∙ by_test (is_silent moment silence rows) one.id (drop (place + 1) (keys rows)) false
          (silent_at moment silence rows one.id one.row false one.there (le-ltb (one.row.heard + silence) moment (omega (arith, late, one.at))));
    }

pub silent_here : (moment silence : ℕ) (rows : Rows) (place heard : ℕ) → IsQuiet moment silence rows place → place < len rows → IsHeardAt rows place heard → heard + silence < moment → slice_get (keys rows) place ≡ first_silent moment silence rows
silent_here moment silence rows place heard quiet lt is early =
    let one = one_at rows place heard lt is in
    one.here
    ∙ sym (quiet.rest ∙ ap (first_by (is_silent moment silence rows)) (drop_at (keys rows) place one.id one.here)
    ∙ by_test (is_silent moment silence rows) one.id (drop (place + 1) (keys rows)) true
    (silent_at moment silence rows one.id one.row true one.there (lt-ltb (one.row.heard + silence) moment (omega (arith, early, one.at)))))

pub quiet_all : (moment silence : ℕ) (rows : Rows) (place : ℕ) → IsQuiet moment silence rows place → len rows ≤ place → first_silent moment silence rows ≡ None
quiet_all moment silence rows place quiet le = quiet.rest ∙ ap (first_by (is_silent moment silence rows)) (drop_of_length-le (keys rows) (omega (arith, le, length-keys rows)))

-- ---- the leave

leave-sequenced : (s : State) (id : List ℕ) (moment : ℕ) (row : Row) → get s.sequencer.rows id ≡ Some row → is_sequenced (verdict_in s (Leave id moment)) ≡ true
unfolding verdict_in ticket.verdict_in ticket.message_in unsettled
leave-sequenced s id moment row is = rw is refl

-- a leave of a joined client is sequenced
pub leave_is_sequenced : (s : State) (id : List ℕ) (moment : ℕ) → IsSome (get s.sequencer.rows id) → is_sequenced (verdict_in s (Leave id moment)) ≡ true
leave_is_sequenced s id moment there = by (get s.sequencer.rows id) refl there
  where
    by : (o : Option Row) → get s.sequencer.rows id ≡ o → IsSome o → is_sequenced (verdict_in s (Leave id moment)) ≡ true
    by None is some = absurd (false≢true some)
    by (Some row) is some = leave-sequenced s id moment row is
