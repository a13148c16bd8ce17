-- Lists of ids: which ids they have, and their byte order.
use Rattle.std.proofs.Common.{◌≡◌, Bool, true, false, ◌&&◌, ◌||◌, ℕ, List, [], ◌∷◌, refl, sym, ◌∙◌, ap, bytes_eq, filter}
use Rattle.std.specs.Ordering.{nat_cmp, is_eq, ordering_reverse}
use Rattle.std.specs.Cmp.Lexicographic.{slice_cmp}
use Rattle.std.specs.declared.cmp.Ordering.{Ordering}
use Rattle.std.specs.declared.cmp.Ordering.TheVariants.{Less, Equal, Greater}
use Rattle.std.proofs.lemmas.Cmp.{nat_list_cmp_total}
use Rattle.std.proofs.lemmas.Map.Text.{is_eq-slice_cmp}
use Rattle.std.proofs.lemmas.Slice.Eq.{bytes_eq-Decides}
use Rattle.fluid_rules.specs.Past.{has_id, IsBelowEach, AreInOrder, put_id, put_at}

pub same_id : (c d : List ℕ) → bytes_eq c d ≡ true → c ≡ d
same_id c d h = (bytes_eq-Decides c d).0 h

pub own_id : (c : List ℕ) → bytes_eq c c ≡ true
own_id c = (bytes_eq-Decides c c).1 refl

or_same : (a r : Bool) → (a || r) ≡ (a || (a || r))
or_same true r = refl
or_same false r = refl

or_swap : (a b r : Bool) → (a || (b || r)) ≡ (b || (a || r))
or_swap true true r = refl
or_swap true false r = refl
or_swap false true r = refl
or_swap false false r = refl

pub and_false : (b : Bool) → (b && false) ≡ false
and_false true = refl
and_false false = refl

-- ---- putting an id in

put_at-has : (o : Ordering) (c d id : List ℕ) (ids rest : List (List ℕ)) → slice_cmp nat_cmp d id ≡ o →
    has_id c rest ≡ (bytes_eq c d || has_id c ids) →
    has_id c (put_at o d id ids rest) ≡ (bytes_eq c d || has_id c (id ∷ ids))
put_at-has Less c d id ids rest h more = refl
put_at-has Equal c d id ids rest h more =
    let same : d ≡ id = same_id d id (sym (is_eq-slice_cmp d id) ∙ ap is_eq h) in
    rw same (or_same (bytes_eq c id) (has_id c ids))
put_at-has Greater c d id ids rest h more = rw more (or_swap (bytes_eq c id) (bytes_eq c d) (has_id c ids))

pub put_id-has : (c d : List ℕ) (ids : List (List ℕ)) → has_id c (put_id d ids) ≡ (bytes_eq c d || has_id c ids)
unfolding put_id
put_id-has c d [] = refl
put_id-has c d (id ∷ ids) = put_at-has (slice_cmp nat_cmp d id) c d id ids (put_id d ids) refl (put_id-has c d ids)

-- ---- leaving ids out

filter_at : (kept same : Bool) (p : List ℕ → Bool) (c id : List ℕ) (ids : List (List ℕ)) → p id ≡ kept → bytes_eq c id ≡ same →
    has_id c (filter p ids) ≡ (has_id c ids && p c) →
    has_id c (filter p (id ∷ ids)) ≡ (has_id c (id ∷ ids) && p c)
filter_at true true p c id ids h same rest =
    let at : p c ≡ true = ap p (same_id c id same) ∙ h in
    rw (h, same, at) refl
filter_at true false p c id ids h same rest = rw (h, same) rest
filter_at false true p c id ids h same rest =
    let at : p c ≡ false = ap p (same_id c id same) ∙ h in
    rw (h, same) (rest ∙ rw at (and_false (has_id c ids)))
filter_at false false p c id ids h same rest = rw (h, same) rest

pub filter-has : (p : List ℕ → Bool) (c : List ℕ) (ids : List (List ℕ)) → has_id c (filter p ids) ≡ (has_id c ids && p c)
filter-has p c [] = refl
filter-has p c (id ∷ ids) = filter_at (p id) (bytes_eq c id) p c id ids refl refl (filter-has p c ids)

-- ---- order

below_each : (c d : List ℕ) (ids : List (List ℕ)) → slice_cmp nat_cmp c d ≡ Less → IsBelowEach d ids → IsBelowEach c ids
below_each c d [] h below = tt
below_each c d (id ∷ ids) h below = (nat_list_cmp_total.trans c d id h below.0, below_each c d ids h below.1)

below_filter_at : (kept : Bool) (p : List ℕ → Bool) (c id : List ℕ) (ids : List (List ℕ)) → p id ≡ kept → slice_cmp nat_cmp c id ≡ Less →
    IsBelowEach c (filter p ids) → IsBelowEach c (filter p (id ∷ ids))
below_filter_at true p c id ids h below rest = rw h (below, rest)
below_filter_at false p c id ids h below rest = rw h rest

below_filter : (p : List ℕ → Bool) (c : List ℕ) (ids : List (List ℕ)) → IsBelowEach c ids → IsBelowEach c (filter p ids)
below_filter p c [] below = tt
below_filter p c (id ∷ ids) below = below_filter_at (p id) p c id ids refl below.0 (below_filter p c ids below.1)

filter_order_at : (kept : Bool) (p : List ℕ → Bool) (id : List ℕ) (ids : List (List ℕ)) → p id ≡ kept → IsBelowEach id ids →
    AreInOrder (filter p ids) → AreInOrder (filter p (id ∷ ids))
filter_order_at true p id ids h below rest = rw h (below_filter p id ids below, rest)
filter_order_at false p id ids h below rest = rw h rest

pub filter-in_order : (p : List ℕ → Bool) (ids : List (List ℕ)) → AreInOrder ids → AreInOrder (filter p ids)
filter-in_order p [] order = tt
filter-in_order p (id ∷ ids) order = filter_order_at (p id) p id ids refl order.0 (filter-in_order p ids order.1)

below_put_at : (o : Ordering) (c d id : List ℕ) (ids rest : List (List ℕ)) → slice_cmp nat_cmp c d ≡ Less →
    IsBelowEach c (id ∷ ids) → IsBelowEach c rest → IsBelowEach c (put_at o d id ids rest)
below_put_at Less c d id ids rest h below more = (h, (below.0, below.1))
below_put_at Equal c d id ids rest h below more = below
below_put_at Greater c d id ids rest h below more = (below.0, more)

below_put : (c d : List ℕ) (ids : List (List ℕ)) → slice_cmp nat_cmp c d ≡ Less → IsBelowEach c ids → IsBelowEach c (put_id d ids)
unfolding put_id
below_put c d [] h below = (h, tt)
below_put c d (id ∷ ids) h below =
    below_put_at (slice_cmp nat_cmp d id) c d id ids (put_id d ids) h below (below_put c d ids h below.1)

put_order_at : (o : Ordering) (d id : List ℕ) (ids : List (List ℕ)) → slice_cmp nat_cmp d id ≡ o → AreInOrder (id ∷ ids) →
    AreInOrder (put_id d ids) → AreInOrder (put_at o d id ids (put_id d ids))
put_order_at Less d id ids at order rest = ((at, below_each d id ids at order.0), (order.0, order.1))
put_order_at Equal d id ids at order rest = order
put_order_at Greater d id ids at order rest =
    let above : slice_cmp nat_cmp id d ≡ Less = nat_list_cmp_total.antisymm id d ∙ ap ordering_reverse at in
    (below_put id d ids above order.0, rest)

pub put_id-in_order : (d : List ℕ) (ids : List (List ℕ)) → AreInOrder ids → AreInOrder (put_id d ids)
unfolding put_id
put_id-in_order d [] order = (tt, tt)
put_id-in_order d (id ∷ ids) order = put_order_at (slice_cmp nat_cmp d id) d id ids refl order (put_id-in_order d ids order.1)
