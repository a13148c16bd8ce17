-- How many clients are joined: no more than entries count.
use Rattle.std.proofs.Common.{◌≡◌, ℕ, ◌+◌, ◌≤◌, Bool, true, false, cond, if◌then◌else◌, List, [], ◌∷◌, length, map, reverse, arith, refl, ap, ◌∙◌}
use Rattle.std.specs.Prelude.{count_by}
use Rattle.std.specs.Cmp.Lexicographic.{slice_cmp}
use Rattle.std.specs.Ordering.{nat_cmp}
use Rattle.std.specs.declared.cmp.Ordering.{Ordering}
use Rattle.std.specs.declared.cmp.Ordering.TheVariants.{Less, Equal, Greater}
use Rattle.std.proofs.lemmas.List.{reverse-append}
use Rattle.std.proofs.lemmas.List.Sums.{sum_by-append, sum_by-cons, length-filter, count_by-le-length}
use Rattle.fluid_types.specs.Ledger.{Ledger, raws}
use Rattle.fluid_types.specs.declared.entries.Raw.{Raw}
use Rattle.fluid_types.specs.declared.entries.Raw.TheVariants.{Join, Leave, Submit, Report}
use Rattle.fluid_rules.specs.Past.{Past, Entry, is_sequenced, put_at, put_id, with_joining, ever_joined}
use Rattle.fluid_rules.specs.Past as past
use Rattle.fluid_rules.specs.Rules.{past_of, joined, ledger}
use Rattle.fluid_rules.specs.Counted.{is_counted, counted}
use Rattle.fluid_rules.proofs.Legal.{ledger-raws}

put_at_few : (o : Ordering) (c id : List ℕ) (ids rest : List (List ℕ)) → length rest ≤ length ids + 1 → length (put_at o c id ids rest) ≤ length (id ∷ ids) + 1
put_at_few Less c id ids rest h = omega arith
put_at_few Equal c id ids rest h = omega arith
put_at_few Greater c id ids rest h = omega (arith, h)

put_few : (c : List ℕ) (ids : List (List ℕ)) → length (put_id c ids) ≤ length ids + 1
unfolding put_id
put_few c [] = omega arith
put_few c (id ∷ ids) = put_at_few (slice_cmp nat_cmp c id) c id ids (put_id c ids) (put_few c ids)

-- how many entries of a past count
abbrev pub counts_in : Past → ℕ
counts_in p = count_by (λ entry. is_counted entry.0) p

counts_cons : (entry : Entry) (p : Past) → counts_in (entry ∷ p) ≡ cond (is_counted entry.0) 1 0 + counts_in p
counts_cons entry p = sum_by-cons (λ e. cond (is_counted e.0) 1 0) entry p

joining_few : (entry : Entry) (ids : List (List ℕ)) (p : Past) → length ids ≤ counts_in p → length (with_joining entry ids) ≤ counts_in (entry ∷ p)
joining_few (Join id scopes detail moment, verdict) ids p h = by (is_sequenced verdict)
  where
    one : counts_in ((Join id scopes detail moment, verdict) ∷ p) ≡ 1 + counts_in p
    one = counts_cons (Join id scopes detail moment, verdict) p

    by : (b : Bool) → length (if b then put_id id ids else ids) ≤ counts_in ((Join id scopes detail moment, verdict) ∷ p)
    by true = omega (arith, h, put_few id ids, one)
    by false = omega (arith, h, one)
joining_few (Leave id moment, verdict) ids p h = omega (arith, h, counts_cons (Leave id moment, verdict) p)
joining_few (Submit id submission moment, verdict) ids p h = omega (arith, h, counts_cons (Submit id submission moment, verdict) p)
joining_few (Report summary found moment, verdict) ids p h = omega (arith, h, counts_cons (Report summary found moment, verdict) p)

ever_few : (p : Past) → length (ever_joined p) ≤ counts_in p
unfolding ever_joined
ever_few [] = omega arith
ever_few (entry ∷ p) = joining_few entry (ever_joined p) p (ever_few p)

back : (l : Ledger) → count_by (λ entry. is_counted entry.0) (reverse l) ≡ count_by (λ entry. is_counted entry.0) l
back [] = refl
back (entry ∷ l) =
    ap (count_by (λ entry. is_counted entry.0)) (reverse-append (entry ∷ []) l)
    ∙ omega (arith, back l, counts_cons entry l, counts_cons entry [], sum_by-append (λ e. cond (is_counted e.0) 1 0) (reverse l) (entry ∷ []))

pub joined_few : (l : Ledger) → length (joined l) ≤ counted l
unfolding joined past.joined counted past_of
joined_few l = omega (arith, length-filter (past.is_joined (reverse l)) (ever_joined (reverse l)), count_by-le-length (past.is_joined (reverse l)) (ever_joined (reverse l)), ever_few (reverse l), back l)

-- ---- by the raw entries alone

abbrev pub counts : List Raw → ℕ
counts rs = count_by is_counted rs

counted_map : (l : Ledger) → counted l ≡ counts (map (λ entry. entry.0) l)
unfolding counted
counted_map [] = refl
counted_map (entry ∷ l) = omega (arith, counted_map l, counts_cons entry l, sum_by-cons (λ raw. cond (is_counted raw) 1 0) entry.0 (map (λ e. e.0) l))

pub counted_is : (rs : List Raw) → counted (ledger rs) ≡ counts rs
unfolding raws
counted_is rs = counted_map (ledger rs) ∙ ap counts (ledger-raws rs)
