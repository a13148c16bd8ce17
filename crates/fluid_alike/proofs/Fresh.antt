-- Who is joined: no more clients than there are joins, and never one whose join is still to come.
use Rattle.std.proofs.Common.{◌≡◌, ℕ, ◌+◌, ◌<◌, ◌≤◌, ◌^◌, arith, Bool, true, false, if◌then◌else◌, List, [], ◌∷◌, ◌++◌, length, All, Option, Some, None, is_some, bytes_eq, refl, sym, ap, subst, ◌∙◌, length-append}
use Rattle.std.proofs.lemmas.List.Elements.{All-nil, All-head, All-tail, All-append, All-weaker}
use Rattle.std.proofs.lemmas.List.Sums.{length-filter, count_by-le-length}
use Rattle.std.proofs.lemmas.Slice.Eq.{bytes_eq-Decides}
use Rattle.std.specs.Ordering.{nat_cmp}
use Rattle.std.specs.Cmp.Lexicographic.{slice_cmp}
use Rattle.std.specs.declared.cmp.Ordering.{Ordering}
use Rattle.std.specs.declared.cmp.Ordering.TheVariants.{Less, Equal, Greater}
use Rattle.fluid_types.specs.Names.{entry_name}
use Rattle.fluid_types.specs.Ledger.{Ledger}
use Rattle.fluid_types.specs.declared.entries.Raw.{Raw}
use Rattle.fluid_types.specs.declared.entries.Raw.TheVariants.{Join, Leave, Submit, Report}
use Rattle.fluid_types.specs.declared.entries.Scopes.{Scopes}
use Rattle.fluid_types.specs.declared.verdicts.Verdict.{Verdict}
use Rattle.fluid_rules.specs.Past as past
use Rattle.fluid_rules.specs.Past.{Past, Entry, joining, joins, settles, is_sequenced, membership, put_id, put_at, with_joining, ever_joined}
use Rattle.fluid_rules.specs.Rules.{past_of, is_joined, joined, verdict, ledger, ledger_behind}
use Rattle.fluid_rules.proofs.Pushed.{past_of-push}
use Rattle.fluid_transcript.proofs.Sounds.{one_place}
use Rattle.fluid_alike.proofs.Mild.{one_if_join, joins_in, IsNamedJoin}

-- ---- how many

put_by : (o : Ordering) (c id : List ℕ) (ids rest : List (List ℕ)) → length rest ≤ length ids + 1 → length (put_at o c id ids rest) ≤ length (id ∷ ids) + 1
put_by Less c id ids rest more = omega arith
put_by Equal c id ids rest more = omega arith
put_by Greater c id ids rest more = omega (arith, more)

put_more : (c : List ℕ) (ids : List (List ℕ)) → length (put_id c ids) ≤ length ids + 1
unfolding put_id
put_more c [] = omega arith
put_more c (id ∷ ids) = put_by (slice_cmp nat_cmp c id) c id ids (put_id c ids) (put_more c ids)

with_by : (b : Bool) (c : List ℕ) (ids : List (List ℕ)) → length (if b then put_id c ids else ids) ≤ length ids + 1
with_by true c ids = put_more c ids
with_by false c ids = omega arith

with_more : (raw : Raw) (v : Verdict) (ids : List (List ℕ)) → length (with_joining (raw, v) ids) ≤ length ids + one_if_join raw
with_more (Join id scopes detail moment) v ids = with_by (is_sequenced v) id ids
with_more (Leave id moment) v ids = omega arith
with_more (Submit id submission moment) v ids = omega arith
with_more (Report summary found moment) v ids = omega arith

ever_push : (l : Ledger) (raw : Raw) (v : Verdict) → length (ever_joined (past_of (l ++ (raw, v) ∷ []))) ≤ length (ever_joined (past_of l)) + one_if_join raw
unfolding ever_joined
ever_push l raw v = subst (λ p. length (ever_joined p) ≤ length (ever_joined (past_of l)) + one_if_join raw) (sym (past_of-push l (raw, v))) (with_more raw v (ever_joined (past_of l)))

ever_behind : (before : Ledger) (raws : List Raw) → length (ever_joined (past_of (ledger_behind before raws))) ≤ length (ever_joined (past_of before)) + joins_in raws
ever_behind before [] = omega arith
ever_behind before (raw ∷ raws) =
    let v = verdict before raw in
    omega (arith, ever_push before raw v, ever_behind (before ++ (raw, v) ∷ []) raws)

none_at_first : length (ever_joined (past_of [])) ≡ 0
unfolding past_of ever_joined
none_at_first = refl

pub joined_few : (raws : List Raw) → length (joined (ledger raws)) ≤ joins_in raws
unfolding joined past.joined ledger
joined_few raws =
    let p = past_of (ledger_behind [] raws) in
    omega (arith, length-filter (past.is_joined p) (ever_joined p), count_by-le-length (past.is_joined p) (ever_joined p), ever_behind [] raws, none_at_first)

-- ---- who isn't

by_settled : (b : Bool) (made kept : Option Scopes) → made ≡ None → kept ≡ None → (if b then made else kept) ≡ None
by_settled true made kept none was = none
by_settled false made kept none was = was

by_sequenced : (b : Bool) (made : Option Scopes) → made ≡ None → (if b then made else None) ≡ None
by_sequenced true made none = none
by_sequenced false made none = refl

member_push : (l : Ledger) (raw : Raw) (v : Verdict) (c : List ℕ) → joining c raw ≡ None → membership (past_of l) c ≡ None → membership (past_of (l ++ (raw, v) ∷ [])) c ≡ None
unfolding membership
member_push l raw v c none was =
    ap (λ p. membership p c) (past_of-push l (raw, v))
    ∙ by_settled (settles c (raw, v)) (joins c (raw, v)) (membership (past_of l) c) (by_sequenced (is_sequenced v) (joining c raw) none) was

member_behind : (before : Ledger) (raws : List Raw) (c : List ℕ) → All (λ raw. joining c raw ≡ None) raws → membership (past_of before) c ≡ None → membership (past_of (ledger_behind before raws)) c ≡ None
member_behind before [] c none was = was
member_behind before (raw ∷ raws) c none was =
    member_behind (before ++ (raw, verdict before raw) ∷ []) raws c (All-tail (λ raw. joining c raw ≡ None) raw raws none)
    (member_push before raw (verdict before raw) c (All-head (λ raw. joining c raw ≡ None) raw raws none) was)

nobody : (c : List ℕ) → membership (past_of []) c ≡ None
unfolding past_of membership
nobody c = refl

not_joined : (raws : List Raw) (c : List ℕ) → All (λ raw. joining c raw ≡ None) raws → is_joined (ledger raws) c ≡ false
unfolding is_joined ledger
not_joined raws c none = ap is_some (member_behind [] raws c none (nobody c))

-- ---- joins under the ids of their places

-- each join has the id of a place below this one
abbrev pub IsPlacedBelow : ℕ → Raw → Type 0
IsPlacedBelow n raw = (place : ℕ) × ((place < n) × IsNamedJoin place raw)

-- those that were placed stay so
still_placed : (n m : ℕ) → n ≤ m → (raw : Raw) → IsPlacedBelow n raw → IsPlacedBelow m raw
still_placed n m le raw is = (is.0, (omega (arith, is.1.0, le), is.1.1))

now_placed : (n m : ℕ) → n < m → (raw : Raw) → IsNamedJoin n raw → IsPlacedBelow m raw
now_placed n m lt raw is = (n, (lt, is))

pub placed_more : (n : ℕ) (raws more : List Raw) → length raws ≡ n → length more ≤ 1 → All (IsPlacedBelow n) raws → All (IsNamedJoin n) more → All (IsPlacedBelow (length (raws ++ more))) (raws ++ more)
placed_more n raws [] at few was own =
    let all = length (raws ++ []) in
    All-append (IsPlacedBelow all) raws [] (All-weaker (IsPlacedBelow n) (IsPlacedBelow all) (still_placed n all (omega (arith, at, length-append raws []))) raws was) (All-nil (IsPlacedBelow all))
placed_more n raws (raw ∷ []) at few was own =
    let all = length (raws ++ raw ∷ []) in
    All-append (IsPlacedBelow all) raws (raw ∷ []) (All-weaker (IsPlacedBelow n) (IsPlacedBelow all) (still_placed n all (omega (arith, at, length-append raws (raw ∷ [])))) raws was)
    (All-weaker (IsNamedJoin n) (IsPlacedBelow all) (now_placed n all (omega (arith, at, length-append raws (raw ∷ [])))) (raw ∷ []) own)
placed_more n raws (raw ∷ (other ∷ more)) at few was own = absurd (omega (arith, few))

other_id : (n place : ℕ) (id : List ℕ) (scopes : Scopes) → n < 2 ^ 64 → place < n → id ≡ entry_name place → (if bytes_eq id (entry_name n) then Some scopes else None) ≡ None
other_id n place id scopes few below is = by (bytes_eq id (entry_name n)) refl
  where
    by : (b : Bool) → bytes_eq id (entry_name n) ≡ b → (if b then Some scopes else None) ≡ None
    by true same = let at : place ≡ n = one_place place n (omega (arith, below, few)) few (sym is ∙ (bytes_eq-Decides id (entry_name n)).0 same) in absurd (omega (arith, at, below))
    by false other = refl

no_join_of : (n : ℕ) → n < 2 ^ 64 → (raw : Raw) → IsPlacedBelow n raw → joining (entry_name n) raw ≡ None
no_join_of n few (Join id scopes detail moment) is = other_id n is.0 id scopes few is.1.0 is.1.1
no_join_of n few (Leave id moment) is = refl
no_join_of n few (Submit id submission moment) is = refl
no_join_of n few (Report summary found moment) is = refl

-- the next client isn't joined yet
pub next_is_new : (raws : List Raw) → length raws < 2 ^ 64 → All (IsPlacedBelow (length raws)) raws → is_joined (ledger raws) (entry_name (length raws)) ≡ false
next_is_new raws few placed = not_joined raws (entry_name (length raws)) (All-weaker (IsPlacedBelow (length raws)) (λ raw. joining (entry_name (length raws)) raw ≡ None) (no_join_of (length raws) few) raws placed)
