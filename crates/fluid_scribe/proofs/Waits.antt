-- Summarize messages that wait.
use Rattle.std.proofs.Common.{◌≡◌, ℕ, suc, ◌-◌, ◌<◌, arith, true, List, [], ◌∷◌, length, Option, Some, None, refl, sym, ap}
use Rattle.std.specs.Prelude.{filter, slice_get, slice_index_or, option_to_list}
use Rattle.std.specs.List.{last_or}
use Rattle.fluid_types.specs.declared.messages.Kind.{Kind}
use Rattle.fluid_types.specs.declared.messages.Kind.TheVariants.{Op, Noop, Propose, Reject, Summarize, Join, Leave, SummaryAck, SummaryNack}
use Rattle.fluid_types.specs.declared.messages.Message.{Message}
use Rattle.fluid_rules.specs.Scribe.{answered_by, unless_answered}
use Rattle.fluid_rules.specs.ScribeLaws.{unanswered_by}
use Rattle.fluid_scribe.specs.State.{heard}
use Rattle.fluid_scribe.specs.Scribing.{kept_of, unanswered_at, heard_in, summarize_in}

filter_all : {X : Type 0} (xs : List X) → filter (λ x. true) xs ≡ xs
filter_all [] = refl
filter_all (x ∷ xs) = ap (λ rest. x ∷ rest) (filter_all xs)

-- those that are left behind a message
pub left-behind : (m : Message) (o : Option ℕ) (waiting : List Message) → answered_by m ≡ o → unanswered_at o waiting ≡ unanswered_by m waiting
left-behind m None waiting is = rw is (sym (filter_all waiting))
left-behind m (Some n) waiting is = rw is refl

-- what was kept of a message
by_kind : (kind : Kind) (m : Message) → m.kind ≡ kind → (option_to_list (heard_in (kept_of m)) ≡ heard (m ∷ [])) × (option_to_list (summarize_in (kept_of m)) ≡ unless_answered [] m)
by_kind Op m is = rw is (refl, refl)
by_kind Noop m is = rw is (refl, refl)
by_kind Propose m is = rw is (refl, refl)
by_kind Reject m is = rw is (refl, refl)
by_kind Summarize m is = rw is (refl, refl)
by_kind Join m is = rw is (refl, refl)
by_kind Leave m is = rw is (refl, refl)
by_kind SummaryAck m is = rw is (refl, refl)
by_kind SummaryNack m is = rw is (refl, refl)

pub kept-heard : (m : Message) → option_to_list (heard_in (kept_of m)) ≡ heard (m ∷ [])
kept-heard m = (by_kind m.kind m refl).0

pub kept-waits : (m : Message) → option_to_list (summarize_in (kept_of m)) ≡ unless_answered [] m
kept-waits m = (by_kind m.kind m refl).1

-- the last item
pub last_at : {X : Type 0} (o : Option X) (xs : List X) (x : X) → last_or o (x ∷ xs) ≡ slice_get (x ∷ xs) (length xs)
last_at o [] x = refl
last_at o (y ∷ xs) x = last_at (Some x) xs y

pub last_is : {X : Type 0} (xs : List X) → slice_get xs (length xs - 1) ≡ last_or None xs
last_is [] = refl
last_is (x ∷ xs) = let e : length (x ∷ xs) - 1 ≡ length xs = omega arith in rw e (sym (last_at None xs x))

pub back-is : {X : Type 0} (o : Option X) (xs : List X) (x : X) → 0 < length xs → x ≡ slice_index_or xs (length xs - 1) x → last_or o xs ≡ Some x
back-is o [] x lt is = absurd (omega (arith, lt))
back-is o (y ∷ []) x lt is = ap Some (sym is)
back-is o (y ∷ (z ∷ zs)) x lt is =
    let e : length (y ∷ (z ∷ zs)) - 1 ≡ suc (length (z ∷ zs) - 1) = omega arith in
    back-is (Some y) (z ∷ zs) x (omega arith) (rw e at is)
