-- What holds of every run.
use Rattle.std.proofs.Common.{◌≡◌, ℕ, zero, suc, ◌+◌, ◌<◌, ◌≤◌, ◌==◌, Bool, true, false, not, ◌&&◌, if◌then◌else◌, List, [], ◌∷◌, ◌++◌, length, filter, find, get_or, Option, Some, None, is_some, option_map, refl, sym, ◌∙◌, ap, subst, bytes_eq, arith, IfSome, inl, inr, ◌⊎◌, length-append, append_assoc, append-nil}
use Rattle.std.specs.List.{list_any, range_with_len, filter_map, cons_option, AllByRecursion}
use Rattle.std.proofs.lemmas.Bool.{eqb-true, eq-eqb, and_parts, and_from, or_cases, or_left, or_right, or_parts, false_from_ne_true, cases_lt}
use Rattle.fluid_json.specs.Tree.{Tree, null}
use Rattle.fluid_types.specs.declared.entries.Raw.TheVariants.{Join, Leave, Submit, Report}
use Rattle.fluid_types.specs.declared.entries.Offered.{Offered}
use Rattle.fluid_types.specs.declared.entries.Offered.TheVariants as offered
use Rattle.fluid_types.specs.declared.entries.Submission.{Submission}
use Rattle.fluid_types.specs.declared.messages.Message.{Message}
use Rattle.fluid_types.specs.declared.verdicts.Verdict.TheVariants.{Sequenced, Nacked, Dropped, Absorbed}
use Rattle.fluid_types.specs.Ledger.{Ledger, messages_of, order}
use Rattle.fluid_types.proofs.Ledgers.{order-push}
use Rattle.fluid_rules.specs.Past.{Entry, joins, has_id}
use Rattle.fluid_rules.specs.Rules.{IsLegal, verdict, kind_of, message, unsettled}
use Rattle.fluid_rules.proofs.Ids.{same_id, own_id}
use Rattle.fluid_rules.proofs.Verdicts.{verdict-is_message}
use Rattle.fluid_rules.proofs.Legal.{legal-induction}
use Rattle.fluid_outbox.specs.declared.line.Line.{Line}
use Rattle.fluid_outbox.specs.Past.{Given, Pushed, Joined, Gave, Heard, Lost, Past, edits, ids, messages, current, given, is_sent, was_given, sent, has_left, acknowledges, acknowledged, first_waiting, waits, next, leaves, of_op, op_of, is_text}
use Rattle.fluid_outbox.specs.Kept.{past_of, AnOutbox, IsLine, IsAlone, Stands, empty, id_of, with_edit, with_id, with_sent, after_lost, after_heard}
use Rattle.fluid_outbox.specs.Runs.{AreMade, SomeOf, IsGiven, IsOwn, AreBehind, edit_under, edit_of, standing, HasContents, first, IsExactlyOnce, EachOnce}
use Rattle.fluid_outbox.proofs.Tests.{no_test, in_turn-true}
use Rattle.fluid_outbox.proofs.Stands.{none_current, is_awaited_from, current_known, stands_none, stands_pushed, stands_joined, stands_lost}
use Rattle.fluid_outbox.proofs.Sending.{some_is, any_more, any_own, next_is, has_line, stands_gave}
use Rattle.fluid_outbox.proofs.Hearing.{given_some, acknowledged_at, counts_op, stands_heard}
use Rattle.fluid_outbox.proofs.Orders.{under, numbers, filter_map-append, any-append, range-push, quiet_behind, joining_silent, reporting_silent, leaving_op, submit_op, OnlyOps, Quiet, Tracked, tracked, each-append}

-- ---- lists

find_one : {X : Type 0} (p : X → Bool) (xs : List X) → list_any p xs ≡ true → (x : X) × ((find p xs ≡ Some x) × (p x ≡ true))
find_one p [] some = absurd (cc)
find_one {X} p (x ∷ xs) some = at (p x) (find_one p xs) refl
  where
    at : (here : Bool) → (list_any p xs ≡ true → (y : X) × ((find p xs ≡ Some y) × (p y ≡ true))) → p x ≡ here → (y : X) × ((find p (x ∷ xs) ≡ Some y) × (p y ≡ true))
    at true more is = (x, (rw is refl, is))
    at false more is =
        let later : list_any p xs ≡ true = rw is at some in
        let found = more later in
        (found.0, (rw is found.1.0, found.1.1))

find_not : {X : Type 0} (p : X → Bool) (xs : List X) → list_any p xs ≡ false → find p xs ≡ None
find_not p [] none = refl
find_not p (x ∷ xs) none =
    let parts = or_parts (p x) (list_any p xs) none in
    rw parts.0 (find_not p xs parts.1)

find_each : {X : Type 0} (P : X → Type 0) (p : X → Bool) (xs : List X) (x : X) → AllByRecursion P xs → find p xs ≡ Some x → P x
find_each P p [] x each is = absurd (cc)
find_each P p (y ∷ ys) x each is = at (p y) (find_each P p ys x each.1) refl
  where
    at : (first : Bool) → (find p ys ≡ Some x → P x) → p y ≡ first → P x
    at true more so =
        let here : Some y ≡ Some x = rw so at is in
        subst P (some_is y x here) each.0
    at false more other =
        let later : find p ys ≡ Some x = rw other at is in
        more later

range_below : (p : ℕ → Bool) (start count n : ℕ) → find p (range_with_len start count) ≡ Some n → n < start + count
range_below p start zero n is = absurd (cc)
range_below p start (suc count) n is = at (p start) (range_below p (start + 1) count n) refl
  where
    at : (here : Bool) → (find p (range_with_len (start + 1) count) ≡ Some n → n < start + 1 + count) → p start ≡ here → n < start + suc count
    at true more so =
        let first_is : Some start ≡ Some n = rw so at is in
        let same : start ≡ n = some_is start n first_is in
        omega (arith, same)
    at false more other =
        let later : find p (range_with_len (start + 1) count) ≡ Some n = rw other at is in
        omega (arith, more later)

each_weaker : {X : Type 0} (P Q : X → Type 0) (xs : List X) → ((x : X) → P x → Q x) → AllByRecursion P xs → AllByRecursion Q xs
each_weaker P Q [] f each = tt
each_weaker P Q (x ∷ xs) f each = (f x each.0, each_weaker P Q xs f each.1)

each_both : {X : Type 0} (P : X → Type 0) (xs ys : List X) → AllByRecursion P xs → AllByRecursion P ys → AllByRecursion P (xs ++ ys)
each_both P [] ys left right = right
each_both P (x ∷ xs) ys left right = (left.0, each_both P xs ys left.1 right)

-- a range in two parts
rest_of_range : (xs ys : List ℕ) (start count : ℕ) → xs ++ ys ≡ range_with_len start count → ys ≡ range_with_len (start + length xs) (length ys)
rest_of_range [] ys start count is = whole ys start count is
  where
    whole : (ys : List ℕ) (start count : ℕ) → ys ≡ range_with_len start count → ys ≡ range_with_len (start + 0) (length ys)
    whole ys start count is =
        is ∙ ap (λ n. range_with_len n count) (back start) ∙ ap (range_with_len (start + 0)) (sym (size start count) ∙ ap (λ (xs : List ℕ). length xs) (sym is))
      where
        back : (n : ℕ) → n ≡ n + 0
        back n = omega arith

        size : (start count : ℕ) → length (range_with_len start count) ≡ count
        size start zero = refl
        size start (suc count) = omega (arith, size (start + 1) count)
rest_of_range (x ∷ xs) ys start zero is = absurd (cc)
rest_of_range (x ∷ xs) ys start (suc count) is =
    let tails : xs ++ ys ≡ range_with_len (start + 1) count = cc in
    rest_of_range xs ys (start + 1) count tails ∙ ap (λ n. range_with_len n (length ys)) (moved start (length xs))
  where
    moved : (start n : ℕ) → start + 1 + n ≡ start + suc n
    moved start n = omega arith

range-append : (start first second : ℕ) → range_with_len start first ++ range_with_len (start + first) second ≡ range_with_len start (first + second)
range-append start zero second = ap (λ n. range_with_len n second) (back start) ∙ ap (range_with_len start) (prefix second)
  where
    back : (n : ℕ) → n + 0 ≡ n
    back n = omega arith

    prefix : (n : ℕ) → n ≡ 0 + n
    prefix n = omega arith
range-append start (suc first) second =
    ap (λ (xs : List ℕ). start ∷ xs)
    (ap (λ n. range_with_len (start + 1) first ++ range_with_len n second) (moved start first) ∙ range-append (start + 1) first second)
    ∙ ap (range_with_len start) (more first second)
  where
    moved : (start n : ℕ) → start + suc n ≡ start + 1 + n
    moved start n = omega arith

    more : (m n : ℕ) → suc (m + n) ≡ suc m + n
    more m n = omega arith

each_below : (start count size : ℕ) → start ≤ size → AllByRecursion (λ n. n < size) (range_with_len start count) → start + count ≤ size
each_below start zero size within each = omega (arith, within)
each_below start (suc count) size within each = omega (arith, each_below (start + 1) count size (omega (arith, each.0)) each.1)

-- the first of two lists
get_or-prefix : {X : Type 0} (xs ys : List X) (n : ℕ) (none : X) → n < length xs → get_or (xs ++ ys) n none ≡ get_or xs n none
get_or-prefix [] ys n none within = absurd (omega (arith, within))
get_or-prefix (x ∷ xs) ys zero none within = refl
get_or-prefix (x ∷ xs) ys (suc n) none within = get_or-prefix xs ys n none (omega (arith, within))

-- ---- what `next` gave

next_below : (past : Past) (reference : ℕ) (g : Given) → next past reference ≡ Some g → g.edit < length (edits past)
unfolding first_waiting
next_below past reference g is =
    let it = next_is past reference g is in
    omega (arith, range_below (waits past) 0 (length (edits past)) g.edit it.first)

abbrev AreBelow : ℕ → List Given → Type 0
AreBelow size gs = AllByRecursion (λ (g : Given). g.edit < size) gs

given_below : (past : Past) → AreMade past → AreBelow (length (edits past)) (given past)
unfolding edits given
given_below [] made = tt
given_below (Pushed contents ∷ past) made =
    each_weaker (λ (g : Given). g.edit < length (edits past)) (λ (g : Given). g.edit < length (edits past ++ contents ∷ [])) (given past)
    (λ g below. omega (arith, below, length-append (edits past) (contents ∷ []))) (given_below past made)
given_below (Joined id ∷ past) made = given_below past made.1.1
given_below (Gave g ∷ past) made = (next_below past made.0.0 g made.0.1, given_below past made.1)
given_below (Heard m ∷ past) made = given_below past made.1
given_below (Lost ∷ past) made = given_below past made

-- an edit that was given stands among these, with these contents
record IsFrom (contents : List Tree) (g : Given) : Type 0 where
  below : g.edit < length contents
  contents_are : g.submission.contents ≡ get_or contents g.edit null

from_more : (contents : List Tree) (more : Tree) (g : Given) → IsFrom contents g → IsFrom (contents ++ more ∷ []) g
from_more contents more g is = record {
  below = omega (arith, is.below, length-append contents (more ∷ []));
  contents_are = is.contents_are ∙ sym (get_or-prefix contents (more ∷ []) g.edit null is.below);
}

given_from : (past : Past) → AreMade past → AllByRecursion (IsFrom (edits past)) (given past)
unfolding edits given
given_from [] made = tt
given_from (Pushed contents ∷ past) made =
    each_weaker (IsFrom (edits past)) (IsFrom (edits past ++ contents ∷ [])) (given past) (from_more (edits past) contents) (given_from past made)
given_from (Joined id ∷ past) made = given_from past made.1.1
given_from (Gave g ∷ past) made =
    let contents_are = ap (λ (s : Submission). s.contents) (next_is past made.0.0 g made.0.1).submission in
    (record { below = next_below past made.0.0 g made.0.1; contents_are = contents_are }, given_from past made.1)
given_from (Heard m ∷ past) made = given_from past made.1
given_from (Lost ∷ past) made = given_from past made

-- only ops are given
abbrev AreOps : List Given → Type 0
AreOps gs = AllByRecursion (λ (g : Given). g.submission.kind ≡ offered.Op) gs

given_ops : (past : Past) → AreMade past → AreOps (given past)
unfolding given
given_ops [] made = tt
given_ops (Pushed contents ∷ past) made = given_ops past made
given_ops (Joined id ∷ past) made = given_ops past made.1.1
given_ops (Gave g ∷ past) made =
    (ap (λ (s : Submission). s.kind) (next_is past made.0.0 g made.0.1).submission, given_ops past made.1)
given_ops (Heard m ∷ past) made = given_ops past made.1
given_ops (Lost ∷ past) made = given_ops past made

some_op : (gs : List Given) (id : List ℕ) (s : Submission) → AreOps gs → SomeOf (IsGiven id s) gs → s.kind ≡ offered.Op
some_op [] id s ops some = absurd some
some_op (g ∷ gs) id s ops (inl here) = ap (λ (s : Submission). s.kind) (sym here.submission_is) ∙ ops.0
some_op (g ∷ gs) id s ops (inr later) = some_op gs id s ops.1 later

-- which edit a submission brings that was given
record BringsEdit (contents : List Tree) (gs : List Given) (id : List ℕ) (s : Submission) : Type 0 where
  edit : ℕ
  was : list_any (λ given. is_sent id s.client_number given && (given.edit == edit)) gs ≡ true
  contents_are : s.contents ≡ get_or contents edit null

some_brings : (contents : List Tree) (gs : List Given) (id : List ℕ) (s : Submission) → AllByRecursion (IsFrom contents) gs → SomeOf (IsGiven id s) gs → BringsEdit contents gs id s
some_brings contents [] id s from some = absurd some
some_brings contents (g ∷ gs) id s from (inl here) =
    let ids_are : bytes_eq g.id id ≡ true = ap (λ x. bytes_eq x id) here.id_is ∙ own_id id in
    let number : (g.submission.client_number == s.client_number) ≡ true = eq-eqb g.submission.client_number s.client_number (ap (λ (s : Submission). s.client_number) here.submission_is) in
    let sent : is_sent id s.client_number g ≡ true = and_from (bytes_eq g.id id) _ ids_are number in
    record {
      edit = g.edit;
      was = or_left (is_sent id s.client_number g && (g.edit == g.edit)) (list_any (λ given. is_sent id s.client_number given && (given.edit == g.edit)) gs)
          (and_from (is_sent id s.client_number g) _ sent (eq-eqb g.edit g.edit refl));
      contents_are = ap (λ (s : Submission). s.contents) (sym here.submission_is) ∙ from.0.contents_are;
    }
some_brings contents (g ∷ gs) id s from (inr later) =
    let found = some_brings contents gs id s from.1 later in
    record {
      edit = found.edit;
      was = or_right (is_sent id s.client_number g && (g.edit == found.edit)) (list_any (λ given. is_sent id s.client_number given && (given.edit == found.edit)) gs) found.was;
      contents_are = found.contents_are;
    }

-- numbers are those of edits that were sent, and each is that of one edit
number_within : (past : Past) (id : List ℕ) (n e : ℕ) → AreMade past → was_given past id n e ≡ true → n ≤ sent past id
unfolding was_given sent given
number_within [] id n e made is = absurd (cc)
number_within (Pushed contents ∷ past) id n e made is = number_within past id n e made is
number_within (Joined j ∷ past) id n e made is = number_within past id n e made.1.1 is
number_within (Gave g ∷ past) id n e made is = at (bytes_eq g.id id) (number_within past id n e made.1) refl
  where
    at : (own : Bool) → (was_given past id n e ≡ true → n ≤ sent past id) → bytes_eq g.id id ≡ own → n ≤ length (filter (λ given. bytes_eq given.id id) (g ∷ given past))
    at true more own =
        let it = next_is past made.0.0 g made.0.1 in
        let number : g.submission.client_number ≡ sent past id + 1 =
        ap (λ (s : Submission). s.client_number) it.submission ∙ ap (λ x. sent past x + 1) (same_id g.id id own) in
        elim (or_cases (is_sent id n g && (g.edit == e)) (was_given past id n e) is) [
          | inl here ↦
              let n_is : g.submission.client_number ≡ n = eqb-true g.submission.client_number n (and_parts (bytes_eq g.id id) _ (and_parts (is_sent id n g) _ here).0).1 in
              rw own (omega (arith, number, n_is))
          | inr before ↦ rw own (omega (arith, more before))
        ]
    at false more other =
        elim (or_cases (is_sent id n g && (g.edit == e)) (was_given past id n e) is) [
          | inl here ↦ absurd (no_test _ (and_parts (bytes_eq g.id id) _ (and_parts (is_sent id n g) _ here).0).0 other)
          | inr before ↦ rw other (more before)
        ]
number_within (Heard m ∷ past) id n e made is = number_within past id n e made.1 is
number_within (Lost ∷ past) id n e made is = number_within past id n e made is

one_edit : (past : Past) (id : List ℕ) (n e f : ℕ) → AreMade past → was_given past id n e ≡ true → was_given past id n f ≡ true → e ≡ f
unfolding was_given given
one_edit [] id n e f made one other = absurd (cc)
one_edit (Pushed contents ∷ past) id n e f made one other = one_edit past id n e f made one other
one_edit (Joined j ∷ past) id n e f made one other = one_edit past id n e f made.1.1 one other
one_edit (Gave g ∷ past) id n e f made one other =
    elim (or_cases (is_sent id n g && (g.edit == e)) (was_given past id n e) one) [
      | inl here ↦ elim (or_cases (is_sent id n g && (g.edit == f)) (was_given past id n f) other) [
        | inl there ↦
            let first : g.edit ≡ e = eqb-true g.edit e (and_parts (is_sent id n g) _ here).1 in
            let second : g.edit ≡ f = eqb-true g.edit f (and_parts (is_sent id n g) _ there).1 in
            sym first ∙ second
        | inr before ↦ absurd (new e f here before)
      ]
      | inr before ↦ elim (or_cases (is_sent id n g && (g.edit == f)) (was_given past id n f) other) [
        | inl there ↦ absurd (new f e there before)
        | inr both ↦ one_edit past id n e f made.1 before both
      ]
    ]
  where
    new : (e f : ℕ) → (is_sent id n g && (g.edit == e)) ≡ true → was_given past id n f ≡ true → ⊥
    new e f here before =
        let it = next_is past made.0.0 g made.0.1 in
        let parts = and_parts (bytes_eq g.id id) _ (and_parts (is_sent id n g) (g.edit == e) here).0 in
        let number : g.submission.client_number ≡ sent past id + 1 =
        ap (λ (s : Submission). s.client_number) it.submission ∙ ap (λ x. sent past x + 1) (same_id g.id id parts.0) in
        let n_is : g.submission.client_number ≡ n = eqb-true g.submission.client_number n parts.1 in
        omega (arith, number, n_is, number_within past id n f made.1 before)
one_edit (Heard m ∷ past) id n e f made one other = one_edit past id n e f made.1 one other
one_edit (Lost ∷ past) id n e f made one other = one_edit past id n e f made one other

-- of one that was sent there is an edit
sent_edit : (past : Past) (id : List ℕ) (n : ℕ) → list_any (is_sent id n) (given past) ≡ true → (e : ℕ) × (was_given past id n e ≡ true)
unfolding was_given
sent_edit past id n some =
    let found =
    any_own (is_sent id n) (λ (g h : Given). is_sent id n h && (h.edit == g.edit)) (given past)
    (λ g so. and_from (is_sent id n g) _ so (eq-eqb g.edit g.edit refl)) some in
    (found.0.edit, found.1.1)

given_sent : (past : Past) (id : List ℕ) (n e : ℕ) → was_given past id n e ≡ true → list_any (is_sent id n) (given past) ≡ true
unfolding was_given
given_sent past id n e is =
    any_more (λ (g : Given). is_sent id n g && (g.edit == e)) (is_sent id n) (given past) (λ g so. (and_parts (is_sent id n g) _ so).0) is

found_any : (id : List ℕ) (n : ℕ) (gs : List Given) (g : Given) → find (is_sent id n) gs ≡ Some g → is_sent id n g ≡ true →
    list_any (λ given. is_sent id n given && (given.edit == g.edit)) gs ≡ true
found_any id n [] g is so = absurd (cc)
found_any id n (h ∷ gs) g is so = by_first (is_sent id n h) (λ later. found_any id n gs g later so) refl
  where
    by_first : (here : Bool) → (find (is_sent id n) gs ≡ Some g → list_any (λ given. is_sent id n given && (given.edit == g.edit)) gs ≡ true) →
        is_sent id n h ≡ here → list_any (λ given. is_sent id n given && (given.edit == g.edit)) (h ∷ gs) ≡ true
    by_first true more here =
        let found : Some h ≡ Some g = rw here at is in
        let same : h ≡ g = some_is h g found in
        or_left (is_sent id n h && (h.edit == g.edit)) (list_any (λ given. is_sent id n given && (given.edit == g.edit)) gs)
        (and_from (is_sent id n h) _ here (eq-eqb h.edit g.edit (ap (λ (g : Given). g.edit) same)))
    by_first false more other =
        let later : find (is_sent id n) gs ≡ Some g = rw other at is in
        or_right (is_sent id n h && (h.edit == g.edit)) (list_any (λ given. is_sent id n given && (given.edit == g.edit)) gs) (more later)

edit_found : (past : Past) (id : List ℕ) (n e : ℕ) → AreMade past → was_given past id n e ≡ true → edit_under (given past) (Some (id, n)) ≡ Some e
unfolding was_given
edit_found past id n e made is =
    let found = find_one (is_sent id n) (given past) (given_sent past id n e is) in
    let own : was_given past id n found.0.edit ≡ true = found_any id n (given past) found.0 found.1.0 found.1.1 in
    ap (λ (g : Option Given). option_map (λ (edit : Given). edit.edit) g) found.1.0 ∙ ap Some (one_edit past id n found.0.edit e made own is)

edit_none : (past : Past) (id : List ℕ) (n : ℕ) → list_any (is_sent id n) (given past) ≡ false → edit_under (given past) (Some (id, n)) ≡ None
edit_none past id n none = ap (λ (g : Option Given). option_map (λ (edit : Given). edit.edit) g) (find_not (is_sent id n) (given past) none)

-- of an id under which edits were sent there is one
abbrev HasGiven : List ℕ → List Given → Type 0
HasGiven id gs = (n : ℕ) × ((e : ℕ) × (list_any (λ given. is_sent id n given && (given.edit == e)) gs ≡ true))

some_in : (id : List ℕ) (gs : List Given) → 0 < length (filter (λ given. bytes_eq given.id id) gs) → HasGiven id gs
some_in id [] some = absurd (omega (arith, some))
some_in id (g ∷ gs) some = by_first (bytes_eq g.id id) (some_in id gs) refl
  where
    by_first : (own : Bool) → (0 < length (filter (λ given. bytes_eq given.id id) gs) → HasGiven id gs) → bytes_eq g.id id ≡ own → HasGiven id (g ∷ gs)
    by_first true later own =
        let number : ℕ = g.submission.client_number in (
          number,
          (
            g.edit,
            or_left (is_sent id number g && (g.edit == g.edit)) (list_any (λ given. is_sent id number given && (given.edit == g.edit)) gs)
                (and_from (is_sent id number g) _ (and_from (bytes_eq g.id id) _ own (eq-eqb number number refl)) (eq-eqb g.edit g.edit refl)),
          ),
        )
    by_first false later other =
        let more : 0 < length (filter (λ given. bytes_eq given.id id) gs) = rw other at some in
        let found = later more in
        (found.0, (found.1.0, or_right (is_sent id found.0 g && (g.edit == found.1.0)) (list_any (λ given. is_sent id found.0 given && (given.edit == found.1.0)) gs) found.1.1))

some_given : (past : Past) (id : List ℕ) → 0 < sent past id → (n : ℕ) × ((e : ℕ) × (was_given past id n e ≡ true))
unfolding sent was_given
some_given past id some = some_in id (given past) some

-- ---- the ledger beside them

only_ops : (all : Past) (c : List ℕ) (l : Ledger) → AreMade all → has_id c (ids all) ≡ true → AllByRecursion (IsOwn all) l → AllByRecursion (OnlyOps c) l
only_ops all c l made known own = each_weaker (IsOwn all) (OnlyOps c) l at own
  where
    at : (entry : Entry) → IsOwn all entry → OnlyOps c entry
    at (Join id scopes detail moment, v) is = tt
    at (Leave id moment, v) is = tt
    at (Submit id s moment, v) is = λ own. some_op (given all) id s (given_ops all made) (is (ap (λ x. has_id x (ids all)) (same_id id c own) ∙ known))
    at (Report summary found moment, v) is = tt

-- an op under one of its ids is one that was sent, with the contents of its edit
abbrev IsBrought : Past → Message → Type 0
IsBrought all m =
    (id : List ℕ) (n : ℕ) → op_of m ≡ Some (id, n) → has_id id (ids all) ≡ true → (e : ℕ) × ((was_given all id n e ≡ true) × (m.contents ≡ get_or (edits all) e null))

no_op_brought : (all : Past) (m : Message) → ((c : List ℕ) → under c (op_of m) ≡ None) → IsBrought all m
no_op_brought all m none id n is known =
    absurd (let no : None ≡ Some n = sym (none id) ∙ ap (under id) is ∙ own in cc)
  where
    own : under id (Some (id, n)) ≡ Some n
    own = rw (own_id id) refl

submit_contents : (l : Ledger) (id : List ℕ) (s : Submission) (moment : ℕ) (m : Message) → message l (Submit id s moment) ≡ Some m → m.contents ≡ s.contents
unfolding message unsettled
submit_contents l id s moment m is = rw (sym (some_is _ m is)) refl

was_moved : (all : Past) (id x : List ℕ) (k n edit : ℕ) → id ≡ x → k ≡ n → was_given all id k edit ≡ true → was_given all x n edit ≡ true
was_moved all id x k n edit ids numbers is = sym (ap (λ y. was_given all y k edit) ids ∙ ap (λ m. was_given all x m edit) numbers) ∙ is

submit_brought : (all : Past) (id : List ℕ) (s : Submission) (m : Message) → AreMade all → op_of m ≡ of_op {A = List ℕ × ℕ} (kind_of s.kind) (Some (id, s.client_number)) →
    m.contents ≡ s.contents → (has_id id (ids all) ≡ true → SomeOf (IsGiven id s) (given all)) → IsBrought all m
unfolding was_given
submit_brought all id s m made op contents own x n is known = at s.kind (sym op ∙ is)
  where
    at : (offer : Offered) → of_op {A = List ℕ × ℕ} (kind_of offer) (Some (id, s.client_number)) ≡ Some (x, n) → (e : ℕ) × ((was_given all x n e ≡ true) × (m.contents ≡ get_or (edits all) e null))
    at offered.Op same =
        let pair = some_is (id, s.client_number) (x, n) same in
        let id_is : id ≡ x = ap (λ (p : List ℕ × ℕ). p.0) pair in
        let n_is : s.client_number ≡ n = ap (λ (p : List ℕ × ℕ). p.1) pair in
        let found = some_brings (edits all) (given all) id s (given_from all made) (own (ap (λ y. has_id y (ids all)) id_is ∙ known)) in
        (found.edit, (was_moved all id x s.client_number n found.edit id_is n_is found.was, contents ∙ found.contents_are))
    at offered.Noop same = absurd (cc)
    at offered.Propose same = absurd (cc)
    at offered.Reject same = absurd (cc)
    at offered.Summarize same = absurd (cc)

entry_brought : (all : Past) (l : Ledger) (entry : Entry) → AreMade all → entry.1 ≡ verdict l entry.0 → IsOwn all entry → AllByRecursion (IsBrought all) (messages_of entry.1)
entry_brought all l (Join id scopes detail moment, Sequenced m) made is own =
    (no_op_brought all m (λ c. (joining_silent c l id scopes detail moment m (verdict-is_message l _ m (sym is))).no_op), tt)
entry_brought all l (Leave id moment, Sequenced m) made is own = (no_op_brought all m (λ c. leaving_op c l id moment m (verdict-is_message l _ m (sym is))), tt)
entry_brought all l (Submit id s moment, Sequenced m) made is own =
    let it = verdict-is_message l (Submit id s moment) m (sym is) in
    (submit_brought all id s m made (submit_op l id s moment m it) (submit_contents l id s moment m it) own, tt)
entry_brought all l (Report summary found moment, Sequenced m) made is own =
    (no_op_brought all m (λ c. (reporting_silent c l summary found moment m (verdict-is_message l _ m (sym is))).no_op), tt)
entry_brought all l (raw, Nacked n) made is own = tt
entry_brought all l (raw, Dropped) made is own = tt
entry_brought all l (raw, Absorbed) made is own = tt

all_brought : (all : Past) (l : Ledger) → AreMade all → IsLegal l → AllByRecursion (IsOwn all) l → AllByRecursion (IsBrought all) (order l)
unfolding order
all_brought all l made legal own =
    legal-induction (λ l. AllByRecursion (IsOwn all) l → AllByRecursion (IsBrought all) (order l)) begin
    (λ l entry legal before is own.
    let parts = each-append (IsOwn all) l (entry ∷ []) own in
    subst (AllByRecursion (IsBrought all)) (sym (order-push l entry))
    (each_both (IsBrought all) (order l) (messages_of entry.1) (before parts.0) (entry_brought all l entry made is parts.1.0)))
    l legal own
  where
    begin : AllByRecursion (IsOwn all) [] → AllByRecursion (IsBrought all) (order [])
    begin own = tt

-- ---- what was heard

left_heard : (past : Past) (id : List ℕ) → has_left past id ≡ true → list_any (leaves id) (messages past) ≡ true
unfolding has_left messages
left_heard [] id left = absurd (cc)
left_heard (Pushed contents ∷ past) id left = left_heard past id left
left_heard (Joined j ∷ past) id left = left_heard past id (and_parts (not (bytes_eq j id)) (has_left past id) left).1
left_heard (Gave g ∷ past) id left = left_heard past id left
left_heard (Heard m ∷ past) id left = elim (or_cases (leaves id m) (has_left past id) left) [
  | inl now ↦ any-append (leaves id) (messages past) (m ∷ []) ∙ or_right (list_any (leaves id) (messages past)) _ (or_left (leaves id m) false now)
  | inr before ↦ any-append (leaves id) (messages past) (m ∷ []) ∙ or_left (list_any (leaves id) (messages past)) _ (left_heard past id before)
]
left_heard (Lost ∷ past) id left = left_heard past id left

-- nothing was heard of an id under which nothing was sent
none_heard : (all : List (List ℕ)) (past : Past) (id : List ℕ) → AreBehind all past → has_id id all ≡ true → ((n : ℕ) → list_any (is_sent id n) (given past) ≡ false) →
    numbers id (messages past) ≡ []
unfolding messages given
none_heard all [] id behind known none = refl
none_heard all (Pushed contents ∷ past) id behind known none = none_heard all past id behind known none
none_heard all (Joined j ∷ past) id behind known none = none_heard all past id behind known none
none_heard all (Gave g ∷ past) id behind known none = none_heard all past id behind known (λ n. (or_parts (is_sent id n g) (list_any (is_sent id n) (given past)) (none n)).1)
none_heard all (Heard m ∷ past) id behind known none =
    filter_map-append (λ m. under id (op_of m)) (messages past) (m ∷ [])
    ∙ rw (none_heard all past id behind.1 known none, at (op_of m) refl) refl
  where
    at : (op : Option (List ℕ × ℕ)) → op_of m ≡ op → under id (op_of m) ≡ None
    at None is = ap (under id) is
    at (Some (x, n)) is = by_id (bytes_eq x id) refl
      where
        by_id : (own : Bool) → bytes_eq x id ≡ own → under id (op_of m) ≡ None
        by_id true own =
            let same : x ≡ id = same_id x id own in
            let op : op_of m ≡ Some (id, n) = is ∙ ap (λ y. Some (y, n)) same in
            absurd (no_test _ (behind.0.op id n op known) (none n))
        by_id false other = ap (under id) is ∙ rw other refl
none_heard all (Lost ∷ past) id behind known none = none_heard all past id behind known none

-- of an op that is heard next, the number is the next one
next_number : (start count n : ℕ) (xs ys : List ℕ) → xs ++ n ∷ ys ≡ range_with_len start count → n ≡ start + length xs
next_number start zero n [] ys is = absurd (cc)
next_number start (suc count) n [] ys is =
    let head : n ≡ start = cc in
    omega (arith, head)
next_number start zero n (x ∷ xs) ys is = absurd (cc)
next_number start (suc count) n (x ∷ xs) ys is =
    let tails : xs ++ n ∷ ys ≡ range_with_len (start + 1) count = cc in
    omega (arith, next_number (start + 1) count n xs ys tails)

-- nothing is sent under an id that isn't joined
unknown_sent : (o : AnOutbox) (past : Past) (id : List ℕ) (n : ℕ) → Stands o past → has_id id (ids past) ≡ false → list_any (is_sent id n) (given past) ≡ false
unknown_sent o past id n is unknown =
    false_from_ne_true _ (λ some.
    let it = sent_edit past id n some in
    let more = given_some past id n it.0 it.1 in
    omega (arith, is.strangers id unknown, more))

-- ---- call by call

abbrev heard_count : Past → List ℕ → ℕ
heard_count past id = length (numbers id (messages past))

module _ (all : Past) (l : Ledger) (made_all : AreMade all) (legal : IsLegal l) (own : AllByRecursion (IsOwn all) l)
    (once : (id : List ℕ) → has_id id (ids all) ≡ true → length (filter_map (joins id) l) ≤ 1) where
  ledger_of : (c : List ℕ) → has_id c (ids all) ≡ true → Tracked c l
  ledger_of c known = tracked c l legal (only_ops all c l made_all known own) (once c known)

  -- a part of the calls, from the first on
  record Part (past : Past) : Type 0 where
    made : AreMade past
    behind : AreBehind (ids all) past
    given_all : (id : List ℕ) (n e : ℕ) → was_given past id n e ≡ true → was_given all id n e ≡ true
    ids_all : (id : List ℕ) → has_id id (ids past) ≡ true → has_id id (ids all) ≡ true
    rest : List Message
    heard : order l ≡ messages past ++ rest

  -- what holds at each moment: the edits that stand in what was heard are those that are acknowledged, and under an id whose leave wasn't
  -- heard the edits were sent one after another
  record Holds (past : Past) : Type 0 where
    outbox : AnOutbox
    stands : Stands outbox past
    counted : standing all (messages past) ≡ first (acknowledged past)
    in_turn : (id : List ℕ) (n e : ℕ) → was_given past id n e ≡ true → has_left past id ≡ false → e + heard_count past id + 1 ≡ acknowledged past + n

  before_pushed : (past : Past) (contents : _) → Part (Pushed contents ∷ past) → Part past
  unfolding ids messages was_given given
  before_pushed past contents p =
      record { made = p.made; behind = p.behind; given_all = p.given_all; ids_all = p.ids_all; rest = p.rest; heard = p.heard }

  before_joined : (past : Past) (id : List ℕ) → Part (Joined id ∷ past) → Part past
  unfolding ids messages was_given given
  before_joined past id p = record {
    made = p.made.1.1;
    behind = p.behind;
    given_all = p.given_all;
    ids_all = λ x known. p.ids_all x (or_right (bytes_eq x id) (has_id x (ids past)) known);
    rest = p.rest;
    heard = p.heard;
  }

  before_gave : (past : Past) (g : Given) → Part (Gave g ∷ past) → Part past
  unfolding ids messages was_given given
  before_gave past g p = record {
    made = p.made.1;
    behind = p.behind;
    given_all = λ id n e is. p.given_all id n e (or_right (is_sent id n g && (g.edit == e)) (was_given past id n e) is);
    ids_all = p.ids_all;
    rest = p.rest;
    heard = p.heard;
  }

  before_heard : (past : Past) (m : Message) → Part (Heard m ∷ past) → Part past
  unfolding ids messages was_given given
  before_heard past m p = record {
    made = p.made.1;
    behind = p.behind.1;
    given_all = p.given_all;
    ids_all = p.ids_all;
    rest = m ∷ p.rest;
    heard = p.heard ∙ append_assoc (messages past) (m ∷ []) p.rest;
  }

  before_lost : (past : Past) → Part (Lost ∷ past) → Part past
  unfolding ids messages was_given given
  before_lost past p =
      record { made = p.made; behind = p.behind; given_all = p.given_all; ids_all = p.ids_all; rest = p.rest; heard = p.heard }

  holds_none : Holds []
  unfolding messages acknowledged was_given given
  holds_none = record { outbox = empty; stands = stands_none; counted = refl; in_turn = λ id n e is left. absurd (cc) }

  holds_pushed : (past : Past) (contents : _) → Holds past → Holds (Pushed contents ∷ past)
  unfolding messages acknowledged was_given given has_left
  holds_pushed past contents h = record {
    outbox = with_edit h.outbox contents;
    stands = stands_pushed h.outbox past contents h.stands;
    counted = h.counted;
    in_turn = h.in_turn;
  }

  holds_joined : (past : Past) (id : List ℕ) → AreMade (Joined id ∷ past) → Holds past → Holds (Joined id ∷ past)
  unfolding messages acknowledged was_given given has_left
  holds_joined past id made h = record {
    outbox = with_id h.outbox id;
    stands = stands_joined h.outbox past id h.stands (none_current h.outbox.current (h.stands.own ∙ made.0)) made.1.0;
    counted = h.counted;
    in_turn = λ x n e is left. h.in_turn x n e is (before x n e is (bytes_eq id x) refl left);
  }
    where
      before : (x : List ℕ) (n e : ℕ) → was_given past x n e ≡ true → (own : Bool) → bytes_eq id x ≡ own → (not (bytes_eq id x) && has_left past x) ≡ false → has_left past x ≡ false
      before x n e is true own left =
          let none : sent past x ≡ 0 = h.stands.strangers x (ap (λ y. has_id y (ids past)) (sym (same_id id x own)) ∙ made.1.0) in
          absurd (omega (arith, none, given_some past x n e is))
      before x n e is false other left = let it : has_left past x ≡ false = rw other at left in it

  holds_lost : (past : Past) → Holds past → Holds (Lost ∷ past)
  unfolding messages acknowledged was_given given has_left
  holds_lost past h = record {
    outbox = after_lost h.outbox;
    stands = stands_lost h.outbox past h.stands;
    counted = h.counted;
    in_turn = h.in_turn;
  }

  -- of what is kept of an id, as many were acknowledged as were heard
  heard_is : (past : Past) (line : Line) → Part past → Holds past → IsLine past line → has_left past line.id ≡ false → has_id line.id (ids past) ≡ true →
      heard_count past line.id ≡ line.acknowledged
  heard_is past line p h is open_ known = elim (cases_lt 0 line.sent) [
    | inl some ↦
        let it = some_given past line.id (omega (arith, some, is.sent)) in
        let turn = in_turn-true (acknowledged past) line.acknowledged line.sent it.0 it.1.0 (sym (is.given it.0 it.1.0) ∙ it.1.1) in
        let other = h.in_turn line.id it.0 it.1.0 it.1.1 open_ in
        omega (arith, turn.at, other)
    | inr none ↦
        let empty : sent past line.id ≡ 0 = omega (arith, none, is.sent) in
        let nothing : numbers line.id (messages past) ≡ [] =
        none_heard (ids all) past line.id p.behind (p.ids_all line.id known) (λ n. false_from_ne_true _ (λ some.
        let it = sent_edit past line.id n some in
        omega (arith, empty, given_some past line.id n it.0 it.1))) in
        omega (arith, ap (λ (xs : List ℕ). length xs) nothing, none, is.ordered)
  ]

  -- ---- an edit more is on its way

  holds_gave : (past : Past) (g : Given) → Part (Gave g ∷ past) → Holds past → Holds (Gave g ∷ past)
  unfolding messages acknowledged was_given given has_left
  holds_gave past g p h =
      let reference = p.made.0.0 in
      let it = next_is past reference g p.made.0.1 in
      let after = stands_gave h.outbox past reference g h.stands p.made.0.1 in
      let has = has_line h.outbox g.id h.outbox.current refl (h.stands.own ∙ it.own) in
      let was : IsLine past has.line = rw has.kept at h.stands.current_line in
      let now : IsLine (Gave g ∷ past) (record has.line { sent = has.line.sent + 1 }) = rw has.kept at after.current_line in
      let known : has_id has.line.id (ids past) ≡ true = ap (λ x. has_id x (ids past)) has.id_is ∙ current_known past g.id it.own in
      record {
        outbox = with_sent h.outbox;
        stands = after;
        counted = h.counted;
        in_turn = λ x n e is left. elim (or_cases (is_sent x n g && (g.edit == e)) (was_given past x n e) is) [
          | inl here ↦
              let same : g.id ≡ x = same_id g.id x (and_parts (bytes_eq g.id x) _ (and_parts (is_sent x n g) _ here).0).0 in
              let x_is : has.line.id ≡ x = has.id_is ∙ same in
              let open_ : has_left past has.line.id ≡ false = ap (has_left past) x_is ∙ left in
              let given_now : was_given (Gave g ∷ past) has.line.id n e ≡ true = ap (λ y. was_given (Gave g ∷ past) y n e) x_is ∙ is in
              let turn = in_turn-true (acknowledged past) has.line.acknowledged (has.line.sent + 1) n e (sym (now.given n e) ∙ given_now) in
              let count : heard_count past has.line.id ≡ has.line.acknowledged = heard_is past has.line (before_gave past g p) h was open_ known in
              let count_x : heard_count past x ≡ has.line.acknowledged = ap (heard_count past) (sym x_is) ∙ count in
              omega (arith, turn.at, count_x)
          | inr before ↦ h.in_turn x n e before left
        ];
      }

  -- ---- a message more

  -- edits are on their way under one id
  live : (o : AnOutbox) (past : Past) (x : List ℕ) (n e : ℕ) → Stands o past → was_given past x n e ≡ true → has_left past x ≡ false →
      (is_text (id_of o.current) x ≡ true) ⊎ (is_text (id_of o.awaited) x ≡ true)
  live o past x n e is given open_ = at (is_text (current past) x) refl
    where
      at : (own : Bool) → is_text (current past) x ≡ own → (is_text (id_of o.current) x ≡ true) ⊎ (is_text (id_of o.awaited) x ≡ true)
      at true own = inl (ap (λ (c : Option (List ℕ)). is_text c x) is.own ∙ own)
      at false other =
          inr (sym (is.awaited x) ∙ is_awaited_from past x (record { ended = other; some = given_some past x n e given; not_left = open_ }))

  same_kept : (kept : Option Line) (x y : List ℕ) → is_text (id_of kept) x ≡ true → is_text (id_of kept) y ≡ true → x ≡ y
  same_kept None x y one other = absurd (cc)
  same_kept (Some line) x y one other = sym (same_id line.id x one) ∙ same_id line.id y other

  -- nothing is sent under the current id while one is awaited
  not_two : (past : Past) (cur aw : Option Line) (x y : List ℕ) → IsAlone cur aw → IfSome cur (IsLine past) → 0 < sent past x →
      is_text (id_of cur) x ≡ true → is_text (id_of aw) y ≡ true → ⊥
  not_two past None aw x y alone lines some one other = cc
  not_two past (Some line) None x y alone lines some one other = cc
  not_two past (Some line) (Some awaited) x y alone lines some one other =
      let same : sent past line.id ≡ sent past x = ap (sent past) (same_id line.id x one) in
      omega (arith, alone, lines.sent, same, some)

  one_id : (o : AnOutbox) (past : Past) (x y : List ℕ) (n e i d : ℕ) → Stands o past → was_given past x n e ≡ true → has_left past x ≡ false →
      was_given past y i d ≡ true → has_left past y ≡ false → x ≡ y
  one_id o past x y n e i d is given_x open_x given_y open_y = elim (live o past x n e is given_x open_x) [
    | inl one ↦ elim (live o past y i d is given_y open_y) [
      | inl other ↦ same_kept o.current x y one other
      | inr other ↦ absurd (not_two past o.current o.awaited x y is.alone is.current_line (given_some past x n e given_x) one other)
    ]
    | inr one ↦ elim (live o past y i d is given_y open_y) [
      | inl other ↦ absurd (not_two past o.current o.awaited y x is.alone is.current_line (given_some past y i d given_y) other one)
      | inr other ↦ same_kept o.awaited x y one other
    ]
  ]

  given_known : (past : Past) (id : List ℕ) (n : ℕ) → AreMade past → list_any (is_sent id n) (given past) ≡ true → has_id id (ids past) ≡ true
  unfolding given ids
  given_known [] id n made some = absurd (cc)
  given_known (Pushed contents ∷ past) id n made some = given_known past id n made some
  given_known (Joined j ∷ past) id n made some = or_right (bytes_eq id j) (has_id id (ids past)) (given_known past id n made.1.1 some)
  given_known (Gave g ∷ past) id n made some = elim (or_cases (is_sent id n g) (list_any (is_sent id n) (given past)) some) [
    | inl here ↦
        ap (λ x. has_id x (ids past)) (sym (same_id g.id id (and_parts (bytes_eq g.id id) _ here).0))
        ∙ current_known past g.id (next_is past made.0.0 g made.0.1).own
    | inr before ↦ given_known past id n made.1 before
  ]
  given_known (Heard m ∷ past) id n made some = given_known past id n made.1 some
  given_known (Lost ∷ past) id n made some = given_known past id n made some

  heard_now : (past : Past) (m : Message) → standing all (messages (Heard m ∷ past)) ≡ standing all (messages past) ++ filter_map (edit_of all) (m ∷ [])
  unfolding messages
  heard_now past m = filter_map-append (edit_of all) (messages past) (m ∷ [])

  count_now : (past : Past) (m : Message) (id : List ℕ) (got : Option ℕ) → under id (op_of m) ≡ got →
      heard_count (Heard m ∷ past) id ≡ heard_count past id + (if is_some got then 1 else 0)
  unfolding messages
  count_now past m id None is =
      ap (λ (xs : List ℕ). length xs) (filter_map-append (λ m. under id (op_of m)) (messages past) (m ∷ [])) ∙ rw is (length-append (numbers id (messages past)) [])
  count_now past m id (Some n) is =
      ap (λ (xs : List ℕ). length xs) (filter_map-append (λ m. under id (op_of m)) (messages past) (m ∷ [])) ∙ rw is (length-append (numbers id (messages past)) (n ∷ []))

  left_before : (past : Past) (m : Message) (id : List ℕ) → has_left (Heard m ∷ past) id ≡ false → has_left past id ≡ false
  unfolding has_left
  left_before past m id open_ = (or_parts (leaves id m) (has_left past id) open_).1

  given_before : (past : Past) (m : Message) (id : List ℕ) (n e : ℕ) → was_given (Heard m ∷ past) id n e ≡ true → was_given past id n e ≡ true
  unfolding was_given given
  given_before past m id n e is = is

  -- one that brings no edit
  holds_other : (past : Past) (m : Message) → Holds past → acknowledged (Heard m ∷ past) ≡ acknowledged past → edit_of all m ≡ None →
      ((id : List ℕ) (n e : ℕ) → was_given past id n e ≡ true → under id (op_of m) ≡ None) → Holds (Heard m ∷ past)
  holds_other past m h same none others = record {
    outbox = after_heard h.outbox m;
    stands = stands_heard h.outbox past m h.stands;
    counted = heard_now past m ∙ rw none (append-nil (standing all (messages past))) ∙ h.counted ∙ ap first (sym same);
    in_turn = λ id n e is open_.
        let before = given_before past m id n e is in
        let was = h.in_turn id n e before (left_before past m id open_) in
        omega (arith, was, same, count_now past m id None (others id n e before));
  }

  -- one that brings the first edit that isn't acknowledged
  holds_next : (past : Past) (m : Message) (id : List ℕ) (n : ℕ) → Holds past → acknowledged (Heard m ∷ past) ≡ acknowledged past + 1 → op_of m ≡ Some (id, n) →
      edit_of all m ≡ Some (acknowledged past) → ((x : List ℕ) (i e : ℕ) → was_given past x i e ≡ true → has_left past x ≡ false → x ≡ id) → Holds (Heard m ∷ past)
  holds_next past m id n h more op edit only = record {
    outbox = after_heard h.outbox m;
    stands = stands_heard h.outbox past m h.stands;
    counted =
        heard_now past m
        ∙ rw (edit, h.counted) (ap (λ k. range_with_len 0 (acknowledged past) ++ k ∷ []) (from_zero (acknowledged past)) ∙ range-push 0 (acknowledged past))
        ∙ ap first (sym more);
    in_turn = λ x i e is open_.
        let before = given_before past m x i e is in
        let left = left_before past m x open_ in
        let was = h.in_turn x i e before left in
        let own : under x (op_of m) ≡ Some n = ap (under x) op ∙ rw (only x i e before left, own_id id) refl in
        omega (arith, was, more, count_now past m x (Some n) own);
  }
    where
      from_zero : (k : ℕ) → k ≡ 0 + k
      from_zero k = omega arith

  heard_split : (past : Past) (m : Message) (p : Part (Heard m ∷ past)) → order l ≡ messages past ++ (m ∷ p.rest)
  unfolding messages
  heard_split past m p = p.heard ∙ append_assoc (messages past) (m ∷ []) p.rest

  heard_op : (past : Past) (m : Message) (id : List ℕ) (n : ℕ) (known : Bool) → op_of m ≡ Some (id, n) → has_id id (ids all) ≡ known → Part (Heard m ∷ past) → Holds past → Holds (Heard m ∷ past)
  heard_op past m id n false op unknown p h =
      let before = before_heard past m p in
      let stranger : list_any (is_sent id n) (given all) ≡ false = false_from_ne_true _ (λ some. no_test _ (given_known all id n made_all some) unknown) in
      let not_given : was_given past id n (acknowledged past) ≡ false =
      false_from_ne_true _ (λ is. no_test _ (given_sent all id n (acknowledged past) (before.given_all id n (acknowledged past) is)) stranger) in
      let same = acknowledged_at past m false (counts_op past m id n op ∙ rw not_given refl) in
      holds_other past m h same (ap (edit_under (given all)) op ∙ edit_none all id n stranger) (λ x i e is.
      let known_x = given_known all x i made_all (given_sent all x i e (before.given_all x i e is)) in
      let other : bytes_eq id x ≡ false = false_from_ne_true _ (λ own. no_test _ (ap (λ y. has_id y (ids all)) (same_id id x own) ∙ known_x) unknown) in
      ap (under x) op ∙ rw other refl)
  heard_op past m id n true op known p h =
      let before = before_heard past m p in
      let it = sent_edit past id n (p.behind.0.op id n op known) in
      let split = heard_split past m p in
      let ledger = ledger_of id known in
      let own : under id (op_of m) ≡ Some n = ap (under id) op ∙ rw (own_id id) refl in
      let open_ : has_left past id ≡ false = false_from_ne_true _ (λ left.
      let none = quiet_behind id (messages past) (m ∷ p.rest) (subst (Quiet id) split ledger.quiet) (left_heard past id left) in
      let no : n ∷ numbers id p.rest ≡ [] = rw own at none in
      cc) in
      let turn = h.in_turn id n it.0 it.1 open_ in
      let number =
      next_number 1 ledger.count n (numbers id (messages past)) (numbers id p.rest)
      (ap (λ (got : Option ℕ). numbers id (messages past) ++ cons_option got (numbers id p.rest)) (sym own)
      ∙ sym (filter_map-append (λ m. under id (op_of m)) (messages past) (m ∷ p.rest)) ∙ ap (numbers id) (sym split) ∙ ledger.numbers_are) in
      let first_is : it.0 ≡ acknowledged past = omega (arith, turn, number) in
      let given_first : was_given past id n (acknowledged past) ≡ true = ap (was_given past id n) (sym first_is) ∙ it.1 in
      let more = acknowledged_at past m true (counts_op past m id n op ∙ rw (given_first, open_) refl) in
      holds_next past m id n h more op
      (ap (edit_under (given all)) op ∙ edit_found all id n (acknowledged past) made_all (before.given_all id n (acknowledged past) given_first))
      (λ x i e is left. one_id h.outbox past x id i e n it.0 h.stands is left it.1 open_)

  heard_at : (past : Past) (m : Message) (op : Option (List ℕ × ℕ)) → op_of m ≡ op → Part (Heard m ∷ past) → Holds past → Holds (Heard m ∷ past)
  heard_at past m None is p h =
      holds_other past m h (acknowledged_at past m false (ap (acknowledges past (acknowledged past)) is)) (ap (edit_under (given all)) is) (λ id n e given. ap (under id) is)
  heard_at past m (Some (id, n)) is p h = heard_op past m id n (has_id id (ids all)) is refl p h

  holds : (past : Past) → Part past → Holds past
  holds [] p = holds_none
  holds (Pushed contents ∷ past) p = holds_pushed past contents (holds past (before_pushed past contents p))
  holds (Joined id ∷ past) p = holds_joined past id p.made (holds past (before_joined past id p))
  holds (Gave g ∷ past) p = holds_gave past g p (holds past (before_gave past g p))
  holds (Heard m ∷ past) p = heard_at past m (op_of m) refl p (holds past (before_heard past m p))
  holds (Lost ∷ past) p = holds_lost past (holds past (before_lost past p))

  -- ---- what stands behind what was heard

  module _ (rest : List Message) (heard : order l ≡ messages all ++ rest) (behind : AreBehind (ids all) all) where
    all_part : Part all
    all_part = record { made = made_all; behind = behind; given_all = λ id n e is. is; ids_all = λ id is. is; rest = rest; heard = heard }

    at_last : Holds all
    at_last = holds all all_part

    rest_brought : AllByRecursion (IsBrought all) rest
    rest_brought = (each-append (IsBrought all) (messages all) rest (subst (AllByRecursion (IsBrought all)) heard (all_brought all l made_all legal own))).1

    -- an op there is under an id whose leave wasn't heard
    abbrev AreOpen : List Message → Type 0
    AreOpen ms = (id : List ℕ) → has_id id (ids all) ≡ true → has_left all id ≡ true → numbers id ms ≡ []

    rest_open : AreOpen rest
    rest_open id known left = quiet_behind id (messages all) rest (subst (Quiet id) heard (ledger_of id known).quiet) (left_heard all id left)

    abbrev Brings : List ℕ → Message → Type 0
    Brings f m = ((edit_of all m ≡ None) × (under f (op_of m) ≡ None)) ⊎ ((n : ℕ) × ((op_of m ≡ Some (f, n)) × ((e : ℕ) → e + heard_count all f + 1 ≡ acknowledged all + n → edit_of all m ≡ Some e)))

    -- each message there brings an edit that was sent under one id, or none
    walk : (f : List ℕ) (ms : List Message) (start count at : ℕ) → numbers f ms ≡ range_with_len start count → AllByRecursion (Brings f) ms →
        at + heard_count all f + 1 ≡ acknowledged all + start → standing all ms ≡ range_with_len at count
    walk f [] start zero at is each place = refl
    walk f [] start (suc count) at is each place = absurd (cc)
    walk f (m ∷ ms) start count at is (inl none, each) place =
        let later : numbers f ms ≡ range_with_len start count = rw none.1 at is in
        rw none.0 (walk f ms start count at later each place)
    walk f (m ∷ ms) start count at is (inr (n, (op, edit)), each) place =
        by_count count (λ count later. walk f ms (start + 1) count (at + 1) later each (omega (arith, place))) is
      where
        mine : under f (op_of m) ≡ Some n
        mine = ap (under f) op ∙ rw (own_id f) refl

        by_count : (count : ℕ) → ((count : ℕ) → numbers f ms ≡ range_with_len (start + 1) count → standing all ms ≡ range_with_len (at + 1) count) →
            numbers f (m ∷ ms) ≡ range_with_len start count → standing all (m ∷ ms) ≡ range_with_len at count
        by_count zero more is = absurd (let no : n ∷ numbers f ms ≡ [] = rw mine at is in cc)
        by_count (suc count) more is =
            let parts : n ∷ numbers f ms ≡ start ∷ range_with_len (start + 1) count = rw mine at is in
            let number : n ≡ start = cc in
            let later : numbers f ms ≡ range_with_len (start + 1) count = cc in
            let here : edit_of all m ≡ Some at = edit at (omega (arith, place, number)) in
            rw here (ap (λ (xs : List ℕ). at ∷ xs) (more count later))

    -- what a message there is: it brings no edit, or it is the op of one that was sent under an id whose leave wasn't heard
    record IsOpen (m : Message) (id : List ℕ) (n : ℕ) : Type 0 where
      op : op_of m ≡ Some (id, n)
      edit : ℕ
      given : was_given all id n edit ≡ true
      open_ : has_left all id ≡ false

    abbrev Known : Message → Type 0
    Known m = (edit_of all m ≡ None) ⊎ ((id : List ℕ) × ((n : ℕ) × IsOpen m id n))

    later_open : (m : Message) (ms : List Message) → AreOpen (m ∷ ms) → AreOpen ms
    later_open m ms open_ id known left = at (under id (op_of m)) refl (open_ id known left)
      where
        at : (got : Option ℕ) → under id (op_of m) ≡ got → numbers id (m ∷ ms) ≡ [] → numbers id ms ≡ []
        at None is none = let it : numbers id ms ≡ [] = rw is at none in it
        at (Some n) is none = absurd (let no : n ∷ numbers id ms ≡ [] = rw is at none in cc)

    stranger : (id : List ℕ) (n : ℕ) → has_id id (ids all) ≡ false → list_any (is_sent id n) (given all) ≡ false
    stranger id n unknown = false_from_ne_true _ (λ some. no_test _ (given_known all id n made_all some) unknown)

    known_one : (m : Message) (ms : List Message) → IsBrought all m → AreOpen (m ∷ ms) → Known m
    known_one m ms brought open_ = by_op (op_of m) refl
      where
        by_known : (id : List ℕ) (n : ℕ) (known : Bool) → op_of m ≡ Some (id, n) → has_id id (ids all) ≡ known → Known m
        by_known id n false op unknown = inl (ap (edit_under (given all)) op ∙ edit_none all id n (stranger id n unknown))
        by_known id n true op known =
            let it = brought id n op known in
            let own : under id (op_of m) ≡ Some n = ap (under id) op ∙ rw (own_id id) refl in
            let not_left : has_left all id ≡ false = false_from_ne_true _ (λ left.
            let none = open_ id known left in
            let no : n ∷ numbers id ms ≡ [] = rw own at none in
            cc) in
            inr (id, (n, record { op = op; edit = it.0; given = it.1.0; open_ = not_left }))

        by_op : (op : Option (List ℕ × ℕ)) → op_of m ≡ op → Known m
        by_op None is = inl (ap (edit_under (given all)) is)
        by_op (Some (id, n)) is = by_known id n (has_id id (ids all)) is refl

    known_each : (ms : List Message) → AllByRecursion (IsBrought all) ms → AreOpen ms → AllByRecursion Known ms
    known_each [] brought open_ = tt
    known_each (m ∷ ms) brought open_ = (known_one m ms brought.0 open_, known_each ms brought.1 (later_open m ms open_))

    -- either none of them brings an edit, or some id has edits on their way
    some_open : (ms : List Message) → AllByRecursion Known ms → AllByRecursion (λ m. edit_of all m ≡ None) ms ⊎ ((m : Message) × ((id : List ℕ) × ((n : ℕ) × IsOpen m id n)))
    some_open [] each = inl tt
    some_open (m ∷ ms) (inl none, each) = elim (some_open ms each) [
      | inl nones ↦ inl (none, nones)
      | inr found ↦ inr found
    ]
    some_open (m ∷ ms) (inr (id, (n, is)), each) = inr (m, (id, (n, is)))

    none_stand : (ms : List Message) → AllByRecursion (λ m. edit_of all m ≡ None) ms → standing all ms ≡ []
    none_stand [] each = refl
    none_stand (m ∷ ms) each = rw each.0 (none_stand ms each.1)

    module _ (f : List ℕ) (i d : ℕ) (given_f : was_given all f i d ≡ true) (open_f : has_left all f ≡ false) where
      known_f : has_id f (ids all) ≡ true
      known_f = given_known all f i made_all (given_sent all f i d given_f)

      brings_one : (m : Message) → IsBrought all m → Known m → Brings f m
      brings_one m brought (inr (id, (n, is))) =
          let same : id ≡ f = one_id at_last.outbox all id f n is.edit i d at_last.stands is.given is.open_ given_f open_f in
          let given_n : was_given all f n is.edit ≡ true = ap (λ x. was_given all x n is.edit) (sym same) ∙ is.given in
          let op : op_of m ≡ Some (f, n) = is.op ∙ ap (λ x. Some (x, n)) same in
          inr (
            n,
            (
              op,
              λ e place.
                  let turn = at_last.in_turn f n is.edit given_n open_f in
                  let edits_are : e ≡ is.edit = omega (arith, place, turn) in
                  ap (edit_under (given all)) op ∙ edit_found all f n e made_all (ap (was_given all f n) edits_are ∙ given_n),
            ),
          )
      brings_one m brought (inl none) = by_op (op_of m) refl
        where
          by_own : (id : List ℕ) (n : ℕ) (own : Bool) → op_of m ≡ Some (id, n) → bytes_eq id f ≡ own → Brings f m
          by_own id n false op other = inl (none, ap (under f) op ∙ rw other refl)
          by_own id n true op own =
              let same : id ≡ f = same_id id f own in
              let op_f : op_of m ≡ Some (f, n) = op ∙ ap (λ x. Some (x, n)) same in
              let it = brought f n op_f known_f in
              absurd (let no : None ≡ Some it.0 = sym none ∙ ap (edit_under (given all)) op_f ∙ edit_found all f n it.0 made_all it.1.0 in cc)

          by_op : (op : Option (List ℕ × ℕ)) → op_of m ≡ op → Brings f m
          by_op None is = inl (none, ap (under f) is)
          by_op (Some (id, n)) is = by_own id n (bytes_eq id f) is refl

      brings_each : (ms : List Message) → AllByRecursion (IsBrought all) ms → AllByRecursion Known ms → AllByRecursion (Brings f) ms
      brings_each [] brought each = tt
      brings_each (m ∷ ms) brought each = (brings_one m brought.0 each.0, brings_each ms brought.1 each.1)

      numbers_behind : numbers f rest ≡ range_with_len (1 + heard_count all f) (length (numbers f rest))
      numbers_behind =
          rest_of_range (numbers f (messages all)) (numbers f rest) 1 (ledger_of f known_f).count
          (sym (filter_map-append (λ m. under f (op_of m)) (messages all) rest) ∙ ap (numbers f) (sym heard) ∙ (ledger_of f known_f).numbers_are)

      stand_behind : standing all rest ≡ range_with_len (acknowledged all) (length (numbers f rest))
      stand_behind =
          walk f rest (1 + heard_count all f) (length (numbers f rest)) (acknowledged all) numbers_behind
          (brings_each rest rest_brought (known_each rest rest_brought rest_open)) (omega arith)

    behind_them : (count : ℕ) × (standing all rest ≡ range_with_len (acknowledged all) count)
    behind_them = elim (some_open rest (known_each rest rest_brought rest_open)) [
      | inl nones ↦ (0, none_stand rest nones)
      | inr found ↦
          let is = found.1.1.1 in
          let f = found.1.0 in
          (length (numbers f rest), stand_behind f found.1.1.0 is.edit is.given is.open_)
    ]

    edit_below : (m : Message) (e : ℕ) (op : Option (List ℕ × ℕ)) → edit_under (given all) op ≡ Some e → e < length (edits all)
    edit_below m e None is = absurd (cc)
    edit_below m e (Some (id, n)) is = at (find (is_sent id n) (given all)) refl is
      where
        at : (found : Option Given) → find (is_sent id n) (given all) ≡ found → option_map (λ (edit : Given). edit.edit) found ≡ Some e → e < length (edits all)
        at None found is = absurd (cc)
        at (Some g) found is =
            let below : g.edit < length (edits all) = find_each (λ (g : Given). g.edit < length (edits all)) (is_sent id n) (given all) g (given_below all made_all) found in
            let same : g.edit ≡ e = some_is g.edit e is in
            omega (arith, below, same)

    stand_below : (ms : List Message) → AllByRecursion (λ e. e < length (edits all)) (standing all ms)
    stand_below [] = tt
    stand_below (m ∷ ms) = at (edit_of all m) (stand_below ms) refl
      where
        at : (got : Option ℕ) → AllByRecursion (λ e. e < length (edits all)) (standing all ms) → edit_of all m ≡ got → AllByRecursion (λ e. e < length (edits all)) (standing all (m ∷ ms))
        at None later is = rw is later
        at (Some e) later is = rw is (edit_below m e (op_of m) is, later)

    -- a message that brings an edit has its contents
    own_contents : (m : Message) → IsBrought all m → HasContents all m
    own_contents m brought e is = by_op (op_of m) refl
      where
        by_known : (id : List ℕ) (n : ℕ) (known : Bool) → op_of m ≡ Some (id, n) → has_id id (ids all) ≡ known → m.contents ≡ get_or (edits all) e null
        by_known id n false op unknown =
            let none : edit_of all m ≡ None = ap (edit_under (given all)) op ∙ edit_none all id n (stranger id n unknown) in
            absurd (let no : None ≡ Some e = sym none ∙ is in cc)
        by_known id n true op known =
            let it = brought id n op known in
            let same : Some it.0 ≡ Some e = sym (ap (edit_under (given all)) op ∙ edit_found all id n it.0 made_all it.1.0) ∙ is in
            it.1.1 ∙ ap (λ e. get_or (edits all) e null) (some_is it.0 e same)

        by_op : (op : Option (List ℕ × ℕ)) → op_of m ≡ op → m.contents ≡ get_or (edits all) e null
        by_op None op = absurd (let no : None ≡ Some e = sym (ap (edit_under (given all)) op) ∙ is in cc)
        by_op (Some (id, n)) op = by_known id n (has_id id (ids all)) op refl

    exactly_once : IsExactlyOnce all (order l) (acknowledged all)
    exactly_once =
        let more = behind_them in
        record {
          standing_edits = acknowledged all + more.0;
          once_in_order =
              ap (standing all) heard
              ∙ filter_map-append (edit_of all) (messages all) rest
              ∙ ap (λ (es : List ℕ). es ++ standing all rest) at_last.counted
              ∙ ap (λ (es : List ℕ). first (acknowledged all) ++ es) more.1
              ∙ ap (λ n. first (acknowledged all) ++ range_with_len n more.0) (from_zero (acknowledged all))
              ∙ range-append 0 (acknowledged all) more.0;
          with_contents = each_weaker (IsBrought all) (HasContents all) (order l) own_contents (all_brought all l made_all legal own);
          acknowledged_stand = at_last.counted;
          counted_among = omega arith;
          are_edits =
              each_below (acknowledged all) more.0 (length (edits all)) at_last.stands.few
              (subst (λ (es : List ℕ). AllByRecursion (λ e. e < length (edits all)) es) more.1 (stand_below rest));
        }
      where
        from_zero : (n : ℕ) → n ≡ 0 + n
        from_zero n = omega arith

-- ---- every run

pub each_once : EachOnce
each_once calls l run = exactly_once (past_of calls) l run.made run.legal run.own run.once run.rest run.heard run.behind
