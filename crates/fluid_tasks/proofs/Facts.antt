-- What holds of every past whose messages are numbered 1, 2, 3 and so on.
use Rattle.std.proofs.Common.{◌≡◌, ℕ, ◌+◌, ◌<◌, ◌≤◌, ◌==◌, Bool, true, false, ◌&&◌, ◌||◌, cond, List, [], ◌∷◌, ◌++◌, length, Option, Some, None, option_map, refl, sym, ◌∙◌, ap, subst, arith, append-nil, inl, inr}
use Rattle.std.specs.Prelude.{is_some}
use Rattle.std.specs.List.{AllByRecursion}
use Rattle.std.proofs.lemmas.Bool.{eqb-true, and_parts, false_from_ne_true, cases_Bool}
use Rattle.fluid_types.specs.declared.messages.Message.{Message}
use Rattle.fluid_tasks.specs.declared.acts.Act.TheVariants.{Add, Acquire, Complete, Release, Volunteer, Abandon, Finish}
use Rattle.fluid_tasks.specs.declared.tasks.Item.{Item}
use Rattle.fluid_tasks.specs.Acts.{Said, Does, Leaves, Nothing, said}
use Rattle.fluid_tasks.specs.Past.{Past, first, is_text, is_number, numbers, adds, number_if, items, added, is_of, Status, NoItem, Free, Held, Gone, is_free_since, is_held_by, status_behind, status, free}
use Rattle.fluid_tasks.specs.Kept.{IsNumbered}
use Rattle.fluid_tasks.proofs.Lists.{no_test, all-append, all-any, mem, mem-append, Below, below-more, Ascends, ascends-push, turns-all}

-- ---- numbers

pub numbers_below : (past : Past) → IsNumbered past → Below (length past + 1) (numbers past)
unfolding numbers
numbers_below [] h = tt
numbers_below (m ∷ past) h =
    all-append (λ x. x < length (m ∷ past) + 1) (numbers past) (m.number ∷ [])
    (below-more (length past + 1) (length (m ∷ past) + 1) (numbers past) (omega arith) (numbers_below past h.1)) (omega (arith, h.0), tt)

pub numbers_rise : (past : Past) → IsNumbered past → Ascends (numbers past)
unfolding numbers
numbers_rise [] h = tt
numbers_rise (m ∷ past) h = ascends-push (numbers past) m.number (numbers_rise past h.1) (subst (λ n. Below n (numbers past)) (sym h.0) (numbers_below past h.1))

-- ---- items

number_below : (n k : ℕ) (o : Option Item) → n < k → Below k (number_if n o)
number_below n k None lt = tt
number_below n k (Some it) lt = (lt, tt)

pub items_below : (past : Past) → IsNumbered past → Below (length past + 1) (items past)
unfolding items
items_below [] h = tt
items_below (m ∷ past) h =
    all-append (λ x. x < length (m ∷ past) + 1) (items past) (number_if m.number (adds (said m)))
    (below-more (length past + 1) (length (m ∷ past) + 1) (items past) (omega arith) (items_below past h.1)) (number_below m.number _ (adds (said m)) (omega (arith, h.0)))

pub items_rise : (past : Past) → IsNumbered past → Ascends (items past)
unfolding items
items_rise [] h = tt
items_rise (m ∷ past) h = of (adds (said m)) (items_rise past h.1)
  where
    of : (o : Option Item) → Ascends (items past) → Ascends (items past ++ number_if m.number o)
    of None before = subst Ascends (sym (append-nil (items past))) before
    of (Some it) before = ascends-push (items past) m.number before (subst (λ n. Below n (items past)) (sym h.0) (items_below past h.1))

-- what was added is an item, and nothing else is
pub mem-items : (past : Past) (i : ℕ) → mem i (items past) ≡ is_some (added past i)
unfolding items added
mem-items [] i = refl
mem-items (m ∷ past) i = mem-append i (items past) (number_if m.number (adds (said m))) ∙ of (adds (said m)) (mem-items past i)
  where
    by : (b : Bool) (it : Item) (old : Option Item) (a : Bool) → a ≡ is_some old → (a || (b || false)) ≡ is_some (cond b (Some it) old)
    by true it old true is = refl
    by true it old false is = refl
    by false it old true is = is
    by false it old false is = is

    with_nothing : (a : Bool) → (a || false) ≡ a
    with_nothing true = refl
    with_nothing false = refl

    of : (o : Option Item) → mem i (items past) ≡ is_some (added past i)
        → (mem i (items past) || mem i (number_if m.number o)) ≡ is_some (cond (is_number (first (number_if m.number o)) i) o (added past i))
    of None is = with_nothing (mem i (items past)) ∙ is
    of (Some it) is = by (m.number == i) it (added past i) (mem i (items past)) is

pub text_some : (o : Option (List ℕ)) (s : List ℕ) → is_text o s ≡ true → is_some o ≡ true
text_some None s is = cc
text_some (Some own) s is = refl

mapped_some : (o : Option Item) (q : List ℕ) → is_text (option_map (λ (it : Item). it.queue) o) q ≡ true → is_some o ≡ true
mapped_some None q is = cc
mapped_some (Some it) q is = refl

-- an item of a queue is an item
pub of_mem : (past : Past) (q : List ℕ) (i : ℕ) → is_of past q i ≡ true → mem i (items past) ≡ true
of_mem past q i is = mem-items past i ∙ mapped_some (added past i) q is

below_mem : (n i : ℕ) (xs : List ℕ) → Below n xs → mem i xs ≡ true → i < n
below_mem n i [] all is = absurd (cc)
below_mem n i (x ∷ xs) all is = elim (cases_Bool (x == i)) [
  | inl here ↦ let same = eqb-true x i here in omega (arith, same, all.0)
  | inr other ↦ below_mem n i xs all.1 (sym (ap (λ b. b || mem i xs) other) ∙ is)
]

-- a message that is still to come has made no item
pub none_added : (past : Past) → IsNumbered past → (i : ℕ) → length past + 1 ≤ i → added past i ≡ None
none_added past h i le = of (added past i) refl
  where
    of : (o : Option Item) → added past i ≡ o → added past i ≡ None
    of None is = is
    of (Some it) is =
        let lt = below_mem (length past + 1) i (items past) (items_below past h) (mem-items past i ∙ ap is_some is) in
        absurd (omega (arith, lt, le))

-- ---- what one message does to an item

-- where a message says this, an item is behind it what it makes of it
pub status-step : (m : Message) (past : Past) (d : Said) → said m ≡ d → (i : ℕ) →
    status (m ∷ past) i ≡ status_behind m.number d (λ queue. is_of past queue i) (λ queue. first (free past queue)) i (status past i)
unfolding status free
status-step m past d is i = rw is refl

pub added-step : (m : Message) (past : Past) (d : Said) → said m ≡ d → (i : ℕ) → added (m ∷ past) i ≡ cond (is_number (first (number_if m.number (adds d))) i) (adds d) (added past i)
unfolding added
added-step m past d is i = rw is refl

pub items-step : (m : Message) (past : Past) (d : Said) → said m ≡ d → items (m ∷ past) ≡ items past ++ number_if m.number (adds d)
unfolding items
items-step m past d is = rw is refl

pub numbers-step : (m : Message) (past : Past) → numbers (m ∷ past) ≡ numbers past ++ m.number ∷ []
unfolding numbers
numbers-step m past = refl

-- ---- what is given is a free item of the queue

-- a free item of a queue
pub record IsFreeIn (past : Past) (q : List ℕ) (i : ℕ) : Type 0 where
  pub of_queue : is_of past q i ≡ true
  pub since : ℕ
  pub is_free : is_free_since since (status past i) ≡ true

pub all_free : (past : Past) (q : List ℕ) → AllByRecursion (IsFreeIn past q) (free past q)
unfolding free
all_free past q =
    turns-all (λ s. Unit {0}) (IsFreeIn past q) (λ s i. is_of past q i && is_free_since s (status past i))
    (λ s i u is. let parts = and_parts (is_of past q i) _ is in record { of_queue = parts.0; since = s; is_free = parts.1 })
    (numbers past) (items past) (all-any (λ s. Unit {0}) (λ s. tt) (numbers past))

pub first_all : {X : Type 0} (P : X → Type 0) (xs : List X) (x : X) → AllByRecursion P xs → first xs ≡ Some x → P x
first_all P [] x all is = absurd (cc)
first_all P (y ∷ ys) x all is = let same : y ≡ x = cc in subst P same all.0

pub first_free_is : (past : Past) (q : List ℕ) (i : ℕ) → first (free past q) ≡ Some i → IsFreeIn past q i
first_free_is past q i is = first_all (IsFreeIn past q) (free past q) i (all_free past q) is

-- the number is that of the one there is
pub number_is : (o : Option ℕ) (i : ℕ) → is_number o i ≡ true → o ≡ Some i
number_is None i is = cc
number_is (Some n) i is = ap Some (eqb-true n i is)

-- ---- what isn't an item

-- a test that an item's holder is this client
none_held : (c : List ℕ) → is_held_by c NoItem ≡ false
none_held c = refl

pub no_status : (past : Past) (i : ℕ) → added past i ≡ None → status past i ≡ NoItem
unfolding added status
no_status [] i none = refl
no_status (m ∷ past) i none = of (λ before. no_status past i before) (said m) refl
  where
    kept : (d : Said) → said m ≡ d → cond (is_number (first (number_if m.number (adds d))) i) (adds d) (added past i) ≡ None
    kept d is = sym (added-step m past d is i) ∙ none

    same : (d : Said) → said m ≡ d → adds d ≡ None → added past i ≡ None
    same d is nothing = sym (ap (λ (o : Option Item). cond (is_number (first (number_if m.number o)) i) o (added past i)) nothing) ∙ kept d is

    not_of : added past i ≡ None → (queue : List ℕ) → is_of past queue i ≡ false
    not_of is queue = rw is refl

    adding : (b : Bool) (it : Item) → cond b (Some it) (added past i) ≡ None → (b ≡ false) × (added past i ≡ None)
    adding true it is = absurd (cc)
    adding false it is = (refl, is)

    not_given : added past i ≡ None → (queue : List ℕ) → is_number (first (free past queue)) i ≡ false
    not_given is queue = false_from_ne_true _ (λ given. no_test (is_of past queue i) (first_free_is past queue i (number_is _ i given)).of_queue (not_of is queue))

    no_act : (a b c : Bool) → b ≡ false → (a && (b && c)) ≡ false
    no_act true b c is = rw is refl
    no_act false b c is = refl

    of : (added past i ≡ None → status past i ≡ NoItem) → (d : Said) → said m ≡ d → status (m ∷ past) i ≡ NoItem
    of again (Does c (Add queue value)) is =
        let parts = adding (m.number == i) (record { queue = queue; value = value }) (kept (Does c (Add queue value)) is) in
        status-step m past _ is i ∙ rw (parts.0) (again parts.1)
    of again (Does c (Acquire queue)) is =
        let before = same (Does c (Acquire queue)) is refl in
        status-step m past _ is i ∙ rw (not_given before queue) (again before)
    of again (Does c (Complete queue own)) is =
        let before = same (Does c (Complete queue own)) is refl in
        status-step m past _ is i
        ∙ ap (λ b. cond b Gone (status past i)) (no_act (own == i) (is_of past queue i) (is_held_by c (status past i)) (not_of before queue)) ∙ again before
    of again (Does c (Release queue own)) is =
        let before = same (Does c (Release queue own)) is refl in
        status-step m past _ is i
        ∙ ap (λ b. cond b (Free m.number) (status past i)) (no_act (own == i) (is_of past queue i) (is_held_by c (status past i)) (not_of before queue)) ∙ again before
    of again (Does c (Volunteer task)) is = status-step m past _ is i ∙ again (same (Does c (Volunteer task)) is refl)
    of again (Does c (Abandon task)) is = status-step m past _ is i ∙ again (same (Does c (Abandon task)) is refl)
    of again (Does c (Finish task)) is = status-step m past _ is i ∙ again (same (Does c (Finish task)) is refl)
    of again (Leaves c) is =
        let before = again (same (Leaves c) is refl) in
        status-step m past _ is i ∙ ap (λ b. cond b (Free m.number) (status past i)) (ap (is_held_by c) before) ∙ before
    of again Nothing is = status-step m past _ is i ∙ again (same Nothing is refl)

-- ---- since when an item is free

pub free_is : (s : ℕ) (st : Status) → is_free_since s st ≡ true → st ≡ Free s
free_is s NoItem is = cc
free_is s (Free own) is = ap Free (eqb-true own s is)
free_is s (Held c) is = cc
free_is s Gone is = cc

-- an item is free since a number that was given
pub since_below : (past : Past) → IsNumbered past → (i s : ℕ) → is_free_since s (status past i) ≡ true → s < length past + 1
unfolding status
since_below [] h i s is = absurd (cc)
since_below (m ∷ past) h i s is = of (λ at. since_below past h.1 i s at) (said m) refl
  where
    more : s < length past + 1 → s < length (m ∷ past) + 1
    more lt = omega (arith, lt)

    own : is_free_since s (Free m.number) ≡ true → s < length (m ∷ past) + 1
    own at = let number = eqb-true m.number s at in omega (arith, number, h.0)

    Before : Type 0
    Before = is_free_since s (status past i) ≡ true → s < length past + 1

    freed : Before → (b : Bool) → is_free_since s (cond b (Free m.number) (status past i)) ≡ true → s < length (m ∷ past) + 1
    freed before true at = own at
    freed before false at = more (before at)

    else_held : Before → (b : Bool) (c : List ℕ) → is_free_since s (cond b (Held c) (status past i)) ≡ true → s < length (m ∷ past) + 1
    else_held before true c at = absurd (cc)
    else_held before false c at = more (before at)

    else_gone : Before → (b : Bool) → is_free_since s (cond b Gone (status past i)) ≡ true → s < length (m ∷ past) + 1
    else_gone before true at = absurd (cc)
    else_gone before false at = more (before at)

    step : (d : Said) → said m ≡ d → is_free_since s (status_behind m.number d (λ queue. is_of past queue i) (λ queue. first (free past queue)) i (status past i)) ≡ true
    step d said_is = ap (is_free_since s) (sym (status-step m past d said_is i)) ∙ is

    of : Before → (d : Said) → said m ≡ d → s < length (m ∷ past) + 1
    of before (Does c (Add queue value)) said_is = freed before (m.number == i) (step _ said_is)
    of before (Does c (Acquire queue)) said_is = else_held before (is_number (first (free past queue)) i) c (step _ said_is)
    of before (Does c (Complete queue own)) said_is = else_gone before ((own == i) && (is_of past queue i && is_held_by c (status past i))) (step _ said_is)
    of before (Does c (Release queue own)) said_is = freed before ((own == i) && (is_of past queue i && is_held_by c (status past i))) (step _ said_is)
    of before (Does c (Volunteer task)) said_is = more (before (step _ said_is))
    of before (Does c (Abandon task)) said_is = more (before (step _ said_is))
    of before (Does c (Finish task)) said_is = more (before (step _ said_is))
    of before (Leaves c) said_is = freed before (is_held_by c (status past i)) (step _ said_is)
    of before Nothing said_is = more (before (step _ said_is))

-- since one number alone
pub single : (past : Past) (q : List ℕ) → (s t i : ℕ) → (is_of past q i && is_free_since s (status past i)) ≡ true → (is_of past q i && is_free_since t (status past i)) ≡ true → s ≡ t
single past q s t i one two =
    let one_is = free_is s (status past i) (and_parts (is_of past q i) _ one).1 in
    let two_is = free_is t (status past i) (and_parts (is_of past q i) _ two).1 in
    let same : Free s ≡ Free t = sym one_is ∙ two_is in
    cc
