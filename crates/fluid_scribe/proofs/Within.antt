-- What is kept of a legal ledger's order lies within it.
use Rattle.std.proofs.Common.{◌≡◌, ℕ, zero, suc, ◌+◌, ◌≤◌, ◌<◌, ◌==◌, arith, nat_le, nat_lt, Bool, true, false, not, ◌&&◌, cond, List, [], ◌∷◌, ◌++◌, length, map, take, drop, filter, Option, Some, None, refl, ap, ◌∙◌, All}
use Rattle.std.specs.Prelude.{find, option_to_list, unwrap_or, IfSome}
use Rattle.std.specs.List.{last_or, list_any}
use Rattle.std.proofs.lemmas.Bool.{le-leb, lt-ltb}
use Rattle.std.proofs.lemmas.List.Elements.{All-take, All-drop}
use Rattle.fluid_tree.specs.declared.id.SummaryRef.{SummaryRef}
use Rattle.fluid_types.specs.declared.messages.Message.{Message}
use Rattle.fluid_types.specs.Ledger.{Ledger, order, seq}
use Rattle.fluid_types.specs.Order.{AreNumberedFrom}
use Rattle.fluid_types.specs.Quorum.{Quorum, quorum_of, quorum}
use Rattle.fluid_types.proofs.Numbers.{numbered_least, numbered_most, numbered_take, numbered_drop}
use Rattle.fluid_quorum.specs.declared.state.ScribeState.{ScribeState}
use Rattle.fluid_rules.specs.Rules.{IsLegal}
use Rattle.fluid_rules.specs.Scribe.{is_summarize, is_ack, handling, answered_by, answers, unanswered, reference_of, acknowledged, ack_of, acks_behind, acks}
use Rattle.fluid_scribe.specs.State.{Minima, is_heard, heard, changes, base_of, state_at, state_of}
use Rattle.fluid_scribe.specs.Scribing.{Scribing}
use Rattle.fluid_scribe.specs.Ledger.{StandsFor}
use Rattle.fluid_scribe.specs.Within.{is_of_order, is_waiting, is_change, is_acknowledged, base_within, within}
use Rattle.fluid_scribe.proofs.Sequenced.{AreSequenced, legal-sequenced, sequenced-numbered}
use Rattle.fluid_scribe.proofs.Alike.{same_parts}

-- ---- what holds of each element

abbrev pub Each : {X : Type 0} → (X → Type 0) → List X → Type 0
Each P [] = Unit {0}
Each P (x ∷ xs) = P x × Each P xs

each_of : {X : Type 0} (P : X → Type 0) (xs : List X) → All P xs → Each P xs
each_of P [] all = tt
each_of P (x ∷ xs) all = (all 0 x (omega arith), each_of P xs (λ k d lt. all (suc k) d (omega (arith, lt))))

each_append : {X : Type 0} (P : X → Type 0) (xs ys : List X) → Each P xs → Each P ys → Each P (xs ++ ys)
each_append P [] ys h g = g
each_append P (x ∷ xs) ys h g = (h.0, each_append P xs ys h.1 g)

each_filter : {X : Type 0} (P : X → Type 0) (p : X → Bool) (xs : List X) → Each P xs → Each P (filter p xs)
each_filter P p [] h = tt
each_filter P p (x ∷ xs) h = kept (p x) (each_filter P p xs h.1)
  where
    kept : (b : Bool) → Each P (filter p xs) → Each P (cond b (x ∷ filter p xs) (filter p xs))
    kept true rest = (h.0, rest)
    kept false rest = rest

each_drop : {X : Type 0} (P : X → Type 0) (k : ℕ) (xs : List X) → Each P xs → Each P (drop k xs)
each_drop P zero xs h = h
each_drop P (suc k) [] h = tt
each_drop P (suc k) (x ∷ xs) h = each_drop P k xs h.1

each_take : {X : Type 0} (P : X → Type 0) (k : ℕ) (xs : List X) → Each P xs → Each P (take k xs)
each_take P zero xs h = tt
each_take P (suc k) [] h = tt
each_take P (suc k) (x ∷ xs) h = (h.0, each_take P k xs h.1)

each_both : {X : Type 0} (P Q : X → Type 0) (xs : List X) → Each P xs → Each Q xs → Each (λ x. P x × Q x) xs
each_both P Q [] h g = tt
each_both P Q (x ∷ xs) h g = ((h.0, g.0), each_both P Q xs h.1 g.1)

-- where all pass a test, none is taken away
passes : {X : Type 0} (P : X → Type 0) (p : X → Bool) (xs : List X) → ((x : X) → P x → p x ≡ true) → Each P xs → filter p xs ≡ xs
passes P p [] pass h = refl
passes P p (x ∷ xs) pass h = rw (pass x h.0) (ap (λ rest. x ∷ rest) (passes P p xs pass h.1))

-- ---- numbers

abbrev pub IsWithin : ℕ → ℕ → Type 0
IsWithin last n = (1 ≤ n) × (n ≤ last)

-- a message of the order
abbrev pub IsOn : ℕ → Message → Type 0
IsOn last m = IsWithin last m.number × (m.minimum ≤ m.number)

on_true : (last : ℕ) (m : Message) → IsOn last m → is_of_order last m ≡ true
on_true last m h = rw (le-leb 1 m.number h.0.0, le-leb m.number last h.0.1, le-leb m.minimum m.number h.1) refl

-- one that waits
abbrev pub Waits : ℕ → Message → Type 0
Waits last m = IsOn last m × (reference_of m ≤ m.number)

waits_true : (last : ℕ) (m : Message) → Waits last m → is_waiting last m ≡ true
waits_true last m h = rw (le-leb 1 m.number h.0.0.0, le-leb m.number last h.0.0.1, le-leb m.minimum m.number h.0.1, le-leb (reference_of m) m.number h.1) refl

-- a change of the minimum behind the base
abbrev Changes : (base last : ℕ) → ℕ × ℕ → Type 0
Changes base last change = (base < change.0) × (IsWithin last change.0 × (change.1 ≤ change.0))

change_true : (base last : ℕ) (change : ℕ × ℕ) → Changes base last change → is_change base last change ≡ true
change_true base last change h = rw (lt-ltb base change.0 h.0, le-leb change.0 last h.1.0.1, le-leb change.1 change.0 h.1.1) refl

last_up_to : (last : ℕ) (o : Option ℕ) (ms : List Message) → unwrap_or o 0 ≤ last → Each (λ m. m.number ≤ last) ms → unwrap_or (last_or o (map (λ m. m.number) ms)) 0 ≤ last
last_up_to last o [] le h = le
last_up_to last o (m ∷ ms) le h = last_up_to last (Some m.number) ms h.0 h.1

-- the base is one of the messages
base_up_to : (last base : ℕ) (ms : List Message) → Each (λ m. m.number ≤ last) (take base ms) → (quorum ms base).number ≤ last
unfolding quorum_of
base_up_to last base ms h = last_up_to last None (take base ms) (omega arith) h

-- which are no more than its place, and all behind it have higher numbers
few_taken : {X : Type 0} (k : ℕ) (xs : List X) → length (take k xs) ≤ k
few_taken zero xs = omega arith
few_taken (suc k) [] = omega arith
few_taken (suc k) (x ∷ xs) = omega (arith, few_taken k xs)

behind_base : (base : ℕ) (ms : List Message) → AreNumberedFrom 1 ms → Each (λ m. (quorum ms base).number < m.number) (drop base ms)
behind_base base ms numbered =
    let first = numbered_most (take base ms) 1 base (numbered_take ms 1 base numbered) (omega (arith, few_taken base ms)) in
    let most = base_up_to base base ms (each_of (λ m. m.number ≤ base) (take base ms) first) in
    let least = numbered_least (drop base ms) (1 + base) (numbered_drop ms 1 base numbered) in
    each_of (λ m. (quorum ms base).number < m.number) (drop base ms) (λ i d lt. let later = least i d lt in omega (arith, later, most))

-- and its minimum isn't ahead of it
last_low : (o p : Option ℕ) (ms : List Message) → unwrap_or o 0 ≤ unwrap_or p 0 → Each (λ m. m.minimum ≤ m.number) ms → unwrap_or (last_or o (map (λ m. m.minimum) ms)) 0 ≤ unwrap_or (last_or p (map (λ m. m.number) ms)) 0
last_low o p [] le h = le
last_low o p (m ∷ ms) le h = last_low (Some m.minimum) (Some m.number) ms h.0 h.1

base_low : (base : ℕ) (ms : List Message) → Each (λ m. m.minimum ≤ m.number) ms → (quorum ms base).minimum ≤ (quorum ms base).number
unfolding quorum_of
base_low base ms h = last_low None None (take base ms) (omega arith) (each_take (λ m. m.minimum ≤ m.number) base ms h)

-- the changes of the minimum are those of messages
each_change : (P : ℕ × ℕ → Type 0) (minimum : ℕ) (ms : List Message) → Each (λ m. P (m.number, m.minimum)) ms → Each P (changes minimum ms)
each_change P minimum [] h = tt
each_change P minimum (m ∷ ms) h = changed (m.minimum == minimum) (each_change P m.minimum ms h.1)
  where
    changed : (same : Bool) → Each P (changes m.minimum ms) → Each P (cond same [] ((m.number, m.minimum) ∷ []) ++ changes m.minimum ms)
    changed true rest = rest
    changed false rest = (h.0, rest)

-- those that wait are summarize messages
each_waits : (P : Message → Type 0) (ms : List Message) → Each (λ m. is_summarize m.kind ≡ true → P m) ms → Each P (unanswered ms)
unfolding unanswered
each_waits P [] h = tt
each_waits P (m ∷ ms) h = one (is_summarize m.kind) (not (list_any (answers m.number) ms)) refl (each_waits P ms h.1)
  where
    one : (summarize waits : Bool) → is_summarize m.kind ≡ summarize → Each P (unanswered ms) → Each P (cond (summarize && waits) (m ∷ []) [] ++ unanswered ms)
    one true true is rest = (h.0 is, rest)
    one true false is rest = rest
    one false waits is rest = rest

-- ---- acknowledgements

abbrev RefersUpTo : ℕ → Message → Type 0
RefersUpTo last m = is_summarize m.kind ≡ true → reference_of m ≤ last

abbrev AcksUpTo : ℕ → List SummaryRef → Type 0
AcksUpTo last acks = Each (λ (ack : SummaryRef). ack.number ≤ last) acks

found_each : {X : Type 0} (P : X → Type 0) (p : X → Bool) (xs : List X) → Each P xs → IfSome (find p xs) P
found_each P p [] h = tt
found_each P p (x ∷ xs) h = one (p x) (found_each P p xs h.1)
  where
    one : (b : Bool) → IfSome (find p xs) P → IfSome (cond b (Some x) (find p xs)) P
    one true rest = h.0
    one false rest = rest

of_found : (last : ℕ) (before : List Message) (m : Message) (handle : List ℕ) (number : ℕ) (o : Option Message) → handling m.contents ≡ Some handle → answered_by m ≡ Some number →
    find (λ s. s.number == number) (unanswered before) ≡ o → IfSome o (λ s. reference_of s ≤ last) → AcksUpTo last (option_to_list (acknowledged before m))
of_found last before m handle number None h_is n_is is h = rw (h_is, n_is, is) tt
of_found last before m handle number (Some s) h_is n_is is h = rw (h_is, n_is, is) (h, tt)

of_named : (last : ℕ) (before : List Message) (m : Message) (h : Option (List ℕ)) (n : Option ℕ) → handling m.contents ≡ h → answered_by m ≡ n →
    Each (λ s. reference_of s ≤ last) (unanswered before) → AcksUpTo last (option_to_list (acknowledged before m))
of_named last before m None n h_is n_is all = rw h_is tt
of_named last before m (Some handle) None h_is n_is all = rw (h_is, n_is) tt
of_named last before m (Some handle) (Some number) h_is n_is all =
    of_found last before m handle number (find (λ s. s.number == number) (unanswered before)) h_is n_is refl (found_each _ (λ s. s.number == number) (unanswered before) all)

of_ack : (last : ℕ) (before : List Message) (m : Message) → Each (RefersUpTo last) before → AcksUpTo last (option_to_list (ack_of before m))
unfolding ack_of
of_ack last before m refer = by_kind (is_ack m.kind)
  where
    by_kind : (b : Bool) → AcksUpTo last (option_to_list (cond b (acknowledged before m) None))
    by_kind true = of_named last before m (handling m.contents) (answered_by m) refl refl (each_waits (λ s. reference_of s ≤ last) before refer)
    by_kind false = tt

each_ack : (last : ℕ) (before ms : List Message) → Each (RefersUpTo last) before → Each (RefersUpTo last) ms → AcksUpTo last (acks_behind before ms)
unfolding acks_behind
each_ack last before [] earlier later = tt
each_ack last before (m ∷ ms) earlier later =
    each_append _ (option_to_list (ack_of before m)) (acks_behind (before ++ m ∷ []) ms) (of_ack last before m earlier)
    (each_ack last (before ++ m ∷ []) ms (each_append _ before (m ∷ []) earlier (later.0, tt)) later.1)

refer_up_to : (last n low : ℕ) (ms : List Message) → AreSequenced n low ms → n + length ms ≤ last → Each (RefersUpTo last) ms
refer_up_to last n low [] are le = tt
refer_up_to last n low (m ∷ ms) are le =
    ((λ summarize. omega (arith, are.0.within summarize, le)), refer_up_to last (suc n) m.minimum ms are.1 (omega (arith, le)))

-- no minimum is ahead of its message, and no summarize refers ahead of itself
lows : (n low : ℕ) (ms : List Message) → AreSequenced n low ms → Each (λ m. m.minimum ≤ m.number) ms
lows n low [] are = tt
lows n low (m ∷ ms) are = (omega (arith, are.0.bounded, are.0.number), lows (suc n) m.minimum ms are.1)

backs : (n low : ℕ) (ms : List Message) → AreSequenced n low ms → Each (λ m. is_summarize m.kind ≡ true → reference_of m ≤ m.number) ms
backs n low [] are = tt
backs n low (m ∷ ms) are = ((λ summarize. omega (arith, are.0.within summarize, are.0.number)), backs (suc n) m.minimum ms are.1)

waiting : (last : ℕ) (ms : List Message) → Each (IsOn last) ms → Each (λ m. is_summarize m.kind ≡ true → reference_of m ≤ m.number) ms → Each (λ m. is_summarize m.kind ≡ true → Waits last m) ms
waiting last [] h g = tt
waiting last (m ∷ ms) h g = ((λ summarize. (h.0, g.0 summarize)), waiting last ms h.1 g.1)

-- all messages of an order are of it, and those that wait are of it too
all_on : (last : ℕ) (ms : List Message) → AreSequenced 0 0 ms → length ms ≤ last → Each (IsOn last) ms
all_on last ms are is =
    let numbered = sequenced-numbered ms 0 0 are in
    let low = numbered_least ms 1 numbered in
    let high = numbered_most ms 1 last numbered (omega (arith, is)) in
    each_both (λ m. IsWithin last m.number) (λ m. m.minimum ≤ m.number) ms (each_of (λ m. IsWithin last m.number) ms (λ i d lt. (low i d lt, high i d lt))) (lows 0 0 ms are)

pub waits_in : (last : ℕ) (ms : List Message) → AreSequenced 0 0 ms → length ms ≤ last → Each (Waits last) (unanswered ms)
waits_in last ms are is = each_waits (Waits last) ms (waiting last ms (all_on last ms are is) (backs 0 0 ms are))

-- ---- the state of a legal ledger's order

at_base : (last base : ℕ) (ms : List Message) → AreSequenced 0 0 ms → length ms ≤ last → within last (state_at base ms) ≡ state_at base ms
unfolding within state_at acks
at_base last base ms are few =
    let numbered = sequenced-numbered ms 0 0 are in
    let high = numbered_most ms 1 last numbered (omega (arith, few)) in
    let left = each_drop (IsOn last) base ms (all_on last ms are few) in
    let up_to = base_up_to last base ms (each_take (λ m. m.number ≤ last) base ms (each_of (λ m. m.number ≤ last) ms high)) in
    let at : base_within last (quorum ms base) ≡ quorum ms base =
    rw (le-leb (quorum ms base).number last up_to, le-leb (quorum ms base).minimum (quorum ms base).number (base_low base ms (lows 0 0 ms are))) refl in
    let later = each_both (λ m. (quorum ms base).number < m.number) (IsOn last) (drop base ms) (behind_base base ms numbered) left in
    let changed = changes (quorum ms base).minimum (drop base ms) in
    same_parts _ _ at
    (passes (IsOn last) (is_of_order last) (heard (drop base ms)) (on_true last) (each_filter (IsOn last) (λ m. is_heard m.kind) (drop base ms) left))
    (ap (λ (q : Quorum). filter (is_change q.number last) changed) at
    ∙ passes (Changes (quorum ms base).number last) (is_change (quorum ms base).number last) changed (change_true (quorum ms base).number last)
    (each_change (Changes (quorum ms base).number last) (quorum ms base).minimum (drop base ms) later))
    (passes (Waits last) (is_waiting last) (unanswered ms) (waits_true last) (waits_in last ms are few))
    (passes (λ (ack : SummaryRef). ack.number ≤ last) (is_acknowledged last) (acks_behind [] ms) (λ ack. le-leb ack.number last) (each_ack last [] ms tt (refer_up_to last 0 0 ms are (omega (arith, few)))))

pub kept_within : (last : ℕ) (l : Ledger) → IsLegal l → seq l ≤ last → within last (state_of (order l)) ≡ state_of (order l)
unfolding state_of seq
kept_within last l legal few = at_base last (base_of (order l)) (order l) (legal-sequenced l legal) few

-- a scribe of what lies within the order stands for the ledger for which the parts stand
pub stands_within : (last : ℕ) (s : ScribeState) (new : Scribing) (l : Ledger) → IsLegal l → seq l ≤ last → s ≡ state_of (order l) → new.state ≡ within last s → StandsFor new l
stands_within last s new l legal few is kept = record { is = kept ∙ ap (within last) is ∙ kept_within last l legal few }
