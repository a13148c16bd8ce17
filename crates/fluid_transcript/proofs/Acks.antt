-- Acknowledgements among the messages of an order: each stands behind the number that it names.
use Rattle.std.proofs.Common.{◌≡◌, ◌⊎◌, inl, inr, ℕ, suc, ◌+◌, ◌≤◌, ◌<◌, arith, Bool, true, false, cond, List, [], ◌∷◌, ◌++◌, length, take, drop, All, Option, Some, None, refl, sym, ap, subst, ◌∙◌, append_assoc, append-nil, length-append}
use Rattle.std.specs.Prelude.{◌==◌, ◌&&◌, nat_lt, ◌||◌, not, filter, find, reverse, option_map, option_to_list, bytes_eq, if◌then◌else◌}
use Rattle.std.specs.List.{list_any, last_or}
use Rattle.std.proofs.lemmas.Bool.Decides.{nat_tests}
use Rattle.std.proofs.lemmas.List.{take-append-drop, length-take}
use Rattle.std.proofs.lemmas.List.Elements.{All-nil, All-cons, All-head, All-tail, All-append, filter-append}
use Rattle.std.proofs.lemmas.List.Folds.{list_any-append}
use Rattle.std.proofs.lemmas.List.Sorted.{IsPermutation-reverse, list_any-IsPermutation}
use Rattle.fluid_types.specs.declared.messages.Message.{Message}
use Rattle.fluid_types.specs.Ledger.{Ledger, order}
use Rattle.fluid_tree.specs.declared.id.SummaryRef.{SummaryRef}
use Rattle.fluid_rules.specs.Rules.{IsLegal}
use Rattle.fluid_rules.specs.Scribe.{is_summarize, is_ack, answers, handling, answered_by, reference_of, unless_answered, unanswered, acknowledged, ack_of, acks_behind, acks, last_ack, number_of}
use Rattle.fluid_rules.specs.ScribeLaws.{AreAcknowledging, summary_acks, OrdersAreAnsweredInTurn}
use Rattle.fluid_rules.proofs.Acknowledged.{acks-are_summary_acks}
use Rattle.fluid_scribe.proofs.Sequenced.{AreSequenced, legal-sequenced}
use Rattle.fluid_transcript.specs.Sound.{IsAcknowledged}

-- ---- the reference of a summarize that waits

abbrev RefersTo : ℕ → Message → Type 0
RefersTo n m = reference_of m ≤ n

waiting_refers : (behind : List Message) (m : Message) (n : ℕ) (is answered : Bool) → is_summarize m.kind ≡ is → (is_summarize m.kind ≡ true → reference_of m ≤ n)
    → All (RefersTo n) (if is && answered then m ∷ [] else [])
waiting_refers behind m n true true e h = All-cons (RefersTo n) m [] (h e) (All-nil (RefersTo n))
waiting_refers behind m n true false e h = All-nil (RefersTo n)
waiting_refers behind m n false answered e h = All-nil (RefersTo n)

all_same : (n k : ℕ) (ms : List Message) → n ≡ k → All (RefersTo n) ms → All (RefersTo k) ms
all_same n k ms e h = subst (λ j. All (RefersTo j) ms) e h

unanswered_refer : (ms : List Message) (n low : ℕ) → AreSequenced n low ms → All (RefersTo (n + length ms)) (unanswered ms)
unfolding unanswered
unanswered_refer [] n low are = All-nil (RefersTo (n + 0))
unanswered_refer (m ∷ ms) n low are =
    All-append (RefersTo (n + suc (length ms))) (unless_answered ms m) (unanswered ms)
    (waiting_refers ms m (n + suc (length ms)) (is_summarize m.kind) (not (list_any (answers m.number) ms)) refl (λ is. omega (arith, are.0.within is)))
    (all_same (suc n + length ms) (n + suc (length ms)) (unanswered ms) (omega arith) (unanswered_refer ms (suc n) m.minimum are.1))

found_of_all : (P : Message → Type 0) (p : Message → Bool) (ms : List Message) (m : Message) → All P ms → find p ms ≡ Some m → P m
found_of_all P p [] m all h = absurd (cc)
found_of_all P p (x ∷ xs) m all h = first (p x) (found_of_all P p xs m (All-tail P x xs all)) h
  where
    first : (b : Bool) → (find p xs ≡ Some m → P m) → cond b (Some x) (find p xs) ≡ Some m → P m
    first true later h = let same : x ≡ m = cc in subst P same (All-head P x xs all)
    first false later h = later h

-- an acknowledgement behind these messages names a number of them
abbrev IsBelow : ℕ → SummaryRef → Type 0
IsBelow n ack = ack.number ≤ n

found_below : (before : List Message) (handle : List ℕ) (number : ℕ) (m : Message) (found : Option Message) → handling m.contents ≡ Some handle → answered_by m ≡ Some number
    → find (λ s. s.number == number) (unanswered before) ≡ found → AreSequenced 0 0 before → All (IsBelow (length before)) (option_to_list (acknowledged before m))
found_below before handle number m None said named is are = rw (said, named, is) (All-nil (IsBelow (length before)))
found_below before handle number m (Some s) said named is are =
    rw (said, named, is)
    (All-cons (IsBelow (length before)) (record { handle = handle; number = reference_of s }) []
    (found_of_all (RefersTo (length before)) (λ s. s.number == number) (unanswered before) s (all_same (0 + length before) (length before) (unanswered before) (omega arith) (unanswered_refer before 0 0 are)) is) (All-nil (IsBelow (length before))))

named_below : (before : List Message) (handle : List ℕ) (m : Message) (number : Option ℕ) → handling m.contents ≡ Some handle → answered_by m ≡ number → AreSequenced 0 0 before
    → All (IsBelow (length before)) (option_to_list (acknowledged before m))
named_below before handle m None said named are = rw (said, named) (All-nil (IsBelow (length before)))
named_below before handle m (Some number) said named are = found_below before handle number m (find (λ s. s.number == number) (unanswered before)) said named refl are

said_below : (before : List Message) (handle : Option (List ℕ)) (m : Message) → handling m.contents ≡ handle → AreSequenced 0 0 before → All (IsBelow (length before)) (option_to_list (acknowledged before m))
said_below before None m said are = rw said (All-nil (IsBelow (length before)))
said_below before (Some handle) m said are = named_below before handle m (answered_by m) said refl are

one_below : (before : List Message) (m : Message) (is : Bool) → is_ack m.kind ≡ is → AreSequenced 0 0 before → All (IsBelow (length before)) (option_to_list (ack_of before m))
unfolding ack_of
one_below before m true is are = rw is (said_below before (handling m.contents) m refl are)
one_below before m false is are = rw is (All-nil (IsBelow (length before)))

-- ---- prefixes

sequenced_first : (first second : List Message) (n low : ℕ) → AreSequenced n low (first ++ second) → AreSequenced n low first
sequenced_first [] second n low are = tt
sequenced_first (m ∷ first) second n low are = (are.0, sequenced_first first second (suc n) m.minimum are.1)

acknowledging_first : (before first second : List Message) → AreAcknowledging before (first ++ second) → AreAcknowledging before first
acknowledging_first before [] second are = tt
acknowledging_first before (m ∷ first) second are = (are.0, acknowledging_first (before ++ m ∷ []) first second are.1)

taken_of : {X : Type 0} (P : List X → Type 0) (n : ℕ) (xs : List X) → P xs → P (take n xs ++ drop n xs)
taken_of P n xs h = subst P (sym (take-append-drop n xs)) h

-- ---- all of them

all_below : (k n : ℕ) (acks : List SummaryRef) → k ≤ n → All (IsBelow k) acks → All (IsBelow n) acks
all_below k n [] le all = All-nil (IsBelow n)
all_below k n (a ∷ xs) le all =
    All-cons (IsBelow n) a xs (omega (arith, le, All-head (IsBelow k) a xs all)) (all_below k n xs le (All-tail (IsBelow k) a xs all))

-- each stands behind the number that it names
acks_below : (before ms : List Message) (last : ℕ) → AreSequenced 0 0 (before ++ ms) → length before + length ms ≤ suc last → All (IsBelow last) (acks_behind before ms)
unfolding acks_behind
acks_below before [] last are fits = All-nil (IsBelow last)
acks_below before (m ∷ ms) last are fits =
    All-append (IsBelow last) (option_to_list (ack_of before m)) (acks_behind (before ++ m ∷ []) ms)
    (all_below (length before) last (option_to_list (ack_of before m)) (omega (arith, fits)) (one_below before m (is_ack m.kind) refl (sequenced_first before (m ∷ ms) 0 0 are)))
    (acks_below (before ++ m ∷ []) ms last (subst (AreSequenced 0 0) (sym (append_assoc before (m ∷ []) ms)) are) (omega (arith, fits, length-append before (m ∷ []))))

acks_split : (before first second : List Message) → acks_behind before (first ++ second) ≡ acks_behind before first ++ acks_behind (before ++ first) second
unfolding acks_behind
acks_split before [] second = ap (λ ms. acks_behind ms second) (sym (append-nil before))
acks_split before (m ∷ first) second =
    ap (λ rest. option_to_list (ack_of before m) ++ rest)
    (acks_split (before ++ m ∷ []) first second ∙ ap (λ ms. acks_behind (before ++ m ∷ []) first ++ acks_behind ms second) (append_assoc before (m ∷ []) first))
    ∙ sym (append_assoc (option_to_list (ack_of before m)) (acks_behind (before ++ m ∷ []) first) (acks_behind (before ++ m ∷ first) second))

no_number : (number last : ℕ) (xs : List SummaryRef) → last < number → All (IsBelow last) xs → list_any (λ ack. ack.number == number) xs ≡ false
no_number number last [] less all = refl
no_number number last (a ∷ xs) less all =
    let this : (a.number == number) ≡ false = grind (arith, nat_tests, less, All-head (IsBelow last) a xs all) in
    rw this (no_number number last xs less (All-tail (IsBelow last) a xs all))

two_at_once : {A : Type 0} (b : Bool) → b ≡ true → b ≡ false → A
two_at_once b h k = cc

-- the number of an acknowledged summary is below the count of the messages
below_by : (messages : List Message) (number : ℕ) (less : Bool) → AreSequenced 0 0 messages → list_any (λ ack. ack.number == number) (acks messages) ≡ true
    → nat_lt number (length messages) ≡ less → number < length messages
unfolding acks acks_behind
below_by messages number true are has is = grind (arith, nat_tests, is)
below_by [] number false are has is = absurd (cc)
below_by (m ∷ ms) number false are has is =
    two_at_once _ has (no_number number (length ms) (acks_behind [] (m ∷ ms)) (grind (arith, nat_tests, is)) (acks_below [] (m ∷ ms) (length ms) are (omega arith)))

pub acknowledged_below : (messages : List Message) (number : ℕ) → AreSequenced 0 0 messages → IsAcknowledged messages number → number ≤ length messages
acknowledged_below messages number are (inl zero_is) = omega (arith, zero_is)
acknowledged_below messages number are (inr has) = omega (arith, below_by messages number (nat_lt number (length messages)) are has refl)

pub order_sequenced : (l : Ledger) (n : ℕ) → IsLegal l → AreSequenced 0 0 (take n (order l))
order_sequenced l n legal = sequenced_first (take n (order l)) (drop n (order l)) 0 0 (taken_of (AreSequenced 0 0) n (order l) (legal-sequenced l legal))

-- ---- what goes on

any_first : (a b : Bool) → a ≡ true → (a || b) ≡ true
any_first true b h = refl
any_first false b h = absurd (cc)

-- what was acknowledged stays so
pub acknowledged_on : (first second : List Message) (number : ℕ) → IsAcknowledged first number → IsAcknowledged (first ++ second) number
unfolding acks
acknowledged_on first second number (inl zero_is) = inl zero_is
acknowledged_on first second number (inr has) =
    inr (ap (list_any (λ ack. ack.number == number)) (acks_split [] first second)
    ∙ list_any-append (λ ack. ack.number == number) (acks_behind [] first) (acks_behind first second)
    ∙ any_first (list_any (λ ack. ack.number == number) (acks_behind [] first)) _ has)

-- ---- a summary that is picked

own_number : (n : ℕ) → (n == n) ≡ true
own_number n = grind (arith, nat_tests)

or_second : (x y : Bool) → y ≡ true → (x || y) ≡ true
or_second true y h = refl
or_second false y h = h

last_there : (o : Option SummaryRef) (xs : List SummaryRef) (s : SummaryRef) → last_or o xs ≡ Some s → (o ≡ Some s) ⊎ (list_any (λ ack. ack.number == s.number) xs ≡ true)
last_there o [] s h = inl h
last_there o (a ∷ xs) s h = by (last_there (Some a) xs s h)
  where
    by : (Some a ≡ Some s) ⊎ (list_any (λ ack. ack.number == s.number) xs ≡ true) → (o ≡ Some s) ⊎ (((a.number == s.number) || list_any (λ ack. ack.number == s.number) xs) ≡ true)
    by (inl same) = let it : a ≡ s = cc in inr (rw (ap (λ x. x.number) it, own_number s.number) refl)
    by (inr later) = inr (or_second (a.number == s.number) _ later)

pub last_acknowledged : (order : List Message) (s : SummaryRef) → last_ack order ≡ Some s → IsAcknowledged order s.number
last_acknowledged order s h = by (last_there None (acks order) s h)
  where
    by : (None ≡ Some s) ⊎ (list_any (λ ack. ack.number == s.number) (acks order) ≡ true) → IsAcknowledged order s.number
    by (inl none) = absurd (cc)
    by (inr has) = inr has

found_there : (p : SummaryRef → Bool) (xs : List SummaryRef) (s : SummaryRef) → find p xs ≡ Some s → list_any (λ ack. ack.number == s.number) xs ≡ true
found_there p [] s h = absurd (cc)
found_there p (a ∷ xs) s h = first (p a) (found_there p xs s) h
  where
    first : (b : Bool) → (find p xs ≡ Some s → list_any (λ ack. ack.number == s.number) xs ≡ true) → cond b (Some a) (find p xs) ≡ Some s
        → ((a.number == s.number) || list_any (λ ack. ack.number == s.number) xs) ≡ true
    first true later h = let it : a ≡ s = cc in rw (ap (λ x. x.number) it, own_number s.number) refl
    first false later h = or_second (a.number == s.number) _ (later h)

pub handle_acknowledged : (order : List Message) (handle : List ℕ) (number : ℕ) → number_of order handle ≡ Some number → IsAcknowledged order number
handle_acknowledged order handle number h = by (find (λ ack. bytes_eq ack.handle handle) (reverse (acks order))) refl h
  where
    by : (found : Option SummaryRef) → find (λ ack. bytes_eq ack.handle handle) (reverse (acks order)) ≡ found → option_map (λ ack. ack.number) found ≡ Some number
        → IsAcknowledged order number
    by None is h = absurd (cc)
    by (Some s) is h =
        let same : s.number ≡ number = cc in
        inr (ap (λ n. list_any (λ ack. ack.number == n) (acks order)) (sym same)
        ∙ list_any-IsPermutation (λ ack. ack.number == s.number) (acks order) (reverse (acks order)) (IsPermutation-reverse (acks order))
        ∙ found_there (λ ack. bytes_eq ack.handle handle) (reverse (acks order)) s is)

-- ---- the last summaryAck

-- where no message is a summaryAck nothing is acknowledged
none_acked : (before ms : List Message) → filter (λ m. is_ack m.kind) ms ≡ [] → acks_behind before ms ≡ []
unfolding acks_behind ack_of
none_acked before [] h = refl
none_acked before (m ∷ ms) h = by (is_ack m.kind) refl (none_acked (before ++ m ∷ []) ms) h
  where
    by : (is : Bool) → is_ack m.kind ≡ is → (filter (λ m. is_ack m.kind) ms ≡ [] → acks_behind (before ++ m ∷ []) ms ≡ [])
        → cond is (m ∷ filter (λ m. is_ack m.kind) ms) (filter (λ m. is_ack m.kind) ms) ≡ [] → option_to_list (ack_of before m) ++ acks_behind (before ++ m ∷ []) ms ≡ []
    by true e later h = absurd (cc)
    by false e later h = rw e (later h)

last_of_both : {X : Type 0} (o : Option X) (first second : List X) → last_or o (first ++ second) ≡ last_or (last_or o first) second
last_of_both o [] second = refl
last_of_both o (x ∷ first) second = last_of_both (Some x) first second

last_of_some : {X : Type 0} (one other : Option X) (x : X) (xs : List X) → last_or one (x ∷ xs) ≡ last_or other (x ∷ xs)
last_of_some one other x xs = refl

module _ (ms : List Message) (base : ℕ) (are : AreSequenced 0 0 ms) where
  -- the acknowledgements of the first messages up to a number are below it
  first_below : list_any (λ ack. ack.number == base) (acks_behind [] (take base ms)) ≡ false
  unfolding acks_behind
  first_below = by (take base ms) (sequenced_first (take base ms) (drop base ms) 0 0 (taken_of (AreSequenced 0 0) base ms are)) (omega (arith, length-take base ms))
    where
      by : (first : List Message) → AreSequenced 0 0 first → length first ≤ base → list_any (λ ack. ack.number == base) (acks_behind [] first) ≡ false
      by [] are fits = refl
      by (m ∷ first) are fits = no_number base (length first) (acks_behind [] (m ∷ first)) (omega (arith, fits)) (acks_below [] (m ∷ first) (length first) are (omega arith))

  since_by : (since : List Message) → filter (λ m. is_ack m.kind) (drop base ms) ≡ since → list_any (λ ack. ack.number == base) (acks ms) ≡ true
      → last_or None (filter (λ m. is_ack m.kind) (take base ms ++ drop base ms)) ≡ last_or None (filter (λ m. is_ack m.kind) (drop base ms))
  unfolding acks
  since_by [] none has =
      let split = ap (list_any (λ ack. ack.number == base)) (ap (acks_behind []) (sym (take-append-drop base ms)) ∙ acks_split [] (take base ms) (drop base ms))
      ∙ ap (λ xs. list_any (λ ack. ack.number == base) (acks_behind [] (take base ms) ++ xs)) (none_acked (take base ms) (drop base ms) none)
      ∙ ap (list_any (λ ack. ack.number == base)) (append-nil (acks_behind [] (take base ms))) in
      two_at_once (list_any (λ ack. ack.number == base) (acks_behind [] ms)) has (split ∙ first_below)
  since_by (m ∷ since) is has =
      ap (last_or None) (filter-append (λ m. is_ack m.kind) (take base ms) (drop base ms))
      ∙ last_of_both None (filter (λ m. is_ack m.kind) (take base ms)) (filter (λ m. is_ack m.kind) (drop base ms))
      ∙ rw is refl

  last_since : IsAcknowledged ms base → last_or None (summary_acks ms) ≡ last_or None (summary_acks (drop base ms))
  last_since (inl zero_is) = rw zero_is refl
  last_since (inr has) = ap (λ xs. last_or None (summary_acks xs)) (sym (take-append-drop base ms)) ∙ since_by (filter (λ m. is_ack m.kind) (drop base ms)) refl has

both_maps : (o : Option SummaryRef) → option_map Some (option_map (λ ack. ack.handle) o) ≡ option_map (λ ack. Some ack.handle) o
both_maps None = refl
both_maps (Some ack) = refl

-- the handle of the last acknowledgement is that in the last summaryAck since the number that was acknowledged
pub head_since : OrdersAreAnsweredInTurn → (l : Ledger) (n base : ℕ) → IsLegal l → IsAcknowledged (take n (order l)) base
    → option_map Some (option_map (λ ack. ack.handle) (last_ack (take n (order l)))) ≡ option_map (λ m. handling m.contents) (last_or None (summary_acks (drop base (take n (order l)))))
head_since in_turn l n base legal h =
    both_maps (last_ack (take n (order l)))
    ∙ (acks-are_summary_acks (take n (order l)) (acknowledging_first [] (take n (order l)) (drop n (order l)) (taken_of (AreAcknowledging []) n (order l) (in_turn l legal).acknowledging))).last
    ∙ ap (option_map (λ m. handling m.contents)) (last_since (take n (order l)) base (order_sequenced l n legal) h)
