-- What is kept of an order, with another base and with one message more.
use Rattle.std.proofs.Common.{◌≡◌, ℕ, zero, suc, ◌+◌, ◌-◌, ◌≤◌, arith, Bool, true, false, not, ◌==◌, if◌then◌else◌, List, [], ◌∷◌, ◌++◌, length, take, drop, map, fold, min, append-nil, Option, Some, None, option_map, All, refl, sym, ap, ap₂, subst, ◌∙◌}
use Rattle.std.specs.Prelude.{unwrap_or, option_to_list}
use Rattle.std.specs.List.{last_or}
use Rattle.std.proofs.lemmas.List.{take-append-le, drop-append-le, drop-drop, length-take-le, length-drop, take-append-drop}
use Rattle.std.proofs.lemmas.List.Elements.{filter-append, All-nil, All-cons, All-append, All-filter}
use Rattle.std.proofs.lemmas.List.Sums.{fold-append}
use Rattle.fluid_types.specs.declared.entries.Raw.{Raw}
use Rattle.fluid_types.specs.declared.messages.Message.{Message}
use Rattle.fluid_types.specs.declared.verdicts.Verdict.{Verdict}
use Rattle.fluid_types.specs.declared.verdicts.Verdict.TheVariants.{Sequenced, Nacked, Dropped, Absorbed}
use Rattle.fluid_types.specs.Ledger.{Ledger, order, messages_of}
use Rattle.fluid_types.specs.Order.{AreNumberedFrom, AreFirst}
use Rattle.fluid_types.specs.Quorum.{Quorum, quorum, quorum_of, at_last, pending as pending_proposals, proposals}
use Rattle.fluid_types.proofs.Ledgers.{order-push}
use Rattle.fluid_types.proofs.Numbers.{numbered_take}
use Rattle.fluid_quorum.specs.After.{after as quorum_after}
use Rattle.fluid_quorum.specs.Order.{StandsFor}
use Rattle.fluid_quorum.specs.declared.state.ScribeState.{ScribeState}
use Rattle.fluid_quorum.proofs.Advanced.{IsSettled, after-number, stands-all}
use Rattle.fluid_rules.specs.Rules.{IsLegal, verdict}
use Rattle.fluid_rules.specs.Scribe.{is_summarize, answers, reference_of, unanswered, unless_answered, ack_of, acks_behind, acks}
use Rattle.fluid_rules.specs.ScribeLaws.{unanswered_by}
use Rattle.fluid_rules.proofs.Legal.{legal-first, legal-last}
use Rattle.fluid_rules.proofs.Summaries.{unanswered-push, acks-push}
use Rattle.fluid_scribe.specs.State.{is_heard, heard, changes, least_with, base_of, state_at, state_of, Brought, brought, quorum_in, with_base, minimum_in, base_in, ack_in, with_message, after}
use Rattle.fluid_scribe.specs.Laws.{StartsSo, StateGrows}
use Rattle.fluid_scribe.proofs.Sequenced.{IsNext, AreSequenced, last_of, last_of-push, next-same, next-message, stood, last-bounded, sequenced-numbered, sequenced-same, sequenced-drop, sequenced-push, legal-sequenced}
use Rattle.fluid_scribe.proofs.Behind.{after-settled, after-minimum, brought-along}

-- ---- quorums along an order

no_quorum : StandsFor [] (quorum_of [])
no_quorum = record { order = tt; quorum = refl }

none_settled : IsSettled (quorum_of [])
unfolding quorum_of pending_proposals proposals
none_settled = record { none = refl; rest = refl }

none_number : (quorum_of []).number ≡ 0
unfolding quorum_of
none_number = refl

none_minimum : (quorum_of []).minimum ≡ 0
unfolding quorum_of
none_minimum = refl

first-quorum : (xs : List Message) → AreFirst xs → fold quorum_after (quorum_of []) xs ≡ quorum_of xs
first-quorum xs first = (stands-all xs [] (quorum_of []) (subst (λ n. AreNumberedFrom n xs) (omega (arith, none_number)) first) no_quorum).quorum

fold-settled : (xs : List Message) (q : Quorum) → IsSettled q → IsSettled (fold quorum_after q xs)
fold-settled [] q settled = settled
fold-settled (x ∷ xs) q settled = fold-settled xs (quorum_after q x) (after-settled q x)

fold-number : (xs : List Message) (q : Quorum) (n : ℕ) → q.number ≡ n → AreNumberedFrom (suc n) xs → (fold quorum_after q xs).number ≡ n + length xs
fold-number [] q n is numbered = omega (arith, is)
fold-number (x ∷ xs) q n is numbered =
    let rest = fold-number xs (quorum_after q x) (suc n) (after-number q x ∙ numbered.0) numbered.1 in omega (arith, rest)

fold-minimum : (xs : List Message) (q : Quorum) → (fold quorum_after q xs).minimum ≡ last_of q.minimum xs
fold-minimum [] q = refl
fold-minimum (x ∷ xs) q = fold-minimum xs (quorum_after q x) ∙ ap (λ low. last_of low xs) (after-minimum q x)

take-nothing : {A : Type 0} (k : ℕ) → ◌≡◌ {A = List A} (take k []) []
take-nothing zero = refl
take-nothing (suc k) = refl

take-more : {A : Type 0} (b k : ℕ) (xs : List A) → take b xs ++ take k (drop b xs) ≡ take (b + k) xs
take-more zero k xs = ap (λ n. take n xs) (omega arith)
take-more (suc b) k [] = take-nothing k ∙ sym (take-nothing (suc b + k))
take-more (suc b) k (x ∷ xs) =
    let is : suc b + k ≡ suc (b + k) = omega arith in
    ap (λ l. x ∷ l) (take-more b k xs) ∙ sym (ap (λ n. take n (x ∷ xs)) is)

module _ (ms : List Message) (are : AreSequenced 0 0 ms) where
  numbered : AreFirst ms
  numbered = sequenced-numbered ms 0 0 are

  -- the quorum of the first of them
  abbrev reach : ℕ → Quorum
  reach n = fold quorum_after (quorum_of []) (take n ms)

  quorum-reach : (n : ℕ) → reach n ≡ quorum ms n
  quorum-reach n = first-quorum (take n ms) (numbered_take ms 1 n numbered)

  reach-number : (n : ℕ) → n ≤ length ms → (reach n).number ≡ n
  reach-number n le =
      omega (arith, fold-number (take n ms) (quorum_of []) 0 none_number (numbered_take ms 1 n numbered), length-take-le n ms le)

  reach-minimum : (n : ℕ) → (reach n).minimum ≡ last_of 0 (take n ms)
  reach-minimum n = fold-minimum (take n ms) (quorum_of []) ∙ ap (λ low. last_of low (take n ms)) none_minimum

  reach-brought : (b k : ℕ) → b + k ≤ length ms →
      brought (b + k) (reach b) (heard (drop b ms)) (changes (reach b).minimum (drop b ms))
      ≡ record { quorum = reach (b + k); behind = heard (drop (b + k) ms); minima = changes (reach (b + k)).minimum (drop (b + k) ms) }
  reach-brought b k le =
      brought-along k (drop b ms) (reach b) (b + k) (omega (arith, reach-number b (omega (arith, le)))) (fold-settled (take b ms) (quorum_of []) none_settled)
      (sequenced-same (drop b ms) (0 + b) (reach b).number (last_of 0 (take b ms)) (reach b).minimum (omega (arith, reach-number b (omega (arith, le)))) (sym (reach-minimum b))
      (sequenced-drop b ms 0 0 are (omega (arith, le))))
      (omega (arith, le, length-drop b ms))
      ∙ ap₂ (λ (q : Quorum) (rest : List Message). record { quorum = q; behind = heard rest; minima = changes q.minimum rest })
      (sym (fold-append quorum_after (quorum_of []) (take b ms) (take k (drop b ms))) ∙ ap (fold quorum_after (quorum_of [])) (take-more b k ms))
      (drop-drop k b ms)

  -- the base brought to a later number
  later-brought : (b k : ℕ) → b + k ≤ length ms →
      brought (b + k) (quorum ms b) (heard (drop b ms)) (changes (quorum ms b).minimum (drop b ms))
      ≡ record { quorum = quorum ms (b + k); behind = heard (drop (b + k) ms); minima = changes (quorum ms (b + k)).minimum (drop (b + k) ms) }
  later-brought b k le =
      ap (λ q. brought (b + k) q (heard (drop b ms)) (changes q.minimum (drop b ms))) (sym (quorum-reach b))
      ∙ reach-brought b k le
      ∙ ap (λ q. record { quorum = q; behind = heard (drop (b + k) ms); minima = changes q.minimum (drop (b + k) ms) }) (quorum-reach (b + k))

  pub base-brought : (b number : ℕ) → b ≤ number → number ≤ length ms →
      brought number (quorum ms b) (heard (drop b ms)) (changes (quorum ms b).minimum (drop b ms))
      ≡ record { quorum = quorum ms number; behind = heard (drop number ms); minima = changes (quorum ms number).minimum (drop number ms) }
  base-brought b number le most =
      let is : b + (number - b) ≡ number = omega (arith, le) in
      subst
      (λ n. brought n (quorum ms b) (heard (drop b ms)) (changes (quorum ms b).minimum (drop b ms))
      ≡ record { quorum = quorum ms n; behind = heard (drop n ms); minima = changes (quorum ms n).minimum (drop n ms) })
      is (later-brought b (number - b) (omega (arith, is, most)))

  pub base-moved : (b number : ℕ) → b ≤ number → number ≤ length ms → with_base number (state_at b ms) ≡ state_at number ms
  unfolding with_base state_at
  base-moved b number le most =
      ap (λ (r : Brought). record { base = r.quorum; behind = r.behind; minima = r.minima; pending = unanswered ms; acks = acks ms }) (base-brought b number le most)

  pub quorum-kept : (b number : ℕ) → b ≤ number → number ≤ length ms → quorum_in (state_at b ms) number ≡ quorum ms number
  unfolding quorum_in state_at
  quorum-kept b number le most = ap (λ (r : Brought). r.quorum) (base-brought b number le most)

  kept-minimum : (b : ℕ) → (quorum ms b).minimum ≡ last_of 0 (take b ms)
  kept-minimum b = ap (λ q. q.minimum) (sym (quorum-reach b)) ∙ reach-minimum b

-- ---- the minimum of the last message

last-at : (o : Option ℕ) (ms : List Message) → unwrap_or (last_or o (map (λ m. m.minimum) ms)) 0 ≡ last_of (unwrap_or o 0) ms
last-at o [] = refl
last-at o (m ∷ ms) = last-at (Some m.minimum) ms

at_last-is : (ms : List Message) → at_last (λ m. m.minimum) ms ≡ last_of 0 ms
at_last-is ms = last-at None ms

equal : (a b : ℕ) → (a == b) ≡ true → a ≡ b
equal a b h = grind arith

last-change : (xs : List Message) (o : Option (ℕ × ℕ)) (d low : ℕ) → unwrap_or (option_map (λ c. c.1) o) d ≡ low →
    unwrap_or (option_map (λ c. c.1) (last_or o (changes low xs))) d ≡ last_of low xs
last-change [] o d low is = is
last-change (x ∷ xs) o d low is = by (x.minimum == low) refl (λ p at. last-change xs p d x.minimum at)
  where
    by : (b : Bool) → (x.minimum == low) ≡ b → ((p : Option (ℕ × ℕ)) → unwrap_or (option_map (λ c. c.1) p) d ≡ x.minimum → unwrap_or (option_map (λ c. c.1) (last_or p (changes x.minimum xs))) d ≡ last_of x.minimum xs) →
        unwrap_or (option_map (λ c. c.1) (last_or o ((if b then [] else (x.number, x.minimum) ∷ []) ++ changes x.minimum xs))) d ≡ last_of x.minimum xs
    by true same rest = rest o (is ∙ sym (equal x.minimum low same))
    by false same rest = rest (Some (x.number, x.minimum)) refl

changes-push : (xs : List Message) (low : ℕ) (m : Message) → changes low (xs ++ m ∷ []) ≡ changes low xs ++ changes (last_of low xs) (m ∷ [])
changes-push [] low m = refl
changes-push (x ∷ xs) low m = by (x.minimum == low) (changes-push xs x.minimum m)
  where
    by : (b : Bool) → changes x.minimum (xs ++ m ∷ []) ≡ changes x.minimum xs ++ changes (last_of x.minimum xs) (m ∷ []) →
        (if b then [] else (x.number, x.minimum) ∷ []) ++ changes x.minimum (xs ++ m ∷ []) ≡ ((if b then [] else (x.number, x.minimum) ∷ []) ++ changes x.minimum xs) ++ changes (last_of x.minimum xs) (m ∷ [])
    by true rest = rest
    by false rest = ap (λ l. (x.number, x.minimum) ∷ l) rest

last-parts : (b : ℕ) (ms : List Message) → last_of (last_of 0 (take b ms)) (drop b ms) ≡ last_of 0 ms
last-parts b ms = sym (fold-append (λ before m. m.minimum) 0 (take b ms) (drop b ms)) ∙ ap (last_of 0) (take-append-drop b ms)

pub minimum-kept : (b : ℕ) (ms : List Message) → AreSequenced 0 0 ms → minimum_in (state_at b ms) ≡ last_of 0 ms
unfolding state_at
minimum-kept b ms are =
    last-change (drop b ms) None (quorum ms b).minimum (quorum ms b).minimum refl
    ∙ ap (λ low. last_of low (drop b ms)) (kept-minimum ms are b)
    ∙ last-parts b ms

-- ---- one message more

pub same_state : (s t : ScribeState) → s.base ≡ t.base → s.behind ≡ t.behind → s.minima ≡ t.minima → s.pending ≡ t.pending → s.acks ≡ t.acks → s ≡ t
same_state s t base behind minima pending acks = λ i. record { base = base i; behind = behind i; minima = minima i; pending = pending i; acks = acks i }

pub ack-is : (ms : List Message) (m : Message) → ack_in (unanswered ms) m ≡ ack_of ms m
unfolding ack_of
ack-is ms m = refl

minima-push : (b : ℕ) (ms : List Message) (m : Message) → AreSequenced 0 0 ms → b ≤ length ms →
    changes (quorum ms b).minimum (drop b ms) ++ changes (minimum_in (state_at b ms)) (m ∷ []) ≡ changes (quorum (ms ++ m ∷ []) b).minimum (drop b (ms ++ m ∷ []))
minima-push b ms m are le =
    ap (λ low. changes (quorum ms b).minimum (drop b ms) ++ changes low (m ∷ [])) (minimum-kept b ms are ∙ sym (last-parts b ms) ∙ ap (λ low. last_of low (drop b ms)) (sym (kept-minimum ms are b)))
    ∙ sym (changes-push (drop b ms) (quorum ms b).minimum m)
    ∙ ap₂ (λ (first : List Message) rest. changes (quorum_of first).minimum rest) (sym (take-append-le b ms (m ∷ []) le)) (sym (drop-append-le b ms (m ∷ []) le))

pub message-taken : (b : ℕ) (ms : List Message) (m : Message) → AreSequenced 0 0 ms → b ≤ length ms → with_message (state_at b ms) m ≡ state_at b (ms ++ m ∷ [])
unfolding with_message state_at
message-taken b ms m are le =
    same_state _ _
    (ap quorum_of (sym (take-append-le b ms (m ∷ []) le)))
    (sym (ap heard (drop-append-le b ms (m ∷ []) le) ∙ filter-append (λ k. is_heard k.kind) (drop b ms) (m ∷ [])))
    (minima-push b ms m are le)
    (sym (unanswered-push ms m))
    (ap (λ o. acks ms ++ option_to_list o) (ack-is ms m) ∙ sym (acks-push ms m))

-- ---- the base

min-low : (a b c : ℕ) → c ≤ a → c ≤ b → c ≤ min a b
min-low a b c first second = omega (arith, first, second)

-- the least is none of the minimum and the references above them, and reached from below
pub least-within : (ws : List Message) (minimum : ℕ) → least_with minimum ws ≤ minimum
least-within [] minimum = omega arith
least-within (w ∷ ws) minimum = omega (arith, least-within ws (min minimum (reference_of w)))

pub least-below : (ws : List Message) (minimum : ℕ) → All (λ w. least_with minimum ws ≤ reference_of w) ws
least-below [] minimum = All-nil _
least-below (w ∷ ws) minimum =
    All-cons (λ k. least_with (min minimum (reference_of w)) ws ≤ reference_of k) w ws (omega (arith, least-within ws (min minimum (reference_of w)))) (least-below ws (min minimum (reference_of w)))

least-above : (ws : List Message) (minimum n : ℕ) → n ≤ minimum → All (λ w. n ≤ reference_of w) ws → n ≤ least_with minimum ws
least-above [] minimum n le all = le
least-above (w ∷ ws) minimum n le all =
    least-above ws (min minimum (reference_of w)) n (min-low minimum (reference_of w) n le (all 0 w (omega arith))) (λ i d lt. all (suc i) d (omega (arith, lt)))

pub base-is : (ms : List Message) → base_of ms ≡ least_with (last_of 0 ms) (unanswered ms)
base-is ms = ap (λ n. least_with n (unanswered ms)) (at_last-is ms)

pub base-bounded : (ms : List Message) → AreSequenced 0 0 ms → base_of ms ≤ length ms
base-bounded ms are = omega (arith, base-is ms, least-within (unanswered ms) (last_of 0 ms), last-bounded ms 0 0 are (omega arith))

waits-above : (b : Bool) (n : ℕ) (m : Message) → is_summarize m.kind ≡ b → (b ≡ true → n ≤ reference_of m) → All (λ w. n ≤ reference_of w) (unless_answered [] m)
waits-above true n m is above = rw is (All-cons (λ w. n ≤ reference_of w) m [] (above refl) (All-nil _))
waits-above false n m is above = rw is (All-nil _)

-- it doesn't fall
pub base-rises : (ms : List Message) (m : Message) → AreSequenced 0 0 ms → IsNext (length ms) (last_of 0 ms) m → base_of ms ≤ base_of (ms ++ m ∷ [])
base-rises ms m are next =
    let within = least-within (unanswered ms) (last_of 0 ms) in
    let all =
    All-append (λ w. base_of ms ≤ reference_of w) (unanswered_by m (unanswered ms)) (unless_answered [] m)
    (All-filter (λ s. not (answers s.number m)) (λ w. base_of ms ≤ reference_of w) (unanswered ms) (subst (λ b. All (λ w. b ≤ reference_of w) (unanswered ms)) (sym (base-is ms)) (least-below (unanswered ms) (last_of 0 ms))))
    (waits-above (is_summarize m.kind) (base_of ms) m refl (λ is. omega (arith, base-is ms, within, next.above is))) in
    let least = least-above (unanswered (ms ++ m ∷ [])) (last_of 0 (ms ++ m ∷ [])) (base_of ms) (omega (arith, base-is ms, within, next.risen, last_of-push 0 ms m))
    (subst (All (λ w. base_of ms ≤ reference_of w)) (sym (unanswered-push ms m)) all) in
    omega (arith, base-is (ms ++ m ∷ []), least)

pub base-kept : (b : ℕ) (ms : List Message) → AreSequenced 0 0 ms → base_in (state_at b ms) ≡ base_of ms
unfolding state_at
base-kept b ms are = ap (λ n. least_with n (unanswered ms)) (minimum-kept b ms are) ∙ sym (base-is ms)

-- ---- the state behind one message more

pub state-push : (ms : List Message) (m : Message) → AreSequenced 0 0 ms → IsNext (length ms) (last_of 0 ms) m → state_of (ms ++ m ∷ []) ≡ after (state_of ms) m
unfolding state_of after
state-push ms m are next =
    let more = sequenced-push ms 0 0 m are (next-same (length ms) (0 + length ms) _ _ m (omega arith) refl next) in
    let b = base_of ms in
    let bounded = base-bounded ms are in
    let rises = base-rises ms m are next in
    sym
    (ap (λ t. with_base (base_in t) t) (message-taken b ms m are bounded)
    ∙ ap (λ n. with_base n (state_at b (ms ++ m ∷ []))) (base-kept b (ms ++ m ∷ []) more)
    ∙ base-moved (ms ++ m ∷ []) more b (base_of (ms ++ m ∷ [])) rises (base-bounded (ms ++ m ∷ []) more))

-- ---- legal ledgers

by_verdict : (l : Ledger) (raw : Raw) (v : Verdict) → IsLegal l → verdict l raw ≡ v → state_of (order l ++ messages_of v) ≡ fold after (state_of (order l)) (messages_of v)
by_verdict l raw (Sequenced m) legal is = state-push (order l) m (legal-sequenced l legal) (next-message l raw m legal (stood l legal) is)
by_verdict l raw (Nacked nack) legal is = ap state_of (append-nil (order l))
by_verdict l raw Dropped legal is = ap state_of (append-nil (order l))
by_verdict l raw Absorbed legal is = ap state_of (append-nil (order l))

-- one entry more
pub state-entry : (l : Ledger) (raw : Raw) (v : Verdict) → IsLegal l → verdict l raw ≡ v → state_of (order (l ++ (raw, v) ∷ [])) ≡ fold after (state_of (order l)) (messages_of v)
state-entry l raw v legal is = ap state_of (order-push l (raw, v)) ∙ by_verdict l raw v legal is

pub state-grows : StateGrows
state-grows l entry legal = state-entry l entry.0 entry.1 (legal-first l (entry ∷ []) legal) (sym (legal-last l entry legal))

pub state-start : StartsSo
unfolding state_of state_at unanswered acks acks_behind
state-start = refl
