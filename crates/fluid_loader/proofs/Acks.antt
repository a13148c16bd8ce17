-- Acknowledged summaries, message by message.
use Rattle.std.proofs.Common.{◌≡◌, ◌⊎◌, inl, inr, ℕ, zero, suc, ◌+◌, ◌-◌, ◌<◌, ◌≤◌, ◌==◌, Bool, true, false, cond, List, [], ◌∷◌, ◌++◌, length, take, drop, Option, Some, None, bytes_eq, refl, sym, ap, ◌∙◌, arith, append-nil, get_or, length-drop}
use Rattle.std.specs.Prelude.{find, reverse, option_map, option_to_list}
use Rattle.std.specs.List.{last_or}
use Rattle.std.specs.Option.{option_or}
use Rattle.std.proofs.lemmas.Bool.{eq-eqb, ne_eqb}
use Rattle.std.proofs.lemmas.List.{reverse-append, take_all, take_more}
use Rattle.std.proofs.lemmas.Slice.Eq.{bytes_eq-Decides}
use Rattle.fluid_types.specs.Order.{AreFirst, AreNumberedFrom}
use Rattle.fluid_types.specs.declared.messages.Message.{Message}
use Rattle.fluid_tree.specs.declared.id.SummaryRef.{SummaryRef}
use Rattle.fluid_rules.specs.Scribe.{unanswered, reference_of, ack_of, acks, acks_behind}
use Rattle.fluid_rules.proofs.Summaries.{acks-push}
use Rattle.fluid_loader.specs.Link.{picked}
use Rattle.fluid_loader.specs.Listed.{wanted, waits, reference_in}
use Rattle.fluid_loader.specs.declared.link.Pick.{Pick}
use Rattle.fluid_loader.specs.declared.link.Pick.TheVariants.{Empty, Latest, Handle}

-- what stands behind a place, as a slice has it
pub all_behind : (k : ℕ) (xs : List Message) → take (length xs - k) (drop k xs) ≡ drop k xs
all_behind k xs = take_all (length xs - k) (drop k xs) (omega (arith, length-drop k xs))

-- ---- the last one that is picked

last_more : {A : Type 0} (o : Option A) (xs : List A) (x : A) → last_or o (xs ++ x ∷ []) ≡ Some x
last_more o [] x = refl
last_more o (y ∷ ys) x = last_more (Some y) ys x

abbrev has : List ℕ → SummaryRef → Bool
has id ack = bytes_eq ack.handle id

abbrev numbered_by : List ℕ → Option SummaryRef → Option SummaryRef
numbered_by id ack = option_map (λ number. record { handle = id; number = number }) (option_map (λ ack. ack.number) ack)

empty_more : (o : Option SummaryRef) → ◌≡◌ {A = Option SummaryRef} None (option_or (wanted Empty o) None)
empty_more None = refl
empty_more (Some a) = refl

latest_more : (xs : List SummaryRef) (o : Option SummaryRef) → last_or None (xs ++ option_to_list o) ≡ option_or (wanted Latest o) (last_or None xs)
latest_more xs None = ap (last_or None) (append-nil xs)
latest_more xs (Some a) = last_more None xs a

as_handle : (id : List ℕ) (a : SummaryRef) → bytes_eq a.handle id ≡ true → numbered_by id (Some a) ≡ Some a
as_handle id a is = ap (λ h. Some (record { handle = h; number = a.number })) (sym ((bytes_eq-Decides a.handle id).0 is))

handle_first : (id : List ℕ) (a : SummaryRef) (rest : List SummaryRef) (b : Bool) → bytes_eq a.handle id ≡ b
    → numbered_by id (cond b (Some a) (find (has id) rest)) ≡ option_or (cond b (Some a) None) (numbered_by id (find (has id) rest))
handle_first id a rest true is = as_handle id a is
handle_first id a rest false is = refl

handle_more : (id : List ℕ) (xs : List SummaryRef) (o : Option SummaryRef)
    → numbered_by id (find (has id) (reverse (xs ++ option_to_list o))) ≡ option_or (wanted (Handle id) o) (numbered_by id (find (has id) (reverse xs)))
handle_more id xs None = ap (λ l. numbered_by id (find (has id) (reverse l))) (append-nil xs)
handle_more id xs (Some a) = ap (λ l. numbered_by id (find (has id) l)) (reverse-append xs (a ∷ [])) ∙ handle_first id a (reverse xs) (bytes_eq a.handle id) refl

picked_more : (pick : Pick) (order : List Message) (m : Message) → picked pick (order ++ m ∷ []) ≡ option_or (wanted pick (ack_of order m)) (picked pick order)
picked_more Empty order m = empty_more (ack_of order m)
picked_more Latest order m = ap (last_or None) (acks-push order m) ∙ latest_more (acks order) (ack_of order m)
picked_more (Handle id) order m = ap (λ l. numbered_by id (find (has id) (reverse l))) (acks-push order m) ∙ handle_more id (acks order) (ack_of order m)

nothing_picked : (pick : Pick) → picked pick [] ≡ None
unfolding acks acks_behind
nothing_picked Empty = refl
nothing_picked Latest = refl
nothing_picked (Handle id) = refl

pub none_picked : (pick : Pick) (order : List Message) (n : ℕ) → n ≤ 0 → picked pick (take n order) ≡ None
none_picked pick order n none = let e : n ≡ 0 = omega (arith, none) in ap (λ k. picked pick (take k order)) e ∙ nothing_picked pick

-- the last message of those that are left is looked at
pub one_before : (pick : Pick) (order : List Message) (n : ℕ) (m : Message) → 0 < n → n ≤ length order → m ≡ get_or order (n - 1) m
    → picked pick (take n order) ≡ option_or (wanted pick (ack_of (take (n - 1) order) m)) (picked pick (take (n - 1) order))
one_before pick order n m some within is =
    let e : n ≡ (n - 1) + 1 = omega (arith, some) in
    let last : take n order ≡ take (n - 1) order ++ m ∷ [] =
    ap (λ k. take k order) e ∙ take_more order (n - 1) m (omega (arith, some, within)) ∙ ap (λ x. take (n - 1) order ++ x ∷ []) (sym is) in
    ap (picked pick) last ∙ picked_more pick (take (n - 1) order) m

take_numbered : (k n : ℕ) (ms : List Message) → AreNumberedFrom k ms → AreNumberedFrom k (take n ms)
take_numbered k zero ms h = tt
take_numbered k (suc n) [] h = tt
take_numbered k (suc n) (m ∷ ms) h = (h.0, take_numbered (suc k) n ms h.1)

pub first_ones : (n : ℕ) (ms : List Message) → AreFirst ms → AreFirst (take n ms)
first_ones n ms h = take_numbered 1 n ms h

-- ---- the summarize with a number

unanswered_step : (m : Message) (ms : List Message) → unanswered (m ∷ ms) ≡ cond (waits ms m) (m ∷ []) [] ++ unanswered ms
unfolding unanswered
unanswered_step m ms = refl

unanswered_end : unanswered [] ≡ []
unfolding unanswered
unanswered_end = refl

module _ (number : ℕ) where
  abbrev named : Message → Bool
  named m = m.number == number

  other : (m : Message) → (m.number ≡ number → ⊥) → named m ≡ false
  other m differ = ne_eqb m.number number differ

  passed_over : (b : Bool) (m : Message) (rest : List Message) → named m ≡ false → find named (cond b (m ∷ []) [] ++ rest) ≡ find named rest
  passed_over true m rest is = ap (λ c. cond c (Some m) (find named rest)) is
  passed_over false m rest is = refl

  found_first : (b : Bool) (m : Message) (rest : List Message) → named m ≡ true → find named rest ≡ None → find named (cond b (m ∷ []) [] ++ rest) ≡ cond b (Some m) None
  found_first true m rest is none = ap (λ c. cond c (Some m) (find named rest)) is
  found_first false m rest is none = none

  none_outside : (k : ℕ) (ms : List Message) → AreNumberedFrom k ms → (number < k) ⊎ (k + length ms ≤ number) → find named (unanswered ms) ≡ None
  none_outside k [] h out = ap (find named) unanswered_end
  none_outside k (m ∷ ms) h out = ap (find named) (unanswered_step m ms) ∙ passed_over (waits ms m) m (unanswered ms) (other m (apart out)) ∙ none_outside (suc k) ms h.1 (further out)
    where
      apart : (number < k) ⊎ (k + length (m ∷ ms) ≤ number) → m.number ≡ number → ⊥
      apart (inl lt) same = omega (arith, h.0, lt, same)
      apart (inr le) same = omega (arith, h.0, le, same)

      further : (number < k) ⊎ (k + length (m ∷ ms) ≤ number) → (number < suc k) ⊎ (suc k + length ms ≤ number)
      further (inl lt) = inl (omega (arith, lt))
      further (inr le) = inr (omega (arith, le))

  at_number : (i k : ℕ) (ms : List Message) (m : Message) → AreNumberedFrom k ms → k + i ≡ number → i < length ms → m ≡ get_or ms i m
      → find named (unanswered ms) ≡ cond (waits (drop (suc i) ms) m) (Some m) None
  at_number i k [] m h sum lt is = absurd (omega (arith, lt))
  at_number zero k (x ∷ xs) m h sum lt is =
      let own : x.number ≡ number = omega (arith, h.0, sum) in
      ap (find named) (unanswered_step x xs) ∙ found_first (waits xs x) x (unanswered xs) (eq-eqb x.number number own) (none_outside (suc k) xs h.1 (inl (omega (arith, sum))))
      ∙ ap (λ y. cond (waits xs y) (Some y) None) (sym is)
  at_number (suc i) k (x ∷ xs) m h sum lt is =
      ap (find named) (unanswered_step x xs) ∙ passed_over (waits xs x) x (unanswered xs) (other x (λ same. omega (arith, h.0, sum, same)))
      ∙ at_number i (suc k) xs m h.1 (omega (arith, sum)) (omega (arith, lt)) is

  pub not_in : (order : List Message) → AreFirst order → (number ≡ 0) ⊎ (length order < number) → reference_in number (unanswered order) ≡ None
  not_in order h (inl is) = ap (option_map reference_of) (none_outside 1 order h (inl (omega (arith, is))))
  not_in order h (inr lt) = ap (option_map reference_of) (none_outside 1 order h (inr (omega (arith, lt))))

  pub is_at : (place : ℕ) (order : List Message) (m : Message) → AreFirst order → place + 1 ≡ number → place < length order → m ≡ get_or order place m
      → reference_in number (unanswered order) ≡ cond (waits (take (length order - (place + 1)) (drop (place + 1) order)) m) (Some (reference_of m)) None
  is_at place order m h sum lt is =
      let next : suc place ≡ place + 1 = omega arith in
      ap (option_map reference_of) (at_number place 1 order m h (omega (arith, sum)) lt is)
      ∙ by_test (waits (drop (suc place) order) m)
      ∙ ap (λ l. cond (waits l m) (Some (reference_of m)) None) (ap (λ k. drop k order) next ∙ sym (all_behind (place + 1) order))
    where
      by_test : (b : Bool) → option_map reference_of (cond b (Some m) None) ≡ cond b (Some (reference_of m)) None
      by_test true = refl
      by_test false = refl
