-- The number of an acknowledged summary is one of the order.
use Rattle.std.proofs.Common.{◌≡◌, ℕ, suc, ◌+◌, ◌≤◌, ◌==◌, Bool, true, false, cond, not, ◌&&◌, List, [], ◌∷◌, ◌++◌, length, Option, Some, None, option_map, bytes_eq, refl, sym, subst, arith}
use Rattle.std.specs.Prelude.{find, reverse, option_to_list}
use Rattle.std.specs.List.{list_any, last_or}
use Rattle.std.proofs.lemmas.Grind.{reverse_onto}
use Rattle.fluid_tree.specs.declared.id.SummaryRef.{SummaryRef}
use Rattle.fluid_types.specs.Order.{AreNumberedFrom}
use Rattle.fluid_types.specs.declared.messages.Message.{Message}
use Rattle.fluid_rules.specs.Scribe.{is_ack, is_summarize, handling, answered_by, answers, reference_of, unanswered, acknowledged, ack_of, acks_behind, acks}
use Rattle.fluid_readback.proofs.Each.{Each, each-all}
use Rattle.fluid_loader.specs.Laws.{ArePickedWithin}
use Rattle.fluid_loader.specs.declared.link.Pick.TheVariants.{Empty, Latest, Handle}

each_both : {A : Type 0} (P : A → Type 0) (xs ys : List A) → Each P xs → Each P ys → Each P (xs ++ ys)
each_both P [] ys h k = k
each_both P (x ∷ xs) ys h k = (h.0, each_both P xs ys h.1 k)

each_reversed : {A : Type 0} (P : A → Type 0) (xs : List A) → Each P xs → Each P (reverse xs)
each_reversed P [] h = tt
each_reversed P (x ∷ xs) h = subst (Each P) (sym (reverse_onto xs x [])) (each_both P (reverse xs) (x ∷ []) (each_reversed P xs h.1) (h.0, tt))

find_each : {A : Type 0} (P : A → Type 0) (p : A → Bool) (xs : List A) (x : A) → Each P xs → find p xs ≡ Some x → P x
find_each P p [] x h is = cc
find_each P p (y ∷ ys) x h is = by_test (λ k. find_each P p ys x h.1 k) (p y) is
  where
    by_test : (find p ys ≡ Some x → P x) → (b : Bool) → cond b (Some y) (find p ys) ≡ Some x → P x
    by_test later true k = let same : y ≡ x = cc in subst P same h.0
    by_test later false k = later k

module _ (n : ℕ) where
  abbrev Refers : Message → Type 0
  Refers m = reference_of m ≤ n

  abbrev IsWithin : SummaryRef → Type 0
  IsWithin s = s.number ≤ n

  refer_within : (k : ℕ) (ms : List Message) → AreNumberedFrom k ms → Each (λ m. reference_of m ≤ m.number) ms → k + length ms ≤ n + 1 → Each Refers ms
  refer_within k [] numbered refer le = tt
  refer_within k (m ∷ ms) numbered refer le = (omega (arith, numbered.0, refer.0, le), refer_within (suc k) ms numbered.1 refer.1 (omega (arith, le)))

  each_if : (b : Bool) (m : Message) (rest : List Message) → Refers m → Each Refers rest → Each Refers (cond b (m ∷ []) [] ++ rest)
  each_if true m rest h k = (h, k)
  each_if false m rest h k = k

  unanswered_refer : (ms : List Message) → Each Refers ms → Each Refers (unanswered ms)
  unfolding unanswered
  unanswered_refer [] h = tt
  unanswered_refer (m ∷ ms) h = each_if (is_summarize m.kind && not (list_any (answers m.number) ms)) m (unanswered ms) h.0 (unanswered_refer ms h.1)

  acknowledged_within : (before : List Message) (m : Message) (s : SummaryRef) → Each Refers before → acknowledged before m ≡ Some s → s.number ≤ n
  acknowledged_within before m s h is = by_handle (handling m.contents) refl
    where
      by_found : (handle : List ℕ) (number : ℕ) (o : Option Message) → handling m.contents ≡ Some handle → answered_by m ≡ Some number → find (λ z. z.number == number) (unanswered before) ≡ o → s.number ≤ n
      by_found handle number None handled named found = let none : acknowledged before m ≡ None = rw (handled, named, found) refl in cc
      by_found handle number (Some z) handled named found =
          let one : acknowledged before m ≡ Some (record { handle = handle; number = reference_of z }) = rw (handled, named, found) refl in
          let same : record { handle = handle; number = reference_of z } ≡ s = cc in
          subst (λ (r : SummaryRef). r.number ≤ n) same (find_each Refers (λ w. w.number == number) (unanswered before) z (unanswered_refer before h) found)

      by_number : (handle : List ℕ) (a : Option ℕ) → handling m.contents ≡ Some handle → answered_by m ≡ a → s.number ≤ n
      by_number handle None handled named = let none : acknowledged before m ≡ None = rw (handled, named) refl in cc
      by_number handle (Some number) handled named = by_found handle number (find (λ z. z.number == number) (unanswered before)) handled named refl

      by_handle : (o : Option (List ℕ)) → handling m.contents ≡ o → s.number ≤ n
      by_handle None handled = let none : acknowledged before m ≡ None = rw handled refl in cc
      by_handle (Some handle) handled = by_number handle (answered_by m) handled refl

  option_within : (o : Option SummaryRef) → ((s : SummaryRef) → o ≡ Some s → s.number ≤ n) → Each IsWithin (option_to_list o)
  option_within None f = tt
  option_within (Some s) f = (f s refl, tt)

  ack_within : (before : List Message) (m : Message) (s : SummaryRef) → Each Refers before → ack_of before m ≡ Some s → s.number ≤ n
  unfolding ack_of
  ack_within before m s h is = by_test (is_ack m.kind) is
    where
      by_test : (b : Bool) → cond b (acknowledged before m) None ≡ Some s → s.number ≤ n
      by_test true k = acknowledged_within before m s h k
      by_test false k = cc

  acks_within : (before ms : List Message) → Each Refers before → Each Refers ms → Each IsWithin (acks_behind before ms)
  unfolding acks_behind
  acks_within before [] h k = tt
  acks_within before (m ∷ ms) h k =
      each_both IsWithin (option_to_list (ack_of before m)) (acks_behind (before ++ m ∷ []) ms) (option_within (ack_of before m) (λ s is. ack_within before m s h is))
      (acks_within (before ++ m ∷ []) ms (each_both Refers before (m ∷ []) h (k.0, tt)) k.1)

  last_within : (xs : List SummaryRef) (o : Option SummaryRef) (s : SummaryRef) → Each IsWithin xs → ((t : SummaryRef) → o ≡ Some t → t.number ≤ n) → last_or o xs ≡ Some s → s.number ≤ n
  last_within [] o s h f is = f s is
  last_within (x ∷ xs) o s h f is = last_within xs (Some x) s h.1 (λ t own. let same : x ≡ t = cc in subst IsWithin same h.0) is

pub picked_within : ArePickedWithin
unfolding acks
picked_within Empty order s is_order is = cc
picked_within Latest order s is_order is =
    let n = length order in
    let refer = refer_within n 1 order is_order.numbered (each-all (λ m. reference_of m ≤ m.number) order is_order.refers_back) (omega arith) in
    last_within n (acks_behind [] order) None s (acks_within n [] order tt refer) (λ t none. cc) is
picked_within (Handle id) order s is_order is = by_found (find (λ ack. bytes_eq ack.handle id) (reverse (acks_behind [] order))) refl is
  where
    by_found : (o : Option SummaryRef) → find (λ ack. bytes_eq ack.handle id) (reverse (acks_behind [] order)) ≡ o
        → option_map (λ number. record { handle = id; number = number }) (option_map (λ ack. ack.number) o) ≡ Some s → s.number ≤ length order
    by_found None found k = cc
    by_found (Some t) found k =
        let n = length order in
        let refer = refer_within n 1 order is_order.numbered (each-all (λ m. reference_of m ≤ m.number) order is_order.refers_back) (omega arith) in
        let same : record { handle = id; number = t.number } ≡ s = cc in
        subst (λ (r : SummaryRef). r.number ≤ n) same
        (find_each (IsWithin n) (λ ack. bytes_eq ack.handle id) (reverse (acks_behind [] order)) t (each_reversed (IsWithin n) (acks_behind [] order) (acks_within n [] order tt refer)) found)
