-- A container that takes in messages.
use Rattle.std.proofs.Common.{◌≡◌, ℕ, zero, suc, ◌+◌, ◌≤◌, arith, Bool, true, false, cond, ◌&&◌, if◌then◌else◌, List, [], ◌∷◌, ◌++◌, length, take, drop, Option, Some, None, IfSome, option_map, refl, sym, ap, subst, ◌∙◌, append_assoc, append-nil, length-drop}
use Rattle.std.specs.Prelude.{count_by, option_to_list}
use Rattle.std.specs.List.{last_or}
use Rattle.std.specs.Option.{option_or}
use Rattle.std.proofs.lemmas.List.{take_all, take-append-drop, drop-append-le, length-take-le}
use Rattle.std.proofs.lemmas.List.Elements.{filter-append}
use Rattle.std.proofs.lemmas.List.Sums.{sum_by-cons}
use Rattle.fluid_types.specs.Ledger.{Ledger, order, seq}
use Rattle.fluid_types.specs.Order.{AreNumberedFrom}
use Rattle.fluid_types.specs.declared.messages.Message.{Message}
use Rattle.fluid_tree.specs.declared.id.SummaryRef.{SummaryRef}
use Rattle.fluid_rules.specs.Rules.{IsLegal, client}
use Rattle.fluid_rules.specs.Past.{Client}
use Rattle.fluid_rules.specs.Scribe.{handling, is_ack, ack_of, acks, last_ack}
use Rattle.fluid_rules.specs.Scribe.{acknowledged as named}
use Rattle.fluid_rules.specs.ScribeLaws.{AreAcknowledging, AcksAreSummaryAcks, OrdersAreAnsweredInTurn, summary_acks}
use Rattle.fluid_rules.proofs.Summaries.{acks-push}
use Rattle.fluid_scribe.proofs.Sequenced.{sequenced-numbered, legal-sequenced}
use Rattle.fluid_edits.specs.declared.edit.Edit.{Edit}
use Rattle.fluid_edits.specs.Laws.{IsReplayedOn}
use Rattle.fluid_edits.specs.Replay.{replay}
use Rattle.fluid_runtime.specs.App.{is_op}
use Rattle.fluid_loader.specs.Container.{AContainer, acknowledged, is_from, taken_by, behind}
use Rattle.fluid_loader.specs.Laws.{IsReplayBehind}
use Rattle.fluid_loader.proofs.Orders.{drop_numbered, behind_number}
use Rattle.fluid_transcript.specs.World.{Container}
use Rattle.fluid_transcript.specs.Containers.{channels, last, head, own_ops, caught_up}
use Rattle.fluid_holding.specs.Holding.{IsContainerOf, IsWithin}
use Rattle.fluid_holding.specs.Laws.{Stands, TakesInAsDefined}

pub seq_is : (l : Ledger) → seq l ≡ length (order l)
unfolding seq
seq_is l = refl

-- ---- what stays

pub last_behind : (own : List ℕ) (c : AContainer) (ms : List Message) → (behind own c ms).last ≡ c.last
last_behind own c [] = refl
last_behind own c (m ∷ ms) = last_behind own (taken_by own c m) ms

-- ---- edits on their way

abbrev is_own : List ℕ → Message → Bool
is_own own m = is_from own m.client && is_op m

none_left : (n : ℕ) → ◌≡◌ {A = List Edit} (drop n []) []
none_left zero = refl
none_left (suc n) = refl

drop_drop : (n : ℕ) (edits : List Edit) → drop n (drop 1 edits) ≡ drop (1 + n) edits
drop_drop n [] = none_left n ∙ sym (none_left (1 + n))
drop_drop n (e ∷ edits) = let is : 1 + n ≡ suc n = omega arith in ap (λ k. drop k (e ∷ edits)) (sym is)

left_by : (b : Bool) (n : ℕ) (edits : List Edit) → drop n (if b then drop 1 edits else edits) ≡ drop (cond b 1 0 + n) edits
left_by true n edits = drop_drop n edits
left_by false n edits = let is : 0 + n ≡ n = omega arith in ap (λ k. drop k edits) (sym is)

pub pending_behind : (own : List ℕ) (c : AContainer) (ms : List Message) → (behind own c ms).pending ≡ drop (count_by (is_own own) ms) c.pending
pending_behind own c [] = refl
pending_behind own c (m ∷ ms) =
    pending_behind own (taken_by own c m) ms
    ∙ left_by (is_own own m) (count_by (is_own own) ms) c.pending
    ∙ ap (λ n. drop n c.pending) (sym (sum_by-cons (λ x. cond (is_own own x) 1 0) m ms))

-- ---- the last acknowledgement

abbrev handle_of : List Message → Option (List ℕ)
handle_of ms = option_map (λ (ack : SummaryRef). ack.handle) (last_ack ms)

acknowledging_first : (before xs ys : List Message) → AreAcknowledging before (xs ++ ys) → AreAcknowledging before xs
acknowledging_first before [] ys h = tt
acknowledging_first before (x ∷ xs) ys h = (h.0, acknowledging_first (before ++ x ∷ []) xs ys h.1)

last_more : {A : Type 0} (o : Option A) (xs : List A) (x : A) → last_or o (xs ++ x ∷ []) ≡ Some x
last_more o [] x = refl
last_more o (y ∷ ys) x = last_more (Some y) ys x

none_of : (ms : List Message) (m : Message) → is_ack m.kind ≡ false → ack_of ms m ≡ None
unfolding ack_of
none_of ms m no_ack = ap (λ b. if b then named ms m else None) no_ack

same_list : (ms : List Message) (m : Message) → is_ack m.kind ≡ false → acks (ms ++ m ∷ []) ≡ acks ms
same_list ms m no_ack = acks-push ms m ∙ ap (λ o. acks ms ++ option_to_list o) (none_of ms m no_ack) ∙ append-nil (acks ms)

one_more : (ms : List Message) (m : Message) → is_ack m.kind ≡ true → last_or None (summary_acks (ms ++ m ∷ [])) ≡ Some m
one_more ms m is =
    ap (last_or None) (filter-append (λ (x : Message). is_ack x.kind) ms (m ∷ []) ∙ ap (λ b. summary_acks ms ++ (if b then m ∷ [] else [])) is)
    ∙ last_more None (summary_acks ms) m

some_same : (a b : Option (List ℕ)) → ◌≡◌ {A = Option (Option (List ℕ))} (Some a) (Some b) → a ≡ b
some_same a b e = cc

none_some : (a : Option (List ℕ)) → ◌≡◌ {A = Option (Option (List ℕ))} None (Some a) → ⊥
none_some a e = cc

of_last : (o : Option SummaryRef) (handled before : Option (List ℕ)) → option_map (λ (ack : SummaryRef). Some ack.handle) o ≡ Some handled
    → option_map (λ (ack : SummaryRef). ack.handle) o ≡ option_or handled before
of_last None handled before said = absurd (none_some handled said)
of_last (Some ack) handled before said = ap (λ h. option_or h before) (some_same (Some ack.handle) handled said)

module _ (law : AcksAreSummaryAcks) where
  handle_more : (ms : List Message) (m : Message) → AreAcknowledging [] (ms ++ m ∷ []) → handle_of (ms ++ m ∷ []) ≡ option_or (acknowledged m) (handle_of ms)
  handle_more ms m are = by (is_ack m.kind) refl
    where
      by : (b : Bool) → is_ack m.kind ≡ b → handle_of (ms ++ m ∷ []) ≡ option_or (acknowledged m) (handle_of ms)
      by true is =
          let last_is = (law (ms ++ m ∷ []) are).last ∙ ap (option_map (λ (x : Message). handling x.contents)) (one_more ms m is) in
          of_last (last_ack (ms ++ m ∷ [])) (handling m.contents) (handle_of ms) last_is
          ∙ ap (λ b. option_or (if b then handling m.contents else None) (handle_of ms)) (sym is)
      by false is =
          ap (λ list. option_map (λ (ack : SummaryRef). ack.handle) (last_or None list)) (same_list ms m is)
          ∙ ap (λ b. option_or (if b then handling m.contents else None) (handle_of ms)) (sym is)

  head_behind : (own : List ℕ) (c : AContainer) (before ms : List Message) → AreAcknowledging [] (before ++ ms) → c.head ≡ handle_of before → (behind own c ms).head ≡ handle_of (before ++ ms)
  head_behind own c before [] are is = is ∙ ap handle_of (sym (append-nil before))
  head_behind own c before (m ∷ ms) are is =
      let whole : (before ++ m ∷ []) ++ ms ≡ before ++ m ∷ ms = append_assoc before (m ∷ []) ms in
      let all = subst (AreAcknowledging []) (sym whole) are in
      head_behind own (taken_by own c m) (before ++ m ∷ []) ms all
      (ap (option_or (acknowledged m)) is ∙ sym (handle_more before m (acknowledging_first [] (before ++ m ∷ []) ms all)))
      ∙ ap handle_of whole

-- ---- all of it

module _ (acks_law : AcksAreSummaryAcks) (turn : OrdersAreAnsweredInTurn) (behind_law : IsReplayBehind) (on : IsReplayedOn) where
  module _ (l : Ledger) (own : List ℕ) (c : AContainer) (k : Container) (legal : IsLegal l) (stands : Stands l k) (is : IsContainerOf l own c k) where
    within : k.number ≤ length (order l)
    within = omega (arith, stands.number, seq_is l)

    whole : take k.number (order l) ++ drop k.number (order l) ≡ order l
    whole = take-append-drop k.number (order l)

    numbered : AreNumberedFrom (suc k.number) (drop k.number (order l))
    numbered =
        let next : 1 + k.number ≡ suc k.number = omega arith in
        subst (λ n. AreNumberedFrom n (drop k.number (order l))) next (drop_numbered 1 k.number (order l) (sequenced-numbered (order l) 0 0 (legal-sequenced l legal)))

    number_is : (behind own c (drop k.number (order l))).number ≡ seq l
    number_is = omega (arith, behind_number own (drop k.number (order l)) c k.number (sym is.number) numbered, length-drop k.number (order l), within, seq_is l)

    -- what was taken in since it was loaded is all behind its base
    since : drop k.base (take k.number (order l)) ++ drop k.number (order l) ≡ drop k.base (take (seq l) (order l))
    since =
        sym (drop-append-le k.base (take k.number (order l)) (drop k.number (order l)) (omega (arith, stands.base, length-take-le k.number (order l) within)))
        ∙ ap (drop k.base) (whole ∙ sym (take_all (seq l) (order l) (omega (arith, seq_is l))))

    channels_are : (behind own c (drop k.number (order l))).channels ≡ channels l (caught_up l k)
    channels_are =
        behind_law own c (drop k.number (order l))
        ∙ ap (λ ch. replay ch (drop k.number (order l))) is.channels_are
        ∙ sym (on k.from (drop k.base (take k.number (order l))) (drop k.number (order l)))
        ∙ ap (replay k.from) since

    pending_is : (behind own c (drop k.number (order l))).pending ≡ (caught_up l k).pending
    pending_is =
        pending_behind own c (drop k.number (order l))
        ∙ ap (λ id. drop (count_by (is_own id) (drop k.number (order l))) c.pending) is.client_is
        ∙ ap (drop (own_ops l k)) is.pending

    head_is : (behind own c (drop k.number (order l))).head ≡ head l (caught_up l k)
    head_is =
        head_behind acks_law own c (take k.number (order l)) (drop k.number (order l)) (subst (AreAcknowledging []) (sym whole) (turn l legal).acknowledging) is.head_is
        ∙ ap handle_of (whole ∙ sym (take_all (seq l) (order l) (omega (arith, seq_is l))))

    pub caught : IsContainerOf l own (behind own c (drop k.number (order l))) (caught_up l k)
    caught =
        let all = behind own c (drop k.number (order l)) in
        record {
          client_is = is.client_is;
          number = number_is;
          channels_are = channels_are;
          pending = pending_is;
          last_is = last_behind own c (drop k.number (order l)) ∙ is.last_is;
          head_is = head_is;
          known = known_more (client l own) c.last c.number all.last all.number (sym (last_behind own c (drop k.number (order l)))) (omega (arith, number_is, is.number, stands.number)) is.known;
        }
      where
        known_more : (o : Option Client) (last number later more : ℕ) → last ≡ later → number ≤ more → IfSome o (IsWithin last number) → IfSome o (IsWithin later more)
        known_more None last number later more same le h = tt
        known_more (Some said) last number later more same le h = record { last_within = omega (arith, h.last_within, same); reference_within = omega (arith, h.reference_within, le) }

  pub takes_in_as_defined : TakesInAsDefined
  takes_in_as_defined = caught
