-- What calls on an outbox leave of how it stands beside a ledger.
use Rattle.std.proofs.Common.{◌≡◌, ◌⊎◌, inl, inr, ℕ, zero, suc, ◌+◌, ◌-◌, ◌<◌, ◌≤◌, ◌==◌, Bool, true, false, not, ◌&&◌, ◌||◌, if◌then◌else◌, List, [], ◌∷◌, ◌++◌, length, drop, get_or, Option, Some, None, is_some, bytes_eq, refl, sym, ap, subst, ◌∙◌, arith, IfSome, append-nil}
use Rattle.std.specs.Prelude.{nat_le}
use Rattle.std.proofs.lemmas.Bool.{and_from, or_left, or_right, eq-eqb, leb-true, leb-false}
use Rattle.std.proofs.lemmas.List.{drop_all}
use Rattle.fluid_json.specs.Tree.{Tree, null}
use Rattle.fluid_types.specs.Ledger.{Ledger, order, seq}
use Rattle.fluid_types.specs.declared.entries.Raw.TheVariants.{Submit}
use Rattle.fluid_types.specs.declared.entries.Offered.TheVariants as offered
use Rattle.fluid_types.specs.declared.messages.Message.{Message}
use Rattle.fluid_types.specs.declared.nacks.Nack.{Nack}
use Rattle.fluid_types.specs.declared.verdicts.Verdict.TheVariants.{Sequenced, Nacked}
use Rattle.fluid_rules.specs.Past.{Entry}
use Rattle.fluid_rules.specs.Rules.{verdict, client}
use Rattle.fluid_rules.proofs.Clients.{client-joined}
use Rattle.fluid_rules.proofs.Ids.{same_id, own_id, and_false}
use Rattle.fluid_rules.proofs.Taken.{sequenced-taken}
use Rattle.fluid_rules.proofs.Verdicts.{verdict-is_message}
use Rattle.fluid_outbox.specs.declared.line.Line.{Line}
use Rattle.fluid_outbox.specs.Past.{Past, Given, Pushed, Joined, Gave, Heard, Lost, op_of, op_with, leaves, sent, given, is_sent, was_given, has_left, is_text, current, acknowledges, acknowledged, next}
use Rattle.fluid_outbox.specs.Kept.{AnOutbox, Stands, IsLine}
use Rattle.fluid_outbox.proofs.Sending.{next_some, next_none, has_line}
use Rattle.fluid_outbox.proofs.Stands.{none_given, own_awaited}
use Rattle.fluid_outbox.proofs.Tests.{in_turn-true, no_test}
use Rattle.fluid_runtime.specs.App.{is_op}
use Rattle.fluid_loader.specs.Container.{is_from}
use Rattle.fluid_roamers.specs.Ahead.{is_under, IsNextOp, IsOther, IsAhead, own_in, left_in, IsBeside}
use Rattle.fluid_roamers.specs.Taking.{acks, hears, without}
use Rattle.fluid_roamers.proofs.Entries.{own_yes, own_no, own_more, ahead_own, here, own_op, own_taken, own_nacked, seq_is, drop_push, left_more}

-- ---- hearing

-- an outbox before these messages
pub record Awaits (past : Past) (c : List ℕ) (before own : ℕ) (ms : List Message) : Type 0 where
  pub acknowledged_are : acknowledged past ≡ before + own
  pub sent_in_turn : (n e : ℕ) → 1 ≤ n → n ≤ sent past c → e + 1 ≡ before + n → was_given past c n e ≡ true
  pub ahead : IsAhead c (own + 1) (has_left past c) ms
  pub few : own + own_in c ms ≤ sent past c
  pub settled : (id : List ℕ) → bytes_eq id c ≡ false → (sent past id ≡ 0) ⊎ (has_left past id ≡ true)

heard_left : (past : Past) (m : Message) (id : List ℕ) → has_left (Heard m ∷ past) id ≡ (leaves id m || has_left past id)
unfolding has_left
heard_left past m id = refl

heard_given : (past : Past) (m : Message) (c : List ℕ) (n e : ℕ) → was_given (Heard m ∷ past) c n e ≡ was_given past c n e
unfolding was_given given
heard_given past m c n e = refl

heard_sent : (past : Past) (m : Message) (c : List ℕ) → sent (Heard m ∷ past) c ≡ sent past c
unfolding sent given
heard_sent past m c = refl

pub heard_acks : (past : Past) (m : Message) (b : Bool) → acks past m ≡ b → acknowledged (Heard m ∷ past) ≡ (if b then acknowledged past + 1 else acknowledged past)
unfolding acknowledged
heard_acks past m b is = ap (λ (x : Bool). if x then acknowledged past + 1 else acknowledged past) is

pub settled_on : (past : Past) (m : Message) (id : List ℕ) → (sent past id ≡ 0) ⊎ (has_left past id ≡ true) → (sent (Heard m ∷ past) id ≡ 0) ⊎ (has_left (Heard m ∷ past) id ≡ true)
settled_on past m id (inl none) = inl (heard_sent past m id ∙ none)
settled_on past m id (inr left) = inr (heard_left past m id ∙ or_right (leaves id m) (has_left past id) left)

no_acks : (past : Past) (id : List ℕ) (number : ℕ) → (sent past id ≡ 0) ⊎ (has_left past id ≡ true) → acknowledges past (acknowledged past) (Some (id, number)) ≡ false
no_acks past id number (inl none) = ap (λ b. b && not (has_left past id)) (none_given past id number (acknowledged past) none)
no_acks past id number (inr left) = ap (λ b. was_given past id number (acknowledged past) && not b) left ∙ and_false (was_given past id number (acknowledged past))

other_acks : (past : Past) (c : List ℕ) (o : Option (List ℕ × ℕ)) → ((id : List ℕ) → bytes_eq id c ≡ false → (sent past id ≡ 0) ⊎ (has_left past id ≡ true)) → is_under c o ≡ false
    → acknowledges past (acknowledged past) o ≡ false
other_acks past c None settled apart = refl
other_acks past c (Some op) settled apart = no_acks past op.0 op.1 (settled op.0 apart)

-- nor does any, where all is settled
pub no_acks_of : (past : Past) (m : Message) → ((id : List ℕ) → (sent past id ≡ 0) ⊎ (has_left past id ≡ true)) → acks past m ≡ false
no_acks_of past m settled = by (op_of m)
  where
    by : (o : Option (List ℕ × ℕ)) → acknowledges past (acknowledged past) o ≡ false
    by None = refl
    by (Some op) = no_acks past op.0 op.1 (settled op.0)

and_second : (a b : Bool) → (a && b) ≡ true → b ≡ true
and_second true b is = is
and_second false b is = absurd (cc)

module _ (past : Past) (c : List ℕ) (before own : ℕ) (m : Message) (ms : List Message) where
  own_acks : Awaits past c before own (m ∷ ms) → IsNextOp c (own + 1) (has_left past c) m → acks past m ≡ true
  own_acks a is =
      ap (acknowledges past (acknowledged past)) is.op
      ∙ and_from (was_given past c (own + 1) (acknowledged past)) (not (has_left past c))
      (a.sent_in_turn (own + 1) (acknowledged past) (omega arith) (omega (arith, a.few, own_yes c m ms is.own)) (omega (arith, a.acknowledged_are)))
      (ap not is.before)

  heard_own : Awaits past c before own (m ∷ ms) → IsNextOp c (own + 1) (has_left past c) m → IsAhead c (own + 1 + 1) (has_left past c) ms → Awaits (Heard m ∷ past) c before (own + 1) ms
  heard_own a is rest = record {
    acknowledged_are = heard_acks past m true (own_acks a is) ∙ omega (arith, a.acknowledged_are);
    sent_in_turn = λ n e one le at. heard_given past m c n e ∙ a.sent_in_turn n e one (omega (arith, le, heard_sent past m c)) at;
    ahead = subst (λ b. IsAhead c (own + 1 + 1) b ms) (sym (heard_left past m c ∙ ap (λ b. b || has_left past c) is.stays)) rest;
    few = omega (arith, a.few, own_yes c m ms is.own, heard_sent past m c);
    settled = λ id apart. settled_on past m id (a.settled id apart);
  }

  heard_other : Awaits past c before own (m ∷ ms) → IsOther c m → IsAhead c (own + 1) (leaves c m || has_left past c) ms → Awaits (Heard m ∷ past) c before own ms
  heard_other a other rest = record {
    acknowledged_are = heard_acks past m false (other_acks past c (op_of m) a.settled other.op) ∙ a.acknowledged_are;
    sent_in_turn = λ n e one le at. heard_given past m c n e ∙ a.sent_in_turn n e one (omega (arith, le, heard_sent past m c)) at;
    ahead = subst (λ b. IsAhead c (own + 1) b ms) (sym (heard_left past m c)) rest;
    few = omega (arith, a.few, own_no c m ms other.other, heard_sent past m c);
    settled = λ id apart. settled_on past m id (a.settled id apart);
  }

none_left : {E : Type 0} (n : ℕ) → ◌≡◌ {A = List E} (drop n []) []
none_left zero = refl
none_left (suc n) = refl

drop_one : {E : Type 0} (n : ℕ) (es : List E) → drop n (drop 1 es) ≡ drop (1 + n) es
drop_one n [] = none_left n ∙ sym (none_left (1 + n))
drop_one n (e ∷ es) = let is : 1 + n ≡ suc n = omega arith in ap (λ k. drop k (e ∷ es)) (sym is)

pub drop_drop_more : {E : Type 0} (a b : ℕ) (es : List E) → drop b (drop a es) ≡ drop (a + b) es
drop_drop_more zero b es = let is : b ≡ zero + b = omega arith in ap (λ k. drop k es) is
drop_drop_more (suc a) b [] = none_left b ∙ sym (none_left (suc a + b))
drop_drop_more (suc a) b (e ∷ es) = let is : suc (a + b) ≡ suc a + b = omega arith in drop_drop_more a b es ∙ ap (λ k. drop k (e ∷ es)) is

-- all of them were heard: its own ops among them acknowledge the edits that were sent, in turn
pub record HasHeard {E : Type 0} (past : Past) (c : List ℕ) (before own : ℕ) (ms : List Message) (es : List E) : Type 0 where
  pub awaits : Awaits (hears past ms) c before (own + own_in c ms) []
  pub left : has_left (hears past ms) c ≡ left_in c (has_left past c) ms
  pub rest : without past ms es ≡ drop (own_in c ms) es

pub has_heard : {E : Type 0} (past : Past) (c : List ℕ) (before own : ℕ) (ms : List Message) (es : List E) → Awaits past c before own ms → HasHeard past c before own ms es
has_heard {E = E} past c before own [] es a = record { awaits = subst (λ n. Awaits past c before n []) (none own) a; left = refl; rest = refl }
  where
    none : (n : ℕ) → n ≡ n + own_in c []
    none n = omega arith
has_heard {E = E} past c before own (m ∷ ms) es a = by a.ahead (λ own es a. has_heard (Heard m ∷ past) c before own ms es a)
  where
    by : (IsNextOp c (own + 1) (has_left past c) m × IsAhead c (own + 1 + 1) (has_left past c) ms) ⊎ (IsOther c m × IsAhead c (own + 1) (leaves c m || has_left past c) ms)
        → ((next : ℕ) (es : List E) → Awaits (Heard m ∷ past) c before next ms → HasHeard (Heard m ∷ past) c before next ms es) → HasHeard past c before own (m ∷ ms) es
    by (inl (is, rest)) later =
        let acked = own_acks past c before own m ms a is in
        let h = later (own + 1) (drop 1 es) (heard_own past c before own m ms a is rest) in
        record {
          awaits = subst (λ n. Awaits (hears (Heard m ∷ past) ms) c before n []) (omega (arith, own_yes c m ms is.own)) h.awaits;
          left = h.left ∙ ap (λ b. left_in c b ms) (heard_left past m c);
          rest = ap (λ b. without (Heard m ∷ past) ms (if b && is_op m then drop 1 es else es)) acked
              ∙ ap (λ b. without (Heard m ∷ past) ms (if b then drop 1 es else es)) (and_second (is_from c m.client) (is_op m) is.own)
              ∙ h.rest ∙ drop_one (own_in c ms) es ∙ ap (λ n. drop n es) (sym (own_yes c m ms is.own));
        }
    by (inr (other, rest)) later =
        let unacked = other_acks past c (op_of m) a.settled other.op in
        let h = later own es (heard_other past c before own m ms a other rest) in
        record {
          awaits = subst (λ n. Awaits (hears (Heard m ∷ past) ms) c before n []) (ap (λ n. own + n) (sym (own_no c m ms other.other))) h.awaits;
          left = h.left ∙ ap (λ b. left_in c b ms) (heard_left past m c);
          rest = ap (λ b. without (Heard m ∷ past) ms (if b && is_op m then drop 1 es else es)) unacked ∙ h.rest ∙ ap (λ n. drop n es) (sym (own_no c m ms other.other));
        }

-- ---- all of an order was heard

pub awaits : (l : Ledger) (past : Past) (c : List ℕ) (number before own : ℕ) → IsBeside l past c number before own → Awaits past c before own (drop number (order l))
awaits l past c number before own is = record { acknowledged_are = is.acknowledged_are; sent_in_turn = is.sent_in_turn; ahead = is.ahead; few = is.few; settled = is.settled }

pub drop_whole : (l : Ledger) → drop (seq l) (order l) ≡ []
drop_whole l = drop_all (seq l) (order l) (omega (arith, seq_is l))

pub heard_beside : (l : Ledger) (past : Past) (c : List ℕ) (number before own : ℕ) → IsBeside l past c number before own
    → IsBeside l (hears past (drop number (order l))) c (seq l) before (own + own_in c (drop number (order l)))
heard_beside l past c number before own is =
    let ms = drop number (order l) in
    let h = has_heard {E = ℕ} past c before own ms [] (awaits l past c number before own is) in
    record {
      acknowledged_are = h.awaits.acknowledged_are;
      sent_in_turn = h.awaits.sent_in_turn;
      ahead = subst (IsAhead c (own + own_in c ms + 1) (has_left (hears past ms) c)) (sym (drop_whole l)) tt;
      few = subst (λ xs. own + own_in c ms + own_in c xs ≤ sent (hears past ms) c) (sym (drop_whole l)) h.awaits.few;
      left = ap (left_in c (has_left (hears past ms) c)) (drop_whole l) ∙ h.left ∙ is.left;
      settled = h.awaits.settled;
    }

-- ---- a client that joins

joined_sent : (past : Past) (c id : List ℕ) → sent (Joined c ∷ past) id ≡ sent past id
unfolding sent given
joined_sent past c id = refl

joined_left : (past : Past) (c id : List ℕ) → has_left (Joined c ∷ past) id ≡ (not (bytes_eq c id) && has_left past id)
unfolding has_left
joined_left past c id = refl

joined_acked : (past : Past) (c : List ℕ) → acknowledged (Joined c ∷ past) ≡ acknowledged past
unfolding acknowledged
joined_acked past c = refl

pub other_way : (a b : List ℕ) → bytes_eq a b ≡ false → bytes_eq b a ≡ false
other_way a b apart = by (bytes_eq b a) refl
  where
    by : (x : Bool) → bytes_eq b a ≡ x → x ≡ false
    by true is = absurd (no_test _ (ap (λ y. bytes_eq a y) (same_id b a is) ∙ own_id a) apart)
    by false is = refl

-- one whose id was never used, behind all of an order, where nothing is awaited of another
pub joins_beside : (l : Ledger) (past : Past) (c : List ℕ) (stood : ℕ) → acknowledged past ≡ stood → sent past c ≡ 0 → here l c ≡ true
    → ((id : List ℕ) → bytes_eq id c ≡ false → (sent past id ≡ 0) ⊎ (has_left past id ≡ true)) → IsBeside l (Joined c ∷ past) c (seq l) stood 0
joins_beside l past c stood acked unsent there settled = record {
  acknowledged_are = joined_acked past c ∙ acked ∙ omega arith;
  sent_in_turn = λ n e one le at. absurd (omega (arith, one, le, joined_sent past c c, unsent));
  ahead = subst (IsAhead c (0 + 1) (has_left (Joined c ∷ past) c)) (sym (drop_whole l)) tt;
  few = subst (λ xs. 0 + own_in c xs ≤ sent (Joined c ∷ past) c) (sym (drop_whole l)) (omega arith);
  left = ap (left_in c (has_left (Joined c ∷ past) c)) (drop_whole l) ∙ joined_left past c c ∙ ap (λ b. not b && has_left past c) (own_id c) ∙ ap not (sym there);
  settled = λ id apart. on id apart (settled id apart);
}
  where
    on : (id : List ℕ) → bytes_eq id c ≡ false → (sent past id ≡ 0) ⊎ (has_left past id ≡ true) → (sent (Joined c ∷ past) id ≡ 0) ⊎ (has_left (Joined c ∷ past) id ≡ true)
    on id apart (inl none) = inl (joined_sent past c id ∙ none)
    on id apart (inr left) = inr (joined_left past c id ∙ ap (λ b. not b && has_left past id) (other_way id c apart) ∙ left)

-- ---- calls that send nothing

lost_same : (past : Past) (c : List ℕ) (n e : ℕ) → was_given (Lost ∷ past) c n e ≡ was_given past c n e
unfolding was_given given
lost_same past c n e = refl

pub lost_beside : (l : Ledger) (past : Past) (c : List ℕ) (number before own : ℕ) → IsBeside l past c number before own → IsBeside l (Lost ∷ past) c number before own
unfolding acknowledged was_given given sent has_left
lost_beside l past c number before own is =
    record { acknowledged_are = is.acknowledged_are; sent_in_turn = is.sent_in_turn; ahead = is.ahead; few = is.few; left = is.left; settled = is.settled }

pub pushed_beside : (l : Ledger) (past : Past) (contents : Tree) (c : List ℕ) (number before own : ℕ) → IsBeside l past c number before own → IsBeside l (Pushed contents ∷ past) c number before own
unfolding acknowledged was_given given sent has_left
pushed_beside l past contents c number before own is =
    record { acknowledged_are = is.acknowledged_are; sent_in_turn = is.sent_in_turn; ahead = is.ahead; few = is.few; left = is.left; settled = is.settled }

-- ---- an edit that is sent

module _ (past : Past) (g : Given) where
  gave_left : (id : List ℕ) → has_left (Gave g ∷ past) id ≡ has_left past id
  unfolding has_left
  gave_left id = refl

  gave_acked : acknowledged (Gave g ∷ past) ≡ acknowledged past
  unfolding acknowledged
  gave_acked = refl

  gave_given : (c : List ℕ) (n e : ℕ) → was_given (Gave g ∷ past) c n e ≡ ((is_sent c n g && (g.edit == e)) || was_given past c n e)
  unfolding was_given given
  gave_given c n e = refl

  sent_yes : (b : Bool) (id : List ℕ) → bytes_eq g.id id ≡ b → sent (Gave g ∷ past) id ≡ (if b then sent past id + 1 else sent past id)
  unfolding sent given
  sent_yes true id is = rw is (omega arith)
  sent_yes false id is = rw is refl

-- a call sends the next edit for the client
pub record IsSentNext (past : Past) (c : List ℕ) (before : ℕ) (g : Given) : Type 0 where
  pub id : g.id ≡ c
  pub number : g.submission.client_number ≡ sent past c + 1
  pub edit : g.edit ≡ before + sent past c

module _ (l : Ledger) (past : Past) (c : List ℕ) (number before own : ℕ) (g : Given) (is : IsBeside l past c number before own) (next_is : IsSentNext past c before g) where
  pub one_more : sent (Gave g ∷ past) c ≡ sent past c + 1
  one_more = sent_yes past g true c (ap (λ id. bytes_eq id c) next_is.id ∙ own_id c)

  gave_in_turn : (n e : ℕ) → 1 ≤ n → n ≤ sent (Gave g ∷ past) c → e + 1 ≡ before + n → was_given (Gave g ∷ past) c n e ≡ true
  gave_in_turn n e one le at = gave_given past g c n e ∙ by (nat_le n (sent past c)) refl
    where
      by : (b : Bool) → nat_le n (sent past c) ≡ b → ((is_sent c n g && (g.edit == e)) || was_given past c n e) ≡ true
      by true within = or_right (is_sent c n g && (g.edit == e)) (was_given past c n e) (is.sent_in_turn n e one (leb-true n (sent past c) within) at)
      by false beyond =
          let last : n ≡ sent past c + 1 = omega (arith, leb-false n (sent past c) beyond, le, one_more) in
          or_left (is_sent c n g && (g.edit == e)) (was_given past c n e)
          (and_from (is_sent c n g) (g.edit == e)
          (and_from (bytes_eq g.id c) (g.submission.client_number == n) (ap (λ id. bytes_eq id c) next_is.id ∙ own_id c) (eq-eqb g.submission.client_number n (next_is.number ∙ sym last)))
          (eq-eqb g.edit e (omega (arith, next_is.edit, at, last))))

  gave_settled : (id : List ℕ) → bytes_eq id c ≡ false → (sent (Gave g ∷ past) id ≡ 0) ⊎ (has_left (Gave g ∷ past) id ≡ true)
  gave_settled id apart = on (is.settled id apart)
    where
      on : (sent past id ≡ 0) ⊎ (has_left past id ≡ true) → (sent (Gave g ∷ past) id ≡ 0) ⊎ (has_left (Gave g ∷ past) id ≡ true)
      on (inl none) = inl (sent_yes past g false id (ap (λ x. bytes_eq x id) next_is.id ∙ other_way id c apart) ∙ none)
      on (inr left) = inr (gave_left past g id ∙ left)

  abbrev ms : List Message
  ms = drop number (order l)

  -- it isn't entered, or it is refused
  pub gave_beside : IsBeside l (Gave g ∷ past) c number before own
  gave_beside = record {
    acknowledged_are = gave_acked past g ∙ is.acknowledged_are;
    sent_in_turn = gave_in_turn;
    ahead = subst (λ b. IsAhead c (own + 1) b ms) (sym (gave_left past g c)) is.ahead;
    few = omega (arith, is.few, one_more);
    left = ap (λ b. left_in c b ms) (gave_left past g c) ∙ is.left;
    settled = gave_settled;
  }

  module _ (le : number ≤ seq l) (moment : ℕ) where
    pub nacked_beside : (n : Nack) → IsBeside (l ++ (Submit c g.submission moment, Nacked n) ∷ []) (Gave g ∷ past) c number before own
    nacked_beside n =
        let same : drop number (order (l ++ (Submit c g.submission moment, Nacked n) ∷ [])) ≡ ms = drop_push l (Submit c g.submission moment, Nacked n) number le ∙ append-nil ms in
        record {
          acknowledged_are = gave_beside.acknowledged_are;
          sent_in_turn = gave_in_turn;
          ahead = subst (IsAhead c (own + 1) (has_left (Gave g ∷ past) c)) (sym same) gave_beside.ahead;
          few = subst (λ xs. own + own_in c xs ≤ sent (Gave g ∷ past) c) (sym same) gave_beside.few;
          left = ap (left_in c (has_left (Gave g ∷ past) c)) same ∙ gave_beside.left ∙ ap not (sym (own_nacked c l g.submission moment n));
          settled = gave_settled;
        }

    -- its op stands next
    pub taken_beside : (m : Message) → Sequenced m ≡ verdict l (Submit c g.submission moment) → g.submission.kind ≡ offered.Op → own + own_in c ms ≡ sent past c
        → IsBeside (l ++ (Submit c g.submission moment, Sequenced m) ∷ []) (Gave g ∷ past) c number before own
    taken_beside m said op all_sent =
        let entry : Entry = (Submit c g.submission moment, Sequenced m) in
        let same : drop number (order (l ++ entry ∷ [])) ≡ ms ++ m ∷ [] = drop_push l entry number le in
        let joined : here l c ≡ true = ap is_some (client-joined l c (sequenced-taken l c g.submission moment m (sym said)).joined) in
        let stays : left_in c (has_left past c) ms ≡ false = is.left ∙ ap not joined in
        let next_op : IsNextOp c g.submission.client_number (left_in c (has_left past c) ms) m = own_op c l g.submission moment (left_in c (has_left past c) ms) m (verdict-is_message l (Submit c g.submission moment) m (sym said)) op stays in
        let at : g.submission.client_number ≡ own + 1 + own_in c ms = omega (arith, next_is.number, all_sent) in
        record {
          acknowledged_are = gave_beside.acknowledged_are;
          sent_in_turn = gave_in_turn;
          ahead = subst (IsAhead c (own + 1) (has_left (Gave g ∷ past) c)) (sym same)
              (subst (λ b. IsAhead c (own + 1) b (ms ++ m ∷ [])) (sym (gave_left past g c))
              (ahead_own c (own + 1) (has_left past c) ms m (subst (λ n. IsNextOp c n (left_in c (has_left past c) ms) m) at next_op) is.ahead));
          few = subst (λ xs. own + own_in c xs ≤ sent (Gave g ∷ past) c) (sym same) (omega (arith, own_more c ms m, own_yes c m [] next_op.own, all_sent, one_more));
          left = ap (left_in c (has_left (Gave g ∷ past) c)) same ∙ ap (λ b. left_in c b (ms ++ m ∷ [])) (gave_left past g c) ∙ left_more c (has_left past c) ms m
              ∙ ap (λ b. b || left_in c (has_left past c) ms) next_op.stays ∙ is.left ∙ ap not (sym (own_taken c l g.submission moment m));
          settled = gave_settled;
        }

-- ---- which edit is sent next

module _ (o : AnOutbox) (past : Past) (stands : Stands o past) (c : List ℕ) (before own : ℕ) (acked : acknowledged past ≡ before + own)
    (in_turn : (n e : ℕ) → 1 ≤ n → n ≤ sent past c → e + 1 ≡ before + n → was_given past c n e ≡ true) (few : own ≤ sent past c)
    (settled : (id : List ℕ) → bytes_eq id c ≡ false → (sent past id ≡ 0) ⊎ (has_left past id ≡ true)) (own_is : current past ≡ Some c) where
  -- nothing is awaited
  none_awaited : (kept : Option Line) → o.awaited ≡ kept → kept ≡ None
  none_awaited None is = refl
  none_awaited (Some line) is =
      let a = own_awaited o past line stands is in
      absurd (by line a.ended a.some a.not_left (bytes_eq line.id c) refl)
    where
      both : (line : Line) → 0 < sent past line.id → has_left past line.id ≡ false → (sent past line.id ≡ 0) ⊎ (has_left past line.id ≡ true) → ⊥
      both line some left (inl none) = omega (arith, some, none)
      both line some left (inr gone) = no_test _ gone left

      by : (line : Line) → is_text (current past) line.id ≡ false → 0 < sent past line.id → has_left past line.id ≡ false → (b : Bool) → bytes_eq line.id c ≡ b → ⊥
      by line ended some left true same =
          no_test _ (ap (λ o. is_text o line.id) own_is ∙ ap (λ id. bytes_eq c id) (same_id line.id c same) ∙ own_id c) ended
      by line ended some left false apart = both line some left (settled line.id apart)

  abbrev own_line : Type 0
  own_line = (line : Line) × ((o.current ≡ Some line) × ((line.id ≡ c) × ((line.sent ≡ sent past c) × (line.acknowledged ≡ own))))

  line_of : own_line
  line_of =
      let l = has_line o c o.current refl (stands.own ∙ own_is) in
      let is : IsLine past l.line = subst (λ k. IfSome k (IsLine past)) l.kept stands.current_line in
      let count : l.line.sent ≡ sent past c = is.sent ∙ ap (sent past) l.id_is in
      (l.line, (l.kept, (l.id_is, (count, by l.line l.id_is is count (nat_le 1 (sent past c)) refl))))
    where
      by : (line : Line) → line.id ≡ c → IsLine past line → line.sent ≡ sent past c → (b : Bool) → nat_le 1 (sent past c) ≡ b → line.acknowledged ≡ own
      by line same is count true some =
          let given_first : was_given past line.id 1 before ≡ true = ap (λ id. was_given past id 1 before) same ∙ in_turn 1 before (omega arith) (leb-true 1 (sent past c) some) refl in
          let turn = in_turn-true (acknowledged past) line.acknowledged line.sent 1 before (sym (is.given 1 before) ∙ given_first) in
          omega (arith, turn.at, acked)
      by line same is count false none = omega (arith, leb-false 1 (sent past c) none, is.ordered, count, few)

  -- the edit behind those that are on their way
  pub next_sends : (reference : ℕ) → sent past c < own + length o.pending
      → next past reference ≡ Some (record { id = c; edit = before + sent past c; submission = op_with (sent past c + 1) reference (get_or o.pending (sent past c - own) null) })
  next_sends reference some =
      let l = line_of in
      let none = none_awaited o.awaited refl in
      let way : l.0.sent - l.0.acknowledged ≡ sent past c - own = omega (arith, l.1.1.1.0, l.1.1.1.1) in
      let place : acknowledged past + (l.0.sent - l.0.acknowledged) ≡ before + sent past c = omega (arith, acked, few, way) in
      next_some o past l.0 stands l.1.0 none reference (omega (arith, some, way, few))
      ∙ ap (λ id. Some (record { id = id; edit = acknowledged past + (l.0.sent - l.0.acknowledged); submission = op_with (l.0.sent + 1) reference (get_or o.pending (l.0.sent - l.0.acknowledged) null) })) l.1.1.0
      ∙ ap (λ e. Some (record { id = c; edit = e; submission = op_with (l.0.sent + 1) reference (get_or o.pending (l.0.sent - l.0.acknowledged) null) })) place
      ∙ ap (λ n. Some (record { id = c; edit = before + sent past c; submission = op_with (n + 1) reference (get_or o.pending (l.0.sent - l.0.acknowledged) null) })) l.1.1.1.0
      ∙ ap (λ n. Some (record { id = c; edit = before + sent past c; submission = op_with (sent past c + 1) reference (get_or o.pending n null) })) way

  pub next_waits_none : (reference : ℕ) → own + length o.pending ≤ sent past c → next past reference ≡ None
  next_waits_none reference over =
      let l = line_of in
      next_none o past l.0 stands l.1.0 (none_awaited o.awaited refl) reference (omega (arith, over, l.1.1.1.0, l.1.1.1.1, few))
