-- The outbox stands for the calls with a message more.
use Rattle.std.proofs.Common.{◌≡◌, ℕ, ◌+◌, ◌<◌, ◌≤◌, nat_lt, ◌==◌, Bool, true, false, not, ◌&&◌, ◌||◌, if◌then◌else◌, List, ◌∷◌, length, drop, Option, Some, None, option_map, refl, sym, ◌∙◌, ap, subst, bytes_eq, arith, IfSome, inl, inr, ◌⊎◌}
use Rattle.std.proofs.lemmas.Bool.{ltb-true, and_parts, false_from_ne_true, cases_lt, not-true}
use Rattle.std.proofs.lemmas.List.{drop-drop}
use Rattle.fluid_json.specs.Tree.{Tree, text}
use Rattle.fluid_json.specs.Printed.{printed}
use Rattle.fluid_types.specs.Quorum.{of_leave}
use Rattle.fluid_types.specs.declared.messages.Kind.{Kind}
use Rattle.fluid_types.specs.declared.messages.Kind.TheVariants.{Op, Noop, Propose, Reject, Summarize, Join, Leave, SummaryAck, SummaryNack}
use Rattle.fluid_types.specs.declared.messages.Message.{Message}
use Rattle.fluid_rules.proofs.Ids.{same_id, own_id, and_false}
use Rattle.fluid_outbox.specs.declared.line.Line.{Line}
use Rattle.fluid_outbox.specs.Past.{Heard, Past, edits, ids, heard_to, current, given, was_given, sent, has_left, is_awaited, acknowledges, acknowledged, is_text, leaves, of_op, op_of, numbered}
use Rattle.fluid_outbox.specs.Kept.{AnOutbox, IsLine, IsAlone, Stands, id_of, is_in_turn, takes, any_takes, acknowledged_one, taken, after_op, names, unless_left, noted, after_leave, after_heard}
use Rattle.fluid_outbox.proofs.Tests.{no_test, none_in_turn, acknowledged_in_turn, next_in_turn, if_some_map}
use Rattle.fluid_outbox.proofs.Stands.{is_awaited_from, none_given}

abbrev left_in : Message → Option (List ℕ)
left_in m = of_leave m.kind m.system

-- ---- no message is both

both_not : {A B : Type 0} (kind : Kind) (op : Option A) (left : Option B) → (of_op kind op ≡ None) ⊎ (of_leave kind left ≡ None)
both_not Op op left = inr refl
both_not Noop op left = inl refl
both_not Propose op left = inl refl
both_not Reject op left = inl refl
both_not Summarize op left = inl refl
both_not Join op left = inl refl
both_not Leave op left = inl refl
both_not SummaryAck op left = inl refl
both_not SummaryNack op left = inl refl

pub not_both : (m : Message) → (op_of m ≡ None) ⊎ (left_in m ≡ None)
unfolding op_of
not_both m = both_not m.kind (numbered m.client m.client_number) m.system

-- ---- a leave, or a message that is neither

no_op : (past : Past) (m : Message) → op_of m ≡ None → acknowledged (Heard m ∷ past) ≡ acknowledged past
unfolding acknowledged
no_op past m none = rw none refl

-- of another id nothing is changed: it wasn't awaited, and isn't
fewer_awaited : (past : Past) (m : Message) (x : List ℕ) → is_awaited past x ≡ false → is_awaited (Heard m ∷ past) x ≡ false
unfolding is_awaited current sent given has_left
fewer_awaited past m x none = at (not (is_text (current past) x)) (nat_lt 0 (sent past x)) (leaves x m) (has_left past x) none
  where
    at : (ended some now before : Bool) → (ended && (some && not before)) ≡ false → (ended && (some && not (now || before))) ≡ false
    at false some now before none = refl
    at true false now before none = refl
    at true true true before none = refl
    at true true false before none = none

left_now : (past : Past) (m : Message) (x : List ℕ) → leaves x m ≡ true → is_awaited (Heard m ∷ past) x ≡ false
unfolding is_awaited current sent given has_left
left_now past m x is = rw is (at (not (is_text (current past) x)) (nat_lt 0 (sent past x)))
  where
    at : (ended some : Bool) → (ended && (some && false)) ≡ false
    at ended some = rw (and_false some) (and_false ended)

not_left_now : (past : Past) (m : Message) (x : List ℕ) → leaves x m ≡ false → is_awaited (Heard m ∷ past) x ≡ is_awaited past x
unfolding is_awaited current sent given has_left
not_left_now past m x is = rw is refl

noted_line : (past : Past) (m : Message) (line : Line) → acknowledged (Heard m ∷ past) ≡ acknowledged past → IsLine past line → IsLine (Heard m ∷ past) (noted (left_in m) line)
unfolding edits given was_given sent has_left leaves
noted_line past m line same is = record {
  sent = is.sent;
  left = ap (λ left. names (left_in m) line || left) is.left;
  given = λ number edit. is.given number edit ∙ ap (λ first. is_in_turn first line.acknowledged line.sent number edit) (sym same);
  ordered = is.ordered;
  within = omega (arith, is.within, same);
}

unnamed_line : (past : Past) (m : Message) (line : Line) → names (left_in m) line ≡ false → acknowledged (Heard m ∷ past) ≡ acknowledged past → IsLine past line → IsLine (Heard m ∷ past) line
unnamed_line past m line unnamed same is = subst (λ (l : Line). IsLine (Heard m ∷ past) l) (λ i. record line { left = (ap (λ named. named || line.left) unnamed) i }) (noted_line past m line same is)

-- the leave of an awaited id
left_line : (past : Past) (m : Message) (line : Line) (named : Bool) → names (left_in m) line ≡ named → acknowledged (Heard m ∷ past) ≡ acknowledged past → IsLine past line →
    IfSome (if named then None else Some line) (IsLine (Heard m ∷ past))
left_line past m line true is same was = tt
left_line past m line false is same was = unnamed_line past m line is same was

left_awaited : (past : Past) (m : Message) (line : Line) (named : Bool) → names (left_in m) line ≡ named →
    ((x : List ℕ) → is_awaited past x ≡ bytes_eq line.id x) → (same : Bool) (x : List ℕ) → bytes_eq line.id x ≡ same →
    is_awaited (Heard m ∷ past) x ≡ is_text (id_of (if named then None else Some line)) x
unfolding leaves
left_awaited past m line true is before true x h =
    left_now past m x (ap (λ y. leaves y m) (sym (same_id line.id x h)) ∙ is)
left_awaited past m line false is before true x h =
    not_left_now past m x (ap (λ y. leaves y m) (sym (same_id line.id x h)) ∙ is) ∙ before x
left_awaited past m line true is before false x h = fewer_awaited past m x (before x ∙ h)
left_awaited past m line false is before false x h = fewer_awaited past m x (before x ∙ h) ∙ sym h

alone_left : (left : Option (List ℕ)) (current awaited : Option Line) → IsAlone current awaited → IsAlone (option_map (noted left) current) (unless_left left awaited)
alone_left left None awaited alone = tt
alone_left left (Some line) None alone = tt
alone_left left (Some line) (Some other) alone = at (names left other)
  where
    at : (named : Bool) → IsAlone (Some (noted left line)) (if named then None else Some other)
    at true = tt
    at false = alone

noted_id : (left : Option (List ℕ)) (kept : Option Line) → id_of (option_map (noted left) kept) ≡ id_of kept
noted_id left None = refl
noted_id left (Some line) = refl

noted_kept : (past : Past) (m : Message) (kept : Option Line) → acknowledged (Heard m ∷ past) ≡ acknowledged past → IfSome kept (IsLine past) →
    IfSome (option_map (noted (left_in m)) kept) (IsLine (Heard m ∷ past))
noted_kept past m None same is = tt
noted_kept past m (Some line) same is = noted_line past m line same is

left_kept : (past : Past) (m : Message) (kept : Option Line) → acknowledged (Heard m ∷ past) ≡ acknowledged past → IfSome kept (IsLine past) →
    IfSome (unless_left (left_in m) kept) (IsLine (Heard m ∷ past))
left_kept past m None same is = tt
left_kept past m (Some line) same is = left_line past m line (names (left_in m) line) refl same is

awaited_left : (past : Past) (m : Message) (kept : Option Line) → ((x : List ℕ) → is_awaited past x ≡ is_text (id_of kept) x) →
    (x : List ℕ) → is_awaited (Heard m ∷ past) x ≡ is_text (id_of (unless_left (left_in m) kept)) x
awaited_left past m None before x = fewer_awaited past m x (before x)
awaited_left past m (Some line) before x = left_awaited past m line (names (left_in m) line) refl before (bytes_eq line.id x) x refl

stands_left : (o : AnOutbox) (past : Past) (m : Message) → op_of m ≡ None → Stands o past →
    Stands (record (after_leave o (left_in m)) { heard_to = m.number }) (Heard m ∷ past)
unfolding edits ids heard_to current given sent
stands_left o past m none is =
    let same = no_op past m none in
    record {
      pending = is.pending ∙ ap (λ n. drop n (edits past)) (sym same);
      counted = is.counted ∙ sym same;
      few = omega (arith, is.few, same);
      heard = refl;
      own = noted_id (left_in m) o.current ∙ is.own;
      current_line = noted_kept past m o.current same is.current_line;
      awaited_line = left_kept past m o.awaited same is.awaited_line;
      awaited = awaited_left past m o.awaited is.awaited;
      alone = alone_left (left_in m) o.current o.awaited is.alone;
      strangers = is.strangers;
    }

-- ---- an op

-- of a line: an op under its id acknowledges the first edit where the line takes it
takes_is : (past : Past) (line : Line) (number : ℕ) → IsLine past line →
    (was_given past line.id number (acknowledged past) && not (has_left past line.id)) ≡ takes (line.id, number) line
takes_is past line number is =
    rw (is.given number (acknowledged past), next_in_turn (acknowledged past) line.acknowledged line.sent number, ← is.left, own_id line.id)
    (turned (nat_lt line.acknowledged line.sent) (number == line.acknowledged + 1) (not line.left))
  where
    turned : (a b c : Bool) → ((a && b) && c) ≡ (c && (a && b))
    turned a b true = and_true (a && b)
      where
        and_true : (x : Bool) → (x && true) ≡ x
        and_true true = refl
        and_true false = refl
    turned a b false = and_false (a && b)

-- under another id it acknowledges nothing
pub given_some : (past : Past) (id : List ℕ) (number edit : ℕ) → was_given past id number edit ≡ true → 0 < sent past id
given_some past id number edit is = elim (cases_lt 0 (sent past id)) [
  | inl some ↦ some
  | inr none ↦ absurd (no_test _ is (none_given past id number edit (omega (arith, none))))
]

stranger_op : (past : Past) (id : List ℕ) (number : ℕ) → is_text (current past) id ≡ false → is_awaited past id ≡ false →
    (was_given past id number (acknowledged past) && not (has_left past id)) ≡ false
stranger_op past id number other none =
    false_from_ne_true _ (λ is.
    let parts = and_parts (was_given past id number (acknowledged past)) _ is in
    no_test (is_awaited past id)
    (is_awaited_from past id (record { ended = other; some = given_some past id number (acknowledged past) parts.0; not_left = not-true _ parts.1 }))
    none)

other_takes : (line : Line) (id : List ℕ) (number : ℕ) → bytes_eq line.id id ≡ false → takes (id, number) line ≡ false
other_takes line id number h = rw h refl

pub takes_some : (line : Line) (id : List ℕ) (number : ℕ) → takes (id, number) line ≡ true → (line.id ≡ id) × (line.acknowledged < line.sent)
takes_some line id number is =
    let parts = and_parts (bytes_eq line.id id) _ is in
    let rest = and_parts (not line.left) _ parts.1 in
    (same_id line.id id parts.0, ltb-true line.acknowledged line.sent (and_parts (nat_lt line.acknowledged line.sent) _ rest.1).0)

module _ (past : Past) (m : Message) (none : left_in m ≡ None) where
  no_leave : (x : List ℕ) → leaves x m ≡ false
  unfolding leaves
  no_leave x = ap (λ (left : Option (List ℕ)). is_text left (printed (text x))) none

  same_left : (x : List ℕ) → has_left (Heard m ∷ past) x ≡ has_left past x
  unfolding has_left
  same_left x = ap (λ now. now || has_left past x) (no_leave x)

  same_awaited : (x : List ℕ) → is_awaited (Heard m ∷ past) x ≡ is_awaited past x
  same_awaited x = not_left_now past m x (no_leave x)

  -- a line that doesn't take it
  other_line : (line : Line) → IsLine past line → (acknowledged (Heard m ∷ past) ≡ acknowledged past) ⊎ ((line.sent ≡ 0) × (acknowledged (Heard m ∷ past) ≤ length (edits past))) →
      IsLine (Heard m ∷ past) line
  unfolding edits given was_given sent
  other_line line is (inl same) = record {
    sent = is.sent;
    left = is.left ∙ sym (same_left line.id);
    given = λ number edit. is.given number edit ∙ ap (λ first. is_in_turn first line.acknowledged line.sent number edit) (sym same);
    ordered = is.ordered;
    within = omega (arith, is.within, same);
  }
  other_line line is (inr empty) = record {
    sent = is.sent;
    left = is.left ∙ sym (same_left line.id);
    given = λ number edit.
        is.given number edit
        ∙ ap (λ n. is_in_turn (acknowledged past) line.acknowledged n number edit) empty.0
        ∙ none_in_turn (acknowledged past) line.acknowledged number edit
        ∙ sym (none_in_turn (acknowledged (Heard m ∷ past)) line.acknowledged number edit)
        ∙ ap (λ n. is_in_turn (acknowledged (Heard m ∷ past)) line.acknowledged n number edit) (sym empty.0);
    ordered = is.ordered;
    within = omega (arith, empty.0, empty.1, is.ordered);
  }

  -- the one that does
  taking_line : (line : Line) → IsLine past line → line.acknowledged < line.sent → acknowledged (Heard m ∷ past) ≡ acknowledged past + 1 →
      IsLine (Heard m ∷ past) (acknowledged_one line)
  unfolding edits given was_given sent
  taking_line line is some more = record {
    sent = is.sent;
    left = is.left ∙ sym (same_left line.id);
    given = λ number edit.
        is.given number edit
        ∙ acknowledged_in_turn (acknowledged past) line.acknowledged line.sent number edit
        ∙ ap (λ first. is_in_turn first (line.acknowledged + 1) line.sent number edit) (sym more);
    ordered = omega (arith, some);
    within = omega (arith, is.within, more);
  }

-- whether it is acknowledged, by what is kept
abbrev pub counts : Past → Message → Bool
counts past m = acknowledges past (acknowledged past) (op_of m)

pub acknowledged_at : (past : Past) (m : Message) (counted : Bool) → counts past m ≡ counted → acknowledged (Heard m ∷ past) ≡ (if counted then acknowledged past + 1 else acknowledged past)
unfolding acknowledged
acknowledged_at past m counted is = rw is refl

pub counts_op : (past : Past) (m : Message) (id : List ℕ) (number : ℕ) → op_of m ≡ Some (id, number) →
    counts past m ≡ (was_given past id number (acknowledged past) && not (has_left past id))
counts_op past m id number op = ap (acknowledges past (acknowledged past)) op

-- with its parts: what is kept of both ids
module _ (o : AnOutbox) (past : Past) (m : Message) (is : Stands o past) (none : left_in m ≡ None) (id : List ℕ) (number : ℕ) (op : op_of m ≡ Some (id, number)) where
  abbrev now : Past
  now = Heard m ∷ past

  own_text : (kept : Option Line) → o.current ≡ kept → is_text (current past) id ≡ is_text (id_of kept) id
  own_text kept k = ap (λ (c : Option (List ℕ)). is_text c id) (sym is.own ∙ ap id_of k)

  awaited_text : (kept : Option Line) → o.awaited ≡ kept → is_awaited past id ≡ is_text (id_of kept) id
  awaited_text kept k = is.awaited id ∙ ap (λ (k : Option Line). is_text (id_of k) id) k

  -- the op counts exactly where one of the two takes it
  counts_at : (cur aw : Option Line) → o.current ≡ cur → o.awaited ≡ aw → (c a : Bool) → is_text (id_of cur) id ≡ c → is_text (id_of aw) id ≡ a →
      counts past m ≡ (any_takes (id, number) aw || any_takes (id, number) cur)
  counts_at None None k l c a hc ha =
      counts_op past m id number op ∙ stranger_op past id number (own_text None k) (awaited_text None l)
  counts_at None (Some line) k l c true hc ha =
      let was : IsLine past line = rw l at is.awaited_line in
      let own : id ≡ line.id = sym (same_id line.id id ha) in
      counts_op past m id number op ∙ rw own (takes_is past line number was ∙ sym (or_none (takes (line.id, number) line)))
    where
      or_none : (x : Bool) → (x || false) ≡ x
      or_none true = refl
      or_none false = refl
  counts_at None (Some line) k l c false hc ha =
      counts_op past m id number op ∙ stranger_op past id number (own_text None k) (awaited_text (Some line) l ∙ ha) ∙ sym (rw (other_takes line id number ha) refl)
  counts_at (Some line) None k l true a hc ha =
      let was : IsLine past line = rw k at is.current_line in
      let own : id ≡ line.id = sym (same_id line.id id hc) in
      counts_op past m id number op ∙ rw own (takes_is past line number was)
  counts_at (Some line) None k l false a hc ha =
      counts_op past m id number op ∙ stranger_op past id number (own_text (Some line) k ∙ hc) (awaited_text None l) ∙ sym (other_takes line id number hc)
  counts_at (Some line) (Some other) k l c true hc ha =
      let was : IsLine past other = rw l at is.awaited_line in
      let own : id ≡ other.id = sym (same_id other.id id ha) in
      let empty : line.sent ≡ 0 = rw (k, l) at is.alone in
      let no : takes (other.id, number) line ≡ false = false_from_ne_true _ (λ so. omega (arith, empty, (takes_some line other.id number so).1)) in
      counts_op past m id number op ∙ rw own (takes_is past other number was ∙ sym (rw no (or_none (takes (other.id, number) other))))
    where
      or_none : (x : Bool) → (x || false) ≡ x
      or_none true = refl
      or_none false = refl
  counts_at (Some line) (Some other) k l true false hc ha =
      let was : IsLine past line = rw k at is.current_line in
      let own : id ≡ line.id = sym (same_id line.id id hc) in
      let no : takes (id, number) other ≡ false = other_takes other id number ha in
      counts_op past m id number op ∙ sym (rw no (sym (rw own (takes_is past line number was))))
  counts_at (Some line) (Some other) k l false false hc ha =
      counts_op past m id number op ∙ stranger_op past id number (own_text (Some line) k ∙ hc) (awaited_text (Some other) l ∙ ha)
      ∙ sym (rw (other_takes other id number ha, other_takes line id number hc) refl)

  counted : (aw cur : Bool) → any_takes (id, number) o.awaited ≡ aw → any_takes (id, number) o.current ≡ cur → counts past m ≡ (aw || cur)
  counted aw cur ha hc =
      counts_at o.current o.awaited refl refl (is_text (id_of o.current) id) (is_text (id_of o.awaited) id) refl refl ∙ rw (ha, hc) refl

  -- what is kept afterwards
  record Kept (current awaited : Option Line) : Type 0 where
    current_id : id_of current ≡ id_of o.current
    awaited_id : id_of awaited ≡ id_of o.awaited
    current_line : IfSome current (IsLine now)
    awaited_line : IfSome awaited (IsLine now)
    alone : IsAlone current awaited

  neither : acknowledged now ≡ acknowledged past → Kept o.current o.awaited
  neither same = record {
    current_id = refl;
    awaited_id = refl;
    current_line = if_some_map (IsLine past) (IsLine now) o.current (λ line was. other_line past m none line was (inl same)) is.current_line;
    awaited_line = if_some_map (IsLine past) (IsLine now) o.awaited (λ line was. other_line past m none line was (inl same)) is.awaited_line;
    alone = is.alone;
  }

  -- the awaited one takes it
  within : (line : Line) → IsLine past line → line.acknowledged < line.sent → acknowledged past + 1 ≤ length (edits past)
  within line was some = omega (arith, was.within, some)

  awaited_takes : (cur aw : Option Line) → o.current ≡ cur → o.awaited ≡ aw → any_takes (id, number) aw ≡ true → acknowledged now ≡ acknowledged past + 1 →
      Kept cur (option_map acknowledged_one aw) × (acknowledged past + 1 ≤ length (edits past))
  awaited_takes cur None k l so more = absurd (cc)
  awaited_takes None (Some line) k l so more =
      let was : IsLine past line = rw l at is.awaited_line in
      let some = (takes_some line id number so).1 in (
        record {
          current_id = ap id_of (sym k);
          awaited_id = ap id_of (sym l);
          current_line = tt;
          awaited_line = taking_line past m none line was some more;
          alone = tt;
        },
        within line was some,
      )
  awaited_takes (Some other) (Some line) k l so more =
      let was : IsLine past line = rw l at is.awaited_line in
      let others : IsLine past other = rw k at is.current_line in
      let some = (takes_some line id number so).1 in
      let empty : other.sent ≡ 0 = rw (k, l) at is.alone in (
        record {
          current_id = ap id_of (sym k);
          awaited_id = ap id_of (sym l);
          current_line = other_line past m none other others (inr (empty, omega (arith, more, within line was some)));
          awaited_line = taking_line past m none line was some more;
          alone = empty;
        },
        within line was some,
      )

  current_takes : (cur aw : Option Line) → o.current ≡ cur → o.awaited ≡ aw → any_takes (id, number) cur ≡ true → acknowledged now ≡ acknowledged past + 1 →
      Kept (option_map acknowledged_one cur) aw × (acknowledged past + 1 ≤ length (edits past))
  current_takes None aw k l so more = absurd (cc)
  current_takes (Some line) None k l so more =
      let was : IsLine past line = rw k at is.current_line in
      let some = (takes_some line id number so).1 in (
        record {
          current_id = ap id_of (sym k);
          awaited_id = ap id_of (sym l);
          current_line = taking_line past m none line was some more;
          awaited_line = tt;
          alone = tt;
        },
        within line was some,
      )
  current_takes (Some line) (Some other) k l so more =
      let empty : line.sent ≡ 0 = rw (k, l) at is.alone in
      absurd (omega (arith, empty, (takes_some line id number so).1))

  stands_same : (aw cur : Option Line) → Kept cur aw → acknowledged now ≡ acknowledged past →
      Stands (record o { current = cur; awaited = aw; heard_to = m.number }) now
  unfolding edits ids heard_to current given sent
  stands_same aw cur kept same = record {
    pending = is.pending ∙ ap (λ n. drop n (edits past)) (sym same);
    counted = is.counted ∙ sym same;
    few = omega (arith, is.few, same);
    heard = refl;
    own = kept.current_id ∙ is.own;
    current_line = kept.current_line;
    awaited_line = kept.awaited_line;
    awaited = λ x. same_awaited past m none x ∙ is.awaited x ∙ ap (λ (i : Option (List ℕ)). is_text i x) (sym kept.awaited_id);
    alone = kept.alone;
    strangers = is.strangers;
  }

  stands_more : (aw cur : Option Line) → Kept cur aw → acknowledged now ≡ acknowledged past + 1 → acknowledged past + 1 ≤ length (edits past) →
      Stands (record (taken o) { current = cur; awaited = aw; heard_to = m.number }) now
  unfolding edits ids heard_to current given sent
  stands_more aw cur kept more room = record {
    pending =
        ap (λ (xs : List Tree). drop 1 xs) is.pending ∙ drop-drop 1 (acknowledged past) (edits past) ∙ ap (λ n. drop n (edits past)) (sym more);
    counted = ap (λ n. n + 1) is.counted ∙ sym more;
    few = omega (arith, room, more);
    heard = refl;
    own = kept.current_id ∙ is.own;
    current_line = kept.current_line;
    awaited_line = kept.awaited_line;
    awaited = λ x. same_awaited past m none x ∙ is.awaited x ∙ ap (λ (i : Option (List ℕ)). is_text i x) (sym kept.awaited_id);
    alone = kept.alone;
    strangers = is.strangers;
  }

  stands_at : (aw cur : Bool) → any_takes (id, number) o.awaited ≡ aw → any_takes (id, number) o.current ≡ cur →
      Stands (record (if aw then record (taken o) { awaited = option_map acknowledged_one o.awaited }
      else (if cur then record (taken o) { current = option_map acknowledged_one o.current } else o)) { heard_to = m.number }) now
  stands_at true cur ha hc =
      let more = acknowledged_at past m true (counted true cur ha hc) in
      let taking = awaited_takes o.current o.awaited refl refl ha more in
      stands_more (option_map acknowledged_one o.awaited) o.current taking.0 more taking.1
  stands_at false true ha hc =
      let more = acknowledged_at past m true (counted false true ha hc) in
      let taking = current_takes o.current o.awaited refl refl hc more in
      stands_more o.awaited (option_map acknowledged_one o.current) taking.0 more taking.1
  stands_at false false ha hc =
      let same = acknowledged_at past m false (counted false false ha hc) in
      stands_same o.awaited o.current (neither same) same

-- ---- any message

unless_none : (kept : Option Line) → unless_left None kept ≡ kept
unless_none None = refl
unless_none (Some line) = refl

noted_none : (kept : Option Line) → option_map (noted None) kept ≡ kept
noted_none None = refl
noted_none (Some line) = refl

-- nothing is changed by no leave
pub no_leave_same : (o : AnOutbox) → after_leave o None ≡ o
no_leave_same o = λ i. record o { awaited = unless_none o.awaited i; current = noted_none o.current i }

op_at : (o : AnOutbox) (past : Past) (m : Message) (op : Option (List ℕ × ℕ)) → op_of m ≡ op → left_in m ≡ None → Stands o past →
    Stands (record (after_op o op) { heard_to = m.number }) (Heard m ∷ past)
op_at o past m None is none stands =
    subst (λ (k : AnOutbox). Stands (record k { heard_to = m.number }) (Heard m ∷ past)) (ap (after_leave o) none ∙ no_leave_same o) (stands_left o past m is stands)
op_at o past m (Some (id, number)) is none stands =
    stands_at o past m stands none id number is (any_takes (id, number) o.awaited) (any_takes (id, number) o.current) refl refl

pub stands_heard : (o : AnOutbox) (past : Past) (m : Message) → Stands o past → Stands (after_heard o m) (Heard m ∷ past)
stands_heard o past m is = elim (not_both m) [
  | inl no_op ↦
      subst (λ (op : Option (List ℕ × ℕ)). Stands (record (after_leave (after_op o op) (left_in m)) { heard_to = m.number }) (Heard m ∷ past)) (sym no_op)
      (stands_left o past m no_op is)
  | inr no_leave ↦
      subst (λ (k : AnOutbox). Stands (record k { heard_to = m.number }) (Heard m ∷ past))
      (sym (ap (after_leave (after_op o (op_of m))) no_leave ∙ no_leave_same (after_op o (op_of m))))
      (op_at o past m (op_of m) refl no_leave is)
]
