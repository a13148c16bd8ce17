-- What `next` gives, and that the outbox stands for the calls with it.
use Rattle.std.proofs.Common.{◌≡◌, ℕ, ◌+◌, ◌-◌, ◌<◌, ◌≤◌, nat_le, nat_lt, ◌==◌, Bool, true, false, not, ◌&&◌, ◌||◌, if◌then◌else◌, List, [], ◌∷◌, length, filter, get_or, Option, Some, None, is_some, option_map, refl, sym, ◌∙◌, ap, subst, bytes_eq, arith, inl, inr}
use Rattle.std.specs.List.{list_any}
use Rattle.std.proofs.lemmas.Bool.{le-leb, lt-leb, ltb-true, ltb-false, eq-eqb, and_parts, and_from, or_cases, or_left, or_right, false_from_ne_true, cases_lt, and_left}
use Rattle.std.proofs.lemmas.List.{length-drop, get_or-drop}
use Rattle.fluid_json.specs.Tree.{Tree, null}
use Rattle.fluid_types.specs.declared.entries.Submission.{Submission}
use Rattle.fluid_rules.specs.Past.{has_id}
use Rattle.fluid_rules.proofs.Ids.{same_id, own_id, and_false}
use Rattle.fluid_outbox.specs.declared.line.Line.{Line}
use Rattle.fluid_outbox.specs.Past.{Given, Gave, Past, edits, ids, heard_to, current, given, is_sent, was_given, sent, has_left, is_awaited, awaits, may_send, acknowledged, is_out, waits, first_waiting, op_with, given_of, next, is_text}
use Rattle.fluid_outbox.specs.Kept.{AnOutbox, IsLine, IsAlone, Stands, with_sent, sent_one, to_send_under, to_send, id_of}
use Rattle.fluid_outbox.proofs.Tests.{no_test, InTurn, in_turn-true, true-in_turn, one_more_in_turn, none_any, find_from, find_none}
use Rattle.fluid_outbox.proofs.Stands.{is_awaited_from, own_awaited, current_known}

pub some_is : {X : Type 0} (x y : X) → Some x ≡ Some y → x ≡ y
some_is x y is = cc

-- ---- lists

pub any_more : {X : Type 0} (p q : X → Bool) (xs : List X) → ((x : X) → p x ≡ true → q x ≡ true) → list_any p xs ≡ true → list_any q xs ≡ true
any_more p q [] more h = h
any_more p q (x ∷ xs) more h = elim (or_cases (p x) (list_any p xs) h) [
  | inl here ↦ or_left (q x) (list_any q xs) (more x here)
  | inr there ↦ or_right (q x) (list_any q xs) (any_more p q xs more there)
]

-- one that passes a test is among those that pass one of its own
pub any_own : {X : Type 0} (q : X → Bool) (p : X → X → Bool) (xs : List X) → ((x : X) → q x ≡ true → p x x ≡ true) → list_any q xs ≡ true →
    (x : X) × ((q x ≡ true) × (list_any (p x) xs ≡ true))
any_own q p [] own h = absurd (cc)
any_own q p (x ∷ xs) own h = elim (or_cases (q x) (list_any q xs) h) [
  | inl here ↦ (x, (here, or_left (p x x) (list_any (p x) xs) (own x here)))
  | inr there ↦
      let found = any_own q p xs own there in
      (found.0, (found.1.0, or_right (p found.0 x) (list_any (p found.0) xs) found.1.1))
]

any_under : (p : List ℕ → Bool) (id : List ℕ) (gs : List Given) → p id ≡ true → 0 < length (filter (λ given. bytes_eq given.id id) gs) →
    list_any (λ given. p given.id) gs ≡ true
any_under p id [] so some = absurd (omega (arith, some))
any_under p id (g ∷ gs) so some = at (bytes_eq g.id id) (any_under p id gs so) refl
  where
    at : (own : Bool) → (0 < length (filter (λ given. bytes_eq given.id id) gs) → list_any (λ given. p given.id) gs ≡ true) → bytes_eq g.id id ≡ own →
        list_any (λ given. p given.id) (g ∷ gs) ≡ true
    at true later h = or_left (p g.id) (list_any (λ given. p given.id) gs) (ap p (same_id g.id id h) ∙ so)
    at false later h =
        let more : 0 < length (filter (λ given. bytes_eq given.id id) gs) = rw h at some in
        or_right (p g.id) (list_any (λ given. p given.id) gs) (later more)

-- ---- whether an edit may be sent

awaits_at : (o : AnOutbox) (past : Past) (kept : Option Line) → o.awaited ≡ kept → Stands o past → awaits past ≡ is_some kept
unfolding awaits sent
awaits_at o past None kept is =
    none_any (λ (g : Given). is_awaited past g.id) (given past) (λ g. is.awaited g.id ∙ ap (λ (k : Option Line). is_text (id_of k) g.id) kept)
awaits_at o past (Some line) kept is =
    let own = own_awaited o past line is kept in
    any_under (is_awaited past) line.id (given past) (is_awaited_from past line.id own) own.some

some_id : (kept : Option Line) → is_some (id_of kept) ≡ is_some kept
some_id None = refl
some_id (Some line) = refl

pub may_send_is : (o : AnOutbox) (past : Past) → Stands o past → may_send past ≡ is_some o.current && not (is_some o.awaited)
unfolding may_send
may_send_is o past is = rw (← is.own, some_id o.current, awaits_at o past o.awaited refl is) refl

-- ---- the first edit that waits

module _ (o : AnOutbox) (past : Past) (line : Line) (is : Stands o past) (kept : o.current ≡ Some line) (none : o.awaited ≡ None) where
  own : current past ≡ Some line.id
  own = sym is.own ∙ ap id_of kept

  was : IsLine past line
  was = rw kept at is.current_line

  abbrev on_their_way : ℕ
  on_their_way = line.sent - line.acknowledged

  abbrev place : ℕ
  place = acknowledged past + on_their_way

  none_awaited : (x : List ℕ) → is_awaited past x ≡ false
  none_awaited x = is.awaited x ∙ ap (λ (k : Option Line). is_text (id_of k) x) none

  out_is : (number edit : ℕ) → InTurn (acknowledged past) line.acknowledged line.sent number edit → is_out past edit ≡ true
  unfolding is_out was_given
  out_is number edit turn =
      any_more
      (λ (g : Given). is_sent line.id number g && (g.edit == edit))
      (λ (g : Given). (g.edit == edit) && (is_text (current past) g.id || is_awaited past g.id))
      (given past)
      (λ g so.
      let parts = and_parts (is_sent line.id number g) (g.edit == edit) so in
      let ids = same_id g.id line.id (and_parts (bytes_eq g.id line.id) _ parts.0).0 in
      let mine : is_text (current past) g.id ≡ true = rw (own, ids) (own_id line.id) in
      and_from (g.edit == edit) _ parts.1 (or_left _ _ mine))
      (was.given number edit ∙ true-in_turn (acknowledged past) line.acknowledged line.sent number edit turn)

  is_out-turn : (edit : ℕ) → is_out past edit ≡ true → (number : ℕ) × InTurn (acknowledged past) line.acknowledged line.sent number edit
  unfolding is_out was_given
  is_out-turn edit out =
      let found =
      any_own
      (λ (g : Given). (g.edit == edit) && (is_text (current past) g.id || is_awaited past g.id))
      (λ (g h : Given). is_sent line.id g.submission.client_number h && (h.edit == edit))
      (given past)
      (λ g so.
      let parts = and_parts (g.edit == edit) _ so in
      let mine : bytes_eq line.id g.id ≡ true = elim (or_cases (is_text (current past) g.id) (is_awaited past g.id) parts.1) [
        | inl current ↦ rw own at current
        | inr awaited ↦ absurd (no_test _ awaited (none_awaited g.id))
      ] in
      let ids : bytes_eq g.id line.id ≡ true = ap (λ x. bytes_eq x line.id) (sym (same_id line.id g.id mine)) ∙ own_id line.id in
      and_from _ (g.edit == edit)
      (and_from (bytes_eq g.id line.id) _ ids (eq-eqb g.submission.client_number g.submission.client_number refl)) parts.0)
      out in (
        found.0.submission.client_number,
        in_turn-true (acknowledged past) line.acknowledged line.sent found.0.submission.client_number edit
            (sym (was.given found.0.submission.client_number edit) ∙ found.1.1),
      )

  waits_not : (n : ℕ) → n < place → waits past n ≡ false
  waits_not n below = elim (cases_lt n (acknowledged past)) [
    | inl done ↦ and_left _ _ (lt-leb (acknowledged past) n done)
    | inr not_done ↦
        let turn : InTurn (acknowledged past) line.acknowledged line.sent (n + line.acknowledged + 1 - acknowledged past) n =
        record { from_one = omega (arith, not_done); was_sent = omega (arith, below, not_done, was.ordered); at = omega (arith, not_done) } in
        rw (out_is _ n turn) (and_false (nat_le (acknowledged past) n))
  ]

  waits_at : waits past place ≡ true
  waits_at =
      let not_out : is_out past place ≡ false = false_from_ne_true _ (λ out.
      let turn = is_out-turn place out in
      omega (arith, turn.1.was_sent, turn.1.at, was.ordered)) in
      rw (not_out, le-leb (acknowledged past) place (omega arith)) refl

  pub first_waiting_is : place < length (edits past) → first_waiting past ≡ Some place
  unfolding first_waiting
  first_waiting_is within =
      find_from (waits past) 0 (length (edits past)) place (omega arith) (omega (arith, within)) (λ n above below. waits_not n below) waits_at

  pub first_waiting_none : length (edits past) ≤ place → first_waiting past ≡ None
  unfolding first_waiting
  first_waiting_none over =
      find_none (waits past) 0 (length (edits past)) (λ n above below. waits_not n (omega (arith, below, over)))

  -- ---- what `next` gives

  may : may_send past ≡ true
  may = may_send_is o past is ∙ rw (kept, none) refl

  pub pending_length : length o.pending + acknowledged past ≡ length (edits past)
  pending_length = omega (arith, ap (λ (xs : List Tree). length xs) is.pending, length-drop (acknowledged past) (edits past), is.few)

  content_is : on_their_way < length o.pending → get_or (edits past) place null ≡ get_or o.pending on_their_way null
  content_is within =
      sym (get_or-drop (acknowledged past) (edits past) on_their_way null) ∙ ap (λ (xs : List Tree). get_or xs on_their_way null) (sym is.pending)

  pub next_some : (reference : ℕ) → on_their_way < length o.pending →
      next past reference
      ≡ Some (record { id = line.id; edit = place; submission = op_with (line.sent + 1) reference (get_or o.pending on_their_way null) })
  unfolding next
  next_some reference within =
      rw (may, own, first_waiting_is (omega (arith, within, pending_length)), ← was.sent, content_is within) refl

  pub next_none : (reference : ℕ) → length o.pending ≤ on_their_way → next past reference ≡ None
  unfolding next
  next_none reference over = rw (may, own, first_waiting_none (omega (arith, over, pending_length))) refl

pub next_awaited : (o : AnOutbox) (past : Past) (line : Line) (reference : ℕ) → Stands o past → o.awaited ≡ Some line → next past reference ≡ None
unfolding next
next_awaited o past line reference is kept =
    let no : may_send past ≡ false = may_send_is o past is ∙ rw kept (and_false (is_some o.current)) in
    rw no refl

pub next_no_id : (o : AnOutbox) (past : Past) (reference : ℕ) → Stands o past → o.current ≡ None → next past reference ≡ None
unfolding next
next_no_id o past reference is kept =
    let no : may_send past ≡ false = may_send_is o past is ∙ rw kept refl in
    rw no refl

sent_at : (o : AnOutbox) (past : Past) (reference : ℕ) (line : Line) (room : Bool) → Stands o past → o.current ≡ Some line → o.awaited ≡ None →
    nat_lt (line.sent - line.acknowledged) (length o.pending) ≡ room →
    option_map (λ (g : Given). g.submission) (next past reference)
    ≡ (if room then Some (op_with (line.sent + 1) reference (get_or o.pending (line.sent - line.acknowledged) null)) else None)
sent_at o past reference line true is kept none room =
    ap (λ (g : Option Given). option_map (λ (g : Given). g.submission) g)
    (next_some o past line is kept none reference (ltb-true (line.sent - line.acknowledged) (length o.pending) room))
sent_at o past reference line false is kept none room =
    ap (λ (g : Option Given). option_map (λ (g : Given). g.submission) g)
    (next_none o past line is kept none reference (ltb-false (line.sent - line.acknowledged) (length o.pending) room))

sent_by : (o : AnOutbox) (past : Past) (reference : ℕ) (cur aw : Option Line) → Stands o past → o.current ≡ cur → o.awaited ≡ aw →
    option_map (λ (g : Given). g.submission) (next past reference) ≡ (if is_some aw then None else to_send_under o reference cur)
sent_by o past reference cur (Some line) is mine kept = ap (λ (g : Option Given). option_map (λ (g : Given). g.submission) g) (next_awaited o past line reference is kept)
sent_by o past reference None None is mine kept = ap (λ (g : Option Given). option_map (λ (g : Given). g.submission) g) (next_no_id o past reference is mine)
sent_by o past reference (Some line) None is mine kept =
    sent_at o past reference line (nat_lt (line.sent - line.acknowledged) (length o.pending)) is mine kept refl

-- what is given is what is sent
pub sent_is : (o : AnOutbox) (past : Past) (reference : ℕ) → Stands o past → option_map (λ (g : Given). g.submission) (next past reference) ≡ to_send o reference
sent_is o past reference is = sent_by o past reference o.current o.awaited is refl refl

-- ---- one more is on its way

pub record IsNext (past : Past) (reference : ℕ) (g : Given) : Type 0 where
  pub may : may_send past ≡ true
  pub own : current past ≡ Some g.id
  pub first : first_waiting past ≡ Some g.edit
  pub submission : g.submission ≡ op_with (sent past g.id + 1) reference (get_or (edits past) g.edit null)

next_at : (past : Past) (reference : ℕ) (g : Given) (may : Bool) (own : Option (List ℕ)) (waiting : Option ℕ) →
    may_send past ≡ may → current past ≡ own → first_waiting past ≡ waiting →
    (if may then given_of past reference own waiting else None) ≡ Some g → IsNext past reference g
next_at past reference g true (Some id) (Some edit) may own waiting is =
    let same = some_is _ g is in
    record {
      may = may;
      own = own ∙ ap (λ (g : Given). Some g.id) same;
      first = waiting ∙ ap (λ (g : Given). Some g.edit) same;
      submission =
          sym (ap (λ (g : Given). g.submission) same)
          ∙ ap (λ (g : Given). op_with (sent past g.id + 1) reference (get_or (edits past) g.edit null)) same;
    }
next_at past reference g true None waiting may own wait is = absurd (cc)
next_at past reference g true (Some id) None may own wait is = absurd (cc)
next_at past reference g false own waiting may is_own wait is = absurd (cc)

pub next_is : (past : Past) (reference : ℕ) (g : Given) → next past reference ≡ Some g → IsNext past reference g
unfolding next
next_is past reference g is = next_at past reference g (may_send past) (current past) (first_waiting past) refl refl refl is

gave_line : (past : Past) (g : Given) (line : Line) → IsLine past line → g.id ≡ line.id → g.submission.client_number ≡ line.sent + 1 →
    g.edit + line.acknowledged ≡ acknowledged past + line.sent → g.edit < length (edits past) → IsLine (Gave g ∷ past) (sent_one line)
unfolding edits given was_given sent has_left acknowledged
gave_line past g line is ids number place within = record {
  sent = rw (ids, own_id line.id) (omega (arith, is.sent));
  left = is.left;
  given = λ n edit.
      rw (ids, own_id line.id, number, is.given n edit)
      (one_more_in_turn (acknowledged past) line.acknowledged line.sent n edit g.edit place is.ordered);
  ordered = omega (arith, is.ordered);
  within = omega (arith, place, within);
}

gave_strangers : (past : Past) (g : Given) (x : List ℕ) → current past ≡ Some g.id → has_id x (ids past) ≡ false → sent past x ≡ 0 → sent (Gave g ∷ past) x ≡ 0
unfolding sent given
gave_strangers past g x own unknown none = at (bytes_eq g.id x) refl
  where
    at : (same : Bool) → bytes_eq g.id x ≡ same → length (filter (λ given. bytes_eq given.id x) (g ∷ given past)) ≡ 0
    at true h =
        absurd (no_test (has_id x (ids past)) (ap (λ y. has_id y (ids past)) (sym (same_id g.id x h)) ∙ current_known past g.id own) unknown)
    at false h = rw h none

gave_awaited : (past : Past) (g : Given) (x : List ℕ) → current past ≡ Some g.id → is_awaited (Gave g ∷ past) x ≡ is_awaited past x
unfolding sent given is_awaited current has_left
gave_awaited past g x own = at (bytes_eq g.id x) refl
  where
    at : (same : Bool) → bytes_eq g.id x ≡ same → is_awaited (Gave g ∷ past) x ≡ is_awaited past x
    at true h = rw (own, h) refl
    at false h = rw h refl

-- what is kept of the current id
pub record HasLine (o : AnOutbox) (id : List ℕ) : Type 0 where
  pub line : Line
  pub kept : o.current ≡ Some line
  pub id_is : line.id ≡ id

pub has_line : (o : AnOutbox) (id : List ℕ) (kept : Option Line) → o.current ≡ kept → id_of kept ≡ Some id → HasLine o id
has_line o id None kept is = absurd (cc)
has_line o id (Some line) kept is = record { line = line; kept = kept; id_is = some_is line.id id is }

none_kept : (kept : Option Line) (some : Bool) → (some && not (is_some kept)) ≡ true → kept ≡ None
none_kept None some is = refl
none_kept (Some line) some is = absurd (no_test _ is (and_false some))

alone_none : (current awaited : Option Line) → awaited ≡ None → IsAlone current awaited
alone_none None awaited is = tt
alone_none (Some line) awaited is = rw is tt

pub stands_gave : (o : AnOutbox) (past : Past) (reference : ℕ) (g : Given) → Stands o past → next past reference ≡ Some g → Stands (with_sent o) (Gave g ∷ past)
unfolding edits ids heard_to current given sent acknowledged
stands_gave o past reference g is gave =
    let it = next_is past reference g gave in
    let none : o.awaited ≡ None = none_kept o.awaited (is_some o.current) (sym (may_send_is o past is) ∙ it.may) in
    let has = has_line o g.id o.current refl (is.own ∙ it.own) in
    let line = has.line in
    let was : IsLine past line = rw has.kept at is.current_line in
    let at : (acknowledged past + (line.sent - line.acknowledged) ≡ g.edit) × (g.edit < length (edits past)) =
    elim (cases_lt (acknowledged past + (line.sent - line.acknowledged)) (length (edits past))) [
      | inl within ↦
          let same = some_is _ g.edit (sym (first_waiting_is o past line is has.kept none within) ∙ it.first) in
          (same, subst (λ n. n < length (edits past)) same within)
      | inr over ↦ absurd (let no : None ≡ Some g.edit = sym (first_waiting_none o past line is has.kept none over) ∙ it.first in cc)
    ] in
    let number : g.submission.client_number ≡ line.sent + 1 =
    ap (λ (s : Submission). s.client_number) it.submission ∙ ap (λ x. sent past x + 1) (sym has.id_is) ∙ ap (λ n. n + 1) (sym was.sent) in
    let more = gave_line past g line was (sym has.id_is) number (omega (arith, at.0, was.ordered)) at.1 in
    record {
      pending = is.pending;
      counted = is.counted;
      few = is.few;
      heard = is.heard;
      own = rw has.kept (ap Some has.id_is ∙ sym it.own);
      current_line = rw has.kept more;
      awaited_line = rw none tt;
      awaited = λ x. gave_awaited past g x it.own ∙ is.awaited x;
      alone = alone_none (option_map sent_one o.current) o.awaited none;
      strangers = λ x unknown. gave_strangers past g x it.own unknown (is.strangers x unknown);
    }
