-- An outbox stands for the calls, one call after another: edits, ids, losses and what `next` gives.
use Rattle.std.proofs.Common.{◌≡◌, ℕ, suc, ◌<◌, ◌≤◌, nat_lt, ◌==◌, Bool, true, false, not, ◌&&◌, ◌||◌, if◌then◌else◌, List, [], ◌∷◌, ◌++◌, length, filter, Option, Some, None, refl, sym, ◌∙◌, ap, bytes_eq, arith, IfSome, length-append}
use Rattle.std.specs.List.{list_any}
use Rattle.std.proofs.lemmas.Bool.{ltb-true, lt-ltb, and_parts, or_right, not-true}
use Rattle.std.proofs.lemmas.List.{drop-append-le}
use Rattle.fluid_json.specs.Tree.{Tree}
use Rattle.fluid_rules.specs.Past.{has_id}
use Rattle.fluid_rules.proofs.Ids.{same_id, own_id, and_false}
use Rattle.fluid_rules.proofs.Joined.{some_same}
use Rattle.fluid_outbox.specs.declared.line.Line.{Line}
use Rattle.fluid_outbox.specs.Past.{Given, Pushed, Joined, Gave, Heard, Lost, Past, edits, ids, heard_to, current, given, is_sent, was_given, sent, has_left, is_awaited, acknowledged, is_text}
use Rattle.fluid_outbox.specs.Kept.{AnOutbox, IsLine, IsAlone, Stands, empty, with_edit, with_id, begun, without_id, after_lost, id_of}
use Rattle.fluid_outbox.proofs.Tests.{no_test, none_in_turn, if_some_map}

-- ---- the first call

pub stands_none : Stands empty []
unfolding edits ids heard_to current given was_given sent has_left is_awaited acknowledged
stands_none = record {
  pending = refl;
  counted = refl;
  few = omega arith;
  heard = refl;
  own = refl;
  current_line = tt;
  awaited_line = tt;
  awaited = λ id. refl;
  alone = tt;
  strangers = λ id new. refl;
}

-- ---- an edit more

pushed_line : (past : Past) (contents : Tree) (line : Line) → IsLine past line → IsLine (Pushed contents ∷ past) line
unfolding edits given was_given sent has_left acknowledged
pushed_line past contents line is = record {
  sent = is.sent;
  left = is.left;
  given = is.given;
  ordered = is.ordered;
  within = omega (arith, is.within, length-append (edits past) (contents ∷ []));
}

pub stands_pushed : (o : AnOutbox) (past : Past) (contents : Tree) → Stands o past → Stands (with_edit o contents) (Pushed contents ∷ past)
unfolding edits ids heard_to current given was_given sent has_left is_awaited acknowledged
stands_pushed o past contents is = record {
  pending = ap (λ (rest : List Tree). rest ++ contents ∷ []) is.pending ∙ sym (drop-append-le (acknowledged past) (edits past) (contents ∷ []) is.few);
  counted = is.counted;
  few = omega (arith, is.few, length-append (edits past) (contents ∷ []));
  heard = is.heard;
  own = is.own;
  current_line = if_some_map (IsLine past) (IsLine (Pushed contents ∷ past)) o.current (pushed_line past contents) is.current_line;
  awaited_line = if_some_map (IsLine past) (IsLine (Pushed contents ∷ past)) o.awaited (pushed_line past contents) is.awaited_line;
  awaited = is.awaited;
  alone = is.alone;
  strangers = is.strangers;
}

-- ---- what was sent

-- nothing is given of an id under which nothing was sent
none_given_in : (gs : List Given) (id : List ℕ) (number edit : ℕ) → length (filter (λ given. bytes_eq given.id id) gs) ≡ 0 →
    list_any (λ given. is_sent id number given && (given.edit == edit)) gs ≡ false
none_given_in [] id number edit none = refl
none_given_in (g ∷ gs) id number edit none = at (bytes_eq g.id id) (none_given_in gs id number edit) refl
  where
    at : (own : Bool) → (length (filter (λ given. bytes_eq given.id id) gs) ≡ 0 → list_any (λ given. is_sent id number given && (given.edit == edit)) gs ≡ false) →
        bytes_eq g.id id ≡ own → list_any (λ given. is_sent id number given && (given.edit == edit)) (g ∷ gs) ≡ false
    at true later h = absurd (let more : suc (length (filter (λ given. bytes_eq given.id id) gs)) ≡ 0 = rw h at none in omega (arith, more))
    at false later h =
        let rest : length (filter (λ given. bytes_eq given.id id) gs) ≡ 0 = rw h at none in
        rw h (later rest)

pub none_given : (past : Past) (id : List ℕ) (number edit : ℕ) → sent past id ≡ 0 → was_given past id number edit ≡ false
unfolding was_given sent
none_given past id number edit none = none_given_in (given past) id number edit none

-- an id that is current was joined
pub current_known : (past : Past) (id : List ℕ) → current past ≡ Some id → has_id id (ids past) ≡ true
unfolding current ids
current_known [] id is = absurd (cc)
current_known (Pushed contents ∷ past) id is = current_known past id is
current_known (Joined joined ∷ past) id is = rw (some_same joined id is, own_id id) refl
current_known (Gave edit ∷ past) id is = current_known past id is
current_known (Heard message ∷ past) id is = current_known past id is
current_known (Lost ∷ past) id is = absurd (cc)

pub none_current : (kept : Option Line) → id_of kept ≡ None → kept ≡ None
none_current None is = refl
none_current (Some line) is = absurd (cc)

-- ---- an id more

none_left : (past : Past) (id : List ℕ) → has_left (Joined id ∷ past) id ≡ false
unfolding has_left
none_left past id = rw (own_id id) refl

joined_left : (past : Past) (joined id : List ℕ) → has_left past id ≡ false → has_left (Joined joined ∷ past) id ≡ false
unfolding has_left
joined_left past joined id is = rw is (and_false (not (bytes_eq joined id)))

-- the leave of an awaited id wasn't heard, and edits were sent under it
pub record Awaited (past : Past) (id : List ℕ) : Type 0 where
  pub ended : is_text (current past) id ≡ false
  pub some : 0 < sent past id
  pub not_left : has_left past id ≡ false

pub awaited_is : (past : Past) (id : List ℕ) → is_awaited past id ≡ true → Awaited past id
unfolding is_awaited
awaited_is past id is =
    let parts = and_parts (not (is_text (current past) id)) _ is in
    let rest = and_parts (nat_lt 0 (sent past id)) _ parts.1 in
    record { ended = not-true _ parts.0; some = ltb-true 0 (sent past id) rest.0; not_left = not-true _ rest.1 }

pub is_awaited_from : (past : Past) (id : List ℕ) → Awaited past id → is_awaited past id ≡ true
unfolding is_awaited
is_awaited_from past id is = rw (is.ended, is.not_left, lt-ltb 0 (sent past id) is.some) refl

-- the awaited line's own id is awaited
pub own_awaited : (o : AnOutbox) (past : Past) (line : Line) → Stands o past → o.awaited ≡ Some line → Awaited past line.id
own_awaited o past line is kept =
    awaited_is past line.id (is.awaited line.id ∙ ap (λ (k : Option Line). is_text (id_of k) line.id) kept ∙ own_id line.id)

joined_line : (past : Past) (joined : List ℕ) (line : Line) → has_left past line.id ≡ false → IsLine past line → IsLine (Joined joined ∷ past) line
unfolding edits given was_given sent acknowledged
joined_line past joined line not_left is = record {
  sent = is.sent;
  left = is.left ∙ not_left ∙ sym (joined_left past joined line.id not_left);
  given = is.given;
  ordered = is.ordered;
  within = is.within;
}

begun_line : (past : Past) (id : List ℕ) → sent past id ≡ 0 → acknowledged past ≤ length (edits past) → IsLine (Joined id ∷ past) (begun id)
unfolding edits given was_given sent acknowledged
begun_line past id none few = record {
  sent = sym none;
  left = sym (none_left past id);
  given = λ number edit. none_given past id number edit none ∙ sym (none_in_turn (acknowledged past) 0 number edit);
  ordered = omega arith;
  within = omega (arith, few);
}

awaited_joined : (own : Bool) (past : Past) (id x : List ℕ) → bytes_eq id x ≡ own → current past ≡ None → sent past id ≡ 0 →
    is_awaited (Joined id ∷ past) x ≡ is_awaited past x
unfolding is_awaited current sent given has_left
awaited_joined true past id x h none empty =
    let same : sent past x ≡ 0 = ap (sent past) (sym (same_id id x h)) ∙ empty in
    rw (h, none, same) refl
awaited_joined false past id x h none empty = rw (h, none) refl

joined_awaited : (o : AnOutbox) (past : Past) (id : List ℕ) (kept : Option Line) → o.awaited ≡ kept → Stands o past → IfSome o.awaited (IsLine (Joined id ∷ past))
joined_awaited o past id None is stands = rw is tt
joined_awaited o past id (Some line) is stands =
    let was : IsLine past line = rw is at stands.awaited_line in
    rw is (joined_line past id line (own_awaited o past line stands is).not_left was)

alone_begun : (id : List ℕ) (kept : Option Line) → IsAlone (Some (begun id)) kept
alone_begun id None = tt
alone_begun id (Some line) = refl

known_before : (joined id : List ℕ) (rest : Bool) → (bytes_eq id joined || rest) ≡ false → rest ≡ false
known_before joined id true is = absurd (no_test _ (or_right (bytes_eq id joined) true refl) is)
known_before joined id false is = refl

pub stands_joined : (o : AnOutbox) (past : Past) (id : List ℕ) → Stands o past → o.current ≡ None → has_id id (ids past) ≡ false →
    Stands (with_id o id) (Joined id ∷ past)
unfolding edits ids heard_to current given was_given sent acknowledged
stands_joined o past id is none new =
    let no_current : current past ≡ None = sym is.own ∙ ap id_of none in
    let empty : sent past id ≡ 0 = is.strangers id new in
    record {
      pending = is.pending;
      counted = is.counted;
      few = is.few;
      heard = is.heard;
      own = refl;
      current_line = begun_line past id empty is.few;
      awaited_line = joined_awaited o past id o.awaited refl is;
      awaited = λ x. awaited_joined (bytes_eq id x) past id x refl no_current empty ∙ is.awaited x;
      alone = alone_begun id o.awaited;
      strangers = λ x unknown. is.strangers x (known_before id x (has_id x (ids past)) unknown);
    }

-- ---- the current id is lost

lost_line : (past : Past) (line : Line) → IsLine past line → IsLine (Lost ∷ past) line
unfolding edits given was_given sent has_left acknowledged
lost_line past line is = record { sent = is.sent; left = is.left; given = is.given; ordered = is.ordered; within = is.within }

-- of an id that isn't current
awaited_lost : (past : Past) (x : List ℕ) → is_text (current past) x ≡ false → is_awaited (Lost ∷ past) x ≡ is_awaited past x
unfolding is_awaited current sent given has_left
awaited_lost past x other = rw other refl

awaited_own : (past : Past) (x : List ℕ) → is_awaited (Lost ∷ past) x ≡ (nat_lt 0 (sent past x) && not (has_left past x))
unfolding is_awaited current sent given has_left
awaited_own past x = refl

-- where something was sent under the current id, no other is awaited
pub none_awaited : (line : Line) (kept : Option Line) → IsAlone (Some line) kept → 0 < line.sent → kept ≡ None
none_awaited line None alone some = refl
none_awaited line (Some other) alone some = absurd (omega (arith, alone, some))

module _ (o : AnOutbox) (past : Past) (line : Line) (is : Stands o past) (kept : o.current ≡ Some line) where
  own : current past ≡ Some line.id
  own = sym is.own ∙ ap id_of kept

  was : IsLine past line
  was = rw kept at is.current_line

  alone : IsAlone (Some line) o.awaited
  alone = rw kept at is.alone

  ends : nat_lt 0 line.sent && not line.left ≡ nat_lt 0 (sent past line.id) && not (has_left past line.id)
  ends = rw (was.sent, was.left) refl

  -- it isn't awaited while it is current
  current_no : is_awaited past line.id ≡ false
  unfolding is_awaited
  current_no = rw (own, own_id line.id) refl

  lost_awaited : (is_awaited_now : Bool) → (nat_lt 0 line.sent && not line.left) ≡ is_awaited_now → (same : Bool) (x : List ℕ) → bytes_eq line.id x ≡ same →
      is_awaited (Lost ∷ past) x ≡ is_text (id_of (if is_awaited_now then Some line else o.awaited)) x
  lost_awaited true now true x h =
      let at : x ≡ line.id = sym (same_id line.id x h) in
      awaited_own past x ∙ rw (at, own_id line.id) (sym ends ∙ now)
  lost_awaited true now false x h =
      let some : 0 < line.sent = ltb-true 0 line.sent (and_parts (nat_lt 0 line.sent) _ now).0 in
      let none : o.awaited ≡ None = none_awaited line o.awaited alone some in
      awaited_lost past x (rw own h) ∙ is.awaited x ∙ ap (λ (k : Option Line). is_text (id_of k) x) none ∙ sym h
  lost_awaited false now true x h =
      let at : x ≡ line.id = sym (same_id line.id x h) in
      awaited_own past x ∙ rw at (sym ends ∙ now ∙ sym current_no ∙ is.awaited line.id)
  lost_awaited false now false x h = awaited_lost past x (rw own h) ∙ is.awaited x

  lost_kept : (is_awaited_now : Bool) → IfSome (if is_awaited_now then Some line else o.awaited) (IsLine (Lost ∷ past))
  lost_kept true = lost_line past line was
  lost_kept false = if_some_map (IsLine past) (IsLine (Lost ∷ past)) o.awaited (lost_line past) is.awaited_line

  stands_without : Stands (without_id o (Some line)) (Lost ∷ past)
  unfolding edits ids heard_to current given sent acknowledged
  stands_without = record {
    pending = is.pending;
    counted = is.counted;
    few = is.few;
    heard = is.heard;
    own = refl;
    current_line = tt;
    awaited_line = lost_kept (nat_lt 0 line.sent && not line.left);
    awaited = λ x. lost_awaited (nat_lt 0 line.sent && not line.left) refl (bytes_eq line.id x) x refl;
    alone = tt;
    strangers = is.strangers;
  }

lost_from : (o : AnOutbox) (past : Past) (kept : Option Line) → o.current ≡ kept → Stands o past → Stands (without_id o kept) (Lost ∷ past)
unfolding edits ids heard_to current given sent acknowledged
lost_from o past (Some line) kept is = stands_without o past line is kept
lost_from o past None kept is =
    let no_current : current past ≡ None = sym is.own ∙ ap id_of kept in
    record {
      pending = is.pending;
      counted = is.counted;
      few = is.few;
      heard = is.heard;
      own = ap id_of kept;
      current_line = rw kept tt;
      awaited_line = if_some_map (IsLine past) (IsLine (Lost ∷ past)) o.awaited (lost_line past) is.awaited_line;
      awaited = λ x. awaited_lost past x (ap (λ (c : Option (List ℕ)). is_text c x) no_current) ∙ is.awaited x;
      alone = rw kept tt;
      strangers = is.strangers;
    }

pub stands_lost : (o : AnOutbox) (past : Past) → Stands o past → Stands (after_lost o) (Lost ∷ past)
stands_lost o past is = lost_from o past o.current refl is
