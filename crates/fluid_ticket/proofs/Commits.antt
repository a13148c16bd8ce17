-- What holds behind an entry that was prepared in a sound state.
use Rattle.std.proofs.Common.{◌≡◌, ℕ, ◌+◌, ◌-◌, ◌^◌, ◌<◌, ◌≤◌, ℤ, pos, negsuc, Bool, true, false, cond, List, [], ◌∷◌, ◌++◌, length, Some, None, Option, is_some, bytes_eq, add-zero, Result, Ok, Err, IfOk, refl, sym, ap, subst, ◌∙◌, arith}
use Rattle.std.specs.Prelude.{int_lt}
use Rattle.std.specs.Option.{unwrap_or, option_map}
use Rattle.std.specs.Ordering.{eq_by_cmp}
use Rattle.std.specs.FinMap.{get, get-insert, get-remove}
use Rattle.std.proofs.lemmas.Bool.{false≢true, ltb-false}
use Rattle.std.proofs.lemmas.Option.{none-some, same_Some}
use Rattle.fluid_types.specs.declared.entries.Raw.{Raw}
use Rattle.fluid_types.specs.declared.entries.Raw.TheVariants.{Join, Leave, Submit, Report}
use Rattle.fluid_json.specs.Tree.{Tree}
use Rattle.fluid_json.specs.declared.memory.NoMemory.{NoMemory}
use Rattle.fluid_types.specs.declared.entries.Scopes.{Scopes}
use Rattle.fluid_types.specs.declared.entries.Submission.{Submission}
use Rattle.fluid_types.specs.declared.messages.Message.{Message}
use Rattle.fluid_types.specs.declared.nacks.NackRule.{NackRule}
use Rattle.fluid_types.specs.declared.nacks.NackRule.TheVariants.{Gap, Nonexistent, Below, Ahead, Scope, Unread, NotConnected, ForeignClient, ReadOnly, Full}
use Rattle.fluid_types.specs.declared.verdicts.Verdict.{Verdict}
use Rattle.fluid_types.specs.declared.verdicts.Verdict.TheVariants.{Sequenced, Nacked, Dropped, Absorbed}
use Rattle.fluid_types.specs.Ledger.{Ledger, messages_of}
use Rattle.fluid_rules.specs.Past.{is_below, count_of, read_as}
use Rattle.fluid_rules.specs.Rules as rules
use Rattle.fluid_rules.specs.Rules.{submission_message, unsettled, sequenced, last_minimum_behind}
use Rattle.fluid_rules.specs.declared.answers.Answer.{Answer}
use Rattle.fluid_rules.proofs.Verdicts.{unsettled-number}
use Rattle.fluid_clients.specs.declared.table.Row.{Row}
use Rattle.fluid_clients.specs.Table.{Rows, Table, byte_order, change_row, least}
use Rattle.fluid_clients.proofs.Laws.{byte_order_total, least-change}
use Rattle.fluid_ticket.specs.declared.ready.Change.{Change}
use Rattle.fluid_ticket.specs.declared.ready.Change.TheVariants.{Nothing, Joins, Leaves, Accepts, Holds, Hears}
use Rattle.fluid_ticket.specs.declared.outcome.Outcome.{Outcome}
use Rattle.fluid_ticket.specs.declared.outcome.Outcome.TheVariants.{Duplicate, Refused, Admitted}
use Rattle.fluid_ticket.specs.State.{State, minimum, change_of, changed, after, settled_in, message_in, given_or, outcome, verdict_of, verdict_in, is_absorbed, Prepared, prepared, CanApply, HasMinimumUpTo, IsSound}
use Rattle.fluid_ticket.specs.Ledger.{state_of, StandsFor, IsAnswered}
use Rattle.fluid_ticket.proofs.Outcomes.{admitted_row, below_row}
use Rattle.fluid_ticket.proofs.Sound.{minimum-le-sequence, held_minimum}
use Rattle.fluid_ticket.proofs.Prepares.{reference_is, given_is}
use Rattle.fluid_ticket.proofs.Ledgers.{IsFollowed, get_changed, same_state, state_of-push, verdict-state_of}

-- ---- the table has what the change speaks of

refused_below : (rule : NackRule) → is_below rule ≡ true → rule ≡ Below
refused_below Gap h = absurd (false≢true h)
refused_below Nonexistent h = absurd (false≢true h)
refused_below Below h = refl
refused_below Ahead h = absurd (false≢true h)
refused_below Scope h = absurd (false≢true h)
refused_below (Unread fault) h = absurd (false≢true h)
refused_below NotConnected h = absurd (false≢true h)
refused_below ForeignClient h = absurd (false≢true h)
refused_below ReadOnly h = absurd (false≢true h)
refused_below Full h = absurd (false≢true h)

module _ (s : State) (spare : ℕ) (room : 0 < spare) where
  abbrev table : Table
  table = record { rows = s.rows; spare = spare }

  can_hold : (id : List ℕ) (submission : Submission) (moment : ℕ) (rule : NackRule) (below : Bool) → is_below rule ≡ below → outcome s id submission ≡ Refused rule →
      CanApply (cond below (Holds id submission.client_number (minimum s) moment) (Hears id moment)) table
  can_hold id submission moment rule false h is = tt
  can_hold id submission moment rule true h is =
      let there = below_row s id submission (is ∙ ap Refused (refused_below rule h)) in
      (ap is_some there.1, room)

  can_admit : (id : List ℕ) (submission : Submission) (moment : ℕ) (absorbs : Bool) (m : Message) → outcome s id submission ≡ Admitted →
      CanApply (change_of s (Submit id submission moment) (cond absorbs Absorbed (Sequenced m))) table
  unfolding change_of
  can_admit id submission moment true m is = (ap is_some (admitted_row s id submission is).1, room)
  can_admit id submission moment false m is = (ap is_some (admitted_row s id submission is).1, room)

  can_submit : (id : List ℕ) (submission : Submission) (moment : ℕ) (o : Outcome) → outcome s id submission ≡ o →
      CanApply (change_of s (Submit id submission moment) (verdict_of s id submission moment o)) table
  unfolding change_of
  can_submit id submission moment Duplicate is = tt
  can_submit id submission moment (Refused rule) is = can_hold id submission moment rule (is_below rule) refl is
  can_submit id submission moment Admitted is = can_admit id submission moment (is_absorbed s id submission) _ is

  pub can_apply : (answer : Answer) (raw : Raw) → CanApply (prepared s answer raw).change table
  unfolding prepared verdict_in change_of message_in unsettled
  can_apply answer (Join id scopes detail moment) =
      elim (get s.rows id) as (λ o. get s.rows id ≡ o → CanApply (change_of s (Join id scopes detail moment) (cond (is_some o) Dropped (sequenced (message_in s answer (Join id scopes detail moment))))) table) [
        | None ↦ λ there. (there, room)
        | Some row ↦ λ there. tt
      ] refl
  can_apply answer (Leave id moment) =
      elim (is_some (get s.rows id)) as (λ b. CanApply (change_of s (Leave id moment) (cond b (sequenced (message_in s answer (Leave id moment))) Dropped)) table) [ true ↦ tt | false ↦ tt ]
  can_apply answer (Submit id submission moment) = can_submit id submission moment (outcome s id submission) refl
  can_apply answer (Report summary found moment) = no_change (sequenced (message_in s answer (Report summary found moment)))
    where
      no_change : (v : Verdict) → CanApply (change_of s (Report summary found moment) v) table
      no_change (Sequenced m) = tt
      no_change (Nacked nack) = tt
      no_change Dropped = tt
      no_change Absorbed = tt

-- ---- what was sequenced is the message

sequenced_some : (o : Option Message) (m : Message) → sequenced o ≡ Sequenced m → o ≡ Some m
sequenced_some None m is = absurd (cc)
sequenced_some (Some x) m is = cc

joined_message : (b : Bool) (o : Option Message) (m : Message) → cond b Dropped (sequenced o) ≡ Sequenced m → o ≡ Some m
joined_message true o m is = absurd (cc)
joined_message false o m is = sequenced_some o m is

left_message : (b : Bool) (o : Option Message) (m : Message) → cond b (sequenced o) Dropped ≡ Sequenced m → o ≡ Some m
left_message true o m is = sequenced_some o m is
left_message false o m is = absurd (cc)

unabsorbed : (absorbs : Bool) (x m : Message) → cond absorbs Absorbed (Sequenced x) ≡ Sequenced m → x ≡ m
unabsorbed true x m is = absurd (cc)
unabsorbed false x m is = cc

submitted_message : (s : State) (answer : Answer) (id : List ℕ) (submission : Submission) (moment : ℕ) (o : Outcome) (m : Message) →
    verdict_of s id submission moment o ≡ Sequenced m → message_in s answer (Submit id submission moment) ≡ Some m
unfolding message_in unsettled
submitted_message s answer id submission moment Duplicate m is = absurd (cc)
submitted_message s answer id submission moment (Refused rule) m is = absurd (cc)
submitted_message s answer id submission moment Admitted m is = ap Some (unabsorbed (is_absorbed s id submission) _ m is)

pub is_message_in : (s : State) (answer : Answer) (raw : Raw) (m : Message) → verdict_in s answer raw ≡ Sequenced m → message_in s answer raw ≡ Some m
unfolding verdict_in
is_message_in s answer (Join id scopes detail moment) m is = joined_message (is_some (get s.rows id)) _ m is
is_message_in s answer (Leave id moment) m is = left_message (is_some (get s.rows id)) _ m is
is_message_in s answer (Submit id submission moment) m is = submitted_message s answer id submission moment (outcome s id submission) m is
is_message_in s answer (Report summary found moment) m is = sequenced_some _ m is

some_message : (x m : Message) → Some x ≡ Some m → x ≡ m
some_message x m is = cc

settled_number : (s : State) (raw : Raw) (number : ℕ) (o : Option Message) (m : Message) → ((x : Message) → o ≡ Some x → x.number ≡ number) →
    option_map (settled_in s raw) o ≡ Some m → m.number ≡ number
settled_number s raw number None m at is = absurd (cc)
settled_number s raw number (Some x) m at is = sym (ap (λ (y : Message). y.number) (some_message _ m is)) ∙ at x refl

pub number_in : (s : State) (answer : Answer) (raw : Raw) (m : Message) → message_in s answer raw ≡ Some m → m.number ≡ s.sequence + 1
unfolding message_in
number_in s answer raw m is =
    settled_number s raw (s.sequence + 1) (unsettled (s.sequence + 1) (λ summary found. answer) raw) m (unsettled-number (s.sequence + 1) (λ summary found. answer) raw) is

-- the minimum in a message has no part in the minimum behind it
settled : (s : State) (raw : Raw) (m : Message) (n : ℕ) → minimum (after s raw (Sequenced (record m { minimum = n }))) ≡ minimum (after s raw (Sequenced m))
unfolding after change_of
settled s (Join id scopes detail moment) m n = refl
settled s (Leave id moment) m n = refl
settled s (Submit id submission moment) m n = refl
settled s (Report summary found moment) m n = refl

settled_minimum : (s : State) (raw : Raw) (o : Option Message) (m : Message) → option_map (settled_in s raw) o ≡ Some m → m.minimum ≡ minimum (after s raw (Sequenced m))
settled_minimum s raw None m is = absurd (cc)
settled_minimum s raw (Some x) m is = rw (sym (some_message _ m is)) (sym (settled s raw x _))

minimum_in : (s : State) (answer : Answer) (raw : Raw) (m : Message) → message_in s answer raw ≡ Some m → m.minimum ≡ minimum (after s raw (Sequenced m))
unfolding message_in
minimum_in s answer raw m is = settled_minimum s raw (unsettled (s.sequence + 1) (λ summary found. answer) raw) m is

-- ---- the state behind

-- the parts of what was prepared
pub record HasParts (s : State) (answer : Answer) (raw : Raw) (verdict : Verdict) (change : Change) : Type 0 where
  pub verdict_is : verdict ≡ verdict_in s answer raw
  pub change_is : change ≡ change_of s raw verdict

pub parts_of : (s : State) (answer : Answer) (raw : Raw) (parts : Verdict × Change) (ready : Prepared) → parts ≡ (ready.verdict, ready.change) → ready ≡ prepared s answer raw →
    HasParts s answer raw parts.0 parts.1
unfolding prepared
parts_of s answer raw parts ready pair is =
    let verdict = ap (λ (p : Verdict × Change). p.0) pair ∙ ap (λ (r : Prepared). r.verdict) is in
    record {
      verdict_is = verdict;
      change_is = ap (λ (p : Verdict × Change). p.1) pair ∙ ap (λ (r : Prepared). r.change) is ∙ ap (change_of s raw) (sym verdict);
    }

module _ (s : State) (answer : Answer) (raw : Raw) (verdict : Verdict) (change : Change) (parts : HasParts s answer raw verdict change) (rows : Rows) (applied : rows ≡ changed change s.rows) where
  rows_after : rows ≡ (after s raw verdict).rows
  unfolding after
  rows_after = applied ∙ ap (λ c. changed c s.rows) parts.change_is

  pub after_sequenced : (m : Message) → verdict ≡ Sequenced m → record { sequence = m.number; last_minimum = m.minimum; rows = rows } ≡ after s raw verdict
  unfolding after
  after_sequenced m is =
      same_state _ _
      (number_in s answer raw m (is_message_in s answer raw m (sym parts.verdict_is ∙ is)) ∙ ap (λ v. s.sequence + length (messages_of v)) (sym is))
      (ap (λ v. last_minimum_behind s.last_minimum v) (sym is))
      rows_after

  pub after_other : ((m : Message) → verdict ≡ Sequenced m → ⊥) → record { sequence = s.sequence; last_minimum = s.last_minimum; rows = rows } ≡ after s raw verdict
  unfolding after
  after_other other = same_state _ _ (none verdict other) (same verdict other) rows_after
    where
      none : (v : Verdict) → ((m : Message) → v ≡ Sequenced m → ⊥) → s.sequence ≡ s.sequence + length (messages_of v)
      none (Sequenced m) other = absurd (other m refl)
      none (Nacked nack) other = omega arith
      none Dropped other = omega arith
      none Absorbed other = omega arith

      same : (v : Verdict) → ((m : Message) → v ≡ Sequenced m → ⊥) → s.last_minimum ≡ last_minimum_behind s.last_minimum v
      same (Sequenced m) other = absurd (other m refl)
      same (Nacked nack) other = refl
      same Dropped other = refl
      same Absorbed other = refl

-- ---- it is sound

-- the references that a change brings are not ahead of the order
abbrev BringsSound : State → ℕ → Change → Type 0
BringsSound s n Nothing = Unit {0}
BringsSound s n (Joins id row) = row.reference ≤ n
BringsSound s n (Leaves id) = Unit {0}
BringsSound s n (Accepts id number reference moment) = reference ≤ n
BringsSound s n (Holds id number least moment) = least ≤ n
BringsSound s n (Hears id moment) = Unit {0}

picked : (n : ℕ) (b : Bool) (row other : Row) (o : Option Row) → cond b (Some row) o ≡ Some other → row.reference ≤ n → (o ≡ Some other → other.reference ≤ n) → other.reference ≤ n
picked n true row other o is sound rest = subst (λ (r : Row). r.reference ≤ n) (same_Some _ _ is) sound
picked n false row other o is sound rest = rest is

kept_rows : (n : ℕ) (b : Bool) (other : Row) (o : Option Row) → cond b None o ≡ Some other → (o ≡ Some other → other.reference ≤ n) → other.reference ≤ n
kept_rows n true other o is rest = absurd (none-some _ is)
kept_rows n false other o is rest = rest is

changed_row : (n : ℕ) (b : Bool) (f : Row → Row) (there o : Option Row) (other : Row) → cond b (option_map f there) o ≡ Some other →
    ((row : Row) → there ≡ Some row → (f row).reference ≤ n) → (o ≡ Some other → other.reference ≤ n) → other.reference ≤ n
changed_row n false f there o other is sound rest = rest is
changed_row n true f None o other is sound rest = absurd (none-some _ is)
changed_row n true f (Some row) o other is sound rest = subst (λ (r : Row). r.reference ≤ n) (same_Some _ _ is) (sound row refl)

module _ (s : State) (n : ℕ) (sound : IsSound s) (le : s.sequence ≤ n) where
  old : (q : List ℕ) (row : Row) → get s.rows q ≡ Some row → row.reference ≤ n
  old q row there = let low = sound.rows q row there in omega arith

  changed_sound : (id : List ℕ) (f : Row → Row) → ((row : Row) → get s.rows id ≡ Some row → (f row).reference ≤ n) →
      (q : List ℕ) (row : Row) → get (change_row id f s.rows) q ≡ Some row → row.reference ≤ n
  changed_sound id f brings q row there =
      changed_row n (bytes_eq id q) f (get s.rows id) (get s.rows q) row (sym (get_changed s.rows id q f (get s.rows id) refl) ∙ there) brings (old q row)

  rows_sound : (change : Change) → BringsSound s n change → (q : List ℕ) (row : Row) → get (changed change s.rows) q ≡ Some row → row.reference ≤ n
  rows_sound Nothing brings q row there = old q row there
  rows_sound (Joins id new) brings q row there =
      picked n (eq_by_cmp byte_order q id) new row (get s.rows q) (sym (get-insert byte_order_total s.rows id new q) ∙ there) brings (old q row)
  rows_sound (Leaves id) brings q row there =
      kept_rows n (eq_by_cmp byte_order q id) row (get s.rows q) (sym (get-remove byte_order_total s.rows id q) ∙ there) (old q row)
  rows_sound (Accepts id number reference moment) brings q row there =
      changed_sound id (λ row. record row { last = number; reference = reference; heard = moment }) (λ r _. brings) q row there
  rows_sound (Holds id number least moment) brings q row there =
      changed_sound id (λ row. record row { last = number; reference = least; nacked = true; heard = moment }) (λ r _. brings) q row there
  rows_sound (Hears id moment) brings q row there = changed_sound id (λ row. record row { heard = moment }) (λ r at. old id r at) q row there

-- an admitted reference is not ahead of the number that -1 is read as
given_seen : (sequence number : ℕ) (reference : ℤ) → sequence ≤ number → int_lt (pos sequence) reference ≡ false → given_or number reference ≤ number
given_seen sequence number (pos n) le seen = let low : n ≤ sequence = ltb-false _ _ seen in omega arith
given_seen sequence number (negsuc n) le seen = omega arith

module _ (s : State) (sound : IsSound s) where
  refused_brings : (id : List ℕ) (submission : Submission) (moment : ℕ) (below : Bool) →
      BringsSound s s.sequence (cond below (Holds id submission.client_number (minimum s) moment) (Hears id moment))
  refused_brings id submission moment true = minimum-le-sequence s sound
  refused_brings id submission moment false = tt

  admitted_brings : (id : List ℕ) (submission : Submission) (moment : ℕ) (absorbs : Bool) → outcome s id submission ≡ Admitted →
      let v : Verdict = cond absorbs Absorbed (Sequenced (settled_in s (Submit id submission moment) (submission_message (s.sequence + 1) id submission moment))) in
      BringsSound s (s.sequence + length (messages_of v)) (change_of s (Submit id submission moment) v)
  unfolding change_of
  admitted_brings id submission moment true is =
      let admitted = admitted_row s id submission is in
      let seen = given_seen s.sequence s.sequence submission.reference (omega arith) admitted.2.seen in
      rw add-zero (rw (given_is s.sequence (minimum s) submission.reference admitted.2.high) seen)
  admitted_brings id submission moment false is =
      let admitted = admitted_row s id submission is in
      let seen = given_seen s.sequence (s.sequence + 1) submission.reference (omega arith) admitted.2.seen in
      rw (reference_is (s.sequence + 1) (minimum s) submission.reference admitted.2.high) seen

  brings : (answer : Answer) (raw : Raw) → BringsSound s (s.sequence + length (messages_of (verdict_in s answer raw))) (change_of s raw (verdict_in s answer raw))
  unfolding verdict_in change_of message_in unsettled
  brings answer (Join id scopes detail moment) =
      elim (is_some (get s.rows id)) as (λ b.
      BringsSound s (s.sequence + length (messages_of (cond b Dropped (sequenced (message_in s answer (Join id scopes detail moment))))))
      (change_of s (Join id scopes detail moment) (cond b Dropped (sequenced (message_in s answer (Join id scopes detail moment)))))) [
        | true ↦ tt
        | false ↦ let low = minimum-le-sequence s sound in omega arith
      ]
  brings answer (Leave id moment) =
      elim (is_some (get s.rows id)) as (λ b.
      BringsSound s (s.sequence + length (messages_of (cond b (sequenced (message_in s answer (Leave id moment))) Dropped)))
      (change_of s (Leave id moment) (cond b (sequenced (message_in s answer (Leave id moment))) Dropped))) [ true ↦ tt | false ↦ tt ]
  brings answer (Submit id submission moment) =
      elim (outcome s id submission) as (λ o. outcome s id submission ≡ o →
      BringsSound s (s.sequence + length (messages_of (verdict_of s id submission moment o))) (change_of s (Submit id submission moment) (verdict_of s id submission moment o))) [
        | Duplicate ↦ λ is. tt
        | Refused rule ↦ λ is. subst (λ n. BringsSound s n (cond (is_below rule) (Holds id submission.client_number (minimum s) moment) (Hears id moment))) (sym (add-zero s.sequence)) (refused_brings id submission moment (is_below rule))
        | Admitted ↦ λ is. admitted_brings id submission moment (is_absorbed s id submission) is
      ] refl
  brings answer (Report summary found moment) = nothing_brought (sequenced (message_in s answer (Report summary found moment)))
    where
      nothing_brought : (v : Verdict) → BringsSound s (s.sequence + length (messages_of v)) (change_of s (Report summary found moment) v)
      nothing_brought (Sequenced m) = tt
      nothing_brought (Nacked nack) = tt
      nothing_brought Dropped = tt
      nothing_brought Absorbed = tt

  few_after : (v : Verdict) → s.sequence < 2 ^ 53 - 1 → s.sequence + length (messages_of v) ≤ 2 ^ 53 - 1
  few_after (Sequenced m) few = omega arith
  few_after (Nacked nack) few = omega arith
  few_after Dropped few = omega arith
  few_after Absorbed few = omega arith

  pub sound_after : (answer : Answer) (raw : Raw) (verdict : Verdict) → verdict ≡ verdict_in s answer raw → s.sequence < 2 ^ 53 - 1 → IsSound (after s raw verdict)
  unfolding after
  sound_after answer raw verdict is few = subst (λ v. IsSound (after s raw v)) (sym is) (record {
    few = few_after (verdict_in s answer raw) few;
    rows = rows_sound s (s.sequence + length (messages_of (verdict_in s answer raw))) sound (omega arith) (change_of s raw (verdict_in s answer raw)) (brings answer raw);
  })

  -- also where no number more may be given
  pub sound_behind : (answer : Answer) (raw : Raw) (verdict : Verdict) → verdict ≡ verdict_in s answer raw → s.sequence + length (messages_of verdict) ≤ 2 ^ 53 - 1 → IsSound (after s raw verdict)
  unfolding after
  sound_behind answer raw verdict is few = subst (λ v. IsSound (after s raw v)) (sym is) (record {
    few = subst (λ v. s.sequence + length (messages_of v) ≤ 2 ^ 53 - 1) is few;
    rows = rows_sound s (s.sequence + length (messages_of (verdict_in s answer raw))) sound (omega arith) (change_of s raw (verdict_in s answer raw)) (brings answer raw);
  })

-- ---- its minimum

pub minimum_sequenced : (s : State) (answer : Answer) (raw : Raw) (verdict : Verdict) (m : Message) → verdict ≡ verdict_in s answer raw → verdict ≡ Sequenced m → m.minimum ≡ minimum (after s raw verdict)
minimum_sequenced s answer raw verdict m by is =
    minimum_in s answer raw m (is_message_in s answer raw m (sym by ∙ is)) ∙ ap (λ v. minimum (after s raw v)) (sym is)

one_more : (s : State) (raw : Raw) (m : Message) → (after s raw (Sequenced m)).sequence ≡ s.sequence + 1
unfolding after
one_more s raw m = refl

-- a message's minimum isn't above its number
pub minimum_within : (s : State) (answer : Answer) (raw : Raw) (verdict : Verdict) → IsSound s → s.sequence < 2 ^ 53 - 1 → verdict ≡ verdict_in s answer raw →
    HasMinimumUpTo (s.sequence + 1) verdict
minimum_within s answer raw (Sequenced m) sound few is =
    let low = minimum-le-sequence (after s raw (Sequenced m)) (sound_after s sound answer raw (Sequenced m) is few) in
    omega (arith, low, minimum_sequenced s answer raw (Sequenced m) m is refl, one_more s raw m)
minimum_within s answer raw (Nacked nack) sound few is = tt
minimum_within s answer raw Dropped sound few is = tt
minimum_within s answer raw Absorbed sound few is = tt

prepared_verdict : (s : State) (answer : Answer) (raw : Raw) (ready : Prepared) → ready ≡ prepared s answer raw → ready.verdict ≡ verdict_in s answer raw
unfolding prepared
prepared_verdict s answer raw ready is = ap (λ (r : Prepared). r.verdict) is

-- and so it is of what is prepared
pub bounded_in : (result : Result Prepared NoMemory) (s t : State) (answer : Answer) (raw : Raw) → IfOk result (λ ready. ready ≡ prepared s answer raw) → s ≡ t → IsSound t →
    t.sequence < 2 ^ 53 - 1 → IfOk result (λ ready. HasMinimumUpTo (t.sequence + 1) ready.verdict)
bounded_in (Ok ready) s t answer raw is same sound few =
    minimum_within t answer raw ready.verdict sound few (prepared_verdict t answer raw ready (is ∙ ap (λ u. prepared u answer raw) same))
bounded_in (Err fault) s t answer raw is same sound few = tt

-- to be heard of changes no reference
heard_stays : (s : State) (id : List ℕ) (moment : ℕ) → unwrap_or (least (changed (Hears id moment) s.rows)) (s.sequence + 0) ≡ minimum s
heard_stays s id moment =
    ap (λ o. unwrap_or o (s.sequence + 0)) (least-change s.rows id (λ row. record row { heard = moment }) (λ row. refl))
    ∙ ap (λ n. unwrap_or (least s.rows) n) (add-zero s.sequence)

held_stays : (s : State) (id : List ℕ) (submission : Submission) (moment : ℕ) (rule : NackRule) (below : Bool) → is_below rule ≡ below → outcome s id submission ≡ Refused rule →
    unwrap_or (least (changed (cond below (Holds id submission.client_number (minimum s) moment) (Hears id moment)) s.rows)) (s.sequence + 0) ≡ minimum s
held_stays s id submission moment rule false h is = heard_stays s id moment
held_stays s id submission moment rule true h is =
    let there = below_row s id submission (is ∙ ap Refused (refused_below rule h)) in
    rw there.1 (held_minimum s id there.0 (record there.0 { last = submission.client_number; reference = minimum s; nacked = true; heard = moment }) (s.sequence + 0) there.1 refl)

-- a verdict that leaves the minimum: a nack, or dropped
abbrev pub IsOther : Verdict → Type 0
IsOther v = ((m : Message) → v ≡ Sequenced m → ⊥) × (v ≡ Absorbed → ⊥)

unsequenced_stays : (s : State) (raw : Raw) (o : Option Message) → IsOther (sequenced o) → minimum (after s raw Dropped) ≡ minimum s → minimum (after s raw (sequenced o)) ≡ minimum s
unsequenced_stays s raw None other is = is
unsequenced_stays s raw (Some m) other is = absurd (other.0 m refl)

joined_stays : (s : State) (raw : Raw) (b : Bool) (o : Option Message) → IsOther (cond b Dropped (sequenced o)) → minimum (after s raw Dropped) ≡ minimum s →
    minimum (after s raw (cond b Dropped (sequenced o))) ≡ minimum s
joined_stays s raw true o other is = is
joined_stays s raw false o other is = unsequenced_stays s raw o other is

left_stays : (s : State) (raw : Raw) (b : Bool) (o : Option Message) → IsOther (cond b (sequenced o) Dropped) → minimum (after s raw Dropped) ≡ minimum s →
    minimum (after s raw (cond b (sequenced o) Dropped)) ≡ minimum s
left_stays s raw true o other is = unsequenced_stays s raw o other is
left_stays s raw false o other is = is

dropped_stays : (s : State) (raw : Raw) → minimum (after s raw Dropped) ≡ minimum s
unfolding after change_of
dropped_stays s (Join id scopes detail moment) = heard_stays s id moment
dropped_stays s (Leave id moment) = heard_stays s id moment
dropped_stays s (Submit id submission moment) = heard_stays s id moment
dropped_stays s (Report summary found moment) = ap (λ n. unwrap_or (least s.rows) n) (add-zero s.sequence)

not_other : (absorbs : Bool) (m : Message) → IsOther (cond absorbs Absorbed (Sequenced m)) → ⊥
not_other true m other = other.1 refl
not_other false m other = other.0 m refl

submitted_stays : (s : State) (id : List ℕ) (submission : Submission) (moment : ℕ) (o : Outcome) → outcome s id submission ≡ o →
    IsOther (verdict_of s id submission moment o) → minimum (after s (Submit id submission moment) (verdict_of s id submission moment o)) ≡ minimum s
unfolding after change_of
submitted_stays s id submission moment Duplicate is other = heard_stays s id moment
submitted_stays s id submission moment (Refused rule) is other = held_stays s id submission moment rule (is_below rule) refl is
submitted_stays s id submission moment Admitted is other = absurd (not_other (is_absorbed s id submission) _ other)

other_stays : (s : State) (answer : Answer) (raw : Raw) → IsOther (verdict_in s answer raw) → minimum (after s raw (verdict_in s answer raw)) ≡ minimum s
unfolding verdict_in
other_stays s answer (Join id scopes detail moment) other = joined_stays s (Join id scopes detail moment) (is_some (get s.rows id)) _ other (dropped_stays s (Join id scopes detail moment))
other_stays s answer (Leave id moment) other = left_stays s (Leave id moment) (is_some (get s.rows id)) _ other (dropped_stays s (Leave id moment))
other_stays s answer (Submit id submission moment) other = submitted_stays s id submission moment (outcome s id submission) refl other
other_stays s answer (Report summary found moment) other =
    unsequenced_stays s (Report summary found moment) (message_in s answer (Report summary found moment)) other (dropped_stays s (Report summary found moment))

-- what is neither sequenced nor absorbed leaves the minimum as it is
pub minimum_other : (s : State) (answer : Answer) (raw : Raw) (verdict : Verdict) → verdict ≡ verdict_in s answer raw → IsOther verdict → minimum (after s raw verdict) ≡ minimum s
minimum_other s answer raw verdict by other =
    ap (λ v. minimum (after s raw v)) by ∙ other_stays s answer raw (subst IsOther by other)

-- ---- what it stands for

followed_admitted : (s : State) (id : List ℕ) (submission : Submission) (moment : ℕ) (absorbs : Bool) (m : Message) →
    ((row : Row) → get s.rows id ≡ Some row → row.nacked ≡ false) → IsFollowed s (Submit id submission moment) (cond absorbs Absorbed (Sequenced m))
followed_admitted s id submission moment true m in_order = in_order
followed_admitted s id submission moment false m in_order = in_order

followed_submission : (s : State) (id : List ℕ) (submission : Submission) (moment : ℕ) (o : Outcome) → outcome s id submission ≡ o → IsFollowed s (Submit id submission moment) (verdict_of s id submission moment o)
followed_submission s id submission moment Duplicate is = tt
followed_submission s id submission moment (Refused rule) is = tt
followed_submission s id submission moment Admitted is =
    let admitted = admitted_row s id submission is in
    followed_admitted s id submission moment (is_absorbed s id submission) _
    (λ row there. subst (λ (r : Row). r.nacked ≡ false) (same_Some _ _ (sym admitted.1 ∙ there)) admitted.2.in_order)

-- only of a submission it matters that it was sequenced or absorbed
unfollowed_join : (s : State) (id : List ℕ) (scopes : Scopes) (detail : Tree) (moment : ℕ) (v : Verdict) → IsFollowed s (Join id scopes detail moment) v
unfollowed_join s id scopes detail moment (Sequenced m) = tt
unfollowed_join s id scopes detail moment (Nacked nack) = tt
unfollowed_join s id scopes detail moment Dropped = tt
unfollowed_join s id scopes detail moment Absorbed = tt

unfollowed_leave : (s : State) (id : List ℕ) (moment : ℕ) (v : Verdict) → IsFollowed s (Leave id moment) v
unfollowed_leave s id moment (Sequenced m) = tt
unfollowed_leave s id moment (Nacked nack) = tt
unfollowed_leave s id moment Dropped = tt
unfollowed_leave s id moment Absorbed = tt

unfollowed_report : (s : State) (summary : ℕ) (found : Bool) (moment : ℕ) (v : Verdict) → IsFollowed s (Report summary found moment) v
unfollowed_report s summary found moment (Sequenced m) = tt
unfollowed_report s summary found moment (Nacked nack) = tt
unfollowed_report s summary found moment Dropped = tt
unfollowed_report s summary found moment Absorbed = tt

followed : (s : State) (answer : Answer) (raw : Raw) → IsFollowed s raw (verdict_in s answer raw)
unfolding verdict_in
followed s answer (Join id scopes detail moment) = unfollowed_join s id scopes detail moment (verdict_in s answer (Join id scopes detail moment))
followed s answer (Leave id moment) = unfollowed_leave s id moment (verdict_in s answer (Leave id moment))
followed s answer (Submit id submission moment) = followed_submission s id submission moment (outcome s id submission) refl
followed s answer (Report summary found moment) = unfollowed_report s summary found moment (verdict_in s answer (Report summary found moment))

-- a state that stood for a ledger stands, behind an entry, for the ledger with this entry
pub stands_after : (s t : State) (answer : Answer) (raw : Raw) (verdict : Verdict) (ledger : Ledger) → verdict ≡ verdict_in s answer raw → t ≡ after s raw verdict →
    StandsFor s ledger → IsAnswered ledger raw answer → (verdict ≡ rules.verdict ledger raw) × StandsFor t (ledger ++ (raw, verdict) ∷ [])
stands_after s t answer raw verdict ledger by is stands answered =
    let in_ledger : verdict ≡ verdict_in (state_of ledger) answer raw = by ∙ ap (λ u. verdict_in u answer raw) stands.is in (
      in_ledger ∙ verdict-state_of ledger answer raw answered,
      record { is = is ∙ ap (λ u. after u raw verdict) stands.is ∙ sym (state_of-push ledger raw verdict (subst (IsFollowed (state_of ledger) raw) (sym in_ledger) (followed (state_of ledger) answer raw))) },
    )
