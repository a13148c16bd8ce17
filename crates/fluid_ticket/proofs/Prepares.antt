-- What an entry is prepared as, case by case.
use Rattle.std.proofs.Common.{Result, Ok, Err, IfOk, ◌-◌, ◌^◌, ◌<◌, ◌≡◌, ℕ, zero, suc, ◌+◌, min, ℤ, pos, negsuc, Bool, true, false, cond, List, Some, None, Option, is_some, Bor, ◌≤◌, arith, refl, sym, ap, ◌∙◌}
use Rattle.std.specs.Option.{unwrap_or, option_copied}
use Rattle.std.specs.Prelude.{nat_le}
use Rattle.std.proofs.lemmas.Bool.{false≢true, le-leb, leb-true}
use Rattle.std.specs.FinMap.{get, insert, remove}
use Rattle.fluid_json.specs.Tree.{Tree, text}
use Rattle.fluid_json.specs.Printed.{printed}
use Rattle.fluid_json.specs.declared.memory.NoMemory.{NoMemory}
use Rattle.fluid_types.specs.declared.entries.Raw.{Raw}
use Rattle.fluid_types.specs.declared.entries.Raw.TheVariants.{Join, Leave, Submit, Report}
use Rattle.fluid_types.specs.declared.entries.Scopes.{Scopes}
use Rattle.fluid_types.specs.declared.entries.Submission.{Submission}
use Rattle.fluid_types.specs.declared.messages.Kind.TheVariants as kind
use Rattle.fluid_types.specs.declared.nacks.NackRule.{NackRule}
use Rattle.fluid_types.specs.declared.verdicts.Verdict.{Verdict}
use Rattle.fluid_types.specs.declared.verdicts.Verdict.TheVariants.{Sequenced, Nacked, Dropped, Absorbed}
use Rattle.fluid_rules.specs.Past.{is_below, read_as}
use Rattle.fluid_rules.specs.Rules.{leaves_reference, join_data, system_message, submission_message, unsettled}
use Rattle.fluid_rules.specs.Scribe.{ack_contents, refusal_contents}
use Rattle.fluid_rules.specs.declared.answers.Answer.{Answer}
use Rattle.fluid_rules.specs.declared.answers.Answer.TheVariants as said
use Rattle.fluid_rules.specs.declared.answers.SummaryRule.{SummaryRule}
use Rattle.fluid_clients.specs.declared.table.Row.{Row}
use Rattle.fluid_clients.specs.Table.{Rows, least, least_with}
use Rattle.fluid_clients.proofs.Laws.{least-insert, least_with-there}
use Rattle.fluid_ticket.specs.declared.ready.Change.{Change}
use Rattle.fluid_ticket.specs.declared.ready.Change.TheVariants.{Nothing, Joins, Leaves, Accepts, Holds, Hears}
use Rattle.fluid_ticket.specs.declared.outcome.Outcome.TheVariants.{Duplicate, Refused, Admitted}
use Rattle.fluid_ticket.specs.State.{State, Prepared, minimum, change_of, after, message_in, is_below_minimum, given_or, outcome, verdict_in, is_absorbed, Sequencing, IsPreparedIn, prepared, answered, heard}
use Rattle.fluid_ticket.proofs.Sound.{joined_minimum}

abbrev pub ready : Verdict → Change → Prepared
ready verdict change = record { verdict = verdict; change = change }

abbrev pub entering : State → Scopes → ℕ → Row
entering s scopes moment = record { last = 0; reference = minimum s; nacked = false; scopes = scopes; heard = moment }

-- of the negative references only -1 is admitted
pub reference_is : (number least : ℕ) (reference : ℤ) → is_below_minimum least reference ≡ false →
    cond (leaves_reference reference) (pos number) reference ≡ pos (given_or number reference)
reference_is number least (pos n) high = refl
reference_is number least (negsuc zero) high = refl
reference_is number least (negsuc (suc n)) high = absurd (false≢true (sym high))

pub given_is : (number least : ℕ) (reference : ℤ) → is_below_minimum least reference ≡ false → read_as number reference ≡ given_or number reference
given_is number least (pos n) high = refl
given_is number least (negsuc zero) high = refl
given_is number least (negsuc (suc n)) high = absurd (false≢true (sym high))

-- what a look-up that found a row, or none, says of the table
pub joined_from : (found : Option (Bor Row)) (there : Option Row) → option_copied found ≡ there → is_some found ≡ true → is_some there ≡ true
joined_from None there is h = absurd (false≢true h)
joined_from (Some row) there is h = ap is_some (sym is)

pub absent_from : (found : Option (Bor Row)) (there : Option Row) → option_copied found ≡ there → is_some found ≡ false → there ≡ None
absent_from None there is h = sym is
absent_from (Some row) there is h = absurd (false≢true (sym h))

-- the least reference with a row in place of another depends on its reference alone
with_row : (rows : Rows) (id : List ℕ) (row new : Row) (n least_then : ℕ) → get rows id ≡ Some row → Some least_then ≡ least_with rows id new.reference →
    unwrap_or (least (insert rows id new)) n ≡ least_then
with_row rows id row new n least_then there is =
    ap (λ o. unwrap_or o n) (least-insert id new rows ∙ sym (least_with-there rows id new.reference row there) ∙ sym is)

module _ (s : State) (id : List ℕ) (moment : ℕ) where
  pub join_dropped : (answer : Answer) (scopes : Scopes) (detail : Tree) → is_some (get s.rows id) ≡ true → prepared s answer (Join id scopes detail moment) ≡ ready Dropped (Hears id moment)
  unfolding prepared verdict_in change_of
  join_dropped answer scopes detail joined = rw joined

  pub join_sequenced : (answer : Answer) (scopes : Scopes) (detail : Tree) → get s.rows id ≡ None →
      prepared s answer (Join id scopes detail moment)
      ≡ ready (Sequenced (record (system_message kind.Join (s.sequence + 1) (Some (printed (join_data id detail))) moment) { minimum = minimum s })) (Joins id (entering s scopes moment))
  unfolding prepared verdict_in change_of message_in after unsettled
  join_sequenced answer scopes detail none = rw (none, joined_minimum s id (entering s scopes moment) (s.sequence + 1) none refl)

  pub leave_dropped : (answer : Answer) → is_some (get s.rows id) ≡ false → prepared s answer (Leave id moment) ≡ ready Dropped (Hears id moment)
  unfolding prepared verdict_in change_of
  leave_dropped answer absent = rw absent

  pub leave_sequenced : (answer : Answer) → is_some (get s.rows id) ≡ true →
      prepared s answer (Leave id moment)
      ≡ ready (Sequenced (record (system_message kind.Leave (s.sequence + 1) (Some (printed (text id))) moment) { minimum = unwrap_or (least (remove s.rows id)) (s.sequence + 1) })) (Leaves id)
  unfolding prepared verdict_in change_of message_in after unsettled
  leave_sequenced answer joined = rw joined

  module _ (submission : Submission) where
    pub submit_dropped : (answer : Answer) → outcome s id submission ≡ Duplicate → prepared s answer (Submit id submission moment) ≡ ready Dropped (Hears id moment)
    unfolding prepared verdict_in change_of
    submit_dropped answer is = rw is

    pub submit_refused : (answer : Answer) (rule : NackRule) → outcome s id submission ≡ Refused rule →
        prepared s answer (Submit id submission moment)
        ≡ ready (Nacked (record { rule = rule; operation = Some submission; minimum = pos (minimum s) })) (cond (is_below rule) (Holds id submission.client_number (minimum s) moment) (Hears id moment))
    unfolding prepared verdict_in change_of
    submit_refused answer rule is = rw is

    pub submit_absorbed : (answer : Answer) → outcome s id submission ≡ Admitted → is_absorbed s id submission ≡ true → is_below_minimum (minimum s) submission.reference ≡ false →
        prepared s answer (Submit id submission moment) ≡ ready Absorbed (Accepts id submission.client_number (given_or s.sequence submission.reference) moment)
    unfolding prepared verdict_in change_of
    submit_absorbed answer is absorbs high = rw (is, absorbs, given_is s.sequence (minimum s) submission.reference high)

    -- this minimum is the least reference with that of the submission
    pub submit_admitted : (answer : Answer) (row : Row) (least_then : ℕ) → get s.rows id ≡ Some row → outcome s id submission ≡ Admitted → is_absorbed s id submission ≡ false →
        is_below_minimum (minimum s) submission.reference ≡ false →
        let reference = given_or (s.sequence + 1) submission.reference in
        Some least_then ≡ least_with s.rows id reference →
        prepared s answer (Submit id submission moment)
        ≡ ready (Sequenced (record (submission_message (s.sequence + 1) id submission moment) { minimum = least_then })) (Accepts id submission.client_number reference moment)
    unfolding prepared verdict_in change_of message_in after unsettled
    submit_admitted answer row least_then there is moves high least_is =
        let reference : ℕ = given_or (s.sequence + 1) submission.reference in
        rw (
          is,
          moves,
          reference_is (s.sequence + 1) (minimum s) submission.reference high,
          there,
          with_row s.rows id row (record row { last = submission.client_number; reference = reference; heard = moment }) (s.sequence + 1) least_then there (least_is),
        )

module _ (s : State) (summary : ℕ) (found : Bool) (moment : ℕ) where
  -- a report on a number that no message has, and one on another
  heard_beyond : (answer : Answer) → s.sequence < summary → heard s (Report summary found moment) answer ≡ said.Dropped
  heard_beyond answer beyond = ap (λ b. cond b answer said.Dropped) (not_within (nat_le summary s.sequence) refl)
    where
      not_within : (b : Bool) → nat_le summary s.sequence ≡ b → nat_le summary s.sequence ≡ false
      not_within true is = let low = leb-true summary s.sequence is in absurd (omega (arith, low, beyond))
      not_within false is = is

  heard_at : (answer : Answer) → summary ≤ s.sequence → heard s (Report summary found moment) answer ≡ answer
  heard_at answer low = ap (λ b. cond b answer said.Dropped) (le-leb summary s.sequence low)

  report_dropped : prepared s said.Dropped (Report summary found moment) ≡ ready Dropped Nothing
  unfolding prepared verdict_in change_of message_in unsettled
  report_dropped = refl

  report_acknowledged : (handle : List ℕ) → prepared s (said.Ack handle) (Report summary found moment) ≡ answered s kind.SummaryAck (ack_contents summary handle) moment
  unfolding prepared verdict_in change_of message_in unsettled after
  report_acknowledged handle = refl

  report_refused : (rule : SummaryRule) → prepared s (said.Refused rule) (Report summary found moment) ≡ answered s kind.SummaryNack (refusal_contents summary rule) moment
  unfolding prepared verdict_in change_of message_in unsettled after
  report_refused rule = refl

  -- the same by the answer that is handed in
  pub beyond_dropped : (answer : Answer) → s.sequence < summary → prepared s (heard s (Report summary found moment) answer) (Report summary found moment) ≡ ready Dropped Nothing
  beyond_dropped answer beyond = ap (λ a. prepared s a (Report summary found moment)) (heard_beyond answer beyond) ∙ report_dropped

  pub dropped_at : (answer : Answer) → summary ≤ s.sequence → answer ≡ said.Dropped →
      prepared s (heard s (Report summary found moment) answer) (Report summary found moment) ≡ ready Dropped Nothing
  dropped_at answer low is = ap (λ a. prepared s a (Report summary found moment)) (heard_at answer low ∙ is) ∙ report_dropped

  pub acknowledged_at : (answer : Answer) (handle : List ℕ) → summary ≤ s.sequence → answer ≡ said.Ack handle →
      prepared s (heard s (Report summary found moment) answer) (Report summary found moment) ≡ answered s kind.SummaryAck (ack_contents summary handle) moment
  acknowledged_at answer handle low is = ap (λ a. prepared s a (Report summary found moment)) (heard_at answer low ∙ is) ∙ report_acknowledged handle

  pub refused_at : (answer : Answer) (rule : SummaryRule) → summary ≤ s.sequence → answer ≡ said.Refused rule →
      prepared s (heard s (Report summary found moment) answer) (Report summary found moment) ≡ answered s kind.SummaryNack (refusal_contents summary rule) moment
  refused_at answer rule low is = ap (λ a. prepared s a (Report summary found moment)) (heard_at answer low ∙ is) ∙ report_refused rule

-- what was prepared is what it is equal to
pub answered_by : (result : Result Prepared NoMemory) (p q : Prepared) → IfOk result (λ ready. ready ≡ p) → p ≡ q → IfOk result (λ ready. ready ≡ q)
answered_by (Ok ready) p q is same = is ∙ same
answered_by (Err fault) p q is same = tt

-- what was prepared can be committed where there is room
pub ready_in : (result : Result Prepared NoMemory) (q : Sequencing) (answer : Answer) (raw : Raw) → IfOk result (λ ready. ready ≡ prepared q.state answer raw) →
    q.state.sequence < 2 ^ 53 - 1 → 0 < q.spare → IfOk result (IsPreparedIn q)
ready_in (Ok ready) q answer raw is numbered room = record { answer = answer; raw = raw; is = is; numbered = numbered; room = room }
ready_in (Err fault) q answer raw is numbered room = tt
