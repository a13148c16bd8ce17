use Rattle.std.proofs.Common.{◌≡◌, pos, true, false, sym, rules}
use Rattle.std.specs.Prelude.{int_lt}
use Rattle.fluid_ticket.specs.State.{is_below_minimum}
use Rattle.fluid_ticket.proofs.Outcomes.{duplicate, gap, marked, below, ahead, scope, admitted}
use Rattle.fluid_ticket.proofs.outcome.outcome_by.Goals as goal

pub returns-then-number-row : goal.returns-then-number-row
returns-then-number-row c = sym (duplicate c.args.sequence c.args.minimum c.args.row.now c.args.submission.now c.if-number-row.true)

pub returns-then-number-row-2 : goal.returns-then-number-row-2
returns-then-number-row-2 c =
    sym (gap c.args.sequence c.args.minimum c.args.row.now c.args.submission.now c.if-number-row.false c.if-number-row-2.true)

pub returns-then-row : goal.returns-then-row
returns-then-row c =
    sym (marked c.args.sequence c.args.minimum c.args.row.now c.args.submission.now c.if-number-row.false c.if-number-row-2.false c.if-row.true)

pub returns-then-is_below : goal.returns-then-is_below
returns-then-is_below c =
    let low : is_below_minimum c.args.minimum c.args.submission.now.reference ≡ true = search rules in
    sym (below c.args.sequence c.args.minimum c.args.row.now c.args.submission.now c.if-number-row.false c.if-number-row-2.false c.if-row.false low)

pub returns-then-is_ahead : goal.returns-then-is_ahead
returns-then-is_ahead c =
    let high : is_below_minimum c.args.minimum c.args.submission.now.reference ≡ false = search rules in
    let unseen : int_lt (pos c.args.sequence) c.args.submission.now.reference ≡ true = search rules in
    sym (ahead c.args.sequence c.args.minimum c.args.row.now c.args.submission.now c.if-number-row.false c.if-number-row-2.false c.if-row.false high unseen)

pub returns-then-lacks_scope : goal.returns-then-lacks_scope
returns-then-lacks_scope c =
    let high : is_below_minimum c.args.minimum c.args.submission.now.reference ≡ false = search rules in
    let seen : int_lt (pos c.args.sequence) c.args.submission.now.reference ≡ false = search rules in
    sym (scope c.args.sequence c.args.minimum c.args.row.now c.args.submission.now c.if-number-row.false c.if-number-row-2.false c.if-row.false high seen (sym c.if-lacks_scope.ensures))

pub returns : goal.returns
returns c =
    let high : is_below_minimum c.args.minimum c.args.submission.now.reference ≡ false = search rules in
    let seen : int_lt (pos c.args.sequence) c.args.submission.now.reference ≡ false = search rules in
    sym (admitted c.args.sequence c.args.minimum c.args.row.now c.args.submission.now c.if-number-row.false c.if-number-row-2.false c.if-row.false high seen (sym c.if-lacks_scope.ensures))
