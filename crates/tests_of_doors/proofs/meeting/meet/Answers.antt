use Rattle.std.proofs.Common.{sym, ap, subst, ◌∙◌}
use Rattle.fluid_turn.specs.Entries.{IsPrefix}
use Rattle.fluid_doors.specs.Laws.{IsLegalHistory}
use Rattle.tests_of_doors.proofs.Both.{both}
use Rattle.tests_of_doors.proofs.meeting.meet.Goals as goal

pub returns-clause-first : goal.returns-clause-first
returns-clause-first c =
    let met = c.meet-one.ensures in
    let one = c.fork-as_one.ensures in
    let same = c.fork-told_one.ensures.same in
    let seen = ap (λ k. k.seen) same ∙ one.second.1.0 in
    both _ _ c.meet-one_later.result.1 c.meet-other_later.result.1 _
    (subst IsLegalHistory (sym (ap (λ k. k.seen) same)) (c.know-3.ensures.legal (ap (λ t. t.fixed.told) one.second.0 ∙ c.requires.told)))
    c.know.ensures.own c.know-2.ensures.own c.know-5.ensures.own c.know-6.ensures.own
    (record {
      number = c.meet-one_later.ensures.second.0.1 ∙ ap (λ k. k.number) one.same ∙ met.first.0.1;
      mine = c.meet-one_later.ensures.second.0.2 ∙ ap (λ k. k.mine) one.same ∙ met.first.0.2;
      prefix = subst (IsPrefix c.args.first.seen) (sym seen) met.first.0.3;
      back = subst (λ l. IsPrefix l c.meet-one_later.result.1.seen) (ap (λ k. k.seen) one.same ∙ sym seen) c.meet-one_later.ensures.second.0.3;
    })
    (record {
      number = c.meet-other_later.ensures.second.0.1 ∙ ap (λ k. k.number) c.fork-as_other.ensures.same ∙ met.second.0.1;
      mine = c.meet-other_later.ensures.second.0.2 ∙ ap (λ k. k.mine) c.fork-as_other.ensures.same ∙ met.second.0.2;
      prefix = subst (IsPrefix c.args.second.seen) (sym seen) met.first.1;
      back = subst (λ l. IsPrefix l c.meet-other_later.result.1.seen) (c.fork-told_one.ensures.second.1.0 ∙ sym (ap (λ k. k.seen) same)) c.meet-other_later.ensures.second.1;
    })

pub returns-clause-second : goal.returns-clause-second
returns-clause-second c =
    let met = c.meet-one.ensures in
    let other = c.fork-as_other.ensures in
    let same = c.fork-told_other.ensures.same in
    let seen = ap (λ k. k.seen) same ∙ other.second.1.0 in
    both _ _ c.meet-one_later.result.1 c.meet-other_later.result.1 _
    (subst IsLegalHistory (sym (ap (λ k. k.seen) same)) (c.know-4.ensures.legal (ap (λ t. t.fixed.told) other.second.0 ∙ c.requires.told)))
    c.know.ensures.own c.know-2.ensures.own c.know-5.ensures.own c.know-6.ensures.own
    (record {
      number = c.meet-one_later.ensures.second.0.1 ∙ ap (λ k. k.number) c.fork-as_one.ensures.same ∙ met.first.0.1;
      mine = c.meet-one_later.ensures.second.0.2 ∙ ap (λ k. k.mine) c.fork-as_one.ensures.same ∙ met.first.0.2;
      prefix = subst (IsPrefix c.args.first.seen) (sym seen) met.second.1;
      back = subst (λ l. IsPrefix l c.meet-one_later.result.1.seen) (c.fork-told_other.ensures.second.1.0 ∙ sym (ap (λ k. k.seen) same)) c.meet-one_later.ensures.second.1;
    })
    (record {
      number = c.meet-other_later.ensures.second.0.1 ∙ ap (λ k. k.number) other.same ∙ met.second.0.1;
      mine = c.meet-other_later.ensures.second.0.2 ∙ ap (λ k. k.mine) other.same ∙ met.second.0.2;
      prefix = subst (IsPrefix c.args.second.seen) (sym seen) met.second.0.3;
      back = subst (λ l. IsPrefix l c.meet-other_later.result.1.seen) (ap (λ k. k.seen) other.same ∙ sym seen) c.meet-other_later.ensures.second.0.3;
    })
