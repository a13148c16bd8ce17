use Rattle.std.proofs.Common.{ap, sym, subst, ◌∙◌}
use Rattle.std.specs.List.{All}
use Rattle.fluid_deltas.specs.Pushed.{IsKeepable}
use Rattle.fluid_types.specs.Ledger.{messages_of}
use Rattle.fluid_document.specs.Entries.{Entries, IsLevelled, GoOn, left_over}
use Rattle.fluid_document.proofs.Levels.{levelled-taken, verdict_prepared, committed}
use Rattle.fluid_document.proofs.document.Document.commit.Goals as goal

pub push-left-requires-clause-next : goal.push-left-requires-clause-next
push-left-requires-clause-next c =
    let is = rw (← c.self.view_is) at c.requires.is in
    rw (c.commit-verdict.ensures.verdict ∙ verdict_prepared c.self.inside.core.state c.requires.raw _ is.ready) is.next

pub push-left-requires-clause-keepable : goal.push-left-requires-clause-keepable
push-left-requires-clause-keepable c =
    let is = rw (← c.self.view_is) at c.requires.is in
    subst (λ v. All IsKeepable (messages_of v)) (sym (c.commit-verdict.ensures.verdict ∙ verdict_prepared c.self.inside.core.state c.requires.raw _ is.ready)) is.keepable

pub invariant_of-self : goal.invariant_of-self
invariant_of-self c =
    let raw = c.requires.raw in
    let is = rw (← c.self.view_is) at c.requires.is in
    let e : Entries = record { state = c.self.inside.core.state; entered = c.self.inside.entered; counted = c.self.inside.counted } in
    let said = c.commit-verdict.ensures.verdict ∙ verdict_prepared e.state raw _ is.ready in
    subst (λ now. IsLevelled now c.push-left.new.messages)
    (sym (committed e raw c.commit-verdict.new.self.state c.commit-verdict.result c.args.prepared.counts is.counts said (c.commit-verdict.ensures.after raw is.ready)))
    (levelled-taken e c.self.inside.messages c.push-left.new.messages raw c.self.invariant is.few (rw said at c.push-left.ensures.goes.count))

pub returns-clause-commits : goal.returns-clause-commits
returns-clause-commits c = rw (← c.self.view_is)
    (λ raw is.
    let e : Entries = record { state = c.self.inside.core.state; entered = c.self.inside.entered; counted = c.self.inside.counted } in
    let verdict = c.commit-verdict.ensures.verdict in
    let ready = verdict_prepared e.state raw _ is.ready in
    record {
      said = ready;
      entries = committed e raw c.commit-verdict.new.self.state c.commit-verdict.result c.args.prepared.counts is.counts (verdict ∙ ready) (c.commit-verdict.ensures.after raw is.ready);
      messages = subst (λ v. GoOn c.self.inside.messages c.push-left.new.messages v) verdict c.push-left.ensures.goes;
    })

pub returns-clause-left : goal.returns-clause-left
returns-clause-left c = c.push-left.ensures.left ∙ ap left_over c.commit-verdict.ensures.verdict
