use Rattle.std.proofs.Common.{◌≡◌, ap, sym, subst, ◌∙◌}
use Rattle.std.specs.Option.{unwrap_or}
use Rattle.fluid_types.specs.declared.messages.Message.{Message}
use Rattle.fluid_types.specs.declared.verdicts.Verdict.{Verdict}
use Rattle.fluid_types.specs.declared.verdicts.Verdict.TheVariants.{Sequenced, Absorbed}
use Rattle.fluid_ticket.specs.State.{Sequencing, prepared, IsSoundWith, IsSound, after}
use Rattle.fluid_ticket.proofs.Commits.{can_apply, parts_of, after_sequenced, after_other, sound_after, minimum_sequenced, minimum_other, stands_after}
use Rattle.fluid_ticket.proofs.sequencer.Sequencer.commit.Goals as goal

pub apply-requires-clause-fits : goal.apply-requires-clause-fits
apply-requires-clause-fits c =
    let room = rw (← c.self.view_is) at c.requires.room in
    let is = rw (← c.self.view_is) at c.requires.is in
    rw (c.into_parts-verdict.ensures, is) (can_apply _ c.self.inside.clients.spare room c.requires.answer c.requires.raw)

pub invariant_of-self : goal.invariant_of-self
invariant_of-self c =
    let same = ap (λ (q : Sequencing). q.state) c.self.view_is in
    let numbered = rw (← c.self.view_is) at c.requires.numbered in
    let parts = parts_of _ c.requires.answer c.requires.raw c.into_parts-verdict.result c.args.ready c.into_parts-verdict.ensures (c.requires.is ∙ ap (λ s. prepared s c.requires.answer c.requires.raw) (sym same)) in
    let behind = after_sequenced _ c.requires.answer c.requires.raw _ _ parts _ c.apply.ensures c.in-Sequenced.message c.in-Sequenced.is in
    subst (λ s. IsSoundWith s c.in-Sequenced.message.minimum) (sym behind)
    (record {
      sound = sound_after _ c.self.invariant.sound c.requires.answer c.requires.raw _ parts.verdict_is numbered;
      is_minimum = minimum_sequenced _ c.requires.answer c.requires.raw _ c.in-Sequenced.message parts.verdict_is c.in-Sequenced.is;
    })

pub returns-in-Sequenced-clause-after : goal.returns-in-Sequenced-clause-after
returns-in-Sequenced-clause-after c = λ answer raw is.
    let same = ap (λ (q : Sequencing). q.state) c.self.view_is in
    let parts = parts_of _ answer raw c.into_parts-verdict.result c.args.ready c.into_parts-verdict.ensures (is ∙ ap (λ s. prepared s answer raw) (sym same)) in
    after_sequenced _ answer raw _ _ parts _ c.apply.ensures c.in-Sequenced.message c.in-Sequenced.is ∙ ap (λ s. after s raw c.into_parts-verdict.result.0) same

pub returns-in-Sequenced-clause-stands : goal.returns-in-Sequenced-clause-stands
returns-in-Sequenced-clause-stands c = λ ledger answer raw is stands answered.
    let parts = parts_of _ answer raw c.into_parts-verdict.result c.args.ready c.into_parts-verdict.ensures is in
    stands_after _ _ answer raw c.into_parts-verdict.result.0 ledger parts.verdict_is (returns-in-Sequenced-clause-after c answer raw is) stands answered

-- an absorbed noop has no message, and the minimum is the least reference behind it
unsequenced : (v : Verdict) → v ≡ Absorbed → (m : Message) → v ≡ Sequenced m → ⊥
unsequenced v is m other = let no : Absorbed ≡ Sequenced m = sym is ∙ other in cc

pub invariant_of-self-in-Absorbed : goal.invariant_of-self-in-Absorbed
invariant_of-self-in-Absorbed c =
    let same = ap (λ (q : Sequencing). q.state) c.self.view_is in
    let numbered = rw (← c.self.view_is) at c.requires.numbered in
    let parts = parts_of _ c.requires.answer c.requires.raw c.into_parts-verdict.result c.args.ready c.into_parts-verdict.ensures (c.requires.is ∙ ap (λ s. prepared s c.requires.answer c.requires.raw) (sym same)) in
    let behind = after_other _ c.requires.answer c.requires.raw _ _ parts _ c.apply.ensures (unsequenced c.into_parts-verdict.result.0 c.in-Absorbed.is) in
    record {
      sound = subst IsSound (sym behind) (sound_after _ c.self.invariant.sound c.requires.answer c.requires.raw _ parts.verdict_is numbered);
      is_minimum = rw c.unwrap_or-self-inside.ensures (ap (λ o. unwrap_or o c.self.inside.sequence) c.min.ensures);
    }

pub returns-in-Absorbed-clause-after : goal.returns-in-Absorbed-clause-after
returns-in-Absorbed-clause-after c = λ answer raw is.
    let same = ap (λ (q : Sequencing). q.state) c.self.view_is in
    let parts = parts_of _ answer raw c.into_parts-verdict.result c.args.ready c.into_parts-verdict.ensures (is ∙ ap (λ s. prepared s answer raw) (sym same)) in
    after_other _ answer raw _ _ parts _ c.apply.ensures (unsequenced c.into_parts-verdict.result.0 c.in-Absorbed.is) ∙ ap (λ s. after s raw c.into_parts-verdict.result.0) same

pub returns-in-Absorbed-clause-stands : goal.returns-in-Absorbed-clause-stands
returns-in-Absorbed-clause-stands c = λ ledger answer raw is stands answered.
    let parts = parts_of _ answer raw c.into_parts-verdict.result c.args.ready c.into_parts-verdict.ensures is in
    stands_after _ _ answer raw c.into_parts-verdict.result.0 ledger parts.verdict_is (returns-in-Absorbed-clause-after c answer raw is) stands answered

pub invariant_of-self-in_default : goal.invariant_of-self-in_default
invariant_of-self-in_default c =
    let same = ap (λ (q : Sequencing). q.state) c.self.view_is in
    let numbered = rw (← c.self.view_is) at c.requires.numbered in
    let parts = parts_of _ c.requires.answer c.requires.raw c.into_parts-verdict.result c.args.ready c.into_parts-verdict.ensures (c.requires.is ∙ ap (λ s. prepared s c.requires.answer c.requires.raw) (sym same)) in
    let behind = after_other _ c.requires.answer c.requires.raw _ _ parts _ c.apply.ensures c.in_default.not-Sequenced in
    subst (λ s. IsSoundWith s c.self.inside.minimum) (sym behind)
    (record {
      sound = sound_after _ c.self.invariant.sound c.requires.answer c.requires.raw _ parts.verdict_is numbered;
      is_minimum = c.self.invariant.is_minimum ∙ sym (minimum_other _ c.requires.answer c.requires.raw _ parts.verdict_is (c.in_default.not-Sequenced, c.in_default.not-Absorbed));
    })

pub returns-in_default-clause-after : goal.returns-in_default-clause-after
returns-in_default-clause-after c = λ answer raw is.
    let same = ap (λ (q : Sequencing). q.state) c.self.view_is in
    let parts = parts_of _ answer raw c.into_parts-verdict.result c.args.ready c.into_parts-verdict.ensures (is ∙ ap (λ s. prepared s answer raw) (sym same)) in
    after_other _ answer raw _ _ parts _ c.apply.ensures c.in_default.not-Sequenced ∙ ap (λ s. after s raw c.into_parts-verdict.result.0) same

pub returns-in_default-clause-stands : goal.returns-in_default-clause-stands
returns-in_default-clause-stands c = λ ledger answer raw is stands answered.
    let parts = parts_of _ answer raw c.into_parts-verdict.result c.args.ready c.into_parts-verdict.ensures is in
    stands_after _ _ answer raw c.into_parts-verdict.result.0 ledger parts.verdict_is (returns-in_default-clause-after c answer raw is) stands answered
