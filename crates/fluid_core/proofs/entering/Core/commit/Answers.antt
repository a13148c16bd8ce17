use Rattle.std.proofs.Common.{ap, ◌∙◌}
use Rattle.fluid_ticket.specs.State as ticket
use Rattle.fluid_core.specs.Entering.{Entering, after}
use Rattle.fluid_core.proofs.Entered.{takes, sequencer_ready, parts_of, after-is, stands-push}
use Rattle.fluid_core.proofs.entering.Core.commit.Goals as goal

pub commit-verdict-requires : goal.commit-verdict-requires
commit-verdict-requires c =
    rw c.into_parts-ready.ensures.ready
    (sequencer_ready _ c.self.inside.scribe.state c.requires.raw c.args.ready (rw (← c.self.view_is) at c.requires.is)
    (rw (← c.self.view_is) at c.requires.numbered) (rw (← c.self.view_is) at c.requires.joining))

pub take-requires : goal.take-requires
take-requires c =
    rw c.into_parts-ready.ensures.note
    (takes _ c.self.inside.scribe.spare c.requires.raw c.args.ready (rw (← c.self.view_is) at c.requires.is) (rw (← c.self.view_is) at c.requires.noting))

pub returns-clause-after : goal.returns-clause-after
returns-clause-after c = λ raw made.
    let is = rw (← c.self.view_is) at made in
    let parts = parts_of _ raw c.args.ready is in
    let said = c.commit-verdict.ensures.verdict ∙ ap (λ (p : ticket.Prepared). p.verdict) c.into_parts-ready.ensures.ready in
    let ready = c.into_parts-ready.ensures.ready ∙ parts.ticket_is in
    let takes = rw c.into_parts-ready.ensures.note at c.take.ensures in
    after-is _ _ raw c.args.ready c.commit-verdict.result is said (c.commit-verdict.ensures.after _ raw ready) takes
    ∙ ap (λ (e : Entering). after e.state raw c.commit-verdict.result) c.self.view_is

pub returns-clause-stands : goal.returns-clause-stands
returns-clause-stands c = λ ledger raw made stands.
    let said = c.commit-verdict.ensures.verdict ∙ ap (λ (p : ticket.Prepared). p.verdict) c.into_parts-ready.ensures.ready in
    stands-push _ _ raw _ ledger (said ∙ (parts_of _ raw c.args.ready made).verdict_is) (returns-clause-after c raw made) stands
