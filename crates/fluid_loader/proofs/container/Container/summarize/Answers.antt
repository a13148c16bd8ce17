use Rattle.std.proofs.Common.{Ok, Err, ap, subst, sym, ◌∙◌}
use Rattle.fluid_types.specs.declared.entries.Submission.{Submission}
use Rattle.fluid_loader.specs.Calls.{counted, summarize_of, Submits}
use Rattle.fluid_loader.specs.Laws.{StaysBehind}
use Rattle.fluid_loader.specs.Link.{Fits}
use Rattle.fluid_loader.proofs.Submitted.{grown_by, upload_stops, upload_ends_stay, uploaded_stays, propose_stops, proposal_stays, stays_then, summarized_stands}
use Rattle.fluid_loader.proofs.container.Container.summarize.Goals as goal

pub propose-requires : goal.propose-requires
propose-requires g c =
    subst (λ client. Fits client (summarize_of c.upload.new.self c.in_ok-id.id)) (sym c.in_ok-id.ensures.does.uploads.changes.client)
    (subst (λ s. Fits (g.L.Link.seen c.args.link.now).client (summarize_of s c.in_ok-id.id)) (sym c.in_ok-id.ensures.done) (c.requires c.in_ok-id.id c.as_bytes.ensures.len))

pub returns-in_err-id-clause-does : goal.returns-in_err-id-clause-does
returns-in_err-id-clause-does g c =
    upload_stops c.args.self.now c.upload.new.self (g.L.Link.seen c.args.link.now) (g.L.Link.seen c.upload.new.link) c.from_residual.result c.in_err-id.field-0.0
    c.from_residual.ensures.1 c.in_err-id.ensures.unchanged c.in_err-id.ensures.does

pub returns-in_err-id-clause-stays : goal.returns-in_err-id-clause-stays
returns-in_err-id-clause-stays g c =
    upload_ends_stay c.args.self.now c.upload.new.self (g.L.Link.seen c.args.link.now) (g.L.Link.seen c.upload.new.link) c.in_err-id.field-0.0 c.in_err-id.ensures.unchanged c.in_err-id.ensures.does

pub returns-in_err-propose-clause-does : goal.returns-in_err-propose-clause-does
returns-in_err-propose-clause-does g c =
    propose_stops c.args.self.now c.upload.new.self c.propose.new.self c.in_ok-id.id (summarize_of c.upload.new.self c.in_ok-id.id) (g.L.Link.seen c.args.link.now) (g.L.Link.seen c.upload.new.link)
    (g.L.Link.seen c.propose.new.link) c.from_residual-in_err-propose.result c.in_err-propose.field-0.0 c.from_residual-in_err-propose.ensures.1 c.in_ok-id.ensures.done
    (ap (λ x. summarize_of x c.in_ok-id.id) c.in_ok-id.ensures.done) c.in_ok-id.ensures.does c.in_err-propose.ensures.does

pub returns-in_err-propose-clause-stays : goal.returns-in_err-propose-clause-stays
returns-in_err-propose-clause-stays g c =
    let old = c.args.self.now in
    let id = c.in_ok-id.id in
    let before = g.L.Link.seen c.args.link.now in
    let between = g.L.Link.seen c.upload.new.link in
    let after = g.L.Link.seen c.propose.new.link in
    stays_then old c.upload.new.self c.propose.new.self before between after c.in_ok-id.ensures.does.uploads.changes.client
    (subst (λ x. StaysBehind old x before between) (sym c.in_ok-id.ensures.done) (uploaded_stays c.uploads_are_whole.ensures c.containers_stay_based.ensures old before between id c.in_ok-id.ensures.does c.id.ensures.document))
    (proposal_stays c.upload.new.self c.propose.new.self (summarize_of c.upload.new.self id) between after (Err c.in_err-propose.field-0.0) c.in_err-propose.ensures.does)

pub returns-clause-does : goal.returns-clause-does
returns-clause-does g c =
    let id = c.in_ok-id.id in
    let between = g.L.Link.seen c.upload.new.link in
    let after = g.L.Link.seen c.propose.new.link in
    let asked = c.in_ok-propose.ensures.does in
    record {
      between = between;
      uploaded = c.in_ok-id.ensures.does;
      submitted = subst (λ (s : Submission). Submits s between after (Ok tt)) (ap (λ x. summarize_of x id) c.in_ok-id.ensures.done) asked.submits;
      leaves = asked.leaves ∙ ap counted c.in_ok-id.ensures.done;
    }

pub returns-clause-stands : goal.returns-clause-stands
returns-clause-stands g c =
    let between = g.L.Link.seen c.upload.new.link in
    let after = g.L.Link.seen c.propose.new.link in
    summarized_stands c.uploads_are_whole.ensures c.what_stands_goes_on_standing.ensures c.args.self.now (g.L.Link.seen c.args.link.now) between after c.in_ok-id.id c.in_ok-id.ensures.does
    (grown_by _ between after _ c.in_ok-propose.ensures.does.submits)

pub returns-clause-stays : goal.returns-clause-stays
returns-clause-stays g c =
    let old = c.args.self.now in
    let id = c.in_ok-id.id in
    let before = g.L.Link.seen c.args.link.now in
    let between = g.L.Link.seen c.upload.new.link in
    let after = g.L.Link.seen c.propose.new.link in
    stays_then old c.upload.new.self c.propose.new.self before between after c.in_ok-id.ensures.does.uploads.changes.client
    (subst (λ x. StaysBehind old x before between) (sym c.in_ok-id.ensures.done) (uploaded_stays c.uploads_are_whole.ensures c.containers_stay_based.ensures old before between id c.in_ok-id.ensures.does c.id.ensures.document))
    (proposal_stays c.upload.new.self c.propose.new.self (summarize_of c.upload.new.self id) between after (Ok tt) c.in_ok-propose.ensures.does)
