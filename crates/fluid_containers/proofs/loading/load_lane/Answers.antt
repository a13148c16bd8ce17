use Rattle.std.proofs.Common.{ap, subst, ◌∙◌}
use Rattle.std.proofs.lemmas.Result.{err_from_is_err_and}
use Rattle.fluid_containers.specs.Joining.{JoinsAs}
use Rattle.fluid_containers.proofs.Ends.{links_later}
use Rattle.fluid_containers.proofs.Loads.{joins_more, turned_so}
use Rattle.fluid_containers.proofs.loading.load_lane.Goals as goal

pub load_as-requires-clause-stood : goal.load_as-requires-clause-stood
load_as-requires-clause-stood g c = λ good. c.in_ok-client.ensures.stood (c.requires.1.1.1 good)

pub returns-in_err-client-clause-does : goal.returns-in_err-client-clause-does
returns-in_err-client-clause-does g c = λ limits w d good of store at.
    let e = err_from_is_err_and c.from_residual.result c.from_residual.ensures.1 in rw (e.1, e.2) (joins_more limits w d c.join.new.lane c.in_err-client.field-0.0 (c.in_err-client.ensures.does limits w d of at))

pub returns-in_err-client-clause-runs : goal.returns-in_err-client-clause-runs
returns-in_err-client-clause-runs g c =
    let e = err_from_is_err_and c.from_residual.result c.from_residual.ensures.1 in
    let runs = c.in_err-client.ensures.runs in
    rw (e.1, e.2) (record { later = runs.later; sides = runs.sides; counts = runs.counts; ends = runs.ends })

pub returns-in-Ok-clause-does : goal.returns-in-Ok-clause-does
returns-in-Ok-clause-does g c = λ limits w d good of store at.
    let joined = c.in_ok-client.ensures.does limits w d of at in
    c.load_as.ensures.does good limits w d (subst (JoinsAs limits w d) c.in-Ok.is joined.joins) joined.stands (ap (λ s. s.content) c.in_ok-client.ensures.store ∙ store)

pub returns-in-Ok-clause-runs : goal.returns-in-Ok-clause-runs
returns-in-Ok-clause-runs g c =
    links_later c.args.lane.now c.join.new.lane c.load_as.new.lane c.args.objects.now c.join.new.objects c.load_as.new.objects c.in_ok-client.ensures.runs.later c.in_ok-client.ensures.runs.counts c.load_as.result c.in_ok-client.ensures.runs.sides c.load_as.ensures.runs

pub returns-in-Err-clause-does : goal.returns-in-Err-clause-does
returns-in-Err-clause-does g c = λ limits w d good of store at.
    let joined = c.in_ok-client.ensures.does limits w d of at in
    turned_so limits w d c.args.document.now c.args.pick.now c.join.new.lane c.join.new.objects c.in-Err.refusal joined.stands (ap (λ s. s.content) c.in_ok-client.ensures.store ∙ store) (subst (JoinsAs limits w d) c.in-Err.is joined.joins)

pub returns-in-Err-clause-runs : goal.returns-in-Err-clause-runs
returns-in-Err-clause-runs g c = record { later = c.in_ok-client.ensures.runs.later; sides = c.in_ok-client.ensures.runs.sides; counts = c.in_ok-client.ensures.runs.counts; ends = tt }
