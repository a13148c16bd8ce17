use Rattle.std.proofs.Common.{refl, sym, ◌∙◌}
use Rattle.std.proofs.lemmas.Result.{err_from_is_err_and}
use Rattle.fluid_load.proofs.Parts.{stop_works}
use Rattle.fluid_load.proofs.Going.{first_left, none_left, next_few, can_next, did_next}
use Rattle.fluid_load.proofs.running.do_next.Goals as goal

pub act-requires : goal.act-requires
act-requires g c = can_next c.args.acts.now _ c.in-Some.act c.args.working.now (first_left c.args.acts.now c.in-Some.act (sym c.next.ensures.act ∙ c.in-Some.is)) c.requires

pub returns-in_ok-act-in-Some : goal.returns-in_ok-act-in-Some
returns-in_ok-act-in-Some g c = did_next c.args.acts.now c.next.new.self c.in-Some.act c.args.working.now c.act.new.self (sym c.next.ensures.act ∙ c.in-Some.is) c.next.ensures.left c.in_ok-act-in-Some.ensures

pub returns-in_err-act-in-Some : goal.returns-in_err-act-in-Some
returns-in_err-act-in-Some g c =
    let e = err_from_is_err_and c.from_residual.result c.from_residual.ensures.1 in
    rw (e.1, e.2) (stop_works (next_few c.args.acts.now _ c.in-Some.act (first_left c.args.acts.now c.in-Some.act (sym c.next.ensures.act ∙ c.in-Some.is))) c.in_err-act-in-Some.ensures)

pub returns-in-None : goal.returns-in-None
returns-in-None g c = record { none = none_left c.args.acts.now (sym c.next.ensures.act ∙ c.in-None.is); same = refl }
