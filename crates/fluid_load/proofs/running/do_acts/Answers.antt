use Rattle.std.proofs.lemmas.Result.{err_from_is_err_and}
use Rattle.fluid_load.proofs.Parts.{stop_opens}
use Rattle.fluid_load.proofs.Going.{first_few, can_first, can_others, all_opens}
use Rattle.fluid_load.proofs.running.do_acts.Goals as goal

pub begin-requires : goal.begin-requires
begin-requires g c = can_first c.args.acts.now c.next.new.self c.requires.begins c.next.ensures.left c.args.working.now c.requires.can

pub do_others-requires : goal.do_others-requires
do_others-requires g c = can_others c.args.acts.now c.next.new.self c.requires.begins c.next.ensures.left c.args.working.now c.begin.new.self c.requires.can c.in_ok-begin.ensures

pub returns-in_err-begin : goal.returns-in_err-begin
returns-in_err-begin g c =
    let e = err_from_is_err_and c.from_residual.result c.from_residual.ensures.1 in
    rw (e.1, e.2) (stop_opens (first_few c.args.acts.now c.next.new.self c.requires.begins c.next.ensures.left) c.in_err-begin.ensures)

pub returns : goal.returns
returns g c = all_opens c.args.acts.now c.next.new.self c.requires.begins c.next.ensures.left c.args.working.now c.begin.new.self c.do_others.new.working c.do_others.result c.in_ok-begin.ensures c.do_others.ensures
