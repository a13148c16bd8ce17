use Rattle.std.proofs.lemmas.Result.{err_from_is_err_and}
use Rattle.fluid_acts.proofs.Arms.{reads_connect, memory_wanting, writes_connect}
use Rattle.fluid_acts.proofs.doing.connect.Goals as goal

pub returns-then-not-write : goal.returns-then-not-write
returns-then-not-write g c = λ name. reads_connect c.lanes_say_their_ledgers.ensures.says c.args.write c.if-not-write.true _ name c.args.scopes c.args.detail.now c.args.moment c.args.lane.now c.seq.ensures.is

pub returns-in_err-own : goal.returns-in_err-own
returns-in_err-own g c = λ name.
    let e = err_from_is_err_and c.from_residual.result c.from_residual.ensures.1 in
    rw (e.1, e.2) (memory_wanting name c.args.write c.args.scopes c.args.detail.now c.args.moment c.args.lane.now)

pub join-requires : goal.join-requires
join-requires g c = λ id is. rw c.in_ok-own.ensures (c.requires id is)

pub returns : goal.returns
returns g c = λ name. writes_connect c.args.write c.if-not-write.false c.in_ok-own.own c.args.detail.now c.in_ok-own.ensures name c.args.scopes c.args.moment _ _ _ (c.join.ensures name)
