use Rattle.std.proofs.Common.{◌+◌, arith}
use Rattle.fluid_store.proofs.Looked.{gets_more, gets_all}
use Rattle.fluid_store.proofs.completing.complete.Goals as goal

pub returns-in_default-clause-gets : goal.returns-in_default-clause-gets
returns-in_default-clause-gets g c =
    let old = g.O.Objects.seen c.args.objects.now in
    let mid = g.O.Objects.seen c.loop-above.objects in
    let new = g.O.Objects.seen c.look_through.new.objects in
    gets_all old new (c.loop-above.above + 1) (omega arith)
    (gets_more c.args.id.now old mid new c.loop-above.above c.loop-above.level.keys (omega arith) c.loop-above.invariant.reads.content c.loop-above.invariant.gets c.look_through.ensures.gets)

pub returns-in_err-next-clause-gets : goal.returns-in_err-next-clause-gets
returns-in_err-next-clause-gets g c =
    let old = g.O.Objects.seen c.args.objects.now in
    let mid = g.O.Objects.seen c.loop-above.objects in
    let new = g.O.Objects.seen c.look_through.new.objects in
    gets_all old new (c.loop-above.above + 1) (omega arith)
    (gets_more c.args.id.now old mid new c.loop-above.above c.loop-above.level.keys (omega arith) c.loop-above.invariant.reads.content c.loop-above.invariant.gets c.look_through.ensures.gets)

pub returns-then-is_empty-clause-gets : goal.returns-then-is_empty-clause-gets
returns-then-is_empty-clause-gets g c =
    let old = g.O.Objects.seen c.args.objects.now in
    let mid = g.O.Objects.seen c.loop-above.objects in
    let new = g.O.Objects.seen c.look_through.new.objects in
    gets_all old new (c.loop-above.above + 1) (omega arith)
    (gets_more c.args.id.now old mid new c.loop-above.above c.loop-above.level.keys (omega arith) c.loop-above.invariant.reads.content c.loop-above.invariant.gets c.look_through.ensures.gets)
