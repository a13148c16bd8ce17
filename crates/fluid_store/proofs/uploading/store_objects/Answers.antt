use Rattle.std.proofs.Common.{arith, subst, ◌∷◌, [], take_all}
use Rattle.fluid_store.specs.Keeping.{Adds, StopsBy}
use Rattle.fluid_store.proofs.Putting.{puts, puts_all}
use Rattle.fluid_store.proofs.Stops.{handed_on, one_stops, one_added}
use Rattle.fluid_store.proofs.uploading.store_objects.Goals as goal

pub returns-in_err-keep-clause-does : goal.returns-in_err-keep-clause-does
returns-in_err-keep-clause-does g c =
    let o = c.object-item.result in
    let old = g.O.Objects.seen c.args.objects.now in
    let mid = g.O.Objects.seen c.loop-object.objects in
    let new = g.O.Objects.seen c.keep.new.objects in
    handed_on c.args.list.now old new c.from_residual.result c.in_err-keep.field-0.0 c.from_residual.ensures.1
    (one_stops c.args.list.now c.loop-object.object-index o (omega arith) c.object-item.is old mid new
    c.loop-object.invariant.counts c.loop-object.invariant.adds c.in_err-keep.field-0.0
    (subst (λ b. StopsBy (record { id = o.id; bytes = b } ∷ []) mid new c.in_err-keep.field-0.0) c.as_slice.ensures c.in_err-keep.ensures.does.stores))

pub loop-object-preserved : goal.loop-object-preserved
loop-object-preserved g c =
    let o = c.object-item.result in
    let old = g.O.Objects.seen c.args.objects.now in
    let mid = g.O.Objects.seen c.loop-object.objects in
    let new = g.O.Objects.seen c.keep.new.objects in
    record {
      counts = record { faults = omega (arith, c.loop-object.invariant.counts.faults, c.keep.ensures.counts.faults); gets = omega (arith, c.loop-object.invariant.counts.gets, c.keep.ensures.counts.gets) };
      adds =
          one_added c.args.list.now c.loop-object.object-index o (omega arith) c.object-item.is old mid new c.loop-object.invariant.counts c.loop-object.invariant.adds
          (subst (λ b. Adds (record { id = o.id; bytes = b } ∷ []) mid.content new.content) c.as_slice.ensures c.in_ok-keep.ensures.does.stores);
    }

pub returns-in_err-keep-clause-puts : goal.returns-in_err-keep-clause-puts
returns-in_err-keep-clause-puts g c =
    puts c.args.list.now (g.O.Objects.seen c.args.objects.now) (g.O.Objects.seen c.keep.new.objects) c.from_residual.result (returns-in_err-keep-clause-does g c)

pub returns-clause-puts : goal.returns-clause-puts
returns-clause-puts g c =
    let old = g.O.Objects.seen c.args.objects.now in
    let new = g.O.Objects.seen c.loop-object.objects in
    let adds : Adds c.args.list.now old.content new.content =
    subst (λ l. Adds l old.content new.content) (take_all _ _ c.loop-object-test.false) c.loop-object.invariant.adds in
    puts_all c.args.list.now old new (tt {0}) adds
