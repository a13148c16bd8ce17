use Rattle.std.proofs.Common.{rules, ◌≡◌, ◌+◌, ◌-◌, ◌≤◌, length, take, refl, sym, ap, subst, ◌∙◌, arith, length-take}
use Rattle.std.proofs.lemmas.Result.{err_from_is_err_and}
use Rattle.fluid_deltas.specs.Pushed.{pushed}
use Rattle.fluid_deltas.specs.Flushes.{lacking_up_to}
use Rattle.fluid_deltas.proofs.Putting.{HasPut, puts_nothing, puts_more, puts_on, puts_all}
use Rattle.fluid_deltas.proofs.Slices.{put_stands, prefix_put_stands, lacking_length, lacking_at}
use Rattle.fluid_deltas.proofs.deltas.Deltas.put_up_to.Goals as goal

pub put-requires-clause-next : goal.put-requires-clause-next
put-requires-clause-next g c =
    let d = c.args.self.now in
    let kept = (g.K.Keeper.seen c.args.keeper.now).deltas in
    let place = c.loop-place.place - kept in
    let ms = lacking_up_to d kept c.args.end in
    let size = lacking_length d kept c.args.end c.requires.reached c.requires.pushed in
    let start : c.deltas-kept.result ≡ kept = c.deltas-kept.ensures in
    let put = rw start at c.loop-place.invariant.puts.kept.deltas in
    let lt = c.loop-place-test.true in
    let behind = rw start at c.loop-place.auto.place in
    let count : length (take place ms) ≡ place = omega (arith, length-take place ms, size, lt) in
    omega (arith, c.message.ensures.number, put, count, behind)

pub loop-place-init : goal.loop-place-init
loop-place-init g c =
    let none : c.deltas-kept.result - c.deltas-kept.result ≡ 0 = omega arith in
    rw none (record { later = omega arith; reads = refl; puts = puts_nothing _ })

pub loop-place-preserved : goal.loop-place-preserved
loop-place-preserved g c =
    let d = c.args.self.now in
    let kept = (g.K.Keeper.seen c.args.keeper.now).deltas in
    let start : c.deltas-kept.result ≡ kept = c.deltas-kept.ensures in
    let place = c.loop-place.place - kept in
    let m = c.message.result.now in
    let lt = c.loop-place-test.true in
    let behind = rw start at c.loop-place.auto.place in
    let size = lacking_length d kept c.args.end c.requires.reached c.requires.pushed in
    let put = c.in_ok-put.ensures in
    let so_far = rw start at c.loop-place.invariant in
    let at = lacking_at d kept c.args.end c.loop-place.place m c.requires.reached behind lt c.message.ensures.is in
    let next : c.loop-place.place + 1 - kept ≡ place + 1 = omega (arith, behind) in
    rw (start, next)
    (record {
      later = omega (arith, so_far.later, put.later);
      reads = put.reads ∙ so_far.reads;
      puts = puts_more _ (g.K.Keeper.seen c.loop-place.keeper) _ _ place m (omega (arith, size, lt, behind)) at so_far.puts put.puts;
    })

pub returns-in_err-put-clause-puts : goal.returns-in_err-put-clause-puts
returns-in_err-put-clause-puts g c =
    let d = c.args.self.now in
    let kept = (g.K.Keeper.seen c.args.keeper.now).deltas in
    let start : c.deltas-kept.result ≡ kept = c.deltas-kept.ensures in
    let behind = rw start at c.loop-place.auto.place in
    let size = lacking_length d kept c.args.end c.requires.reached c.requires.pushed in
    let so_far = rw start at c.loop-place.invariant in
    let e = err_from_is_err_and c.from_residual.result c.from_residual.ensures.1 in
    rw e.1
    (record {
      count = c.loop-place.place - kept;
      within = omega (arith, size, c.loop-place-test.true, behind);
      puts = puts_on _ (g.K.Keeper.seen c.loop-place.keeper) _ _ so_far.puts c.in_err-put.ensures.puts;
    })

pub returns-in_err-put-clause-stands : goal.returns-in_err-put-clause-stands
returns-in_err-put-clause-stands g c = λ order stands.
    let d = c.args.self.now in
    let kept = (g.K.Keeper.seen c.args.keeper.now).deltas in
    let start : c.deltas-kept.result ≡ kept = c.deltas-kept.ensures in
    let behind = rw start at c.loop-place.auto.place in
    let size = lacking_length d kept c.args.end c.requires.reached c.requires.pushed in
    let so_far = rw start at c.loop-place.invariant in
    prefix_put_stands d order _ _ c.args.end (g.K.Keeper.sized c.args.keeper.now)
    (record {
      count = c.loop-place.place - kept;
      within = omega (arith, size, c.loop-place-test.true, behind);
      puts = puts_on _ (g.K.Keeper.seen c.loop-place.keeper) _ _ so_far.puts c.in_err-put.ensures.puts;
    })
    stands

pub returns-clause-puts : goal.returns-clause-puts
returns-clause-puts g c =
    let d = c.args.self.now in
    let kept = (g.K.Keeper.seen c.args.keeper.now).deltas in
    let start : c.deltas-kept.result ≡ kept = c.deltas-kept.ensures in
    let so_far = rw start at c.loop-place.invariant in
    let size = lacking_length d kept c.args.end c.requires.reached c.requires.pushed in
    puts_all _ _ _ _ (omega (arith, size, c.loop-place-test.false)) so_far.puts

pub returns-clause-reached : goal.returns-clause-reached
returns-clause-reached g c =
    let d = c.args.self.now in
    let kept = (g.K.Keeper.seen c.args.keeper.now).deltas in
    let start : c.deltas-kept.result ≡ kept = c.deltas-kept.ensures in
    let so_far = rw start at c.loop-place.invariant in
    let ms = lacking_up_to d kept c.args.end in
    let size = lacking_length d kept c.args.end c.requires.reached c.requires.pushed in
    omega (arith, size, c.loop-place-test.false, so_far.puts.kept.deltas, length-take (c.loop-place.place - kept) ms)

pub returns-clause-stands : goal.returns-clause-stands
returns-clause-stands g c = λ order stands.
    let d = c.args.self.now in
    let kept = (g.K.Keeper.seen c.args.keeper.now).deltas in
    let start : c.deltas-kept.result ≡ kept = c.deltas-kept.ensures in
    let so_far = rw start at c.loop-place.invariant in
    let size = lacking_length d kept c.args.end c.requires.reached c.requires.pushed in
    put_stands d order _ _ (c.args.end - kept) _ (g.K.Keeper.sized c.args.keeper.now) refl
    (puts_all _ _ _ _ (omega (arith, size, c.loop-place-test.false)) so_far.puts) stands
