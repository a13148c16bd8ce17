use Rattle.std.proofs.Common.{◌≡◌, ◌+◌, ◌-◌, ℕ, length, take, drop, refl, sym, ◌∙◌, ap, arith, length-take, length-drop}
use Rattle.std.proofs.lemmas.List.{take_all}
use Rattle.fluid_disk.proofs.Pieces.{reads_none, reads_more, put_filled}
use Rattle.fluid_disk.proofs.Standing.{tells_at}
use Rattle.fluid_disk.proofs.reading.fill.Goals as goal

pub loop-done-init : goal.loop-done-init
loop-done-init g c = record {
  within = omega arith;
  reads = reads_none g.D.Disk.seen g.D.Disk.may_leave g.D.Disk.moment g.D.Disk.left_since c.args.disk.now (g.met.D.Disk.only_now c.args.disk.now);
  faults = omega arith;
  filled = λ held told. refl;
}

pub loop-done-preserved : goal.loop-done-preserved
loop-done-preserved g c =
    let so_far = c.loop-done.invariant in
    let r = c.in_ok-done.ensures.gives in
    let left = length c.loop-done.into - c.loop-done.done in
    record {
      within = omega (arith, r.within, length-take left (drop c.loop-done.done c.loop-done.into), length-drop c.loop-done.done c.loop-done.into, so_far.within, c.loop-done.auto.into);
      reads = reads_more g.D.Disk.seen g.D.Disk.may_leave g.D.Disk.moment g.D.Disk.left_since c.args.disk.now c.loop-done.disk c.read.new.self so_far.reads c.read.ensures.same c.read.ensures.crash c.read.ensures.time;
      faults = omega (arith, so_far.faults, c.read.ensures.cause.later);
      filled = λ held told.
          let now = so_far.reads.same.bytes ∙ told in
          let size = tells_at (g.D.Disk.seen c.loop-done.disk).bytes (λ b. (g.D.Disk.seen c.loop-done.disk).size ≡ length b) held now (g.met.D.Disk.sized c.loop-done.disk) in
          put_filled c.loop-done.done c.in_ok-done.field-0 c.args.at held c.loop-done.into c.read.new.into _ _ (tells_at (g.D.Disk.seen c.loop-done.disk).bytes _ held now r.given) (so_far.filled held told)
          (omega (arith, so_far.within, c.loop-done.auto.into)) (omega (arith, r.within, size, length-drop (c.args.at + c.loop-done.done) held));
    }

pub returns-in_err-done-clause-reads : goal.returns-in_err-done-clause-reads
returns-in_err-done-clause-reads g c =
    reads_more g.D.Disk.seen g.D.Disk.may_leave g.D.Disk.moment g.D.Disk.left_since c.args.disk.now c.loop-done.disk c.read.new.self c.loop-done.invariant.reads c.read.ensures.same c.read.ensures.crash c.read.ensures.time

pub returns-clause-reads : goal.returns-clause-reads
returns-clause-reads g c = c.loop-done.invariant.reads

pub returns-clause-filled : goal.returns-clause-filled
returns-clause-filled g c held told =
    let so_far = c.loop-done.invariant in
    let all : c.loop-done.done ≡ length c.args.into.now = omega (arith, so_far.within, c.loop-done-test.false, c.loop-done.auto.into) in
    sym (take_all c.loop-done.done c.loop-done.into (omega (arith, c.loop-done-test.false))) ∙ so_far.filled held told ∙ ap (λ (n : ℕ). take n (drop c.args.at held)) all
