use Rattle.std.proofs.Common.{◌≡◌, ◌+◌, ◌<◌, length, refl, sym, ap, subst, set, get_or, length-set, Some, ◌∙◌, arith}
use Rattle.fluid_clients.specs.declared.table.Seat.{Seat}
use Rattle.fluid_clients.specs.Seats.{seat_up_to, IsIndexed}
use Rattle.fluid_clients.proofs.Down.{done_to, done_to_end, one_more}
use Rattle.fluid_clients.proofs.Indexed.{seat-slot, reseated}
use Rattle.fluid_clients.proofs.table.put_each_down.Goals as goal

pub set-requires : goal.set-requires
set-requires g c =
    let seats = c.loop-at.seats.items in
    let s = c.index_mut-seat.result.now in
    let lt : c.loop-at.at < length seats = omega (arith, c.loop-at-test.true, c.len-at-end.ensures, c.loop-at.invariant.4, c.args.seats.now.ok.0) in
    subst (λ (seat : Seat). seat.slot < length c.loop-at.index) (sym c.index_mut-seat.ensures.value) (seat-slot seats c.loop-at.index c.args.free.now c.loop-at.at s c.loop-at.invariant.1 lt)

pub loop-at-preserved : goal.loop-at-preserved
loop-at-preserved g c =
    let seats = c.loop-at.seats.items in
    let at = c.loop-at.at in
    let s = c.index_mut-seat.result.now in
    let read = c.index_mut-seat.ensures.value in
    let lt : at < length seats = omega (arith, c.loop-at-test.true, c.len-at-end.ensures, c.loop-at.invariant.4, c.args.seats.now.ok.0) in
    let lt_old : at < length c.args.seats.now.items = omega (arith, lt, c.loop-at.invariant.4) in
    let down : Seat → Seat = seat_up_to c.args.most in
    let done = ap (λ seat. set seats at (down seat)) read ∙ one_more down c.args.seats.now.items seats at s lt_old c.loop-at.invariant.0 in
    let slot : s.slot ≡ (get_or seats at s).slot = ap (λ (seat : Seat). seat.slot) read in
    let indexed = reseated seats c.loop-at.index c.args.free.now at s c.loop-at.invariant.1 lt (down s) slot in
    let written : set c.loop-at.index (get_or seats at s).slot (Some (down s).row.reference) ≡ c.set.new.self =
    sym (c.set.ensures.set ∙ ap (λ i. set c.loop-at.index i (Some c.min-lowered.result)) slot ∙ ap (λ n. set c.loop-at.index (get_or seats at s).slot (Some n)) c.min-lowered.ensures) in
    rw c.min-lowered.ensures (
      done,
      subst (λ i. IsIndexed (set seats at (down s)) i c.args.free.now) written indexed,
      c.loop-at.invariant.2,
      ap length (sym written) ∙ length-set c.loop-at.index (get_or seats at s).slot (Some (down s).row.reference) ∙ c.loop-at.invariant.3,
      length-set seats at (down s) ∙ c.loop-at.invariant.4,
    )

pub returns-clause-down : goal.returns-clause-down
returns-clause-down g c =
    c.loop-at.invariant.0 ∙ done_to_end (seat_up_to c.args.most) c.args.seats.now.items c.loop-at.at (omega (arith, c.loop-at-test.false, c.len-at-end.ensures, c.args.seats.now.ok.0))
