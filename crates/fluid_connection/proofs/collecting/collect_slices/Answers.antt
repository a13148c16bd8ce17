use Rattle.std.proofs.Common.{sym, subst}
use Rattle.fluid_connection.specs.Knowing.{knowing}
use Rattle.fluid_connection.specs.Slices.{Brings, TakesNext}
use Rattle.fluid_connection.proofs.Collections.{brings_none, brings_more, last_number, ahead, fails_then}
use Rattle.fluid_connection.proofs.collecting.collect_slices.Goals as goal

pub slices-init : goal.slices-init
slices-init g c =
    let p = knowing c.args.door.now.name c.args.pass in
    (tt, tt, c.requires.pass, c.requires.first, subst (λ rs. Brings c.args.door.now.name p p c.args.next c.args.next rs) (sym c.new-events.ensures) (brings_none c.args.door.now.name p c.args.next c.requires.within))

pub returns-then-slice-clause-does : goal.returns-then-slice-clause-does
returns-then-slice-clause-does g c =
    let name = c.args.door.now.name in
    let p = knowing name c.args.pass in
    let m = knowing name c.slices.pass in
    let q = knowing name c.collect_next-back.result.0 in
    let takes = subst (λ r. TakesNext name m q c.slices.next c.slices.events c.collect_next-back.new.events r) c.in-Ok.is c.collect_next-back.ensures.does in
    record {
      brings = brings_more name p m q c.args.next c.slices.next c.slices.events c.collect_next-back.new.events c.in-Ok.slice c.requires.first c.slices.invariant.4 takes;
      last = last_number name p m q c.args.next c.slices.next c.slices.events c.collect_next-back.new.events c.in-Ok.slice c.requires.first c.slices.invariant.4 takes c.if-slice.true;
    }

pub slices-preserved : goal.slices-preserved
slices-preserved g c =
    let name = c.args.door.now.name in
    let p = knowing name c.args.pass in
    let m = knowing name c.slices.pass in
    let q = knowing name c.collect_next-back.result.0 in
    let takes = subst (λ r. TakesNext name m q c.slices.next c.slices.events c.collect_next-back.new.events r) c.in-Ok.is c.collect_next-back.ensures.does in (
      tt,
      tt,
      c.collect_next-back.ensures.turn,
      ahead name p m q c.args.next c.slices.next c.slices.events c.collect_next-back.new.events c.in-Ok.slice c.requires.first c.slices.invariant.4 takes,
      brings_more name p m q c.args.next c.slices.next c.slices.events c.collect_next-back.new.events c.in-Ok.slice c.requires.first c.slices.invariant.4 takes,
    )

pub returns-in-Err-clause-does : goal.returns-in-Err-clause-does
returns-in-Err-clause-does g c =
    let name = c.args.door.now.name in
    let p = knowing name c.args.pass in
    let m = knowing name c.slices.pass in
    let q = knowing name c.collect_next-back.result.0 in
    fails_then name p m q c.args.next c.slices.next c.slices.events c.in-Err.fault c.slices.invariant.4
    (subst (λ r. TakesNext name m q c.slices.next c.slices.events c.collect_next-back.new.events r) c.in-Err.is c.collect_next-back.ensures.does)
