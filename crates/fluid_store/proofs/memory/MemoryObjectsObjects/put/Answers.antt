use Rattle.std.proofs.Common.{◌≡◌, ◌∙◌, ap, sym, subst, rules, Some, length, arith}
use Rattle.std.specs.FinMap.{from_sorted}
use Rattle.fluid_store.specs.Held.{byte_order, IsShort}
use Rattle.fluid_store.proofs.Maps.{in_order_still, held_more}
use Rattle.fluid_store.proofs.Short.{short_more}
use Rattle.fluid_store.proofs.memory.MemoryObjectsObjects.put.Goals as goal

pub invariant_of-self-2 : goal.invariant_of-self-2
invariant_of-self-2 c =
    let more : from_sorted c.insert.new.self.entries ≡ _ = ap (from_sorted {R = byte_order}) c.in_ok-insert.ensures.entries ∙ held_more _ c.self.invariant.0 c.args.id.now c.in_ok-copy.copy in (
      rw c.in_ok-insert.ensures.entries (in_order_still _ c.self.invariant.0 c.args.id.now c.in_ok-copy.copy),
      subst IsShort (sym more) (short_more _ c.args.id.now c.in_ok-copy.copy c.self.invariant.1 (omega (arith, c.if-bytes-ge-LONGEST.false, ap length c.in_ok-copy.ensures))),
    )

pub returns-clause-puts : goal.returns-clause-puts
returns-clause-puts c =
    let entries = c.in_ok-insert.ensures.entries in
    let more : from_sorted c.insert.new.self.entries ≡ _ = ap (from_sorted {R = byte_order}) entries ∙ held_more _ c.self.invariant.0 c.args.id.now c.in_ok-copy.copy in
    rw (← c.self.view_is) (record { gets = search rules; later = c.fails-fails.ensures.later; does = rw (sym c.in_ok-copy.ensures) (ap Some more) })
