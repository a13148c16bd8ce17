use Rattle.std.proofs.Common.{arith, drop, fold, ◌+◌, ◌∷◌, ◌∙◌, ap, sym, subst}
use Rattle.std.proofs.lemmas.List.{at_drop_more}
use Rattle.fluid_tree.specs.Object.{placed}
use Rattle.fluid_tree.specs.Sorted.{Stands}
use Rattle.fluid_tree.proofs.EntryMap.{put_in_order}
use Rattle.fluid_tree.proofs.writing.sorted.Goals as goal

pub loop-entry-preserved : goal.loop-entry-preserved
loop-entry-preserved c =
    let done = c.loop-entry.invariant.0 in
    let e = c.entry-item.result in
    let rest = drop (c.loop-entry.entry-index + 1) c.args.entries.now in
    let next =
    at_drop_more (fold (λ es f. placed f es) done) c.args.entries.now c.loop-entry.entry-index e (omega arith) ∙ ap (λ f. fold (λ es g. placed g es) done (f ∷ rest)) (sym c.entry-item.is) in (
      placed e done,
      (
        subst (λ ms. Stands ms (placed e done)) (sym c.in_ok-insert.ensures.entries)
            (put_in_order c.loop-entry.sorted.entries done c.in_ok-key.key c.in_ok-bytes.bytes e c.in_ok-key.ensures c.in_ok-bytes.ensures c.loop-entry.invariant.1.0),
        sym next ∙ c.loop-entry.invariant.1.1,
      ),
    )
