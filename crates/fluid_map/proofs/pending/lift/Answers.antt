use Rattle.std.proofs.Common.{◌≡◌, ◌-◌, None, ap, sym, ◌∙◌}
use Rattle.std.specs.FinMap.{get, insert, remove}
use Rattle.std.proofs.lemmas.Option.{same_Some}
use Rattle.fluid_table.proofs.Places.{insert_again, remove_inserted, get_own}
use Rattle.fluid_map.specs.declared.pending.Latest.{Latest}
use Rattle.fluid_map.proofs.pending.lift.Goals as goal

pub returns-then-last-gt1-clause-fewer : goal.returns-then-last-gt1-clause-fewer
returns-then-last-gt1-clause-fewer c = λ last found many.
    let same : c.in-Some.last ≡ last = same_Some _ _ (sym c.in-Some.is ∙ c.replace.ensures.former ∙ found) in
    let first = c.replace.ensures.replaced last found in
    let unknown : Latest = record { value = None; changes = 0 } in
    let fewer : Latest = record { value = c.in-Some.last.value; changes = c.in-Some.last.changes - 1 } in
    c.replace-then-last-gt1.ensures.replaced unknown (ap (λ m. get m c.args.key.now) first ∙ get_own c.args.latest.now.values c.args.key.now unknown)
    ∙ ap (λ m. insert m c.args.key.now fewer) first ∙ insert_again c.args.latest.now.values c.args.key.now unknown fewer
    ∙ ap (λ (l : Latest). insert c.args.latest.now.values c.args.key.now (record { value = l.value; changes = l.changes - 1 })) same

pub returns-else-last-gt1-clause-gone : goal.returns-else-last-gt1-clause-gone
returns-else-last-gt1-clause-gone c = λ last found few.
    let first = c.replace.ensures.replaced last found in
    c.remove.ensures.values ∙ ap (λ m. remove m c.args.key.now) first ∙ remove_inserted c.args.latest.now.values c.args.key.now (record { value = None; changes = 0 })
