use Rattle.std.proofs.Common.{◌≡◌, ◌+◌, ◌-◌, min, ap, sym, ◌∙◌, arith}
use Rattle.std.specs.List.{range_with_len}
use Rattle.fluid_cast.proofs.Stretches.{take-range_with_len}
use Rattle.fluid_cast.proofs.cursor.Cursor.batch.Goals as goal

pub returns-clause-numbers : goal.returns-clause-numbers
returns-clause-numbers c =
    let next = c.args.self.now.next in
    let left = c.args.len + 1 - next in
    let count : (next + c.min.result) - next ≡ min left c.args.most = omega arith in
    ap (range_with_len next) count ∙ sym (take-range_with_len next c.args.most left)
