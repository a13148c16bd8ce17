use Rattle.std.proofs.Common.{◌≡◌, ◌<◌, ℕ, get_or, arith}
use Rattle.fluid_disk.proofs.Walks.{head_read}
use Rattle.fluid_disk.proofs.opening.head_of.Goals as goal

pub returns : goal.returns
returns c =
    let fits : (i : ℕ) → get_or c.args.bytes.now i 0 < 256 = λ i. omega (arith, c.type_inv.bytes i) in
    let is_open : get_or c.args.bytes.now 0 0 ≡ 1 = omega (arith, c.if-bytes-ne-OPEN.false) in
    head_read c.args.bytes.now c.from_be_bytes.result (omega (arith, c.if-bytes-lt5.false)) is_open fits c.from_be_bytes.ensures
