use Rattle.std.proofs.Common.{◌≤◌, List, ℕ, length, get_or, ap, arith}
use Rattle.fluid_disk.proofs.Rows.{gate_at, length_gates}
use Rattle.fluid_disk.proofs.writing.gate_of.Goals as goal

pub returns : goal.returns
returns c records is =
    let within : c.args.count ≤ length records = omega (arith, c.requires, ap length is, length_gates 0 records) in
    omega (arith, ap (λ (l : List ℕ). get_or l c.args.count 0) is, gate_at 0 c.args.count records 0 within)
