use Rattle.std.proofs.Common.{◌≡◌, ◌-◌, List, ℕ, length, get_or, ap, arith}
use Rattle.fluid_disk.specs.Records.{gates_from}
use Rattle.fluid_disk.proofs.Rows.{gate_at, gate_last, length_gates}
use Rattle.fluid_disk.proofs.writing.last_gate.Goals as goal

pub returns : goal.returns
returns c records is =
    let last : length c.args.gates.now - 1 ≡ length records = omega (arith, ap length is, length_gates 0 records) in
    omega (
      arith,
      ap (λ (l : List ℕ). get_or l (length c.args.gates.now - 1) 0) is,
      ap (λ (n : ℕ). get_or (gates_from 0 records) n 0) last,
      gate_at 0 (length records) records 0 (omega arith),
      gate_last records,
    )
