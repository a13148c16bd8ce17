use Rattle.std.proofs.Common.{arith}
use Rattle.fluid_types.specs.Names.{entry_name}
use Rattle.fluid_types.proofs.EntryNames.{entry_name-is_name}
use Rattle.tests_of_disks.proofs.lanes.join.Goals as goal

pub join-answer-requires : goal.join-answer-requires
join-answer-requires g c =
    let id = c.args.lane.now.entries.entered in
    record { fits = c.client-detail.ensures (entry_name id) c.args.moment (entry_name-is_name id (omega (arith, c.entered-number.ensures, c.if-number-gt-LARGEST.false))) (omega (arith, c.if-moment-gt-LARGEST.false)) }
