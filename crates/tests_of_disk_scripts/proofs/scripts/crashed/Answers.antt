use Rattle.fluid_disk.specs.Memory.{memory_seen}
use Rattle.fluid_disk_shelves.specs.Shelves.{shelves_on}
use Rattle.std.proofs.Common.{true}
use Rattle.fluid_log.proofs.Lending.{whole_in}
use Rattle.tests_of_disk_scripts.proofs.scripts.crashed.Goals as goal

pub keeper-requires : goal.keeper-requires
keeper-requires g c = whole_in (shelves_on memory_seen true c.args.shelves) c.name_of-name.result c.requires
