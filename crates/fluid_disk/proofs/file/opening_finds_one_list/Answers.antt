use Rattle.fluid_disk.proofs.Endings.{found_once}
use Rattle.fluid_disk.proofs.file.opening_finds_one_list.Goals as goal

pub returns : goal.returns
returns c = found_once
