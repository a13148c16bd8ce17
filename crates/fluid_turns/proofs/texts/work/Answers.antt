use Rattle.fluid_types.specs.Names.{is_name}
use Rattle.fluid_workload.specs.Working.{work}
use Rattle.fluid_turns.proofs.Naming.{read_as, wants_memory, work_is_name}
use Rattle.fluid_turns.proofs.texts.work.Goals as goal

pub wanting-requires : goal.wanting-requires
wanting-requires c = wants_memory (is_name work) work c.in-Err.fault work_is_name c.in-Err.ensures

pub returns-in-Ok : goal.returns-in-Ok
returns-in-Ok c = read_as (is_name work) work c.in-Ok.name work_is_name c.in-Ok.ensures
