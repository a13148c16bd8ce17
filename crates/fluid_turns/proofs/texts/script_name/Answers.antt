use Rattle.fluid_steps.specs.Names.{is_script_name}
use Rattle.fluid_turns.proofs.Naming.{read_as, wants_memory}
use Rattle.fluid_turns.proofs.texts.script_name.Goals as goal

pub wanting-requires : goal.wanting-requires
wanting-requires c = wants_memory (is_script_name c.args.text.now) c.args.text.now c.in-Err.fault c.requires c.in-Err.ensures

pub returns-in-Ok : goal.returns-in-Ok
returns-in-Ok c = read_as (is_script_name c.args.text.now) c.args.text.now c.in-Ok.name c.requires c.in-Ok.ensures
