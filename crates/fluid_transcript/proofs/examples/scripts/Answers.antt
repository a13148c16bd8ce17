use Rattle.fluid_transcript.proofs.ScriptComputed.{sweep_script, reopen_script, last}
use Rattle.fluid_transcript.proofs.examples.scripts.Goals as goal

pub returns : goal.returns
returns c = record { sweep = sweep_script; reopen = reopen_script; last = last }
