use Rattle.std.proofs.Common.{◌∙◌, sym, subst, arith}
use Rattle.fluid_steps.specs.Names.{IsScriptName}
use Rattle.fluid_turns.proofs.Naming.{decimal_is_name}
use Rattle.fluid_turns.proofs.texts.named.Goals as goal

pub script_name-requires : goal.script_name-requires
script_name-requires c = subst IsScriptName (sym (c.as_str.ensures.value ∙ c.in_ok-text.ensures.ok)) (decimal_is_name c.args.client (omega (arith, c.ranges.client.fits)))
