use Rattle.std.proofs.Common.{◌∙◌, ap, subst, Err}
use Rattle.clap.specs.Walk.{texts}
use Rattle.clap.specs.Simple.{app_of}
use Rattle.clap.specs.Faults.{is_simple_and_free}
use Rattle.fluid_words.specs.Found.{IsFound}
use Rattle.fluid_words.proofs.Asked.{fails}
use Rattle.fluid_words.proofs.found.find.Goals as goal

pub returns-in-Err : goal.returns-in-Err
returns-in-Err c =
    λ app is simple free.
    subst (λ a. IsFound a (texts c.args.words.now) (Err c.fault_of.result)) is
    (fails (app_of c.args.command) (texts c.args.words.now) _ _ c.fault_of.ensures (c.in-Err.ensures.kinds (ap is_simple_and_free is ∙ free)))
