use Rattle.std.proofs.Common.{◌≡◌, List, All, Result, Ok, Err, IfOk, subst, sym}
use Rattle.fluid_json.specs.declared.memory.NoMemory.{NoMemory}
use Rattle.fluid_voice.specs.declared.actions.Act.{Act}
use Rattle.fluid_voice.specs.Fitting.{IsFitting}
use Rattle.fluid_voice.proofs.Fit.{heard_fits}
use Rattle.fluid_voice.proofs.voices.Voice.acts.Goals as goal

fits : (result : Result (List Act) NoMemory) (asked : List Act) → IfOk result (λ acts. acts ≡ asked) → All IsFitting asked
    → IfOk result (λ acts. All IsFitting acts)
fits (Ok acts) asked same h = subst (λ list. All IsFitting list) (sym same) h
fits (Err fault) asked same h = same

pub returns-clause-fit : goal.returns-clause-fit
returns-clause-fit c = λ short early. fits _ _ c.acts_of.ensures (heard_fits _ _ _ short early)
