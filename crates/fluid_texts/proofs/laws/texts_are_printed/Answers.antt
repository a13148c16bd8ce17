use Rattle.fluid_texts.proofs.Printed.{texts_are_printed, texts_are_writable}
use Rattle.fluid_texts.proofs.laws.texts_are_printed.Goals as goal

pub returns : goal.returns
returns c = record { printed = texts_are_printed; kept = texts_are_writable }
