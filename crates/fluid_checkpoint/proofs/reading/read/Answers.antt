use Rattle.std.proofs.Common.{refl, inr}
use Rattle.std.proofs.lemmas.Str.{is_utf8-from_IsUtf8}
use Rattle.fluid_checkpoint.specs.Reading.{answer}
use Rattle.fluid_checkpoint.proofs.Utf8.{no_utf8}
use Rattle.fluid_checkpoint.proofs.reading.read.Goals as goal

pub returns-in-Ok : goal.returns-in-Ok
unfolding answer
returns-in-Ok c = let text = c.in-Ok.ensures.cases in rw (is_utf8-from_IsUtf8 _ text.1) (rw text.0 at c.read_text.ensures)

pub returns-in-Err : goal.returns-in-Err
unfolding answer
returns-in-Err c = let text = c.in-Err.ensures.cases in rw (no_utf8 _ text.0) (inr refl)
