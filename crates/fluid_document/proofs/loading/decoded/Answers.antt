use Rattle.std.proofs.Common.{rules}
use Rattle.std.proofs.lemmas.Str.{is_utf8-from_IsUtf8}
use Rattle.fluid_checkpoint.proofs.Utf8.{no_utf8}
use Rattle.fluid_document.specs.Loading.{record_in}
use Rattle.fluid_document.proofs.loading.decoded.Goals as goal

pub returns-in-Ok : goal.returns-in-Ok
unfolding record_in
returns-in-Ok c = let text = c.in-Ok.ensures.cases in rw (is_utf8-from_IsUtf8 _ text.1) (rw text.0 at c.spelled.ensures)

pub returns-in-Err : goal.returns-in-Err
unfolding record_in
returns-in-Err c = let text = c.in-Err.ensures.cases in rw (no_utf8 _ text.0) (search rules)
