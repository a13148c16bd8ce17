use Rattle.std.proofs.Common.{sym}
use Rattle.std.proofs.lemmas.Str.{is_utf8-from_IsUtf8}
use Rattle.fluid_document.proofs.entry.append.Goals as goal

pub returns-in-Ok-clause-does : goal.returns-in-Ok-clause-does
returns-in-Ok-clause-does g c = record { is_text = is_utf8-from_IsUtf8 _ c.utf8.text; kept = rw (sym c.as_bytes.ensures.value) c.in-Ok.ensures.does }

pub returns-in-Err-Failed-clause-does : goal.returns-in-Err-Failed-clause-does
returns-in-Err-Failed-clause-does g c =
    let done = rw c.in-Err-Failed.field-0-is at c.in-Err-Failed.ensures in
    record { is_text = is_utf8-from_IsUtf8 _ c.utf8.text; left = rw (sym c.as_bytes.ensures.value) done.does }
