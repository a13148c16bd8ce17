use Rattle.std.proofs.Common.{IsUtf8, subst}
use Rattle.std.proofs.lemmas.Str.{IsUtf8-string_bytes}
use Rattle.fluid_quorum.proofs.writing.put_blob.Goals as goal

pub returns-clause-text : goal.returns-clause-text
returns-clause-text c = subst IsUtf8 c.into_string.ensures (IsUtf8-string_bytes c.into_string.result)
