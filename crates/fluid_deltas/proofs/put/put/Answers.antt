use Rattle.std.proofs.Common.{◌≡◌, rules, subst}
use Rattle.std.proofs.lemmas.Str.{is_utf8-from_IsUtf8}
use Rattle.fluid_types.specs.Printed.{message_printed}
use Rattle.fluid_log.specs.Keeping.{IsText}
use Rattle.fluid_deltas.proofs.Putting.{one_text}
use Rattle.fluid_deltas.proofs.put.put.Goals as goal

pub returns-in-Ok-clause-puts : goal.returns-in-Ok-clause-puts
returns-in-Ok-clause-puts g c =
    let text : c.as_str-text.result.now ≡ message_printed c.args.message.now = search rules in
    record {
      kept = search rules;
      texts = one_text c.args.message.now (subst IsText text (is_utf8-from_IsUtf8 _ c.as_str-text.utf8));
    }
