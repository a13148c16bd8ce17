use Rattle.std.proofs.Common.{◌∙◌, ap, ◌++◌}
use Rattle.fluid_pipe.proofs.Answers.{too_long, not_utf8, too_many, takes_line, refuses_line}
use Rattle.fluid_pipe.proofs.flow.take_next.Goals as goal

pub returns-in-Err-TooLong-clause-steps : goal.returns-in-Err-TooLong-clause-steps
returns-in-Err-TooLong-clause-steps g c =
    λ m before gone reached.
    let answer = rw c.in-Err-TooLong.field-0-is at c.in-Err-TooLong.ensures.answer in
    rw c.in-Err-TooLong.number-is (too_long m _ before gone _ _ _ _ reached answer, reached.written)

pub returns-in-Err-NotUtf8-clause-steps : goal.returns-in-Err-NotUtf8-clause-steps
returns-in-Err-NotUtf8-clause-steps g c =
    λ m before gone reached.
    let answer = rw c.in-Err-NotUtf8.field-0-is at c.in-Err-NotUtf8.ensures.answer in
    rw c.in-Err-NotUtf8.number-is (not_utf8 m _ before gone _ _ _ _ reached answer, reached.written)

pub returns-in-Err-TooMany-clause-steps : goal.returns-in-Err-TooMany-clause-steps
returns-in-Err-TooMany-clause-steps g c =
    λ m before gone reached.
    let answer = rw c.in-Err-TooMany.field-0-is at c.in-Err-TooMany.ensures.answer in
    rw c.in-Err-TooMany.number-is (too_many m _ before gone _ _ _ _ reached answer, reached.written)

pub returns-in-Ok-clause-steps : goal.returns-in-Ok-clause-steps
returns-in-Ok-clause-steps g c =
    λ m before gone reached.
    let answer = rw c.in-Ok-Text.field-0-is at c.in-Ok-Text.ensures.answer in
    let after = rw c.in-Ok-Text.field-0-is at c.in-Ok-Text.ensures.reader in
    let first = rw c.in-Ok-Text.field-0-is at c.in-Ok-Text.ensures.line in
    let taken = rw c.as_str.ensures at (c.in-Ok.ensures.takes m before reached.keeps) in
    takes_line m _ _ before gone _ _ _ _ _ _ _ c.in-Ok-Text.text reached answer after first taken

pub returns-in-Err-Refused-clause-steps : goal.returns-in-Err-Refused-clause-steps
returns-in-Err-Refused-clause-steps g c =
    λ m before gone reached.
    let answer = rw c.in-Ok-Text.field-0-is at c.in-Ok-Text.ensures.answer in
    let after = rw c.in-Ok-Text.field-0-is at c.in-Ok-Text.ensures.reader in
    let taken = rw (c.in-Err-Refused.field-0-is, c.as_str.ensures) at (c.in-Err-Refused.ensures.takes m before reached.keeps) in
    rw c.count.ensures (
      refuses_line m _ _ before gone _ _ _ _ c.in-Ok-Text.text _ reached answer after taken.0 taken.1,
      ap (λ w. gone ++ w) c.in-Err-Refused.ensures.waits ∙ reached.written,
    )
