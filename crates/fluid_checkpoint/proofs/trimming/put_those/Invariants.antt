use Rattle.std.proofs.Common.{◌≡◌, ◌++◌, drop}
use Rattle.fluid_codec.specs.Rows.{rows_tokens}
use Rattle.fluid_checkpoint.specs.Reading.{those}
use Rattle.fluid_checkpoint.proofs.trimming.put_those.Given as goal

-- the members that were printed, and then the others, are all
abbrev pub invariant-loop-field : goal.invariant-loop-field
invariant-loop-field l = record {
  before : l.out.before ≡ l.fn.out.before;
  tokens : l.out.tokens ++ rows_tokens (those (drop l.field-index l.fields) l.value) ≡ l.fn.out.tokens ++ rows_tokens (those l.fields l.value);
}
