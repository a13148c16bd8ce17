use Rattle.std.proofs.Common.{◌≡◌, ◌++◌, length}
use Rattle.fluid_voice.specs.Heard.{submission_acts}
use Rattle.fluid_voice.proofs.hearing.submission_acts.Given as goal

-- what is done, and behind it what is made of the rest
abbrev pub invariant-loop-submission : goal.invariant-loop-submission
invariant-loop-submission l = record {
  done : l.acts ++ submission_acts l.moment l.id l.submission-iterator.rest.items ≡ submission_acts l.moment l.id l.fn.submissions;
  len : l.submission-iterator.rest.len ≡ length l.submission-iterator.rest.items;
}
