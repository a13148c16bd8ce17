use Rattle.std.proofs.Common.{◌≡◌, ◌++◌, map, take}
use Rattle.fluid_transcript.specs.Lines.{reply_line}
use Rattle.fluid_transcript.specs.Transcript.{written}
use Rattle.fluid_callers.proofs.written.Written.push_replies.Given as goal

-- so many lines stand behind those that were there
abbrev pub invariant-loop-reply : goal.invariant-loop-reply
invariant-loop-reply l = l.self ≡ l.fn.self ++ written (map (reply_line l.name) (take l.reply-index l.replies))
