use Rattle.std.proofs.Common.{◌≡◌, take, map}
use Rattle.fluid_door_link.proofs.answers.numbers_of.Given as goal

-- the numbers so far
abbrev pub invariant-loop-message : goal.invariant-loop-message
invariant-loop-message l = l.numbers.items ≡ map (λ m. m.number) (take l.message-index l.messages)
