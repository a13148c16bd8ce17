use Rattle.std.proofs.Common.{◌≡◌, drop}
use Rattle.std.specs.List.{list_any}
use Rattle.fluid_rules.specs.Scribe.{answers}
use Rattle.fluid_loader.proofs.acknowledging.is_answered.Given as goal

-- none so far answers it
abbrev pub invariant-loop-message : goal.invariant-loop-message
invariant-loop-message l = list_any (answers l.number) (drop l.message-index l.messages) ≡ list_any (answers l.number) l.messages
