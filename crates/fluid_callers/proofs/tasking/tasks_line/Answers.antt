use Rattle.std.proofs.Common.{◌∙◌}
use Rattle.fluid_callers.proofs.Tasked.{line_so}
use Rattle.fluid_callers.proofs.tasking.tasks_line.Goals as goal

pub returns : goal.returns
returns c =
    line_so c.args.name.now c.args.messages.now c.heard.result c.as_str.result.now c.line.result
    (c.heard.ensures.answer c.args.messages.now c.in_ok-tasks.ensures) (c.as_str.ensures ∙ c.in_ok-shown.ensures c.args.messages.now c.in_ok-tasks.ensures) c.line.ensures
