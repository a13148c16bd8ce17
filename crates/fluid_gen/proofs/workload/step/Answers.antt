use Rattle.std.proofs.Common.{◌∙◌, sym, ap, ◌∷◌}
use Rattle.fluid_gen.specs.Left.{left}
use Rattle.fluid_gen.specs.declared.act.Act.TheVariants.{Collect, Round}
use Rattle.fluid_gen.proofs.Turns.{one-client}
use Rattle.fluid_gen.proofs.workload.step.Goals as goal

pub returns-in-Join : goal.returns-in-Join
returns-in-Join c =
    let reached = rw c.in-Join.is at c.requires.reached in
    (ap (left c.args.clients c.args.ops c.args.random.now.state) c.in-Join.is ∙ one-client _ c.args.ops _ c.args.random.now.state reached, reached)

pub returns-in-Collect : goal.returns-in-Collect
returns-in-Collect c =
    let next = c.behind_edit.ensures c.args.clients c.args.random.now.state in (
      ap (left c.args.clients c.args.ops c.args.random.now.state) c.in-Collect.is ∙ ap (λ acts. Collect c.in-Collect.client ∷ acts) (sym next.0),
      next.1,
    )

pub returns-in-Round : goal.returns-in-Round
returns-in-Round c =
    let next = c.behind_turn.ensures c.args.clients c.args.random.now.state in
    (ap (left c.args.clients c.args.ops c.args.random.now.state) c.in-Round.is ∙ ap (λ acts. Round ∷ acts) (sym next.0), next.1)
