use Rattle.std.proofs.Common.{ap, sym, ◌∙◌}
use Rattle.std.specs.Prelude.{is_some}
use Rattle.std.specs.FinMap.{get}
use Rattle.fluid_tree.specs.Summary.{tree, children}
use Rattle.fluid_load.proofs.Said.{none_of}
use Rattle.fluid_load.proofs.Summed.{state_none, state_there}
use Rattle.fluid_load.proofs.states.state.Goals as goal

pub holder-requires : goal.holder-requires
holder-requires c = sym c.refusal_as_container.ensures ∙ none_of _ (sym c.is_some.ensures ∙ c.if-is_some.false)

pub returns-then-is_some : goal.returns-then-is_some
returns-then-is_some c = λ w named.
    state_none w (get c.args.names.now.table.values c.args.name.now) (get w.names c.args.name.now) c.tree-nothing.result c.tree_id.result named (ap is_some (sym c.refusal_as_container.ensures) ∙ sym c.is_some.ensures ∙ c.if-is_some.true) (c.tree-nothing.ensures ∙ ap (λ es. tree (children es)) c.new.ensures) c.tree_id.ensures

pub returns : goal.returns
returns c = λ w named. state_there w (get c.args.names.now.table.values c.args.name.now) (get w.names c.args.name.now) c.holder.result.now c.state_of.result named c.holder.ensures c.state_of.ensures
