use Rattle.std.proofs.Common.{rules, ◌≡◌, ◌∙◌, Some, None, option_map, ap, sym}
use Rattle.fluid_tasks.specs.declared.tasks.Item.{Item}
use Rattle.fluid_tasks.specs.Past.{past_of, live}
use Rattle.fluid_tasks.proofs.Answered.{value_is}
use Rattle.fluid_tasks.proofs.tasks.Tasks.value.Goals as goal

pub returns-in_err-kept : goal.returns-in_err-kept
returns-in_err-kept c = λ messages stands.
    let nothing : c.from_residual.result ≡ None = search rules in
    let none : live (past_of messages) c.args.item ≡ None = sym (stands.keeps.items_are c.args.item) ∙ sym c.in_err-kept.ensures.value in
    ap (option_map (λ value. value.now)) nothing ∙ sym (ap (option_map (λ (it : Item). it.value)) none) ∙ value_is (past_of messages) c.args.item

pub returns : goal.returns
returns c = λ messages stands.
    let is : live (past_of messages) c.args.item ≡ Some c.in_ok-kept.kept.now = sym (stands.keeps.items_are c.args.item) ∙ sym c.in_ok-kept.ensures.value in
    sym (ap (option_map (λ (it : Item). it.value)) is) ∙ value_is (past_of messages) c.args.item
