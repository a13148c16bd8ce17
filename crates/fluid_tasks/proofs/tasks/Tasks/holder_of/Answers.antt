use Rattle.std.proofs.Common.{rules, ◌≡◌, ◌∙◌, Some, None, option_map, ap, sym, subst}
use Rattle.fluid_tasks.specs.Past.{past_of, live}
use Rattle.fluid_tasks.specs.Kept.{at, held_at}
use Rattle.fluid_tasks.proofs.Answered.{none_holds, holder_found}
use Rattle.fluid_tasks.proofs.tasks.Tasks.holder_of.Goals as goal

pub returns-in_err-kept : goal.returns-in_err-kept
returns-in_err-kept c = λ messages stands.
    let nothing : c.from_residual.result ≡ None = search rules in
    ap (option_map (λ client. client.now)) nothing ∙ none_holds (past_of messages) c.args.item (sym (stands.keeps.items_are c.args.item) ∙ sym c.in_err-kept.ensures.value)

pub returns-in_err-queue : goal.returns-in_err-queue
returns-in_err-queue c = λ messages stands.
    let nothing : c.from_residual-in_err-queue.result ≡ None = search rules in
    let is : live (past_of messages) c.args.item ≡ Some c.in_ok-kept.kept.now = sym (stands.keeps.items_are c.args.item) ∙ sym c.in_ok-kept.ensures.value in
    let none = subst (λ q. at c.args.self.now.queues q ≡ None) c.as_str.ensures.bytes (sym c.in_err-queue.ensures.value) in
    ap (option_map (λ client. client.now)) nothing ∙ sym (ap (λ o. held_at o c.args.item) none)
    ∙ holder_found (past_of messages) c.args.item c.in_ok-kept.kept.now (at c.args.self.now.queues c.in_ok-kept.kept.now.queue) is (stands.keeps.queues_are c.in_ok-kept.kept.now.queue)

pub returns : goal.returns
returns c = λ messages stands.
    let is : live (past_of messages) c.args.item ≡ Some c.in_ok-kept.kept.now = sym (stands.keeps.items_are c.args.item) ∙ sym c.in_ok-kept.ensures.value in
    let some = subst (λ q. at c.args.self.now.queues q ≡ Some c.in_ok-queue.queue.now) c.as_str.ensures.bytes (sym c.in_ok-queue.ensures.value) in
    c.get-3.ensures.value ∙ sym (ap (λ o. held_at o c.args.item) some)
    ∙ holder_found (past_of messages) c.args.item c.in_ok-kept.kept.now (at c.args.self.now.queues c.in_ok-kept.kept.now.queue) is (stands.keeps.queues_are c.in_ok-kept.kept.now.queue)
