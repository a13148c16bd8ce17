use Rattle.std.proofs.Common.{◌≡◌, ◌∙◌, false, string_bytes, ap, sym}
use Rattle.std.specs.Prelude.{is_some}
use Rattle.fluid_tasks.specs.Kept.{at, IsEmptyQueue}
use Rattle.fluid_tasks.proofs.Names.{makes}
use Rattle.fluid_tasks.proofs.queues.make_queue.Goals as goal

pub returns-clause-kept : goal.returns-clause-kept
returns-clause-kept c =
    let none : is_some (at c.args.queues.now (string_bytes c.in_ok-key.key)) ≡ false = ap (λ n. is_some (at c.args.queues.now n)) c.in_ok-key.ensures.ok ∙ sym c.contains_key.ensures ∙ c.if-contains_key.false in
    makes IsEmptyQueue c.in_ok-key.key c.args.queues.now c.insert.new.self c.new.result none c.in_ok-insert.ensures.updates c.new.ensures
