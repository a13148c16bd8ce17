use Rattle.std.proofs.Common.{◌≡◌, ◌∙◌, false, string_bytes, ap, sym}
use Rattle.std.specs.Prelude.{is_some}
use Rattle.fluid_tasks.specs.Kept.{at, IsEmptyHoldings}
use Rattle.fluid_tasks.proofs.Names.{makes}
use Rattle.fluid_tasks.proofs.held.make_holdings.Goals as goal

pub returns-clause-kept : goal.returns-clause-kept
returns-clause-kept c =
    let none : is_some (at c.args.clients.now (string_bytes c.in_ok-key.key)) ≡ false = ap (λ n. is_some (at c.args.clients.now n)) c.in_ok-key.ensures.ok ∙ sym c.contains_key.ensures ∙ c.if-contains_key.false in
    makes IsEmptyHoldings c.in_ok-key.key c.args.clients.now c.insert.new.self c.new.result none c.in_ok-insert.ensures.updates c.new.ensures
