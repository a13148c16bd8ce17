use Rattle.std.proofs.Common.{sym, ◌∙◌, ap, ◌+◌, ◌++◌, add-zero}
use Rattle.fluid_rules.specs.Counted.{counted}
use Rattle.fluidd.specs.Output.{entry_line}
use Rattle.fluidd.proofs.Grown.{counted-entry}
use Rattle.fluidd.proofs.document.Document.enter.Goals as goal

pub returns-then-is_counted-clause-entered : goal.returns-then-is_counted-clause-entered
returns-then-is_counted-clause-entered c =
    λ limits l stands. record {
      limited = stands.limited;
      core = c.take_in.ensures.stands _ l (rw c.prepare.ensures.same c.in_ok-ready.ensures.ready) (rw c.prepare.ensures.same stands.core);
      counted = ap (λ n. n + 1) stands.counted ∙ sym (counted-entry l _ _ _ (sym c.is_counted.ensures ∙ c.if-is_counted.true));
    }

pub returns-else-is_counted-clause-entered : goal.returns-else-is_counted-clause-entered
returns-else-is_counted-clause-entered c =
    λ limits l stands. record {
      limited = stands.limited;
      core = c.take_in.ensures.stands _ l (rw c.prepare.ensures.same c.in_ok-ready.ensures.ready) (rw c.prepare.ensures.same stands.core);
      counted = stands.counted ∙ sym (counted-entry l _ _ _ (sym c.is_counted.ensures ∙ c.if-is_counted.false) ∙ add-zero (counted l));
    }

pub returns-then-is_counted-clause-line : goal.returns-then-is_counted-clause-line
returns-then-is_counted-clause-line c =
    λ l stands.
    c.in_ok-push_line.ensures.ok
    ∙ ap (λ v. c.args.waiting.now.items ++ entry_line (c.args.raw.now, v)) (c.verdict.ensures ∙ c.in_ok-ready.ensures.verdict l stands)

pub returns-else-is_counted-clause-line : goal.returns-else-is_counted-clause-line
returns-else-is_counted-clause-line c =
    λ l stands.
    c.in_ok-push_line.ensures.ok
    ∙ ap (λ v. c.args.waiting.now.items ++ entry_line (c.args.raw.now, v)) (c.verdict.ensures ∙ c.in_ok-ready.ensures.verdict l stands)
