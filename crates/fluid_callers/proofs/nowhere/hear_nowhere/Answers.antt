use Rattle.std.proofs.Common.{rules, sym, ◌∙◌}
use Rattle.std.proofs.lemmas.Result.{err_from_is_err_and}
use Rattle.std.proofs.lemmas.List.{nil_from_length}
use Rattle.fluid_callers.proofs.Apart.{said_none, said_more, said_all}
use Rattle.fluid_callers.proofs.nowhere.hear_nowhere.Goals as goal

pub loop-act-init : goal.loop-act-init
loop-act-init c = record {
  len = search rules;
  some = rw (c.into_iter-act-iterator.ensures.into_iter_gives.0 ∙ c.into_vec-act-items.ensures, c.none-lines.ensures) (said_none c.args.name.now c.args.acts c.args.voice.now);
}

pub loop-act-preserved : goal.loop-act-preserved
loop-act-preserved c =
    let left = c.in-Some.ensures.steps.0 in
    record {
      len = search rules;
      some = said_more c.args.name.now c.args.acts c.args.voice.now c.in-Some.act c.next.new.self.rest.items c.loop-act.voice c.hear.new.voice c.loop-act.lines c.hear.new.lines (rw left at c.loop-act.invariant.some) c.in_ok-hear.ensures.says;
    }

pub returns-in_err-hear-clause-says : goal.returns-in_err-hear-clause-says
returns-in_err-hear-clause-says c = λ limits opened d h nowhere is.
    let e = err_from_is_err_and c.from_residual.result c.from_residual.ensures.1 in
    rw (e.1, e.2) c.in_err-hear.ensures.memory

pub returns-clause-says : goal.returns-clause-says
returns-clause-says c = λ limits opened d h nowhere is.
    said_all c.args.name.now c.args.acts c.args.voice.now c.loop-act.voice c.loop-act.lines (rw (nil_from_length _ (sym c.loop-act.invariant.len ∙ c.in-None.ensures.steps.0)) at c.loop-act.invariant.some) limits opened d h nowhere is
