use Rattle.std.proofs.Common.{rules, sym, ◌∙◌, arith}
use Rattle.std.proofs.lemmas.Result.{err_from_is_err_and}
use Rattle.std.proofs.lemmas.List.{nil_from_length}
use Rattle.std.proofs.lemmas.List.Elements.{All-head}
use Rattle.fluid_voice.specs.Fitting.{IsFitting}
use Rattle.fluid_callers.proofs.Acts.{heard_none, heard_more, heard_all, heard_honest}
use Rattle.fluid_callers.proofs.Ends.{ends_later}
use Rattle.fluid_callers.proofs.hearing.hear_all.Goals as goal

pub loop-act-init : goal.loop-act-init
loop-act-init g c = record {
  len = search rules;
  some = rw (c.into_iter-act-iterator.ensures.into_iter_gives.0 ∙ c.into_vec-act-items.ensures, c.none-lines.ensures)
      (heard_none c.args.name.now c.args.acts c.args.lane.now (g.O.Objects.seen c.args.objects.now) c.args.voice.now c.requires);
}

pub hear-requires : goal.hear-requires
hear-requires g c =
    let left = c.in-Some.ensures.steps.0 in All-head IsFitting c.in-Some.act c.next.new.self.rest.items (rw left at c.loop-act.invariant.some.fit)

pub loop-act-preserved : goal.loop-act-preserved
loop-act-preserved g c =
    let left = c.in-Some.ensures.steps.0 in
    record {
      len = search rules;
      some = heard_more c.args.name.now c.args.acts c.args.lane.now (g.O.Objects.seen c.args.objects.now) c.args.voice.now c.in-Some.act c.next.new.self.rest.items c.loop-act.lane c.hear.new.lane
          (g.O.Objects.seen c.loop-act.objects) (g.O.Objects.seen c.hear.new.objects) c.loop-act.voice c.hear.new.voice c.loop-act.lines c.hear.new.lines (rw left at c.loop-act.invariant.some)
          c.in_ok-hear.ensures.runs.later c.in_ok-hear.ensures.runs.sides c.in_ok-hear.ensures.runs.counts c.in_ok-hear.ensures.does;
    }

pub returns-in_err-hear-clause-does : goal.returns-in_err-hear-clause-does
returns-in_err-hear-clause-does g c = λ limits opened d h within is.
    let left = c.in-Some.ensures.steps.0 in
    let e = err_from_is_err_and c.from_residual.result c.from_residual.ensures.1 in
    rw (e.1, e.2)
    (heard_honest c.args.name.now c.args.acts c.args.lane.now (g.O.Objects.seen c.args.objects.now) c.args.voice.now c.in-Some.act c.next.new.self.rest.items c.loop-act.lane c.hear.new.lane
    (g.O.Objects.seen c.loop-act.objects) (g.O.Objects.seen c.hear.new.objects) c.loop-act.voice c.hear.new.voice c.loop-act.lines c.hear.new.lines c.in_err-hear.field-0.0 (rw left at c.loop-act.invariant.some)
    c.in_err-hear.ensures.does limits opened d h within is)

pub returns-in_err-hear-clause-runs : goal.returns-in_err-hear-clause-runs
returns-in_err-hear-clause-runs g c =
    let e = err_from_is_err_and c.from_residual.result c.from_residual.ensures.1 in
    let runs = c.in_err-hear.ensures.runs in
    let some = c.loop-act.invariant.some in
    rw (e.1, e.2) (record {
      later = omega (arith, some.later, runs.later);
      sides = omega (arith, some.sides, runs.sides);
      counts = omega (arith, some.counts, runs.counts);
      ends = ends_later c.args.lane.now c.loop-act.lane c.hear.new.lane (g.O.Objects.seen c.args.objects.now) (g.O.Objects.seen c.loop-act.objects) (g.O.Objects.seen c.hear.new.objects) c.in_err-hear.field-0.0 some.later some.counts runs.ends;
    })

pub returns-clause-does : goal.returns-clause-does
returns-clause-does g c = λ limits opened d h within is.
    heard_all c.args.name.now c.args.acts c.args.lane.now (g.O.Objects.seen c.args.objects.now) c.args.voice.now c.loop-act.lane (g.O.Objects.seen c.loop-act.objects) c.loop-act.voice c.loop-act.lines
    (rw (nil_from_length _ (sym c.loop-act.invariant.len ∙ c.in-None.ensures.steps.0)) at c.loop-act.invariant.some) limits opened d h within is

pub returns-clause-runs : goal.returns-clause-runs
returns-clause-runs g c = record { later = c.loop-act.invariant.some.later; sides = c.loop-act.invariant.some.sides; counts = c.loop-act.invariant.some.counts; ends = tt }
