use Rattle.std.proofs.Common.{refl, sym, ap, arith, subst, ◌∙◌}
use Rattle.fluid_desk.specs.Scribing.{Concludes}
use Rattle.fluid_desk.specs.Stands.{IsLaneOf}
use Rattle.fluid_desk.proofs.Laned.{says}
use Rattle.fluid_desk.proofs.Scribed.{idles, reports, unputs, told_ends_with}
use Rattle.fluid_desk.proofs.scribing.scribe.Goals as goal

pub returns-in-Ok-clause-does : goal.returns-in-Ok-clause-does
returns-in-Ok-clause-does g c = λ limits w d of held at.
    let j = c.in-Ok-Some in
    let own = subst (λ s. IsLaneOf limits s d) (sym j.ensures.same) of in
    reports limits w d c.args.name.now _ _ held j.job (sym (says limits c.args.lane.now d of).job ∙ sym j.ensures.job ∙ j.field-0-is) c.in-Ok.found _ _ c.in-Ok.ensures.puts
    (subst (λ m. Concludes limits d c.args.name.now j.job.summary c.in-Ok.found m c.conclude.new.lane c.conclude.result) (sym at) (c.conclude.ensures.does limits d own))

pub returns-in-Ok-Some-clause-does : goal.returns-in-Ok-Some-clause-does
returns-in-Ok-Some-clause-does g c = λ limits w d of held at.
    let j = c.in-Ok-Some in
    unputs limits w d c.args.name.now _ _ held j.job (sym (says limits c.args.lane.now d of).job ∙ sym j.ensures.job ∙ j.field-0-is) c.in-Err-put_version.fault c.job.new.self c.unput.result c.in-Err-put_version.ensures.puts
    (subst (λ s. IsLaneOf limits s d) (sym j.ensures.same) of) c.unput.ensures

pub returns-in-Ok-None-clause-does : goal.returns-in-Ok-None-clause-does
returns-in-Ok-None-clause-does g c = λ limits w d of held at.
    let j = c.in-Ok-None in
    idles limits w d c.args.name.now (g.O.Objects.seen c.args.objects.now) (g.O.Objects.seen c.args.objects.now) held c.job.new.self c.line_or_stop.result (subst (λ s. IsLaneOf limits s d) (sym j.ensures.same) of)
    (sym (says limits c.args.lane.now d of).job ∙ sym j.ensures.job ∙ j.field-0-is) refl (c.line_or_stop.ensures _ c.idle_line.ensures)

pub returns-in-Ok-None-clause-runs : goal.returns-in-Ok-None-clause-runs
returns-in-Ok-None-clause-runs g c = record {
  later = omega (arith, ap (λ s. s.keeping.faults) c.in-Ok-None.ensures.same);
  sides = omega (arith, ap (λ s. s.sides) c.in-Ok-None.ensures.same);
  counts = omega arith;
  ends = told_ends_with c.args.lane.now c.job.new.self _ _ _ c.line_or_stop.result c.line_or_stop.ensures;
}
