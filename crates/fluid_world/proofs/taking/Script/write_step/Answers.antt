use Rattle.std.proofs.Common.{◌≡◌, ◌≤◌, ◌+◌, ◌∙◌, refl, sym, ap, subst, None, arith, rules}
use Rattle.std.proofs.lemmas.Result.{err_from_is_err_and}
use Rattle.fluid_types.specs.Forms.{largest}
use Rattle.fluid_io.specs.declared.lines.TheConstants.{MOST_LINES}
use Rattle.fluid_transcript.specs.Transcript.{at_line, done}
use Rattle.fluid_desk.specs.declared.stop.Stop.TheVariants.{NoMemory}
use Rattle.fluid_desk.proofs.Honest.{may_want}
use Rattle.fluid_containers.specs.Stepping.{MayStand as MayShow}
use Rattle.fluid_world.specs.Naming.{refusal_by}
use Rattle.fluid_world.specs.Taking.{Scripting, IsWithin}
use Rattle.fluid_world.proofs.Tooked.{may_step, few_steps, stands_at, wrote, ran_short}
use Rattle.fluid_world.proofs.taking.Script.write_step.Goals as goal

pub take_step-requires : goal.take_step-requires
take_step-requires g c =
    let within = subst (IsWithin MOST_LINES) (sym c.self.view_is) c.requires.within in
    let moment : c.args.moment ≤ largest = omega (arith, c.requires.moment, c.requires.within.lines) in
    let stands : MayShow c.self.inside.may.value c.self.inside.lanes = may_step _ within.stands in
    let accepted : refusal_by c.self.inside.names.table.values c.args.step ≡ None = ap (λ (s : Scripting). refusal_by s.names c.args.step) c.self.view_is ∙ c.requires.accepted in
    let few = few_steps _ within in
    search rules

pub returns-clause-writes : goal.returns-clause-writes
returns-clause-writes g c = rw (← c.self.view_is) (λ w h.
    wrote (done c.self.inside.lanes.limits (at_line w) c.args.step) c.self.inside.speaks _ c.args.waiting.now.items c.args.waiting.now.items c.put.new.waiting.items c.in_ok-lines.lines
    (c.in_ok-lines.ensures.does (at_line w) h.good (stands_at c.self.inside.lanes c.self.inside.objects c.self.inside.names.table.values w h.stands) h.owned
    (ap (λ n. n + 1) h.moment ∙ (ap (λ (s : Scripting). s.lines + 1) c.self.view_is ∙ sym c.requires.moment))) refl c.in_ok-put.ensures.ok)

pub returns-in_err-lines-clause-writes : goal.returns-in_err-lines-clause-writes
returns-in_err-lines-clause-writes g c = rw (← c.self.view_is) (λ w h.
    let e = err_from_is_err_and c.from_residual.result c.from_residual.ensures.1 in
    rw (e.1, e.2) (c.in_err-lines.ensures.does (at_line w) h.good (stands_at c.self.inside.lanes c.self.inside.objects c.self.inside.names.table.values w h.stands) h.owned
    (ap (λ n. n + 1) h.moment ∙ (ap (λ (s : Scripting). s.lines + 1) c.self.view_is ∙ sym c.requires.moment))))

pub returns-in_err-lines-clause-runs : goal.returns-in_err-lines-clause-runs
returns-in_err-lines-clause-runs g c = rw (← c.self.view_is) (λ first run.
    let e = err_from_is_err_and c.from_residual.result c.from_residual.ensures.1 in
    rw (e.1, e.2) (c.in_err-lines.ensures.runs first c.self.inside.lines run))

pub returns-in_err-put-clause-runs : goal.returns-in_err-put-clause-runs
returns-in_err-put-clause-runs g c = rw (← c.self.view_is) (λ first run.
    let e = err_from_is_err_and c.from_residual-in_err-put.result c.from_residual-in_err-put.ensures.1 in
    rw (e.1, e.2) (ran_short first (c.self.inside.lines + 1) c.self.inside.objects c.take_step.new.objects c.take_step.new.lanes (c.in_ok-lines.ensures.runs first c.self.inside.lines run)))

pub returns-clause-runs : goal.returns-clause-runs
returns-clause-runs g c = rw (← c.self.view_is) (λ first run. c.in_ok-lines.ensures.runs first c.self.inside.lines run)

pub returns-clause-numbers : goal.returns-clause-numbers
returns-clause-numbers g c = rw (← c.self.view_is) (λ n few. c.in_ok-lines.ensures.numbers n few)

pub returns-in_err-put-clause-writes : goal.returns-in_err-put-clause-writes
returns-in_err-put-clause-writes g c = rw (← c.self.view_is) (λ w h.
    let e = err_from_is_err_and c.from_residual-in_err-put.result c.from_residual-in_err-put.ensures.1 in
    rw (e.1, e.2) (may_want (done c.self.inside.lanes.limits (at_line w) c.args.step).world c.take_step.new.lanes NoMemory refl))
