use Rattle.std.proofs.Common.{rules, ◌<◌, ℕ, refl, sym, subst}
use Rattle.fluid_types.specs.Forms.{largest}
use Rattle.fluid_containers.specs.Stepping.{MayStand}
use Rattle.fluid_world.specs.Naming.{AreBounded, IsShortStep}
use Rattle.fluid_workload.specs.Working.{stepped}
use Rattle.fluid_load.specs.Standing.{AtWork, CanPass}
use Rattle.fluid_load.proofs.Moved.{may_stand, few_left, has_passed}
use Rattle.fluid_load.proofs.working.Working.pass.Goals as goal

pub pass_step-requires : goal.pass_step-requires
pass_step-requires g c =
    let s : AtWork = record { lanes = c.self.inside.lanes; store = c.self.inside.objects; names = c.self.inside.names.table.values; sent = c.self.inside.sent.table.values; tally = c.self.inside.tally; good = c.self.inside.may.value } in
    let can : CanPass s = subst CanPass (sym c.self.view_is) c.requires.can in
    let stands : MayStand c.self.inside.may.value c.self.inside.lanes = may_stand s can in
    let short : IsShortStep c.args.step = c.requires.short in
    let few : (n : ℕ) × (AreBounded n c.self.inside.names.table.values × (n < largest)) = few_left s can.few in
    search rules

pub returns-clause-does : goal.returns-clause-does
returns-clause-does g c =
    let s : AtWork = record { lanes = c.self.inside.lanes; store = c.self.inside.objects; names = c.self.inside.names.table.values; sent = c.self.inside.sent.table.values; tally = c.self.inside.tally; good = c.self.inside.may.value } in
    let new : AtWork = record { lanes = c.pass_step.new.lanes; store = c.pass_step.new.objects; names = c.pass_step.new.names.table.values; sent = c.self.inside.sent.table.values; tally = c.self.inside.tally; good = c.self.inside.may.value } in
    rw (← c.self.view_is) (λ w good stands.
    has_passed (stepped c.self.inside.lanes.limits w c.args.step) s new c.pass_step.result refl refl (c.pass_step.ensures.does w.world good stands.stands stands.owned stands.moment))

pub returns-clause-on : goal.returns-clause-on
returns-clause-on g c = rw (← c.self.view_is) (record {
  limits = c.pass_step.ensures.limits;
  good = refl;
  counts = c.pass_step.ensures.counts;
  runs = c.pass_step.ensures.runs;
  numbers = c.pass_step.ensures.numbers;
})
