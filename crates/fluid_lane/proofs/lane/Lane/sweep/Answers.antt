use Rattle.std.proofs.Common.{◌≡◌, ◌<◌, slice_get, Err, ap, refl, sym, subst, ◌∙◌}
use Rattle.std.proofs.lemmas.Result.{err_from_is_err_and}
use Rattle.std.specs.FinMap.{keys, len}
use Rattle.fluid_readback.proofs.Fitting.{leaves_fit}
use Rattle.fluid_rules.specs.Past.{is_sequenced}
use Rattle.fluid_lane.specs.Sweeps.{first_silent}
use Rattle.fluid_lane.proofs.Quiet.{row_there, leave_is_sequenced}
use Rattle.fluid_lane.proofs.Composed.{enters_on}
use Rattle.fluid_lane.proofs.Swept.{sweeps_worn, sweeps_cut, sweeps_early, sweeps_on}
use Rattle.fluid_lane.proofs.lane.Lane.sweep.Goals as goal

pub returns-then-is_worn-clause-sweeps : goal.returns-then-is_worn-clause-sweeps
returns-then-is_worn-clause-sweeps g c =
    let rows = c.clients.ensures ∙ ap (λ s. s.entries.state.sequencer.rows) c.self.view_is in
    let stands = subst (λ rows. (c.in-Some.place < len rows) × (slice_get (keys rows) c.in-Some.place ≡ first_silent c.args.moment c.args.silence rows)) rows c.in-Some.ensures.place in
    sweeps_worn c.args.moment c.args.silence c.args.self.now c.args.self.now c.in-Some.place stands (sym c.is_worn.ensures ∙ c.if-is_worn.true) refl

pub returns-in-Err-clause-sweeps : goal.returns-in-Err-clause-sweeps
returns-in-Err-clause-sweeps g c =
    let s = c.in-Err.ensures in
    let rows = c.clients.ensures ∙ ap (λ s. s.entries.state.sequencer.rows) c.self.view_is in
    let stands = subst (λ rows. (c.in-Some.place < len rows) × (slice_get (keys rows) c.in-Some.place ≡ first_silent c.args.moment c.args.silence rows)) rows c.in-Some.ensures.place in
    sweeps_cut c.args.moment c.args.silence c.args.self.now c.settle.new.self c.in-Some.place c.in-Err.fault stands (sym c.is_worn.ensures ∙ c.if-is_worn.false) s.fails s.kept s.same.0 s.reads s.cause

pub returns-in_err-id-clause-sweeps : goal.returns-in_err-id-clause-sweeps
returns-in_err-id-clause-sweeps g c =
    let e = err_from_is_err_and c.from_residual.result c.from_residual.ensures.1 in
    let s = c.in-Ok.ensures in
    let rows = c.clients.ensures ∙ ap (λ s. s.entries.state.sequencer.rows) c.self.view_is in
    let stands = subst (λ rows. (c.in-Some.place < len rows) × (slice_get (keys rows) c.in-Some.place ≡ first_silent c.args.moment c.args.silence rows)) rows c.in-Some.ensures.place in
    rw (e.1, e.2) (sweeps_early c.args.moment c.args.silence c.args.self.now c.settle.new.self c.in-Some.place stands (sym c.is_worn.ensures ∙ c.if-is_worn.false) s.kept s.same.0 s.done s.reads)

pub add-requires-clause-fits : goal.add-requires-clause-fits
add-requires-clause-fits g c = leaves_fit c.in_ok-id.id c.args.moment c.in_ok-id.ensures.name c.requires.moment

pub sequenced-requires : goal.sequenced-requires
sequenced-requires g c =
    ap is_sequenced c.in-Ok-add.ensures.said
    ∙ leave_is_sequenced _ c.in_ok-id.id c.args.moment
    (row_there _ c.in_ok-id.id c.in-Some.place (ap (λ s. slice_get (keys s.entries.state.sequencer.rows) c.in-Some.place) (sym c.self-2.view_is) ∙ c.in_ok-id.ensures.there))

pub returns-in-Err-add-clause-sweeps : goal.returns-in-Err-add-clause-sweeps
returns-in-Err-add-clause-sweeps g c =
    let s = c.in-Ok.ensures in
    let a = c.in-Err-add.ensures in
    let rows = c.clients.ensures ∙ ap (λ s. s.entries.state.sequencer.rows) c.self.view_is in
    let stands = subst (λ rows. (c.in-Some.place < len rows) × (slice_get (keys rows) c.in-Some.place ≡ first_silent c.args.moment c.args.silence rows)) rows c.in-Some.ensures.place in
    sweeps_on c.args.moment c.args.silence c.args.self.now c.add.new.self c.in_ok-id.id c.in-Err-add.fault
    (sym stands.1 ∙ ap (λ e. slice_get (keys e.state.sequencer.rows) c.in-Some.place) (sym s.same.0) ∙ ap (λ s. slice_get (keys s.entries.state.sequencer.rows) c.in-Some.place) (sym c.self-2.view_is) ∙ c.in_ok-id.ensures.there)
    (sym c.is_worn.ensures ∙ c.if-is_worn.false) a.outside
    (enters_on _ c.args.self.now c.settle.new.self c.add.new.self (Err c.in-Err-add.fault) s.kept s.same s.reads s.goes.later a.entries a.owes a.cause a.reads a.kept a.outside)
