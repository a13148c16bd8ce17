use Rattle.std.proofs.Common.{Err, ap, subst, ◌∙◌, arith}
use Rattle.std.proofs.lemmas.Result.{err_from_is_err_and}
use Rattle.fluid_lane.proofs.Composed.{enters_early, enters_on}
use Rattle.fluid_types.specs.Names.{entry_name}
use Rattle.fluid_types.specs.declared.entries.Raw.{Raw}
use Rattle.fluid_types.specs.declared.entries.Raw.TheVariants.{Join}
use Rattle.fluid_types.specs.declared.messages.Message.{Message}
use Rattle.fluid_rules.specs.Past.{is_sequenced}
use Rattle.fluid_lane.specs.Standing.{AreNamed}
use Rattle.fluid_lane.specs.Calls.{Enters}
use Rattle.fluid_lane.proofs.Named.{join_is_sequenced}
use Rattle.fluid_lane.proofs.lane.Lane.join.Goals as goal

pub sequenced-requires : goal.sequenced-requires
sequenced-requires g c =
    let there = c.self.view_is in
    ap is_sequenced c.in-Ok-add.ensures.said
    ∙ join_is_sequenced c.settle.new.self.entries c.in_ok-id.id c.args.scopes c.args.detail c.args.moment (omega (arith, c.self.invariant.few, ap (λ s. s.entries.entered) there))
    (subst (λ s. AreNamed s.entries.entered s.entries.state.sequencer.rows) there c.self.invariant.named)
    (c.in_ok-id.ensures ∙ ap entry_name (c.entered.ensures.is ∙ ap (λ s. s.entries.entered) there))

pub returns-in_err-id-clause-enters : goal.returns-in_err-id-clause-enters
returns-in_err-id-clause-enters g c =
    let e = err_from_is_err_and c.from_residual.result c.from_residual.ensures.1 in
    let s = c.in-Ok.ensures in
    rw (e.1, e.2) (enters_early _ c.args.self.now c.settle.new.self s.kept s.same.0 s.done s.reads)

pub returns-in-Err-add-clause-enters : goal.returns-in-Err-add-clause-enters
returns-in-Err-add-clause-enters g c =
    let s = c.in-Ok.ensures in
    let a = c.in-Err-add.ensures in
    subst (λ id. Enters {A = Raw × Message} (Join id c.args.scopes c.args.detail c.args.moment) c.args.self.now c.add.new.self (Err c.in-Err-add.fault))
    (c.in_ok-id.ensures ∙ ap entry_name (c.entered.ensures.is ∙ ap (λ s. s.entries.entered) c.self.view_is ∙ ap (λ e. e.entered) s.same.0))
    (enters_on _ c.args.self.now c.settle.new.self c.add.new.self (Err c.in-Err-add.fault) s.kept s.same s.reads s.goes.later a.entries a.owes a.cause a.reads a.kept a.outside)
