use Rattle.std.proofs.Common.{◌+◌, Some, ap, refl, sym, subst, arith, ◌∙◌, ◌≡◌}
use Rattle.std.specs.FinMap.{keys}
use Rattle.fluid_log.specs.Keeping.{IsSized}
use Rattle.fluid_document.specs.Entries.{entries_of}
use Rattle.fluid_document.specs.Loading.{ReadsBehind, PutsDeltas}
use Rattle.fluid_io.specs.Causes.{Tells}
use Rattle.fluid_lane.specs.Steps.{ledger}
use Rattle.fluid_lane.proofs.Stands.{told_too, goes_on, goes_restarted, nothing_less}
use Rattle.fluid_lane.proofs.Safe.{safe_restarted, not_worn}
use Rattle.fluid_lane.proofs.Composed.{restarts_on}
use Rattle.fluid_lane.proofs.Restarting.{restart_same, restart_never}
use Rattle.fluid_lane.proofs.lane.Lane.restart.Goals as goal

pub invariant_of-self : goal.invariant_of-self
invariant_of-self g c =
    let s = c.in-Ok.ensures in
    let r = c.in-Ok-reload.ensures in
    safe_restarted _ _ refl (r.whole.0 ∙ sym (ap (λ e. e.entered) r.same.0) ∙ sym (ap (λ u. u.entries.entered) c.self-2.view_is))
    (omega (arith, r.whole.1, ap (λ u. u.keeping.deltas) c.self-2.view_is))
    (ap (λ u. keys u.entries.state.sequencer.rows) c.self-2.view_is ∙ ap (λ e. keys e.state.sequencer.rows) r.same.0 ∙ sym r.clients) refl
    (omega (arith, not_worn c.args.self.now.entries.entered c.args.self.now.sides (sym c.is_worn.ensures ∙ c.if-is_worn.false), ap (λ u. u.entries.entered) c.self-2.view_is, ap (λ u. u.sides) c.self-2.view_is, ap (λ e. e.entered) r.same.0, ap (λ e. e.entered) s.same.0, r.sides, s.sides))
    refl c.self-2.invariant

pub returns-in-Ok-reload-clause-goes : goal.returns-in-Ok-reload-clause-goes
returns-in-Ok-reload-clause-goes g c =
    let s = c.in-Ok.ensures in
    let r = c.in-Ok-reload.ensures in
    let sized : IsSized c.settle.new.self.keeping = subst (λ u. IsSized u.keeping) c.self.view_is (g.K.Keeper.sized c.self.inside.keeper) in
    let d = c.in-Ok-reload.document in
    goes_on c.args.self.now c.settle.new.self _ _ s.goes
    (goes_restarted c.settle.new.self c.reload.new.self _ c.args.number r.goes (ap (λ u. u.keeping) c.self-2.view_is) (r.whole.0 ∙ sym (ap (λ e. e.entered) r.same.0)) (ap (λ u. u.owed) c.self-2.view_is) (ap (λ u. u.sides + 1) c.self-2.view_is) refl
    (ap (λ u. u.opened) c.self-2.view_is) (ap (λ u. u.limits) c.self-2.view_is)
    (λ l h. told_too c.settle.new.self.keeping.content c.reload.new.self.keeping.content (d.entries ≡ entries_of (ledger l)) r.goes.told
    (restart_same c.kept_is_loaded.ensures.checkpoints c.settle.new.self l c.args.number d.entries sized s.done (omega (arith, c.if-number-stored.false, c.checkpoints-stored.ensures, ap (λ u. u.keeping.checkpoints) c.self.view_is)) h r.loaded))
    (λ l h. r.stands l h))

pub returns-in-Ok-reload-clause-restarts : goal.returns-in-Ok-reload-clause-restarts
returns-in-Ok-reload-clause-restarts g c =
    let s = c.in-Ok.ensures in
    let r = c.in-Ok-reload.ensures in
    let mid = c.settle.new.self in
    restarts_on c.args.number c.args.self.now c.settle.new.self _ s.kept (subst (λ u. PutsDeltas c.settle.new.self.keeping u.keeping) (sym c.self-2.view_is) r.kept) s.same.0 s.reads
    (sym (ap (λ u. u.keeping.records) c.self.view_is) ∙ c.self.invariant.level (ap (λ u. u.owed) c.self.view_is ∙ s.done) ∙ ap (λ u. u.entries.entered) c.self.view_is ∙ ap (λ e. e.entered) s.same.0)
    (r.whole.0 ∙ ap (λ e. e.entered) s.same.0, r.clients ∙ ap (λ e. keys e.state.sequencer.rows) s.same.0) (ap (λ u. u.owed) c.self-2.view_is ∙ r.level) r.loaded
    (subst (λ u. Tells c.settle.new.self.keeping.content (ReadsBehind (Some c.args.number) c.settle.new.self.keeping.records c.settle.new.self.keeping.reads u.keeping.reads)) (sym c.self-2.view_is) r.reads)
    (omega (arith, r.early, ap (λ u. u.keeping.deltas) c.self-2.view_is)) (omega (arith, r.lacked, ap (λ u. u.keeping.deltas) c.self-2.view_is))

pub returns-in-Err-reload-clause-never : goal.returns-in-Err-reload-clause-never
returns-in-Err-reload-clause-never g c = λ l h.
    let s = c.in-Ok.ensures in
    let r = c.in-Err-reload.ensures in
    let sized : IsSized c.settle.new.self.keeping = subst (λ u. IsSized u.keeping) c.self.view_is (g.K.Keeper.sized c.self.inside.keeper) in
    told_too c.settle.new.self.keeping.content c.args.self.now.keeping.content _ (sym s.goes.told)
    (restart_never c.kept_is_loaded.ensures.checkpoints c.settle.new.self l c.args.number c.in-Err-reload.fault sized s.done (omega (arith, c.if-number-stored.false, c.checkpoints-stored.ensures, ap (λ u. u.keeping.checkpoints) c.self.view_is))
    (nothing_less c.settle.new.self l (s.goes.list l h)) r.loaded)
