use Rattle.std.proofs.Common.{refl, sym, ap, subst, ◌∙◌, arith}
use Rattle.fluid_types.specs.Printed.{raw_printed}
use Rattle.fluid_lane.specs.Standing.{IsOwn, is_worn}
use Rattle.fluid_lane.proofs.Stands.{goes_from, goes_to, prefix_some, goes_some, goes_broken, enters, quietly, failed}
use Rattle.fluid_lane.proofs.Safe.{safe_beside, safe_entered, safe_torn, not_worn}
use Rattle.fluid_lane.proofs.lane.Lane.add.Goals as goal

pub invariant_of-self : goal.invariant_of-self
invariant_of-self g c =
    let e = c.in-Ok.ensures.enters in
    let level = ap (λ s. s.owed) c.self.view_is ∙ c.requires.level in
    let own = subst (λ s. IsOwn s.entries.entered c.args.raw.now) (sym c.self.view_is) c.requires.own in
    safe_entered _ _ c.args.raw.now (raw_printed c.args.raw.now) _ e.does.kept e.reached e.does.entries level (ap is_worn c.self.view_is ∙ c.requires.worn) own refl refl c.self.invariant

pub invariant_of-self-in-Err-LogFailed : goal.invariant_of-self-in-Err-LogFailed
invariant_of-self-in-Err-LogFailed g c =
    let e = (rw c.in-Err-LogFailed.field-0-is at c.in-Err-LogFailed.ensures).enters in
    safe_torn _ _ (raw_printed c.args.raw.now) _ e.does.1.left e.reached e.does.0 refl refl refl c.self.invariant

pub invariant_of-self-in-Err-DeltaFailed : goal.invariant_of-self-in-Err-DeltaFailed
invariant_of-self-in-Err-DeltaFailed g c =
    let e = (rw c.in-Err-DeltaFailed.field-0-is at c.in-Err-DeltaFailed.ensures).enters in
    safe_beside _ _ e.does.1.puts.kept.records e.reached e.does.0 refl c.self.invariant.few refl c.self.invariant

pub invariant_of-self-in-Err-NoMemory : goal.invariant_of-self-in-Err-NoMemory
invariant_of-self-in-Err-NoMemory g c =
    let e = (rw c.in-Err-NoMemory.field-0-is at c.in-Err-NoMemory.ensures).enters in
    safe_beside _ _ e.does.1.kept.records e.reached e.does.0 refl c.self.invariant.few refl c.self.invariant

pub returns-in-Ok-clause-goes : goal.returns-in-Ok-clause-goes
returns-in-Ok-clause-goes g c =
    let e = c.in-Ok.ensures.enters in
    let level = ap (λ s. s.owed) c.self.view_is ∙ c.requires.level in
    rw c.in-Ok.ensures.said
    (goes_from _ _ _ _ c.self.view_is
    (enters _ _ _ c.args.raw.now e.does.kept e.later e.does.entries level level (record { fits = c.requires.fits; text = e.does.text }) (omega (arith, not_worn _ _ (ap is_worn c.self.view_is ∙ c.requires.worn))) refl refl refl refl e.stands))

pub returns-in-Err-LogFailed-clause-goes : goal.returns-in-Err-LogFailed-clause-goes
returns-in-Err-LogFailed-clause-goes g c =
    let e = (rw c.in-Err-LogFailed.field-0-is at c.in-Err-LogFailed.ensures).enters in
    let level = ap (λ s. s.owed) c.self.view_is ∙ c.requires.level in
    goes_to _ _ _ _ c.failed.ensures
    (goes_from _ _ _ _ c.self.view_is
    (goes_broken _ _ _ _ c.args.raw.now (failed _ _ c.in-Err-LogFailed.note refl refl e.cause.last) (omega arith) c.requires.fits e.does.1 e.later e.does.0 level refl refl refl e.stands))

pub returns-in-Err-DeltaFailed-clause-goes : goal.returns-in-Err-DeltaFailed-clause-goes
returns-in-Err-DeltaFailed-clause-goes g c =
    let e = (rw c.in-Err-DeltaFailed.field-0-is at c.in-Err-DeltaFailed.ensures).enters in
    goes_to _ _ _ _ c.failed-in-Err-DeltaFailed.ensures
    (goes_from _ _ _ _ c.self.view_is
    (goes_some _ _ _ _ (failed _ _ c.in-Err-DeltaFailed.note refl refl e.cause.last) (prefix_some _ _ _ e.does.1) e.later e.does.0 refl refl refl e.stands))

pub returns-in-Err-NoMemory-clause-goes : goal.returns-in-Err-NoMemory-clause-goes
returns-in-Err-NoMemory-clause-goes g c =
    let e = (rw c.in-Err-NoMemory.field-0-is at c.in-Err-NoMemory.ensures).enters in
    goes_from _ _ _ _ c.self.view_is
    (goes_some _ _ _ _ (quietly _ _ refl refl) e.does.1 e.later e.does.0 refl refl refl e.stands)
