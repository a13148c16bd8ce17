use Rattle.std.proofs.Common.{◌≡◌, true, false, Err, refl, sym, ◌∙◌, subst}
use Rattle.fluid_voice.specs.declared.actions.Act.TheVariants as act
use Rattle.fluid_voice.specs.declared.ends.ActEnd.TheVariants.{FullNow}
use Rattle.fluid_connection.specs.Knowing.{knowing}
use Rattle.fluid_connection.specs.Entering.{DoesAs}
use Rattle.fluid_connection.specs.Running.{IsSubmission, NextDoes, lost}
use Rattle.fluid_connection.proofs.Texts.{submit_counts, unasked, next_told, next_fails}
use Rattle.fluid_connection.proofs.entering.enter_next.Goals as goal

never : {A : Type 0} → true ≡ false → A
never same = cc

pub returns-then-told-clause-does : goal.returns-then-told-clause-does
returns-then-told-clause-does g c =
    let p = knowing c.args.door.now.name c.args.pass in
    let is = subst IsSubmission c.entry_of-raw.ensures.is c.requires.act in
    subst (λ f. NextDoes c.args.voice.now c.args.told.now c.say-said.new.self p p c.args.act f) (sym c.lost.ensures)
    (subst (λ a. NextDoes c.args.voice.now c.args.told.now c.say-said.new.self p p a (lost c.say-said.result)) (sym c.entry_of-raw.ensures.is)
    (next_told c.args.voice.now c.args.told.now c.say-said.new.self p p c.entry_of-raw.result is FullNow (unasked p c.entry_of-raw.result (c.requires.full c.if-told.true) (submit_counts c.entry_of-raw.result is))
    (λ full. refl) c.say-said.ensures.counts c.say-said.ensures.full c.say-said.result c.say-said.ensures.said c.say-said.ensures.prefix))

pub returns-in-Ok-clause-does : goal.returns-in-Ok-clause-does
returns-in-Ok-clause-does g c =
    let p = knowing c.args.door.now.name c.args.pass in
    let q = knowing c.args.door.now.name c.enter-pass.result.0 in
    let is = subst IsSubmission c.entry_of-raw.ensures.is c.requires.act in
    let one = subst (λ r. DoesAs p q (act.Enter c.entry_of-raw.result) r) c.in-Ok.is c.enter-pass.ensures.does in
    subst (λ f. NextDoes c.args.voice.now c.args.told.now c.say-said-in-Ok.new.self p q c.args.act f) (sym c.lost-in-Ok.ensures)
    (subst (λ a. NextDoes c.args.voice.now c.args.told.now c.say-said-in-Ok.new.self p q a (lost c.say-said-in-Ok.result)) (sym c.entry_of-raw.ensures.is)
    (next_told c.args.voice.now c.args.told.now c.say-said-in-Ok.new.self p q c.entry_of-raw.result is c.in-Ok.end one
    (λ full. never (sym full ∙ c.if-told.false)) c.say-said-in-Ok.ensures.counts c.say-said-in-Ok.ensures.full c.say-said-in-Ok.result c.say-said-in-Ok.ensures.said c.say-said-in-Ok.ensures.prefix))

pub returns-in-Err-clause-does : goal.returns-in-Err-clause-does
returns-in-Err-clause-does g c =
    let p = knowing c.args.door.now.name c.args.pass in
    let q = knowing c.args.door.now.name c.enter-pass.result.0 in
    let is = subst IsSubmission c.entry_of-raw.ensures.is c.requires.act in
    let fails = subst (λ r. DoesAs p q (act.Enter c.entry_of-raw.result) r) c.in-Err.is c.enter-pass.ensures.does in
    subst (λ a. NextDoes c.args.voice.now c.args.told.now c.args.told.now p q a (Err c.in-Err.fault)) (sym c.entry_of-raw.ensures.is)
    (next_fails c.args.voice.now c.args.told.now c.args.told.now p q c.entry_of-raw.result is c.in-Err.fault fails refl refl)
