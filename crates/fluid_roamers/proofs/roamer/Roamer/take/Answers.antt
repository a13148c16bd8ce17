use Rattle.std.proofs.Common.{◌≡◌, ◌+◌, ap, ◌∙◌}
use Rattle.std.specs.Prelude.{nat_lt}
use Rattle.fluid_outbox.specs.Kept.{AnOutbox}
use Rattle.fluid_roamers.specs.Taking.{IsSendable}
use Rattle.fluid_roamers.proofs.Keeping.{kept_heard}
use Rattle.fluid_roamers.proofs.Roamed.{always, heard_by, takes_one}
use Rattle.fluid_roamers.proofs.roamer.Roamer.take.Goals as goal

pub returns-clause-does : goal.returns-clause-does
returns-clause-does c = λ past stands.
    takes_one past c.args.message.now c.rises-own.result c.apply.result c.args.self.now c.heard.new.self c.apply.new.self stands
    (heard_by c.args.self.now.outbox c.heard.new.self c.args.message.now past c.heard.ensures.stands stands)
    (c.rises-own.ensures ∙ ap (λ n. nat_lt n c.acknowledged-after.result) c.acknowledged-before.ensures.kept ∙ ap (nat_lt c.args.self.now.outbox.acknowledged) c.acknowledged-after.ensures.kept)
    c.apply.ensures.channels c.apply.ensures.pending

pub returns-clause-kept : goal.returns-clause-kept
returns-clause-kept c = always (IsSendable c.heard.new.self) c.apply.result (kept_heard c.args.self.now.outbox c.heard.new.self c.args.message.now c.requires.kept c.heard.ensures.kept)

pub returns-clause-number : goal.returns-clause-number
returns-clause-number c = always (c.heard.new.self.heard_to ≡ c.args.self.now.outbox.heard_to + 1) c.apply.result (ap (λ (o : AnOutbox). o.heard_to) c.heard.ensures.kept ∙ c.requires.next)
