use Rattle.std.proofs.Common.{arith, sym, ◌∙◌}
use Rattle.fluid_roamers.proofs.Keeping.{kept_sent}
use Rattle.fluid_roamers.proofs.Roamed.{gave_by, gives_if, gives_none, gives_some, is_next, always, short_op}
use Rattle.fluid_roamers.proofs.roamer.Roamer.next.Goals as goal

pub returns-in-None-clause-does : goal.returns-in-None-clause-does
returns-in-None-clause-does c = λ past stands.
    gives_none past c.args.moment c.heard_to-reference.result c.args.self.now c.next.new.self c.heard_to-reference.ensures.kept
    (sym c.in-None.is ∙ is_next c.args.self.now.outbox past c.heard_to-reference.result c.in_ok-given.given c.in_ok-given.ensures.answer stands) (c.in_ok-given.ensures.none c.in-None.is)

pub entry_of-requires-clause-short : goal.entry_of-requires-clause-short
entry_of-requires-clause-short c =
    short_op c.args.self.now.outbox c.requires.kept c.heard_to-reference.result c.in-Some.submission (omega (arith, c.if-reference-gt-LARGEST.false)) (sym c.in-Some.is ∙ c.in_ok-given.ensures.gives)

pub returns-in-Some-clause-does : goal.returns-in-Some-clause-does
returns-in-Some-clause-does c = λ past stands.
    gives_if past c.args.moment c.args.self.now _ c.args.self.now.client c.in-Some.submission c.entry_of.result c.entry_of.ensures.is
    (λ raw is. gives_some past c.args.moment c.heard_to-reference.result c.args.self.now c.next.new.self c.in-Some.submission raw c.heard_to-reference.ensures.kept
    (sym c.in-Some.is ∙ is_next c.args.self.now.outbox past c.heard_to-reference.result c.in_ok-given.given c.in_ok-given.ensures.answer stands)
    (gave_by c.args.self.now.outbox c.next.new.self past c.heard_to-reference.result c.in_ok-given.ensures.stands stands) is)

pub returns-in-None-clause-kept : goal.returns-in-None-clause-kept
returns-in-None-clause-kept c = kept_sent c.args.self.now.outbox c.next.new.self _ c.requires.kept c.in_ok-given.ensures.kept

pub returns-in-Some-clause-kept : goal.returns-in-Some-clause-kept
returns-in-Some-clause-kept c = always _ c.entry_of.result (kept_sent c.args.self.now.outbox c.next.new.self _ c.requires.kept c.in_ok-given.ensures.kept)
