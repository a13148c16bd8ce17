use Rattle.fluid_world.proofs.Tooked.{most_within, takes_line, fails_line, goes_of, fails_by}
use Rattle.fluid_world.proofs.taking.ScriptTaker.take.Goals as goal

pub take_text-requires : goal.take_text-requires
take_text-requires g c = most_within c.args.self.now c.requires

pub returns-clause-failed : goal.returns-clause-failed
returns-clause-failed g c = fails_by c.take_text.new.self c.take_text.result c.take_text.ensures.halts

pub returns-clause-takes : goal.returns-clause-takes
returns-clause-takes g c = λ m before b.
    takes_line g.W.Origin.told m before c.args.text.now c.args.self.now c.take_text.new.self c.args.waiting.now.items c.take_text.new.waiting.items c.one_line_more.ensures.world c.one_line_more.ensures.transcript
    (goes_of c.args.self.now c.take_text.new.self (most_within c.args.self.now c.requires).going c.take_text.ensures.follows) b c.take_text.result c.take_text.ensures.takes

pub returns-clause-failed_at : goal.returns-clause-failed_at
returns-clause-failed_at g c = λ m before b.
    fails_line g.W.Origin.told m before c.args.text.now c.args.self.now c.take_text.new.self c.args.waiting.now.items c.take_text.new.waiting.items c.one_line_more.ensures.world c.one_line_more.ensures.transcript
    (goes_of c.args.self.now c.take_text.new.self (most_within c.args.self.now c.requires).going c.take_text.ensures.follows) b c.take_text.result c.take_text.ensures.takes
