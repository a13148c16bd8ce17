use Rattle.fluid_callers.proofs.Apart.{said_one}
use Rattle.fluid_callers.proofs.nowhere.hear.Goals as goal

pub returns-in-Ok-clause-says : goal.returns-in-Ok-clause-says
returns-in-Ok-clause-says c = λ limits opened d h nowhere said.
    said_one limits opened c.args.name.now d h c.args.act c.args.voice.now c.reply.new.voice c.args.lines.now c.reply.new.lines c.reply.result nowhere said (rw c.in-Ok.ensures at c.reply.ensures)
