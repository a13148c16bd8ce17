use Rattle.fluid_desk.proofs.Scribed.{nacked, acked}
use Rattle.fluid_desk.proofs.scribing.message_line.Goals as goal

pub returns-in-SummaryNack : goal.returns-in-SummaryNack
returns-in-SummaryNack c = nacked c.args.name.now c.args.summary c.args.kind c.args.contents.now c.message_in.result.now c.nack_line.result c.in-SummaryNack.is c.message_in.ensures c.nack_line.ensures

pub returns-in_default : goal.returns-in_default
returns-in_default c = acked c.args.name.now c.args.summary c.args.kind c.args.contents.now c.ack_line.result c.in_default.not-SummaryNack c.ack_line.ensures
