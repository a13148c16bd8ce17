use Rattle.fluid_json.specs.Tree.{text}
use Rattle.fluid_ticket.proofs.messages.leave_data.Goals as goal

pub returns : goal.returns
returns c = c.into_text.ensures (text c.args.id.now) (rw (c.in_ok-text.ensures.tokens, c.new-out.ensures.tokens, c.as_str.ensures.bytes))
