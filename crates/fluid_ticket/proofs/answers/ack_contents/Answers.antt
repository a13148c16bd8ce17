use Rattle.fluid_json.specs.Tree.{null}
use Rattle.fluid_ticket.proofs.Members.{ack_keys}
use Rattle.fluid_ticket.proofs.answers.ack_contents.Goals as goal

pub put-requires-2 : goal.put-requires-2
put-requires-2 c = rw (c.in_ok-put.ensures, c.in_ok-pairs.ensures) (ack_keys null null)
