use Rattle.fluid_json.specs.Tree.{null}
use Rattle.fluid_ticket.proofs.Members.{refusal_keys}
use Rattle.fluid_ticket.proofs.answers.refusal_contents.Goals as goal

pub put-requires-2 : goal.put-requires-2
put-requires-2 c = rw (c.in_ok-put.ensures, c.in_ok-pairs.ensures) (refusal_keys null null null).first

pub put-requires-3 : goal.put-requires-3
put-requires-3 c = rw (c.in_ok-put-2.ensures, c.in_ok-put.ensures, c.in_ok-pairs.ensures) (refusal_keys null null null).all
