use Rattle.fluid_rules.specs.Rules.{join_data}
use Rattle.fluid_ticket.proofs.messages.join_data.Goals as goal

-- the tokens are those of the object with its two members
pub returns : goal.returns
returns c =
    c.into_text.ensures (join_data c.args.id.now c.args.detail.now)
    (rw (c.in_ok-end_object.ensures.tokens, c.in_ok-value.ensures.tokens, c.in_ok-key-2.ensures.tokens, c.in_ok-text.ensures.tokens, c.in_ok-key.ensures.tokens, c.in_ok-begin_object.ensures.tokens, c.new-out.ensures.tokens, c.name.ensures, c.name-2.ensures, c.as_str.ensures.bytes))
