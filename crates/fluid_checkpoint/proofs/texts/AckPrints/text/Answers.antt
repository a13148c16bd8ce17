use Rattle.std.proofs.Common.{refl, ◌∙◌}
use Rattle.fluid_checkpoint.specs.Text.{ack_tree}
use Rattle.fluid_checkpoint.proofs.texts.AckPrints.text.Goals as goal

pub returns : goal.returns
returns c =
    c.into_text.ensures (ack_tree c.args.item.now)
    (c.in_ok-end_object.ensures.tokens
    ∙ rw (c.in_ok-count.ensures.tokens, c.in_ok-key-2.ensures.tokens, c.in_ok-text.ensures.tokens, c.in_ok-key.ensures.tokens, c.in_ok-begin_object.ensures.tokens, c.new-out.ensures.tokens)
    (rw (c.as_str.ensures, c.in_ok-digits.ensures) refl))
