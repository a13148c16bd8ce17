use Rattle.std.proofs.Common.{refl, ◌∙◌}
use Rattle.fluid_checkpoint.specs.Text.{client_tree}
use Rattle.fluid_checkpoint.proofs.texts.ClientPrints.text.Goals as goal

pub returns : goal.returns
returns c =
    c.into_text.ensures (client_tree c.args.item.now)
    (c.in_ok-end_object.ensures.tokens
    ∙ rw (c.in_ok-put_scopes.ensures.tokens, c.in_ok-key-5.ensures.tokens, c.in_ok-count-2.ensures.tokens, c.in_ok-key-4.ensures.tokens, c.in_ok-boolean.ensures.tokens, c.in_ok-key-3.ensures.tokens, c.in_ok-count.ensures.tokens, c.in_ok-key-2.ensures.tokens, c.in_ok-text.ensures.tokens, c.in_ok-key.ensures.tokens, c.in_ok-begin_object.ensures.tokens, c.new-out.ensures.tokens)
    (rw c.as_str.ensures.bytes refl))
