use Rattle.std.proofs.Common.{refl, ◌∙◌}
use Rattle.fluid_checkpoint.specs.Text.{change_tree}
use Rattle.fluid_checkpoint.proofs.texts.ChangePrints.text.Goals as goal

pub returns : goal.returns
returns c =
    c.into_text.ensures (change_tree c.args.item.now)
    (c.in_ok-end_list.ensures.tokens
    ∙ rw (c.in_ok-count-2.ensures.tokens, c.in_ok-count.ensures.tokens, c.in_ok-begin_list.ensures.tokens, c.new-out.ensures.tokens)
    refl)
