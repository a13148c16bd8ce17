use Rattle.std.proofs.Common.{◌++◌, append_assoc, append-nil, ap, sym, ◌∙◌}
use Rattle.std.specs.Prelude.{codes}
use Rattle.fluid_json.specs.Tree.{text}
use Rattle.fluid_codec.specs.Rows.{item_tokens}
use Rattle.fluid_codec.specs.Replies.{hex_tree, reply_items}
use Rattle.fluid_codec.proofs.replies.print_stored.Goals as goal

pub returns-clause-tokens : goal.returns-clause-tokens
unfolding reply_items
returns-clause-tokens c =
    let before = c.args.out.now.tokens in
    let name = item_tokens (text (codes "objectStored")) in
    let id = item_tokens (hex_tree c.args.id.now) in
    c.in_ok-print_item-2.ensures.tokens
    ∙ ap (λ ts. ts ++ id) c.in_ok-print_item.ensures.tokens
    ∙ append_assoc before name id
    ∙ ap (λ ts. before ++ (name ++ ts)) (sym (append-nil id))
