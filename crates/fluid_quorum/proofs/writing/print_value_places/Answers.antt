use Rattle.std.proofs.Common.{rules, ◌≡◌, ◌∷◌, [], ◌∙◌}
use Rattle.fluid_json.specs.Tokens.{tokens_of}
use Rattle.fluid_types.specs.Blobs.{value_tree, list_tree}
use Rattle.fluid_quorum.specs.Places.{held}
use Rattle.fluid_quorum.proofs.Written.{put_on, put_all}
use Rattle.fluid_quorum.proofs.writing.print_value_places.Goals as goal

pub loop-key-preserved : goal.loop-key-preserved
loop-key-preserved c =
    let left : c.loop-key.key-iterator ≡ (c.in-Some.key.now, c.in-Some.place.now) ∷ c.next.new.self = search rules in
    record {
      can_next = tt;
      is_finite = tt;
      before = c.put_value_place.ensures.before ∙ c.loop-key.invariant.before;
      tokens =
          put_on value_tree c.in-Some.key.now c.as_str.result.now c.in-Some.place.now c.loop-key.key-iterator c.next.new.self c.loop-key.out.tokens c.put_value_place.new.out.tokens
          (tokens_of (list_tree value_tree (held c.args.places.now.entries))) left c.as_str.ensures.value c.in_ok-put_value_place.ensures.tokens c.loop-key.invariant.tokens;
    }

pub returns : goal.returns
returns c =
    let none : c.loop-key.key-iterator ≡ [] = search rules in
    c.into_text.ensures (list_tree value_tree (held c.args.places.now.entries))
    (c.in_ok-end_list.ensures.tokens ∙ put_all value_tree c.loop-key.key-iterator c.loop-key.out.tokens (tokens_of (list_tree value_tree (held c.args.places.now.entries))) none c.loop-key.invariant.tokens)
