use Rattle.std.proofs.Common.{rules, ◌≡◌, ◌∷◌, [], string_bytes, refl, ◌∙◌}
use Rattle.fluid_json.specs.Tokens.{tokens_of}
use Rattle.fluid_types.specs.Blobs.{member_tree, list_tree}
use Rattle.fluid_quorum.specs.Places.{held}
use Rattle.fluid_quorum.proofs.Written.{put_on, put_all}
use Rattle.fluid_quorum.proofs.writing.print_member_places.Goals as goal

pub loop-key-preserved : goal.loop-key-preserved
loop-key-preserved c =
    let left : c.loop-key._key-iterator ≡ (c.in-Some._key.now, c.in-Some.place.now) ∷ c.next.new.self = search rules in
    record {
      can_next = tt;
      is_finite = tt;
      before = c.put_member_place.ensures.before ∙ c.loop-key.invariant.before;
      tokens =
          put_on (λ e. member_tree e.1) c.in-Some._key.now (string_bytes c.in-Some._key.now) c.in-Some.place.now c.loop-key._key-iterator c.next.new.self c.loop-key.out.tokens c.put_member_place.new.out.tokens
          (tokens_of (list_tree (λ e. member_tree e.1) (held c.args.places.now.entries))) left refl c.in_ok-put_member_place.ensures.tokens c.loop-key.invariant.tokens;
    }

pub returns : goal.returns
returns c =
    let none : c.loop-key._key-iterator ≡ [] = search rules in
    c.into_text.ensures (list_tree (λ e. member_tree e.1) (held c.args.places.now.entries))
    (c.in_ok-end_list.ensures.tokens ∙ put_all (λ e. member_tree e.1) c.loop-key._key-iterator c.loop-key.out.tokens (tokens_of (list_tree (λ e. member_tree e.1) (held c.args.places.now.entries))) none c.loop-key.invariant.tokens)
