use Rattle.std.proofs.Common.{rules, ◌∙◌, ap, sym, subst, ◌++◌, ◌∷◌, [], Some, option_map, string_bytes}
use Rattle.std.proofs.lemmas.List.{nil_from_length}
use Rattle.serde_json.specs.View.{view, items_view, members_view}
use Rattle.fluid_json.specs.Spelled.{of_items, of_members}
use Rattle.fluid_json.proofs.Onto.{onto_trees, onto_members, item_converted, items_converted, member_converted, members_converted, Follows, follows_more, follows_ascending}
use Rattle.fluid_json.proofs.conversion.+convert.Goals as goal

pub convert_items-loop-item-preserved : goal.convert_items-loop-item-preserved
convert_items-loop-item-preserved t c = record {
  can_next = tt;
  is_finite = tt;
  len = search rules;
  done =
      c.loop-item.invariant.done
      ∙ ap (λ vs. option_map (onto_trees c.loop-item.converted) (of_items (items_view vs))) c.in-Some.ensures.steps.0
      ∙ item_converted c.loop-item.converted c.in_ok-item.item (view c.in-Some.item) (items_view c.next.new.self.rest.items) c.in_ok-item.ensures
      ∙ ap (λ ts. option_map (onto_trees ts) (of_items (items_view c.next.new.self.rest.items))) (sym c.in_ok-push.ensures.pushed);
}

pub convert_items-returns : goal.convert_items-returns
convert_items-returns t c =
    c.loop-item.invariant.done
    ∙ ap (λ vs. option_map (onto_trees c.loop-item.converted) (of_items (items_view vs))) (nil_from_length _ (sym c.loop-item.invariant.len ∙ c.in-None.ensures.steps.0))
    ∙ ap Some (items_converted c.loop-item.converted)

pub convert_members-push-requires : goal.convert_members-push-requires
convert_members-push-requires t c =
    rw c.new.ensures
    (follows_ascending c.loop-key.converted (c.in-Some.key, c.in-Some.member) c.next.new.self c.args.object.entries c.in_ok-value.value
    (subst (λ es. Follows c.loop-key.converted es c.args.object.entries) c.in-Some.ensures.steps c.loop-key.invariant.keys) c.len.ensures.ordered)

pub convert_members-loop-key-preserved : goal.convert_members-loop-key-preserved
convert_members-loop-key-preserved t c =
    let grown = c.in_ok-push.ensures.pushed ∙ ap (λ k. c.loop-key.converted ++ (k, c.in_ok-value.value) ∷ []) c.new.ensures in record {
      can_next = tt;
      is_finite = tt;
      done =
          c.loop-key.invariant.done
          ∙ ap (λ es. option_map (onto_members c.loop-key.converted) (of_members (members_view es))) c.in-Some.ensures.steps
          ∙ member_converted c.loop-key.converted (string_bytes c.in-Some.key) c.in_ok-value.value (view c.in-Some.member) (members_view c.next.new.self) c.in_ok-value.ensures
          ∙ ap (λ ms. option_map (onto_members ms) (of_members (members_view c.next.new.self))) (sym grown);
      keys =
          subst (λ ms. Follows ms c.next.new.self c.args.object.entries) (sym grown)
          (follows_more c.loop-key.converted (c.in-Some.key, c.in-Some.member) c.next.new.self c.args.object.entries c.in_ok-value.value
          (subst (λ es. Follows c.loop-key.converted es c.args.object.entries) c.in-Some.ensures.steps c.loop-key.invariant.keys));
    }

pub convert_members-returns : goal.convert_members-returns
convert_members-returns t c =
    c.loop-key.invariant.done
    ∙ ap (λ es. option_map (onto_members c.loop-key.converted) (of_members (members_view es))) c.in-None.ensures.steps.0
    ∙ ap Some (members_converted c.loop-key.converted)
