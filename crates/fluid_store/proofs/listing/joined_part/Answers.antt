use Rattle.std.proofs.Common.{rules, ◌≡◌, ℕ, List, true, ◌++◌, ◌∷◌, [], fold, map, string_bytes, ap, ap₂, sym, ◌∙◌, append-nil}
use Rattle.std.proofs.lemmas.List.{nil_from_length}
use Rattle.std.specs.FinMap.Entries.{put}
use Rattle.fluid_tree.specs.Object.{sort_key, tree_bytes}
use Rattle.fluid_store.specs.Held.{byte_order}
use Rattle.fluid_store.specs.Listed.{in_key_order, joined, keyed_of}
use Rattle.fluid_store.specs.Parts.{entry_of, keyed_parts, bytes_of, tree_part, with_own}
use Rattle.fluid_store.specs.declared.listing.Part.{Part}
use Rattle.fluid_store.proofs.Lists.{entries_go, put_keyed, on_ok}
use Rattle.fluid_store.proofs.listing.joined_part.Goals as goal

pub loop-name-init : goal.loop-name-init
loop-name-init c =
    let all : c.into_iter-name-iterator.result.rest.items ≡ c.args.parts = search rules in
    let none : c.in_ok-entries.entries.items ≡ [] = c.in_ok-entries.ensures.items in
    let empty : c.new-below.result.entries ≡ [] = c.new-below.ensures.empty in
    record {
      len = search rules;
      entries = (λ i. none i ++ map entry_of (all i));
      below = (λ i. fold (λ sorted one. put byte_order one.0 one.1 sorted) (keyed_of (empty i)) (keyed_parts (all i)));
    }

pub loop-name-preserved : goal.loop-name-preserved
loop-name-preserved c =
    let part : List ℕ × Part = (c.in-Some.name, c.in-Some.part) in
    let left : c.loop-name.name-iterator.rest.items ≡ part ∷ c.next.new.self.rest.items = c.in-Some.ensures.steps.0 in
    let key : string_bytes c.in_ok-key.key ≡ sort_key part.1.place.tree part.0 = c.in_ok-key.ensures in
    let before = c.loop-name.below.entries in
    let kept : keyed_of c.insert.new.self.entries ≡ put byte_order (sort_key part.1.place.tree part.0) part.1.objects (keyed_of before) =
    ap keyed_of c.in_ok-insert.ensures.entries ∙ put_keyed before c.in_ok-key.key part.1.objects ∙ ap (λ k. put byte_order k part.1.objects (keyed_of before)) key in
    record {
      len = search rules;
      entries =
          ap (λ es. es ++ map entry_of c.next.new.self.rest.items) c.in_ok-push.ensures.items
          ∙ entries_go c.loop-name.entries.items part c.next.new.self.rest.items (map entry_of c.args.parts)
          (ap (λ l. c.loop-name.entries.items ++ map entry_of l) (sym left) ∙ c.loop-name.invariant.entries);
      below =
          ap (λ k. fold (λ sorted one. put byte_order one.0 one.1 sorted) k (keyed_parts c.next.new.self.rest.items)) kept
          ∙ ap (λ l. fold (λ sorted one. put byte_order one.0 one.1 sorted) (keyed_of before) (keyed_parts l)) (sym left) ∙ c.loop-name.invariant.below;
    }

pub returns : goal.returns
returns c =
    let none : c.loop-name.name-iterator.rest.items ≡ [] = nil_from_length _ (sym c.loop-name.invariant.len ∙ c.in-None.ensures.steps.0) in
    let entries : c.loop-name.entries.items ≡ map entry_of c.args.parts =
    sym (ap (λ l. c.loop-name.entries.items ++ map entry_of l) none ∙ append-nil c.loop-name.entries.items) ∙ c.loop-name.invariant.entries in
    let below : keyed_of c.loop-name.below.entries ≡ in_key_order (keyed_parts c.args.parts) =
    sym (ap (λ l. fold (λ sorted one. put byte_order one.0 one.1 sorted) (keyed_of c.loop-name.below.entries) (keyed_parts l)) none) ∙ c.loop-name.invariant.below in
    let objects : c.in_ok-objects.objects.items ≡ joined (in_key_order (keyed_parts c.args.parts)) = c.in_ok-objects.ensures ∙ ap joined below in
    let bytes : c.in_ok-bytes.bytes.items ≡ bytes_of c.args.parts = c.in_ok-bytes.ensures ∙ ap tree_bytes (c.as_slice.ensures.value ∙ entries) in
    on_ok (λ part. part ≡ with_own true c.in_ok-objects.objects.items c.in_ok-bytes.bytes.items) (λ part. part ≡ tree_part c.args.parts) c.with_own.result
    (λ part is. is ∙ ap₂ (with_own true) objects bytes) c.with_own.ensures
