use Rattle.std.proofs.Common.{rules, ◌≡◌, ◌∷◌, Some, cond, bytes_eq, string_bytes, ap, ◌∙◌}
use Rattle.std.specs.BTreeMap.{get_by_text}
use Rattle.fluid_quorum.proofs.Placed.{copied-on, sorted-on}
use Rattle.fluid_quorum.proofs.places.copy_places.Goals as goal

pub loop-key-preserved : goal.loop-key-preserved
loop-key-preserved g c =
    let left : c.loop-key.key-iterator ≡ (c.in-Some.key.now, c.in-Some.place.now) ∷ c.next.new.self = search rules in
    let key : string_bytes c.in_ok-key.key ≡ string_bytes c.in-Some.key.now = c.in_ok-key.ensures.ok ∙ c.as_str.ensures.value in
    record {
      can_next = tt;
      is_finite = tt;
      order = c.put.ensures.order;
      sorted = sorted-on c.in-Some.key.now c.in-Some.place.now c.next.new.self c.loop-key.key-iterator left c.loop-key.invariant.sorted;
      copied =
          copied-on c.in-Some.key.now (string_bytes c.in_ok-key.key) c.in-Some.place.now c.next.new.self c.loop-key.key-iterator c.loop-key.copies c.put.new.places c.args.places.now left key
          c.loop-key.invariant.sorted
          (λ q. c.in_ok-put.ensures.put q ∙ ap (λ o. cond (bytes_eq (string_bytes c.in_ok-key.key) q) (Some o) (get_by_text c.loop-key.copies q)) c.in_ok-place.ensures)
          c.loop-key.invariant.copied;
    }
