-- An object that is held already may be left out of those that are put.
use Rattle.std.proofs.Common.{◌≡◌, Bool, true, false, cond, List, [], ◌∷◌, ◌++◌, ℕ, Option, Some, None, bytes_eq, refl, ap, ◌∙◌}
use Rattle.std.specs.FinMap.{get, insert}
use Rattle.std.proofs.lemmas.Slice.Eq.{bytes_eq-Decides}
use Rattle.fluid_store.specs.Held.{Held}
use Rattle.fluid_store.specs.Laws.{IsLeftOut, HeldOnesAreLeftOut}
use Rattle.fluid_store.specs.Putting.{Putting, behind, put_first, putting}
use Rattle.fluid_store.specs.declared.listing.StoredObject.{StoredObject}
use Rattle.fluid_store.proofs.Added.{put_keeps, put_again}

module _ (o : StoredObject) (after : List StoredObject) where
  at_prefix : (held : Held) → get held o.id ≡ Some o.bytes → IsLeftOut (putting held (o ∷ after)) (putting held after)
  at_prefix held has =
      let again : insert held o.id o.bytes ≡ held = put_again held o.id o.bytes has in
      let same : putting held (o ∷ after) ≡ behind o (putting held after) =
      ap (λ found. put_first held o found (putting (insert held o.id o.bytes) after)) has
      ∙ ap (λ b. cond b (behind o (putting (insert held o.id o.bytes) after)) (record { held = held; put = []; clash = Some (record { id = o.id; kept = o.bytes; bytes = o.bytes }) })) ((bytes_eq-Decides o.bytes o.bytes).1 refl)
      ∙ ap (λ h. behind o (putting h after)) again in
      record { held = ap (λ p. p.held) same; clash = ap (λ p. p.clash) same }

  module _ (b : StoredObject) (before : List StoredObject) (step : (held : Held) → get held o.id ≡ Some o.bytes → IsLeftOut (putting held (before ++ o ∷ after)) (putting held (before ++ after))) where
    abbrev with_it : Held → Putting
    with_it held = putting (insert held b.id b.bytes) (before ++ o ∷ after)

    abbrev without : Held → Putting
    without held = putting (insert held b.id b.bytes) (before ++ after)

    by_same : (held : Held) (kept : List ℕ) (c : Bool) → bytes_eq kept b.bytes ≡ c → get held b.id ≡ Some kept → get held o.id ≡ Some o.bytes
        → IsLeftOut (cond c (behind b (with_it held)) (record { held = held; put = []; clash = Some (record { id = b.id; kept = kept; bytes = b.bytes }) }))
        (cond c (behind b (without held)) (record { held = held; put = []; clash = Some (record { id = b.id; kept = kept; bytes = b.bytes }) }))
    by_same held kept true own is has =
        let again : insert held b.id b.bytes ≡ held = put_again held b.id b.bytes (is ∙ ap Some ((bytes_eq-Decides kept b.bytes).0 own)) in
        let next = step (insert held b.id b.bytes) (ap (λ h. get h o.id) again ∙ has) in
        record { held = next.held; clash = next.clash }
    by_same held kept false other is has = record { held = refl; clash = refl }

    by_found : (held : Held) (found : Option (List ℕ)) → get held b.id ≡ found → get held o.id ≡ Some o.bytes → IsLeftOut (put_first held b found (with_it held)) (put_first held b found (without held))
    by_found held None none has = let next = step (insert held b.id b.bytes) (put_keeps held b.id b.bytes none o.id o.bytes has) in record { held = next.held; clash = next.clash }
    by_found held (Some kept) is has = by_same held kept (bytes_eq kept b.bytes) refl is has

pub left_out : HeldOnesAreLeftOut
left_out held [] after o has = at_prefix o after held has
left_out held (b ∷ before) after o has = by_found o after b before (λ h here. left_out h before after o here) held (get held b.id) refl has
